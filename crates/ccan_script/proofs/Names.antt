-- The names of a map's members are those of the data that it shows.
use Rattle.std.proofs.Common.{◌≡◌, ℕ, List, [], ◌∷◌, Bool, string_bytes, map, refl, ap, ap₂, ◌&&◌, ◌||◌}
use Rattle.std.specs.List.{list_all, list_any}
use Rattle.std.specs.Map.{keys_of}
use Rattle.std.specs.Str.{bytes_eq}
use Rattle.serde_json.proofs.Views.{Entry}
use Rattle.serde_json.specs.View.{members_view}
use Rattle.ccan_script.specs.Json.{names_in, is_among}

-- what is known has these texts
module _ {K : Type 0} (text : K → List ℕ) (known : List K) where
  among_texts : (name : List ℕ) → list_any (λ k. bytes_eq (text k) name) known ≡ is_among (map text known) name
  among_texts name = go known
    where
      go : (ks : List K) → list_any (λ k. bytes_eq (text k) name) ks ≡ is_among (map text ks) name
      go [] = refl
      go (k ∷ ks) = ap (λ (b : Bool). bytes_eq (text k) name || b) (go ks)

  pub names_known : (es : List Entry)
      → list_all (λ name. list_any (λ k. bytes_eq (text k) (string_bytes name)) known) (keys_of es)
      ≡ list_all (is_among (map text known)) (names_in (members_view es))
  names_known [] = refl
  names_known (e ∷ es) = ap₂ ◌&&◌ (among_texts (string_bytes e.0)) (names_known es)
