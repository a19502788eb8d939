-- The frames of a round are few.
use Rattle.std.proofs.Common.{◌≡◌, ◌≤◌, ◌∙◌, true, List, [], ◌∷◌, Some, length, map, nat_le, suc, ap, refl, sym, subst}
use Rattle.std.proofs.lemmas.Bool.{and_parts, leb-true}
use Rattle.serde_json.specs.Data.{Data}
use Rattle.serde_json.specs.Find.{as_array}
use Rattle.serde_json.specs.View.{items_view, view}
use Rattle.serde_json.specs.declared.value.Value.{Value}
use Rattle.ccan_line.specs.Limits.{most_frames}
use Rattle.ccan_script.specs.Json.{list_of}
use Rattle.ccan_script.specs.Members.{are_few}
use Rattle.ccan_script.specs.Round.{can_send, frames_in, is_round}
use Rattle.ccan_script.proofs.ListFaults.{length-map_view}

module _ (d : Data) where
  can_it : is_round d ≡ true → can_send d ≡ true
  unfolding is_round
  can_it shape = (and_parts _ _ (and_parts _ _ shape).1).1

  few_frames : can_send d ≡ true → length (frames_in d) ≤ most_frames
  unfolding can_send
  few_frames can = leb-true _ _ (and_parts _ _ can).1

  pub few : (vs : List Value) → map view vs ≡ frames_in d → is_round d ≡ true → length vs ≤ most_frames
  few vs are shape = subst (λ n. n ≤ most_frames) (ap length (sym are) ∙ length-map_view vs) (few_frames (can_it shape))

-- as a value has them
length-list_of : (vs : List Value) → length (list_of (items_view vs)) ≡ length vs
length-list_of [] = refl
length-list_of (v ∷ vs) = ap suc (length-list_of vs)

pub few_values : (v : Data) (vs : List Value) → as_array v ≡ Some (items_view vs) → nat_le (length vs) most_frames ≡ are_few v
few_values v vs is = rw is (ap (λ n. nat_le n most_frames) (sym (length-list_of vs)))
