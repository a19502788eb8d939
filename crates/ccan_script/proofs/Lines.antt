-- Lines that say what values say.
use Rattle.std.proofs.Common.{◌≡◌, suc, List, [], ◌∷◌, ◌++◌, length, refl, ap, ap₂}
use Rattle.serde_json.specs.Data.{Data}
use Rattle.ccan_script.specs.Lines.{AreLines}

module _ {L : Type 0} (Says : Data → L → Type 0) where
  -- one line more
  pub lines_more : (values : List Data) (lines : List L) (value : Data) (line : L) → AreLines Says values lines → Says value line
      → AreLines Says (values ++ value ∷ []) (lines ++ line ∷ [])
  lines_more [] [] value line so_far here = (here, tt)
  lines_more [] (l ∷ ls) value line so_far here = absurd so_far
  lines_more (v ∷ vs) [] value line so_far here = absurd so_far
  lines_more (v ∷ vs) (l ∷ ls) value line so_far here = (so_far.0, lines_more vs ls value line so_far.1 here)

  pub lines_length : (values : List Data) (lines : List L) → AreLines Says values lines → length lines ≡ length values
  lines_length [] [] h = refl
  lines_length [] (l ∷ ls) h = absurd h
  lines_length (v ∷ vs) [] h = absurd h
  lines_length (v ∷ vs) (l ∷ ls) h = ap suc (lines_length vs ls h.1)

  -- where a value says one line, a list of values says one list of lines
  pub lines_once : ((value : Data) (l m : L) → Says value l → Says value m → l ≡ m) → (values : List Data) (ls ms : List L)
      → AreLines Says values ls → AreLines Says values ms → ls ≡ ms
  lines_once once [] [] [] h k = refl
  lines_once once [] [] (m ∷ ms) h k = absurd k
  lines_once once [] (l ∷ ls) ms h k = absurd h
  lines_once once (v ∷ vs) [] ms h k = absurd h
  lines_once once (v ∷ vs) (l ∷ ls) [] h k = absurd k
  lines_once once (v ∷ vs) (l ∷ ls) (m ∷ ms) h k = ap₂ ◌∷◌ (once v l m h.0 k.0) (lines_once once vs ls ms h.1 k.1)
