-- The lines of a list. Source: this project's own.
use Rattle.std.specs.Prelude.{List, [], ◌∷◌}
use Rattle.serde_json.specs.Data.{Data}

-- there is a line for each value, in order, which says what the value says
abbrev pub AreLines : {L : Type 0} → (Data → L → Type 0) → List Data → List L → Type 0
AreLines Says [] [] = Unit {0}
AreLines Says [] (line ∷ lines) = ⊥
AreLines Says (value ∷ values) [] = ⊥
AreLines Says (value ∷ values) (line ∷ lines) = Says value line × AreLines Says values lines
