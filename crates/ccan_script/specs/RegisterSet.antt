-- The registers that a JSON object sets. Source: this project's own; the registers are those of the C_CAN User's Manual
-- 1.2, section 3.3.
use Rattle.std.specs.Prelude.{ℕ, codes, option_map, List, [], ◌∷◌, Option, Some, option_and_then}
use Rattle.std.specs.List.{find}
use Rattle.std.specs.Str.{bytes_eq}
use Rattle.serde_json.specs.Data.{Data, Members, no_members, member}
use Rattle.serde_json.specs.Find.{as_object}
use Rattle.ccan_object.specs.declared.register.Reg.{Reg}
use Rattle.ccan_object.specs.declared.register.Reg.TheVariants.{CMask, Mask1, Mask2, Arb1, Arb2, Ctrl}
use Rattle.ccan_object.specs.declared.register.Reg.TheVariants.{DataA1, DataA2, DataB1, DataB2}
use Rattle.ccan_script.specs.Json.{word_in}

abbrev pub register_name : Reg → List ℕ
register_name CMask = codes "cmask"
register_name Mask1 = codes "mask1"
register_name Mask2 = codes "mask2"
register_name Arb1 = codes "arb1"
register_name Arb2 = codes "arb2"
register_name Ctrl = codes "ctrl"
register_name DataA1 = codes "dataa1"
register_name DataA2 = codes "dataa2"
register_name DataB1 = codes "datab1"
register_name DataB2 = codes "datab2"

abbrev pub registers : List Reg
registers = CMask ∷ Mask1 ∷ Mask2 ∷ Arb1 ∷ Arb2 ∷ Ctrl ∷ DataA1 ∷ DataA2 ∷ DataB1 ∷ DataB2 ∷ []

-- the register of this name
unfoldable pub register_named : List ℕ → Option Reg
register_named word = find (λ register. bytes_eq word (register_name register)) registers

-- what a member sets: the register of its name, to the number of a text of four digits
unfoldable pub setting : List ℕ → Data → Option (Reg × ℕ)
setting name d = option_and_then (λ register. option_map (λ word. (register, word)) (word_in d)) (register_named name)

-- what the members set, each a register, in their order
abbrev pub settings : Members → Option (List (Reg × ℕ))
settings no_members = Some []
settings (member name d ms) = option_and_then (λ first. option_map (λ rest. first ∷ rest) (settings ms)) (setting name d)

-- what an object of register names with texts of four digits sets
unfoldable pub settings_in : Data → Option (List (Reg × ℕ))
settings_in d = option_and_then settings (as_object d)
