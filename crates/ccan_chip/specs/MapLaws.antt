-- A law of the layouts. Source: this project's own.
use Rattle.std.specs.Prelude.{◌≡◌}
use Rattle.ccan_object.specs.declared.profile.Profile.{Profile}
use Rattle.ccan_chip.specs.declared.map.Map.{Map}
use Rattle.ccan_chip.specs.declared.register.Register.{Register}
use Rattle.ccan_chip.specs.Register.{IsIn}
use Rattle.ccan_chip.specs.Map.{offset_of}

-- two registers of a chip never share an offset
abbrev pub RegistersLieApart : Type 0
RegistersLieApart =
    (map : Map) (profile : Profile) (a b : Register) → IsIn map profile a → IsIn map profile b
    → offset_of map a ≡ offset_of map b → a ≡ b
