-- The places of an outcome's lines, by name. Source: this project's own.
use Rattle.std.specs.Prelude.{ℕ, ◌+◌, ◌-◌, ◌++◌, nat_lt, List, Some, codes, if◌then◌else◌}
use Rattle.ccan_ram.specs.declared.port.PortName.TheVariants.{If1, If2, Bus}
use Rattle.ccan_ram.specs.Port.{port_text}
use Rattle.ccan_lab.specs.History.{line_name, object_text}

-- `final 01`: an object
abbrev pub final_name : ℕ → List ℕ
final_name object = codes "final" ++ object_text (Some object)

-- the name of a place after the answers of the hosts
abbrev pub late_name : ℕ → ℕ → List ℕ
late_name bus place = if nat_lt place bus then line_name Bus (place + 1) else final_name (place - bus + 1)

-- the name of a place, if the ports have so many lines: those of IF1 come first, then those of IF2 and of the bus, then the
-- objects
abbrev pub place_name : ℕ → ℕ → ℕ → ℕ → List ℕ
place_name if1 if2 bus place =
    if nat_lt place if1 then line_name If1 (place + 1)
    else (if nat_lt (place - if1) if2 then line_name If2 (place - if1 + 1) else late_name bus (place - if1 - if2))

-- whose place it is: a port's, or `final`, if it is an object's
abbrev pub late_kind : ℕ → ℕ → List ℕ
late_kind bus place = if nat_lt place bus then port_text Bus else codes "final"

abbrev pub place_kind : ℕ → ℕ → ℕ → ℕ → List ℕ
place_kind if1 if2 bus place =
    if nat_lt place if1 then port_text If1
    else (if nat_lt (place - if1) if2 then port_text If2 else late_kind bus (place - if1 - if2))
