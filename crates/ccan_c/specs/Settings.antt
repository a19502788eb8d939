-- What a chip is opened with. Source: this project's own.
use Rattle.std.specs.Prelude.{ℕ, ◌&&◌, ◌==◌, Bool, nat_le, Option, Some, None, if◌then◌else◌}
use Rattle.std.specs.Option.{option_map_or}
use Rattle.ccan_object.specs.declared.profile.Profile.{Profile}
use Rattle.ccan_object.specs.declared.profile.Profile.TheVariants.{One, Two}
use Rattle.ccan_ram.specs.Tries.{most_tries}
use Rattle.ccan_line.specs.Limits.{most_nodes}
use Rattle.ccan_chip.specs.declared.map.Map.{Map}
use Rattle.ccan_chip.specs.declared.map.Map.TheVariants.{Narrow, Wide, Dcan}
use Rattle.ccan_c.specs.Codes.{profile_range, nodes_range, tries_range, map_range}

-- the profile of this number
abbrev pub profile_numbered : ℕ → Option Profile
profile_numbered number = if number == 1 then Some One else (if number == 2 then Some Two else None)

abbrev pub is_from_one_to : ℕ → ℕ → Bool
is_from_one_to most number = nat_le 1 number && nat_le number most

-- the first of the settings that is out of its range, if any is
abbrev pub range_fault : ℕ → ℕ → Option ℕ
range_fault nodes tries =
    if nat_le nodes most_nodes then (if is_from_one_to most_tries tries then None else Some tries_range)
    else Some nodes_range

abbrev pub settings_fault : ℕ → ℕ → ℕ → Option ℕ
settings_fault profile nodes tries =
    option_map_or (λ known. range_fault nodes tries) (profile_numbered profile) (Some profile_range)

-- the layout of the registers of this number
abbrev pub map_numbered : ℕ → Option Map
map_numbered number =
    if number == 0 then Some Narrow else (if number == 1 then Some Wide else (if number == 2 then Some Dcan else None))

-- the first setting that is out of its range, of a chip that opens as after a reset
abbrev pub reset_fault : ℕ → ℕ → ℕ → ℕ → Option ℕ
reset_fault profile nodes tries number =
    option_map_or (λ fault. Some fault) (settings_fault profile nodes tries)
    (option_map_or (λ known. None) (map_numbered number) (Some map_range))
