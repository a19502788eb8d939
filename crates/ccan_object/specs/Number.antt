-- Which message object a request names. Source: C_CAN User's Manual 1.2, section 3.3.1 (IFx Command Request Registers);
-- that the ten upper bits of the request are ignored, and the second profile, are this project's own.
use Rattle.std.specs.Prelude.{ℕ, ◌%◌, ◌==◌, if◌then◌else◌}
use Rattle.ccan_object.specs.declared.profile.Profile.{Profile}
use Rattle.ccan_object.specs.Bits.{part}
use Rattle.ccan_object.specs.Profile.{objects_in}

-- the low six bits count, and beyond the last object the numbers begin again; a number 0 names the last object
abbrev pub requested : Profile → ℕ → ℕ
requested profile word =
    let number = part word 0 6 % objects_in profile in
    if number == 0 then objects_in profile else number
