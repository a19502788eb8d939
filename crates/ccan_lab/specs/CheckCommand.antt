-- What a check of a script comes to, and its exit statuses. Source: this project's own.
use Rattle.std.specs.Prelude.{ℕ, ◌==◌, Bool, if◌then◌else◌}
use Rattle.ccan_lab.specs.declared.check_end.CheckEnd.{CheckEnd}
use Rattle.ccan_lab.specs.declared.check_end.CheckEnd.TheVariants.{Clean, Warned, Differs, Faulty}

-- by how many faults and how many warnings there are
abbrev pub end_by_counts : ℕ → ℕ → CheckEnd
end_by_counts faults warnings =
    if faults == 0 then (if warnings == 0 then Clean else Warned) else Faulty

-- 1 for faults; 8 for a run that is not as expected; 7 for warnings alone, if they are asked for
abbrev pub check_status : Bool → CheckEnd → ℕ
check_status strict Clean = 0
check_status strict Warned = if strict then 7 else 0
check_status strict Differs = 8
check_status strict Faulty = 1
