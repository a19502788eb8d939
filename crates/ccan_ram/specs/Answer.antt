-- What an answer to a change says by itself, whatever was seen. Source: this project's own.
use Rattle.std.specs.Prelude.{ℕ, ◌≡◌, ◌≤◌, ◌*◌, true, false, Result, Ok, Err}
use Rattle.ccan_ram.specs.declared.change.Change.{Change}
use Rattle.ccan_ram.specs.declared.change.Changed.{Changed}
use Rattle.ccan_ram.specs.declared.change.Changed.TheVariants.{Done, NotNow}
use Rattle.ccan_ram.specs.declared.change.Refused.{Refused}
use Rattle.ccan_ram.specs.declared.change.Refused.TheVariants.{Busy, Spent}
use Rattle.ccan_ram.specs.Change.{fits, changed}

-- Done only if the record found fits, and with what the change makes of it; NotNow only if the record shown does
-- not fit; Busy after as many tries as were allowed
abbrev pub Tells : Change → ℕ → Result Changed Refused → Type 0
Tells change tries (Ok (Done before after number)) = (fits change before ≡ true) × (after ≡ changed change before)
Tells change tries (Ok (NotNow shown)) = fits change shown ≡ false
Tells change tries (Err (Busy told now)) = told ≡ tries
Tells change tries (Err Spent) = Unit {0}

-- Busy only with no more tries than twice the quota: each lost try has its own change of another port
abbrev pub FewTries : ℕ → ℕ → Result Changed Refused → Type 0
FewTries quota tries (Ok changed) = Unit {0}
FewTries quota tries (Err (Busy told now)) = tries ≤ 2 * quota
FewTries quota tries (Err Spent) = Unit {0}
