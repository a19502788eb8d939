use Rattle.std.proofs.Common.{◌≡◌, take}
use Rattle.std.specs.Prelude.{All}
use Rattle.ccan_object.specs.Record.{zero_record}
use Rattle.ccan_registers.proofs.saved.objects.are_zero.Given as goal

-- the records so far are zero
abbrev pub invariant-loop-record : goal.invariant-loop-record
invariant-loop-record l = All (λ r. r ≡ zero_record) (take l.record-index l.records)
