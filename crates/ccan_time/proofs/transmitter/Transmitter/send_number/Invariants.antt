use Rattle.ccan_time.specs.Bits.{lowest_bits}
use Rattle.ccan_time.proofs.Sending.{IsSending}
use Rattle.ccan_time.proofs.transmitter.Transmitter.send_number.Given as goal

abbrev pub invariant-loop-place : goal.invariant-loop-place
invariant-loop-place l =
    IsSending l.initial.self l.self (lowest_bits l.width l.number) (lowest_bits l.place l.number) l.width l.place
