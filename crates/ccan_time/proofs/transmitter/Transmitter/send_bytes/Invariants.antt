use Rattle.std.proofs.Common.{take}
use Rattle.std.specs.List.{flat_map}
use Rattle.ccan_time.specs.Bits.{lowest_bits}
use Rattle.ccan_time.proofs.Sending.{HasSent}
use Rattle.ccan_time.proofs.transmitter.Transmitter.send_bytes.Given as goal

abbrev pub invariant-loop-byte : goal.invariant-loop-byte
invariant-loop-byte l =
    HasSent l.initial.self l.self (flat_map (lowest_bits 8) (take l.byte-index l.bytes)) l.byte-index
