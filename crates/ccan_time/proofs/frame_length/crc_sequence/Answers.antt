use Rattle.std.proofs.Common.{refl, ap, ◌∙◌}
use Rattle.ccan_time.specs.declared.transmitter.Transmitter.{Transmitter}
use Rattle.ccan_time.specs.Bits.{lowest_bits}
use Rattle.ccan_time.specs.FrameBits.{checked_bits}
use Rattle.ccan_time.specs.Transmitter.{silent_transmitter}
use Rattle.ccan_time.proofs.Registers.{register_holds}
use Rattle.ccan_time.proofs.frame_length.crc_sequence.Goals as goal

pub returns-clause-bits : goal.returns-clause-bits
returns-clause-bits c =
    ap (λ (t : Transmitter). lowest_bits 15 t.register) c.of_checked.ensures.value
    ∙ register_holds (checked_bits c.args.frame.now) silent_transmitter refl
