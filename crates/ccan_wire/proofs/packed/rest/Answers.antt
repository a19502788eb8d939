use Rattle.std.proofs.Common.{◌≡◌, ◌+◌, ◌*◌, ◌^◌, ap, ◌∙◌}
use Rattle.std.specs.Int.{from_be_bytes, w64}
use Rattle.ccan_wire.specs.Arbitration.{rest_of}
use Rattle.ccan_wire.proofs.packed.rest.Goals as goal

pub returns : goal.returns
unfolding rest_of
returns c =
    let code : c.from.result ≡ c.args.frame.now.dlc = cc in
    let data_bytes : c.from-2.result ≡ from_be_bytes w64 c.args.frame.now.bytes = cc in
    ap (λ x. x * 2 ^ 64 + c.from-2.result) code ∙ ap (λ y. c.args.frame.now.dlc * 2 ^ 64 + y) data_bytes
