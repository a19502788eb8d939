-- Of two frames one precedes the other, or neither.
use Rattle.std.proofs.Common.{◌≡◌, true, false, Option, Some, sym, ◌∙◌, arith}
use Rattle.std.specs.Prelude.{nat_lt}
use Rattle.std.proofs.lemmas.Bool.Decides.{nat_tests}
use Rattle.ccan_accept.specs.declared.frame.Frame.{Frame}
use Rattle.ccan_wire.specs.Arbitration.{arbitration_bits, beats}
use Rattle.ccan_wire.specs.Packed.{packed}
use Rattle.ccan_wire.proofs.Order.{packed-order, precedes-self}

pub one_way : (f g : Frame) → beats f g ≡ true → beats g f ≡ false
one_way f g h =
    let less : nat_lt (packed f) (packed g) ≡ true = sym (packed-order f g) ∙ h in
    let more : nat_lt (packed g) (packed f) ≡ false = grind (arith, nat_tests) in
    packed-order g f ∙ more

pub beats-itself : (f : Frame) → beats f f ≡ false
beats-itself f = precedes-self (arbitration_bits f)

pub not_itself : (f : Frame) → beats f f ≡ true → ⊥
not_itself f h = let no = beats-itself f in cc

-- two frames of one member
pub same_frame : (o : Option Frame) (f g : Frame) → o ≡ Some f → o ≡ Some g → f ≡ g
same_frame o f g a b = cc
