-- What a round is played with. Source: this project's own.
use Rattle.std.specs.Prelude.{ℕ, ◌≡◌, ◌^◌, ◌==◌, ◌&&◌, Bool, List, map, Option, Some, None, nat_le, nat_lt, if◌then◌else◌}
use Rattle.ccan_accept.specs.declared.frame.Frame.{Frame}
use Rattle.ccan_accept.specs.Frame.{framed, identifier_bits}
use Rattle.ccan_bus.specs.declared.round_line.RoundLine.{RoundLine}
use Rattle.ccan_bus.specs.declared.round_line.Fault.{Fault}
use Rattle.ccan_bus.specs.declared.round_line.Fault.TheVariants.{Quiet, Stuff, Form, Bit1, Bit0, Crc}
use Rattle.ccan_c.specs.declared.offer.Offer.{Offer}
use Rattle.ccan_c.specs.Bus.{is_on}

-- the identifier fits its kind, and the length has four bits
abbrev pub is_frame : Offer → Bool
is_frame offer = nat_lt offer.id (2 ^ identifier_bits (is_on offer.xtd)) && nat_le offer.dlc 15

-- the frame with its node
abbrev pub sending_of : Offer → ℕ × Frame
sending_of offer = (offer.node, framed offer.id (is_on offer.xtd) (is_on offer.rtr) offer.dlc offer.bytes)

-- the fault of this number
abbrev pub fault_numbered : ℕ → Option Fault
fault_numbered number =
    if number == 0 then Some Quiet
    else (if number == 1 then Some Stuff
    else (if number == 2 then Some Form
    else (if number == 3 then Some Bit1
    else (if number == 4 then Some Bit0
    else (if number == 5 then Some Crc
    else None)))))

-- a round of these frames and this fault
pub record IsRound (offers : List Offer) (fault : Fault) (round : RoundLine) : Type 0 where
  pub sends : round.send.items ≡ map sending_of offers
  pub fault_is : round.fault ≡ fault
