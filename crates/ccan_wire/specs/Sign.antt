-- What a member does on the bus while a frame is sent, as the others see it, by its part: one that sends the frame, one that has
-- dropped out, which the others no longer see, or a listener. Source: CAN Specification 2.0, part B, 3.1.1 (ACK field: who
-- received the frame well sends a dominant bit in the ACK slot, its senders a recessive one), 3.1.3 (error frame: six dominant
-- bits of an error active node, six recessive ones of an error passive node) and "Error Signalling" (an acknowledge error is
-- flagged at the next bit); C_CAN User's Manual 1.2, "Loop Back Mode" (it disregards what is on the bus, so it finds no error there
-- and acknowledges nothing).
use Rattle.std.specs.Prelude.{Bool, true, false, ◌&&◌, not, is_none, is_some}
use Rattle.ccan_wire.specs.declared.member.Member.{Member}
use Rattle.ccan_wire.specs.declared.sign.Sign.{Sign}
use Rattle.ccan_wire.specs.declared.sign.Sign.TheVariants.{Breaks, GoesOn, Covers, Flags, Protests, Acknowledges}
use Rattle.ccan_wire.specs.declared.winner.Part.{Part}
use Rattle.ccan_wire.specs.declared.winner.Part.TheVariants.{Sender, Dropped, Listener}
use Rattle.ccan_wire.specs.Flaw.{found_at_delimiter, found_early}
use Rattle.ccan_wire.specs.Role.{drives, hears, is_active}

-- its error flag, of dominant bits, begins before the end of the check sequence
abbrev pub breaks : Part → Member → Bool
breaks Sender m = is_active m.role && found_early true m.flaw
breaks Dropped m = false
breaks Listener m = is_active m.role && found_early false m.flaw

-- it sends the frame beyond the end of the check sequence: it has not left the bus, and found no error until there. One that does
-- not hear the bus finds none
abbrev pub goes_on : Part → Member → Bool
goes_on Sender m = drives m.role && not (hears m.role && found_early true m.flaw)
goes_on Dropped m = false
goes_on Listener m = false

-- its error flag, of dominant bits, begins in the ACK slot
abbrev pub covers : Part → Member → Bool
covers Sender m = is_active m.role && found_at_delimiter true m.flaw
covers Dropped m = false
covers Listener m = is_active m.role && found_at_delimiter false m.flaw

-- it sends an error flag of dominant bits, wherever that begins
abbrev pub flags : Part → Member → Bool
flags Sender m = is_active m.role && is_some m.flaw
flags Dropped m = false
flags Listener m = is_active m.role && is_some m.flaw

-- it sends an error flag of dominant bits in a frame that nobody acknowledges: to a sender that is an error
abbrev pub protests : Part → Member → Bool
protests Sender m = is_active m.role
protests Dropped m = false
protests Listener m = is_active m.role && is_some m.flaw

-- it sends a dominant bit in the ACK slot: it takes part, hears the bus, and found no error
abbrev pub acknowledges : Part → Member → Bool
acknowledges Sender m = false
acknowledges Dropped m = false
acknowledges Listener m = drives m.role && (hears m.role && is_none m.flaw)

abbrev pub shows : Sign → Part → Member → Bool
shows Breaks part m = breaks part m
shows GoesOn part m = goes_on part m
shows Covers part m = covers part m
shows Flags part m = flags part m
shows Protests part m = protests part m
shows Acknowledges part m = acknowledges part m
