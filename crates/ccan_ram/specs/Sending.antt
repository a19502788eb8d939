-- The start and the end of a transmission, by how often its frame is tried. Source: C_CAN User's Manual 1.2, section 4.2
-- (transmission of messages) and "Disabled Automatic Retransmission".
use Rattle.ccan_ram.specs.declared.change.Change.{Change}
use Rattle.ccan_ram.specs.declared.change.Change.TheVariants.{Start, Finish, StartOnce, FinishOnce}
use Rattle.ccan_ram.specs.declared.sending.Sending.{Sending}
use Rattle.ccan_ram.specs.declared.sending.Sending.TheVariants.{UntilSent, Once}

-- the change that starts it
abbrev pub start_by : Sending → Change
start_by UntilSent = Start
start_by Once = StartOnce

-- the change that ends it, once the frame was sent
abbrev pub finish_by : Sending → Change
finish_by UntilSent = Finish
finish_by Once = FinishOnce
