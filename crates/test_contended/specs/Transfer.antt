-- What a transfer of the other host makes. Source: C_CAN User's Manual 1.2, section 4.2.1 (transfers); that it is a look and
-- a change is this project's own.
use Rattle.std.specs.Prelude.{List, [], ◌∷◌, if◌then◌else◌}
use Rattle.ccan_object.specs.declared.record.Record.{Record}
use Rattle.ccan_object.specs.Command.{is_write}
use Rattle.ccan_ram.specs.declared.change.Change.{Change}
use Rattle.ccan_ram.specs.declared.change.Change.TheVariants.{Clear, Write}
use Rattle.ccan_ram.specs.declared.event.Event.{Event}
use Rattle.ccan_ram.specs.declared.port.PortName.TheVariants.{If1}
use Rattle.ccan_ram.specs.Attempt.{look_at, change_at}
use Rattle.test_contended.specs.declared.transfer.Transfer.{Transfer}

-- a write of the buffer, or a read that clears what the command says
abbrev pub change_of : Transfer → Change
change_of transfer =
    if is_write transfer.command then Write transfer.command transfer.buffer else Clear transfer.command

-- what the transfer of IF1 adds if this is the record there: its look, and its change of that record
abbrev pub transferred : Transfer → Record → List Event
transferred transfer found =
    change_at If1 transfer.object (change_of transfer) found ∷ look_at If1 transfer.object found ∷ []
