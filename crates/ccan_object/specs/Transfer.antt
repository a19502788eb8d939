-- What a masked write and a clearing read make of a record. Source: C_CAN User's Manual 1.2, sections 3.3.2 (IFx Command
-- Mask Registers) and 4.2.1 (Data Transfer from / to Message RAM). That TxRqst comes from the buffer
-- if Control is selected without bit 2, and that bit 2 of a write leaves NewDat, are this project's own.
use Rattle.std.specs.Prelude.{true, false, if◌then◌else◌}
use Rattle.ccan_object.specs.declared.record.Record.{Record}
use Rattle.ccan_object.specs.declared.command.CommandMask.{CommandMask}
use Rattle.ccan_object.specs.Command.{clears_intpnd, has_txrqst_newdat}
use Rattle.ccan_object.specs.Group.{by_groups}

-- the selected groups come from the buffer, the others stay; bit 2 requests a transmission
abbrev pub merged : CommandMask → Record → Record → Record
merged c buffer old =
    let written = by_groups c buffer old in
    record written { txrqst = (if has_txrqst_newdat c then true else written.txrqst) }

-- ClrIntPnd clears the pending interrupt, bit 2 the new data; all else stays
abbrev pub cleared : CommandMask → Record → Record
cleared c old =
    record old {
      intpnd = (if clears_intpnd c then false else old.intpnd);
      newdat = (if has_txrqst_newdat c then false else old.newdat);
    }
