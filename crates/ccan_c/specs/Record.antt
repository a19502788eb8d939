-- Records as C sees them. Source: this project's own, over the registers of the C_CAN User's Manual 1.2, section 3.3.3.
use Rattle.std.specs.Prelude.{◌≡◌, map}
use Rattle.ccan_object.specs.declared.record.Record.{Record}
use Rattle.ccan_object.specs.Profile.{objects_in}
use Rattle.ccan_object.specs.Register.{arbitration, masks, control}
use Rattle.ccan_ram.specs.declared.ending.Final.{Final}
use Rattle.ccan_c.specs.declared.shown_record.ShownRecord.{ShownRecord}
use Rattle.ccan_c.specs.declared.shown_final.ShownFinal.{ShownFinal}

-- the registers of the message buffer, two of them in one word if they belong together, and the eight bytes
abbrev pub c_record : Record → ShownRecord
c_record r = record { masks = masks r; arbitration = arbitration r; control = control r; bytes = r.bytes }

-- how many objects there are, and their records, the record of object 1 first
pub record IsFinal (final : Final) (out : ShownFinal) : Type 0 where
  pub objects : out.objects ≡ objects_in final.profile
  pub records : out.records ≡ map c_record final.records
