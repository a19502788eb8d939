-- The record of a message object. Source: C_CAN User's Manual 1.2, section 3.3.4 (Message Object in the Message Memory); that
-- a record opens as zero is this project's own. What a reset leaves of it: the summary of registers there (the reset value of
-- Transmission Request, New Data, Interrupt Pending and Message Valid is 0) and "Hardware Reset Description" (the data in the
-- Message RAM is not affected).
use Rattle.std.specs.Prelude.{◌≡◌, ◌≤◌, ◌<◌, ◌^◌, false, All, length, replicate}
use Rattle.ccan_object.specs.declared.record.Record.{Record}

-- 29 bits of identifier and of mask, a data length code of four bits, and eight bytes
pub record IsRecord (r : Record) : Type 0 where
  pub id : r.id < 2 ^ 29
  pub mask : r.mask < 2 ^ 29
  pub dlc : r.dlc ≤ 15
  pub length_is : length r.bytes ≡ 8
  pub bytes : All (λ byte. byte < 2 ^ 8) r.bytes

-- an object that nobody has written
abbrev pub zero_record : Record
zero_record =
    record {
      valid = false;
      xtd = false;
      dir = false;
      id = 0;
      mxtd = false;
      mdir = false;
      mask = 0;
      newdat = false;
      msglst = false;
      intpnd = false;
      umask = false;
      txie = false;
      rxie = false;
      rmten = false;
      txrqst = false;
      eob = false;
      dlc = 0;
      bytes = replicate 8 0;
    }

-- after a hardware reset the object is not valid, has no new data, requests nothing and has no interrupt pending; all else stays
abbrev pub reset_record : Record → Record
reset_record r = record r { valid = false; newdat = false; intpnd = false; txrqst = false }
