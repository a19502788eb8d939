-- A record in two parts: its marks, which are in its object's word, and its body, which is in a place. Source: this project's
-- own; the fields are those of the C_CAN User's Manual 1.2, section 3.3.4.
use Rattle.std.specs.Prelude.{ℕ, ◌+◌, List, [], ◌∷◌}
use Rattle.std.specs.Int.{from_le_bytes, w64}
use Rattle.ccan_object.specs.declared.record.Record.{Record}
use Rattle.ccan_object.specs.Bits.{flag, at}
use Rattle.ccan_object.specs.Register.{masks}

-- MsgVal 13, NewDat 12, MsgLst 11, IntPnd 10, UMask 9, TxIE 8, RxIE 7, RmtEn 6, TxRqst 5, EoB 4, DLC 3 to 0
abbrev pub marks_of : Record → ℕ
marks_of r =
    at 13 (flag r.valid) + at 12 (flag r.newdat) + at 11 (flag r.msglst) + at 10 (flag r.intpnd) + at 9 (flag r.umask)
    + at 8 (flag r.txie) + at 7 (flag r.rxie) + at 6 (flag r.rmten) + at 5 (flag r.txrqst) + at 4 (flag r.eob) + r.dlc

-- so marks are below this: 2^14
abbrev pub marks_limit : ℕ
marks_limit = 16384

-- a word with the Mask registers above the Arbitration registers without MsgVal: mxtd 63, mdir 62, mask 60 to 32, xtd 30,
-- dir 29, id 28 to 0; and a word with the data, byte i at 8i
abbrev pub body_of : Record → List ℕ
body_of r = (at 32 (masks r) + at 30 (flag r.xtd) + at 29 (flag r.dir) + r.id) ∷ from_le_bytes w64 r.bytes ∷ []
