-- The registers that show a record: each is the number with every field at its places. Source: C_CAN User's Manual 1.2,
-- sections 3.3.3 (IFx Message Buffer Registers) and 3.3.4. Reserved bits read as 0, which is this project's own.
use Rattle.std.specs.Prelude.{ℕ, ◌+◌, List, slice_index}
use Rattle.ccan_object.specs.declared.record.Record.{Record}
use Rattle.ccan_object.specs.declared.register.Reg.{Reg}
use Rattle.ccan_object.specs.declared.register.Reg.TheVariants.{CMask, Mask1, Mask2, Arb1, Arb2, Ctrl, DataA1, DataA2, DataB1, DataB2}
use Rattle.ccan_object.specs.Bits.{part, flag, at}

-- Arbitration 2 above Arbitration 1: MsgVal 31, Xtd 30, Dir 29, ID28 to ID0 below
abbrev pub arbitration : Record → ℕ
arbitration r = at 31 (flag r.valid) + at 30 (flag r.xtd) + at 29 (flag r.dir) + r.id

-- Mask 2 above Mask 1: MXtd 31, MDir 30, Msk28 to Msk0 below; bit 29 is reserved
abbrev pub masks : Record → ℕ
masks r = at 31 (flag r.mxtd) + at 30 (flag r.mdir) + r.mask

-- Message Control: NewDat 15, MsgLst 14, IntPnd 13, UMask 12, TxIE 11, RxIE 10, RmtEn 9, TxRqst 8, EoB 7, DLC 3 to 0;
-- bits 6 to 4 are reserved
abbrev pub control : Record → ℕ
control r =
    at 15 (flag r.newdat) + at 14 (flag r.msglst) + at 13 (flag r.intpnd) + at 12 (flag r.umask)
    + at 11 (flag r.txie) + at 10 (flag r.rxie) + at 9 (flag r.rmten) + at 8 (flag r.txrqst)
    + at 7 (flag r.eob) + r.dlc

-- two bytes of the data, the first in the low half
abbrev pub two_bytes : List ℕ → ℕ → ℕ
two_bytes bytes first = slice_index bytes first + at 8 (slice_index bytes (first + 1))

-- a register that shows a part of a record; the Command Mask register shows none
abbrev pub register_of : Reg → Record → ℕ
register_of CMask r = 0
register_of Mask1 r = part (masks r) 0 16
register_of Mask2 r = part (masks r) 16 16
register_of Arb1 r = part (arbitration r) 0 16
register_of Arb2 r = part (arbitration r) 16 16
register_of Ctrl r = control r
register_of DataA1 r = two_bytes r.bytes 0
register_of DataA2 r = two_bytes r.bytes 2
register_of DataB1 r = two_bytes r.bytes 4
register_of DataB2 r = two_bytes r.bytes 6
