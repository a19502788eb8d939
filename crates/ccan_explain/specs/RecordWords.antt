-- A record in words, and its flags by how a line changed them. Source: this project's own; the flags are those of the C_CAN User's
-- Manual 1.2, section 3.3.4.
use Rattle.std.specs.Prelude.{ℕ, ◌==◌, nat_lt, List, [], ◌++◌, Bool, true, false, ◌||◌, codes, decimal, take, if◌then◌else◌}
use Rattle.std.specs.List.{flat_map}
use Rattle.ccan_object.specs.declared.record.Record.{Record}
use Rattle.ccan_object.specs.Bits.{part}
use Rattle.ccan_object.specs.DataLength.{byte_count}
use Rattle.ccan_accept.specs.Send.{number_of}
use Rattle.ccan_explain.specs.FrameText.{capital_hex, id_text}

-- the mask at the bits of the identifier: all its bits, or bits 28 to 18 for a standard one
abbrev pub mask_number : Record → ℕ
mask_number r = if r.xtd then r.mask else part r.mask 18 11

-- the identifier and its width
abbrev pub identifier_text : Record → List ℕ
identifier_text r = codes "id " ++ (id_text (number_of r) r.xtd ++ (if r.xtd then codes " ext" else codes " std"))

-- Dir and MsgVal
abbrev pub part_text : Record → List ℕ
part_text r =
    (if r.dir then codes ", transmit" else codes ", receive") ++ (if r.valid then codes ", valid" else codes ", not valid")

-- the mask, if acceptance uses it, and whether it compares Xtd and Dir
abbrev pub mask_text : Record → List ℕ
mask_text r =
    if r.umask then codes ", mask " ++ (id_text (mask_number r) r.xtd ++ ((if r.mxtd then codes " MXtd" else [])
    ++ (if r.mdir then codes " MDir" else [])))
    else []

-- what is enabled, and EoB
abbrev pub enables_text : Record → List ℕ
enables_text r =
    (if r.txie then codes ", TxIE" else []) ++ ((if r.rxie then codes ", RxIE" else [])
    ++ ((if r.rmten then codes ", RmtEn" else []) ++ (if r.eob then codes ", EoB" else [])))

-- a flag with its mark: nothing before it if it stayed set, `+` if it was set, `-` if it was cleared
abbrev pub flag_text : Bool → Bool → List ℕ → List ℕ
flag_text false false name = []
flag_text true true name = codes " " ++ name
flag_text false true name = codes " +" ++ name
flag_text true false name = codes " -" ++ name

abbrev pub has_flag : Record → Bool
has_flag r = r.newdat || r.msglst || r.intpnd || r.txrqst

-- the four flags before a line and after it
abbrev pub flags_text : Record → Record → List ℕ
flags_text before after =
    (if has_flag before || has_flag after then codes " |" else [])
    ++ (flag_text before.newdat after.newdat (codes "NewDat") ++ (flag_text before.msglst after.msglst (codes "MsgLst")
    ++ (flag_text before.intpnd after.intpnd (codes "IntPnd") ++ flag_text before.txrqst after.txrqst (codes "TxRqst"))))

-- each byte in two digits, after a space
abbrev pub spaced_text : List ℕ → List ℕ
spaced_text bytes = flat_map (λ byte. codes " " ++ capital_hex 2 byte) bytes

-- the data that a data length code means, and whether the code is above 8
abbrev pub data_text : ℕ → List ℕ → List ℕ
data_text dlc bytes =
    decimal (byte_count dlc) ++ ((if byte_count dlc == 1 then codes " byte" else codes " bytes")
    ++ ((if nat_lt 8 dlc then codes " (DLC above 8)" else []) ++ spaced_text (take (byte_count dlc) bytes)))

-- all of it, except the flags
abbrev pub record_text : Record → List ℕ
record_text r =
    identifier_text r ++ (part_text r ++ (mask_text r ++ (enables_text r ++ (codes ", " ++ data_text r.dlc r.bytes))))

-- what a record became, with its flags
unfoldable pub left_text : Record → Record → List ℕ
left_text before after = codes ": " ++ (record_text after ++ flags_text before after)
