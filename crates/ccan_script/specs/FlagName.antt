-- The names of the flags in scripts and printed lines. Source: this project's own; the flags are those of the C_CAN User's
-- Manual 1.2, section 3.3.4.
use Rattle.std.specs.Prelude.{ℕ, codes, List, Option, Some, None, option_and_then, if◌then◌else◌}
use Rattle.std.specs.Str.{bytes_eq}
use Rattle.serde_json.specs.Data.{Data}
use Rattle.serde_json.specs.Find.{as_str, get}
use Rattle.ccan_ram.specs.declared.flag.Flag.{Flag}
use Rattle.ccan_ram.specs.declared.flag.Flag.TheVariants.{NewDat, MsgLst, IntPnd, TxRqst, MsgVal}

unfoldable pub flag_name : Flag → List ℕ
flag_name NewDat = codes "newdat"
flag_name MsgLst = codes "msglst"
flag_name IntPnd = codes "intpnd"
flag_name TxRqst = codes "txrqst"
flag_name MsgVal = codes "msgval"

-- the flag of this name
unfoldable pub flag_named : List ℕ → Option Flag
flag_named word =
    if bytes_eq word (codes "newdat") then Some NewDat
    else (if bytes_eq word (codes "msglst") then Some MsgLst
    else (if bytes_eq word (codes "intpnd") then Some IntPnd
    else (if bytes_eq word (codes "txrqst") then Some TxRqst
    else (if bytes_eq word (codes "msgval") then Some MsgVal else None))))

-- the flag that the member `flag` names
unfoldable pub flag_in : Data → Option Flag
flag_in d = option_and_then flag_named (option_and_then as_str (get (codes "flag") d))
