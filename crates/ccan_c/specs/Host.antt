-- The numbers that C passes to the calls of a host, and what a handle of a host stands for. Source: this project's own.
use Rattle.std.specs.Prelude.{ℕ, ◌==◌, Bool, Option, Some, None, if◌then◌else◌}
use Rattle.ccan_object.specs.declared.register.Reg.{Reg}
use Rattle.ccan_object.specs.declared.register.Reg.TheVariants.{CMask, Mask1, Mask2, Arb1, Arb2, Ctrl, DataA1, DataA2, DataB1, DataB2}
use Rattle.ccan_object.specs.declared.profile.Profile.{Profile}
use Rattle.ccan_object.specs.Profile.{objects_in}
use Rattle.ccan_ram.specs.declared.flag.Flag.{Flag}
use Rattle.ccan_ram.specs.declared.flag.Flag.TheVariants.{NewDat, MsgLst, IntPnd, TxRqst, MsgVal}
use Rattle.ccan_c.specs.declared.held.Held.{Held}
use Rattle.ccan_c.specs.declared.host_handle.HostHandle.{HostHandle}
use Rattle.ccan_c.specs.Settings.{is_from_one_to}

-- what a handle stands for
abbrev pub held_by : HostHandle → Option Held
held_by host = host.handle.seal.value

-- the register of this number
abbrev pub register_numbered : ℕ → Option Reg
register_numbered number =
    if number == 0 then Some CMask
    else (if number == 1 then Some Mask1
    else (if number == 2 then Some Mask2
    else (if number == 3 then Some Arb1
    else (if number == 4 then Some Arb2
    else (if number == 5 then Some Ctrl
    else (if number == 6 then Some DataA1
    else (if number == 7 then Some DataA2
    else (if number == 8 then Some DataB1
    else (if number == 9 then Some DataB2
    else None)))))))))

-- the flag of this number
abbrev pub flag_numbered : ℕ → Option Flag
flag_numbered number =
    if number == 0 then Some NewDat
    else (if number == 1 then Some MsgLst
    else (if number == 2 then Some IntPnd
    else (if number == 3 then Some TxRqst
    else (if number == 4 then Some MsgVal
    else None))))

-- 1 if it is so
abbrev pub number_of : Bool → ℕ
number_of is = if is then 1 else 0

-- whether the number is that of an object
abbrev pub is_object : Profile → ℕ → Bool
is_object profile number = is_from_one_to (objects_in profile) number
