-- What a member does on the bus, as its controller is found. Source: CAN Specification 2.0, "Fault Confinement" (a node that is
-- error passive takes part, and sends a passive error flag; one that is bus off has no influence on the bus); C_CAN User's Manual
-- 1.2, "CAN Control Register" (Init), "Test Register" (Silent, LBack), "Silent Mode", "Loop Back Mode" (it disregards its input,
-- and its frames can be monitored at its output) and "Loop Back combined with Silent Mode" (its output is held recessive). That the
-- modes count only while Test of the Control register is 1 is (own).
use Rattle.std.specs.Prelude.{Bool, true, false, ◌&&◌, if◌then◌else◌}
use Rattle.ccan_confine.specs.declared.controller.Controller.{Controller}
use Rattle.ccan_confine.specs.declared.node_state.NodeState.{NodeState}
use Rattle.ccan_confine.specs.declared.node_state.NodeState.TheVariants as state
use Rattle.ccan_confine.specs.Counters.{state_of}
use Rattle.ccan_wire.specs.declared.role.Role.{Role}
use Rattle.ccan_wire.specs.declared.role.Role.TheVariants.{Absent, Silent, Alone, Passive, Active, Looped}

-- a node that has error counters and no other registers
abbrev pub role_of_state : NodeState → Role
role_of_state state.Active = Active
role_of_state state.Passive = Passive
role_of_state state.Off = Absent

-- loop back mode disregards what others send; what it sends is on the bus unless Silent is 1 too
abbrev pub looped : Controller → Role
looped c = if c.test.silent then Alone else Looped

-- a mode of the Test register
abbrev pub in_mode : Controller → Role → Role
in_mode c role =
    if c.control.test && c.test.lback then looped c
    else (if c.control.test && c.test.silent then Silent else role)

-- the role of a controller that is not in software initialization; one that is bus off takes no part
abbrev pub role_of_running : Controller → NodeState → Role
role_of_running c state.Active = in_mode c Active
role_of_running c state.Passive = in_mode c Passive
role_of_running c state.Off = Absent

abbrev pub role_of : Controller → Role
role_of c = if c.control.init then Absent else role_of_running c (state_of c.counters.levels)

-- it hears what others send
abbrev pub hears : Role → Bool
hears Absent = false
hears Silent = true
hears Alone = false
hears Passive = true
hears Active = true
hears Looped = false

-- it sends frames onto the bus; one that also hears the bus sends acknowledgements
abbrev pub drives : Role → Bool
drives Absent = false
drives Silent = false
drives Alone = false
drives Passive = true
drives Active = true
drives Looped = true

-- its error flags are of dominant bits, which all others see
abbrev pub is_active : Role → Bool
is_active Absent = false
is_active Silent = false
is_active Alone = false
is_active Passive = false
is_active Active = true
is_active Looped = false
