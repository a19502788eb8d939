-- How long the bus is not free between frames, in bits. Source: CAN Specification 2.0, part B, "Error Frame", "Interframe Space"
-- (intermission, suspend transmission) and "Fault Confinement" (a node that is bus off comes back after 128 occurrences of 11
-- consecutive recessive bits).
use Rattle.std.specs.Prelude.{ℕ, ◌+◌, ◌/◌, ◌%◌, Bool, true, false, Option, Some, None}
use Rattle.ccan_confine.specs.declared.node_state.NodeState.{NodeState}
use Rattle.ccan_confine.specs.declared.node_state.NodeState.TheVariants.{Active, Passive, Off}

abbrev pub intermission : ℕ
intermission = 3

abbrev pub suspend_transmission : ℕ
suspend_transmission = 8

-- after a frame, this many recessive bits pass before a node may start the next one; a node that is bus off may not start one. An
-- error passive node that was the transmitter of that frame waits longer
abbrev pub bits_before_start : NodeState → Bool → Option ℕ
bits_before_start Active sent = Some intermission
bits_before_start Passive false = Some intermission
bits_before_start Passive true = Some (intermission + suspend_transmission)
bits_before_start Off sent = None

abbrev pub error_flag : ℕ
error_flag = 6

abbrev pub error_delimiter : ℕ
error_delimiter = 8

-- the error flags of several nodes are superposed, and the last of them begins this many bits after the first
abbrev pub error_frame_bits : ℕ → ℕ
error_frame_bits later = later + error_flag + error_delimiter

-- a group is this many recessive bits in a row
abbrev pub group : ℕ
group = 11

-- of this many recessive bits in a row: the groups that are whole, and the bits of the next one
abbrev pub whole_groups : ℕ → ℕ
whole_groups bits = bits / group

abbrev pub begun_group : ℕ → ℕ
begun_group bits = bits % group
