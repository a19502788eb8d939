-- The printed lines. Each ends with one byte 10. Source: this project's own.
use Rattle.std.specs.Prelude.{ℕ, ◌/◌, ◌==◌, ◌&&◌, Bool, List, [], ◌∷◌, ◌++◌, Option, Some, None, codes, decimal, if◌then◌else◌}
use Rattle.std.specs.List.{list_all}
use Rattle.ccan_object.specs.declared.record.Record.{Record}
use Rattle.ccan_object.specs.declared.profile.Profile.{Profile}
use Rattle.ccan_object.specs.Profile.{objects_in}
use Rattle.ccan_object.specs.Register.{arbitration, masks, control}
use Rattle.ccan_ram.specs.declared.port.PortName.{PortName}
use Rattle.ccan_ram.specs.declared.flag.Flag.{Flag}
use Rattle.ccan_ram.specs.Port.{port_text}
use Rattle.ccan_confine.specs.declared.node_state.NodeState.{NodeState}
use Rattle.ccan_confine.specs.declared.node_state.NodeState.TheVariants.{Active, Passive, Off}
use Rattle.ccan_bus.specs.declared.answer.LoadAnswer.{LoadAnswer}
use Rattle.ccan_bus.specs.declared.answer.LoadAnswer.TheVariants as load
use Rattle.ccan_bus.specs.declared.answer.RoundAnswer.{RoundAnswer}
use Rattle.ccan_bus.specs.declared.answer.RoundAnswer.TheVariants as round
use Rattle.ccan_line.specs.declared.line_answer.LineAnswer.{LineAnswer}
use Rattle.ccan_line.specs.declared.line_answer.LineAnswer.TheVariants.{Write, Read, Busy, Spent, Until, Interrupt}
use Rattle.ccan_line.specs.declared.line_answer.LineAnswer.TheVariants.{Flags, Load, Round, Status, Control, Counters}
use Rattle.ccan_line.specs.declared.line_answer.LineAnswer.TheVariants.{Init, Recessive, LoopBack}
use Rattle.ccan_script.specs.PrintedLine.{hex, two_digits, bit_text, field, record_text, verb_text, shown_text}
use Rattle.ccan_script.specs.FlagName.{flag_name}

unfoldable pub state_text : NodeState → List ℕ
state_text Active = codes "active"
state_text Passive = codes "passive"
state_text Off = codes "off"

-- whether an object showed a flag
unfoldable pub until_text : ℕ → Flag → Bool → List ℕ
until_text object flag shown =
    verb_text (codes " until") object ++ field (flag_name flag) ++ (if shown then codes " yes" else codes " no")

-- a flag of each object in hexadecimal, four objects a digit
unfoldable pub flags_text : Flag → ℕ → Profile → List ℕ
flags_text flag word profile = codes " flags" ++ field (flag_name flag) ++ field (hex (objects_in profile / 4) word)

unfoldable pub control_text : Bool → Bool → List ℕ
control_text sie eie = codes " control" ++ field (bit_text sie) ++ field (bit_text eie)

-- a node and its counters in decimal
unfoldable pub counters_text : ℕ → ℕ → ℕ → NodeState → List ℕ
counters_text node tec rec state =
    codes " counters" ++ field (decimal node) ++ field (decimal tec) ++ field (decimal rec) ++ field (state_text state)

unfoldable pub load_text : LoadAnswer → List ℕ
load_text (load.Loaded object r) = shown_text (codes " loaded") object r
load_text (load.Held object) = verb_text (codes " held") object
load_text load.Nothing = codes " loaded none"
load_text (load.Busy object) = verb_text (codes " busy") object
load_text (load.Spent object) = verb_text (codes " spent") object

-- the object that was sent, and the one that stored its frame
unfoldable pub looped_text : ℕ → Option (ℕ × Record) → List ℕ
looped_text object None = verb_text (codes " looped") object ++ codes " none"
looped_text object (Some stored) =
    verb_text (codes " looped") object ++ (field (two_digits stored.0) ++ record_text stored.1)

unfoldable pub round_text : RoundAnswer → List ℕ
round_text round.Idle = codes " idle"
round_text (round.Sent object r) = shown_text (codes " sent") object r
round_text (round.Received None) = codes " received none"
round_text (round.Received (Some stored)) = shown_text (codes " received") stored.0 stored.1
round_text round.Passed = codes " passed"
round_text round.Collision = codes " collision"
round_text round.NoAck = codes " ack"
round_text round.Fault = codes " fault"
round_text (round.Looped object r storing) = looped_text object storing
round_text (round.Busy object) = verb_text (codes " busy") object
round_text (round.Spent object) = verb_text (codes " spent") object

-- a transfer that ended shows the record that it left in the interface buffer
unfoldable pub answer_text : LineAnswer → List ℕ
answer_text (Write object buffer) = shown_text (codes " write") object buffer
answer_text (Read object buffer) = shown_text (codes " read") object buffer
answer_text (Busy object) = verb_text (codes " busy") object
answer_text (Spent object) = verb_text (codes " spent") object
answer_text (Until object flag shown) = until_text object flag shown
answer_text (Interrupt value) = codes " interrupt" ++ field (hex 4 value)
answer_text (Flags flag word profile) = flags_text flag word profile
answer_text (Load answer) = load_text answer
answer_text (Round answer) = round_text answer
answer_text (Status value) = codes " status" ++ field (hex 4 value)
answer_text (Control sie eie) = control_text sie eie
answer_text (Counters node tec rec state) = counters_text node tec rec state
answer_text Init = codes " init"
answer_text (Recessive state) = codes " recessive" ++ field (state_text state)
answer_text (LoopBack on) = codes " loopback" ++ field (bit_text on)

-- the line of an answer, with its end
unfoldable pub line_text : PortName → LineAnswer → List ℕ
line_text port answer = port_text port ++ answer_text answer ++ 10 ∷ []

-- every field that a line would show is zero
unfoldable pub is_all_zero : Record → Bool
is_all_zero r = arbitration r == 0 && masks r == 0 && control r == 0 && list_all (λ byte. byte == 0) r.bytes

-- the line of an object at the end, with its end; there is none if the object is all zero
unfoldable pub final_line : ℕ → Record → Option (List ℕ)
final_line object r =
    if is_all_zero r then None else Some (shown_text (codes "final") object r ++ 10 ∷ [])
