-- What a transfer stands for: the events that it adds, its answer, and the interface registers after it. Source: C_CAN
-- User's Manual 1.2, sections 3.3.2 and 4.2.1; that a transfer is one look or one attempt of a change, and what a refused
-- one answers, is this project's own.
use Rattle.std.specs.Prelude.{ℕ, ◌≡◌, List, Result, Ok, Err, MatchBool, if◌then◌else◌}
use Rattle.std.specs.List.{fold}
use Rattle.ccan_object.specs.declared.record.Record.{Record}
use Rattle.ccan_object.specs.declared.register.Reg.{Reg}
use Rattle.ccan_object.specs.Command.{is_write, is_pure_read}
use Rattle.ccan_object.specs.Interface.{Registers, set_register, filled}
use Rattle.ccan_ram.specs.declared.change.Change.{Change}
use Rattle.ccan_ram.specs.declared.change.Change.TheVariants as change
use Rattle.ccan_ram.specs.declared.change.Changed.{Changed}
use Rattle.ccan_ram.specs.declared.change.Changed.TheVariants.{Done, NotNow}
use Rattle.ccan_ram.specs.declared.change.Refused.{Refused}
use Rattle.ccan_ram.specs.declared.change.Refused.TheVariants as refused
use Rattle.ccan_ram.specs.declared.event.Event.{Event}
use Rattle.ccan_ram.specs.Terms.{Terms}
use Rattle.ccan_ram.specs.Attempt.{IsLook, Attempt}
use Rattle.ccan_line.specs.declared.line_answer.LineAnswer.{LineAnswer}
use Rattle.ccan_line.specs.declared.line_answer.LineAnswer.TheVariants.{Write, Read, Busy, Spent}

-- the registers once each of these is set
abbrev pub with_settings : List (Reg × ℕ) → Registers → Registers
with_settings settings registers = fold (λ so_far setting. set_register setting.0 setting.1 so_far) registers settings

-- the change that a transfer with these registers makes, unless it is a pure read
abbrev pub change_of : Registers → Change
change_of registers =
    if is_write registers.command then change.Write registers.command registers.buffer else change.Clear registers.command

-- a transfer moved this record between the object and the registers: it left it in them, and answers with their buffer
pub record Ends (object : ℕ) (registers : Registers) (moved : Record) (answer : LineAnswer) (left : Registers) : Type 0 where
  pub registers_are : left ≡ filled registers.command moved registers
  pub answer_is : answer ≡ (if is_write registers.command then Write object left.buffer else Read object left.buffer)

-- what a transfer whose change had this outcome answers: a write moved the record that it left in the object, a clearing
-- read the one that it found there. Both fit every record. A refused transfer leaves the registers as they were
abbrev pub Answers : ℕ → Registers → Result Changed Refused → LineAnswer → Registers → Type 0
Answers object registers (Ok (Done before after number)) answer left =
    Ends object registers (if is_write registers.command then after else before) answer left
Answers object registers (Ok (NotNow found)) answer left = ⊥
Answers object registers (Err (refused.Busy tried now)) answer left = (answer ≡ Busy object) × (left ≡ registers)
Answers object registers (Err refused.Spent) answer left = (answer ≡ Spent object) × (left ≡ registers)

-- a transfer of an object with these registers is one look if it is a pure read, and else one attempt of its change
abbrev pub IsTransfer : Terms → ℕ → ℕ → Registers → List Event → List Event → LineAnswer → Registers → Type 0
IsTransfer terms tries object registers seen added answer left =
    MatchBool (is_pure_read registers.command)
    ((shown : Record) × IsLook terms object shown added × Ends object registers shown answer left)
    ((outcome : Result Changed Refused) × Attempt terms object (change_of registers) tries seen added outcome
    × Answers object registers outcome answer left)
