-- What calls do at objects and at the controller, as processes. Source: this project's own, after what the calls stand for.
use Rattle.std.specs.Prelude.{ℕ, zero, suc, ◌+◌, ◌==◌, Bool, true, false, ◌&&◌, not, if◌then◌else◌}
use Rattle.std.specs.Int.{trailing_zeros, w64}
use Rattle.ccan_object.specs.declared.record.Record.{Record}
use Rattle.ccan_object.specs.Command.{is_write, is_pure_read}
use Rattle.ccan_object.specs.Interface.{filled}
use Rattle.ccan_confine.specs.Controller.{shows_interrupt}
use Rattle.ccan_ram.specs.declared.flag.Flag.{Flag}
use Rattle.ccan_ram.specs.Flags.{flag_of}
use Rattle.ccan_ram.specs.HandlerRegisters.{register_of}
use Rattle.ccan_process.specs.Act.{Attempted, GaveUp, Made, Unfit, WasSpent}
use Rattle.ccan_process.specs.Process.{Does, Ended}
use Rattle.ccan_line.specs.declared.line_answer.LineAnswer.{LineAnswer}
use Rattle.ccan_line.specs.declared.line_answer.LineAnswer.TheVariants as answer
use Rattle.ccan_line.specs.Transfer.{change_of}
use Rattle.ccan_registers.specs.declared.interface_set.InterfaceSet.{InterfaceSet}
use Rattle.ccan_calls.specs.Process.{Attempts, Looks, LooksAtController, Pauses, Pictures, Process, ending}

-- ---- looks and pictures

-- one look at an object
abbrev pub look : ℕ → Process Record
look object = Does (Looks object) (λ found. Ended found)

-- looks at an object, at most this many, until one shows the flag
abbrev pub until_shown : ℕ → Flag → ℕ → Process Bool
until_shown object flag zero = Ended false
until_shown object flag (suc more) =
    Does (Looks object) (λ found. if flag_of flag found then Ended true else until_shown object flag more)

-- a flag of all objects at one moment
abbrev pub flag_shown : Flag → Process ℕ
flag_shown flag = Does Pictures (λ found. Ended (register_of flag found))

-- ---- transfers

-- the registers after a transfer that moved this record, and the answer
abbrev pub moved_to : ℕ → InterfaceSet → Record → LineAnswer × InterfaceSet
moved_to object own moved =
    let left = filled own.registers.command moved own.registers in (
      if is_write own.registers.command then answer.Write object left.buffer else answer.Read object left.buffer,
      record { registers = left; asked = object },
    )

-- what an attempt of a transfer comes to; a write and a clearing read fit every record, so one is never found unfit
abbrev pub transfer_end : ℕ → InterfaceSet → Attempted → LineAnswer × InterfaceSet
transfer_end object own (Made before after) =
    moved_to object own (if is_write own.registers.command then after else before)
transfer_end object own (Unfit shown) = moved_to object own shown
transfer_end object own GaveUp = (answer.Busy object, record own { asked = object })
transfer_end object own WasSpent = (answer.Spent object, record own { asked = object })

-- a look or an attempt, by the Command Mask register
abbrev pub transfer : ℕ → InterfaceSet → Process (LineAnswer × InterfaceSet)
transfer object own =
    if is_pure_read own.registers.command then Does (Looks object) (λ found. Ended (moved_to object own found))
    else Does (Attempts object (change_of own.registers)) (λ end. Ended (transfer_end object own end))

-- ---- interrupts

-- the number of the lowest bit that is set, from 1 on; 0 if none is
abbrev pub first_set : ℕ → ℕ
first_set word = if word == 0 then 0 else trailing_zeros w64 word + 1

-- the interrupt value, with the status interrupt pending or not
abbrev pub interrupt_value : Bool → Process ℕ
interrupt_value true = Does Pauses (λ paused. Ended 0x8000)
interrupt_value false = Does Pictures (λ found. Ended (first_set found.intpnd))

-- a look at the controller, and then the interrupt value
abbrev pub value_shown : Process ℕ
value_shown = Does LooksAtController (λ found. interrupt_value (shows_interrupt found))

-- the same look says whether IE is 1, and so whether the interrupt line is pulled
abbrev pub line_pulled : Process Bool
line_pulled =
    Does LooksAtController (λ found. ending (interrupt_value (shows_interrupt found))
    (λ value. found.control.ie && not (value == 0)))
