-- The lines of a host that ask for flags: a flag of all objects, the interrupt value, and waiting for a flag of an object. Each
-- makes looks, one after another, until one of them ends the line. Source: this project's own, after what the lines stand for.
use Rattle.std.specs.Prelude.{ℕ, ◌+◌, ◌^◌, nat_lt, Bool, true, false, ◌&&◌, not, if◌then◌else◌}
use Rattle.ccan_object.specs.declared.record.Record.{Record}
use Rattle.ccan_object.specs.declared.profile.Profile.{Profile}
use Rattle.ccan_object.specs.Profile.{objects_in}
use Rattle.ccan_ram.specs.declared.flag.Flag.{Flag}
use Rattle.ccan_ram.specs.declared.flag.Flag.TheVariants.{IntPnd}
use Rattle.ccan_ram.specs.Flags.{flag_of}
use Rattle.ccan_ram.specs.HandlerRegisters.{with_bit}
use Rattle.ccan_handler.specs.Watch.{in_turn}
use Rattle.ccan_line.specs.declared.host_line.HostLine.{HostLine}
use Rattle.ccan_line.specs.declared.host_line.HostLine.TheVariants as host
use Rattle.ccan_line.specs.declared.line_answer.LineAnswer.{LineAnswer}
use Rattle.ccan_line.specs.declared.line_answer.LineAnswer.TheVariants as answer

-- ---- what such a line asks

-- every line but a transfer
abbrev pub IsAsk : HostLine → Type 0
IsAsk (host.Transfer request set) = ⊥
IsAsk line = Unit {0}

-- the flag that its looks are for
abbrev pub flag_asked : HostLine → Flag
flag_asked (host.Until object flag turns) = flag
flag_asked (host.Flags flag) = flag
flag_asked line = IntPnd

-- the object of the look that comes after so many others
abbrev pub place_of : HostLine → ℕ → ℕ
place_of (host.Until object flag turns) looks = object
place_of line looks = in_turn looks

-- how many looks it makes at most
abbrev pub most_looks : Profile → HostLine → ℕ
most_looks profile (host.Until object flag turns) = turns
most_looks profile line = objects_in profile

-- whether a look that shows the flag ends it
abbrev pub ends_early : HostLine → Bool
ends_early (host.Flags flag) = false
ends_early line = true

-- whether the line goes on after a look that shows this record, with so many looks before it
abbrev pub goes_on : Profile → HostLine → ℕ → Record → Bool
goes_on profile line looks shown =
    nat_lt (looks + 1) (most_looks profile line) && not (ends_early line && flag_of (flag_asked line) shown)

-- ---- what its looks have shown

-- the word with what one more look shows
abbrev pub word_with : HostLine → ℕ → ℕ → Record → ℕ
word_with (host.Flags flag) looks word shown = with_bit word looks (flag_of flag shown)
word_with line looks word shown = 0

-- so many looks may have shown this word
abbrev pub word_fits : HostLine → ℕ → ℕ → Bool
word_fits (host.Flags flag) looks word = nat_lt word (2 ^ looks)
word_fits line looks word = true

-- the answer of a line whose last look shows this record, with so many looks before it
abbrev pub answer_with : Profile → HostLine → ℕ → ℕ → Record → LineAnswer
answer_with profile (host.Until object flag turns) looks word shown = answer.Until object flag (flag_of flag shown)
answer_with profile (host.Flags flag) looks word shown =
    answer.Flags flag (with_bit word looks (flag_of flag shown)) profile
answer_with profile line looks word shown = answer.Interrupt (if flag_of IntPnd shown then looks + 1 else 0)
