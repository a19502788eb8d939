-- What a handle reports to another. Source: this project's own.
use Rattle.std.specs.Prelude.{ℕ, ◌≡◌, ◌⊎◌, Option, Some, MatchOption}
use Rattle.ccan_ram.specs.Terms.{Terms}
use Rattle.ccan_endless.specs.Chip.{ChipHistory}
use Rattle.ccan_endless.specs.Note.{Told}
use Rattle.ccan_registers.specs.Notes.{Heeds}
use Rattle.ccan_c.specs.declared.held.Held.{Held}
use Rattle.ccan_c.specs.declared.note_handle.NoteHandle.{NoteHandle}
use Rattle.ccan_c.specs.Codes.{done, no_memory, untold}
use Rattle.ccan_c.specs.Held.{pass_of}
use Rattle.ccan_c.specs.Step.{Rests}

-- what a note of C's says
abbrev pub told_by : NoteHandle → Option Told
told_by note = note.seal.value

-- if the handle is open and the note says something, the note is of the handle's chip
abbrev pub IsOfChip : Option Held → Option Told → Type 0
IsOfChip o note = (held : Held) (told : Told) → o ≡ Some held → note ≡ Some told → told.memory ≡ (pass_of held).memory

-- the note says all that had been seen
abbrev pub TellsOf : Option Told → ChipHistory → Type 0
TellsOf note seen = (told : Told) × (note ≡ Some told) × (told.whole ≡ seen)

-- a handle makes a note: the note has all that its port had seen; or memory ran out. The port makes no step
abbrev pub Tells : {State : Type 0} → Option Told → State → ChipHistory → ChipHistory → ℕ → State → Type 0
Tells note state seen added result after =
    (TellsOf note seen × Rests done state after added result) ⊎ Rests no_memory state after added result

-- a handle heeds: what its port has seen then goes on from what the note says, if it says something
abbrev pub HeedsNote : {State : Type 0} → Terms → Option Told → State → ChipHistory → ChipHistory → ℕ → State → Type 0
HeedsNote terms note state seen added result after =
    MatchOption note (Rests untold state after added result)
    (λ told. (result ≡ done) × Heeds terms.port told.whole seen added × (after ≡ state))
