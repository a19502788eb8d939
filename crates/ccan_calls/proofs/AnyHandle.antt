-- What calls on each handle have in common: reads of registers, and notes.
use Rattle.std.proofs.Common.{ℕ, ◌≡◌, ◌↔◌, inl, inr, [], Option, Some, None, Ok, Err, IfSome, refl, sym, subst}
use Rattle.std.specs.Prelude.{IfSome}
use Rattle.ccan_ram.specs.Terms.{Terms}
use Rattle.ccan_endless.specs.Chip.{ChipHistory}
use Rattle.ccan_endless.specs.Note.{Told}
use Rattle.ccan_registers.specs.Notes.{Heeds}
use Rattle.ccan_c.specs.Codes.{done}
use Rattle.ccan_c.specs.HostCall.{IsRead, code_of_access}
use Rattle.ccan_c.specs.Note.{Tells, TellsOf}
use Rattle.ccan_calls.specs.Answer.{IsIn, NoPlace, NoteAt, Nothing, NumberAt, end_of, word_given}
use Rattle.ccan_calls.specs.HostCallProcess.{heeded, note_end, noted, reads_off}
use Rattle.ccan_calls.specs.Laws.{ComesTo}
use Rattle.ccan_calls.specs.Process.{Heeds as HeedsAct, Notes, Process, ending}
use Rattle.ccan_calls.specs.ReadProcess.{Word}
use Rattle.ccan_calls.specs.Runs.{Runs}
use Rattle.ccan_calls.proofs.Comes.{Got, ends_with, rests}
use Rattle.ccan_calls.proofs.Processes.{one_act}

-- ---- registers at an offset

-- what was read is what C gets
pub read_in : (told : Option Word) (out : ℕ) → IsRead told out → IsIn (word_given told) (NumberAt out)
read_in None out is = is
read_in (Some (Ok value)) out is = is
read_in (Some (Err why)) out is = is

pub in_read : (told : Option Word) (out : ℕ) → IsIn (word_given told) (NumberAt out) → IsRead told out
in_read None out is = is
in_read (Some (Ok value)) out is = is
in_read (Some (Err why)) out is = is

module _ {State : Type 0} (terms : Terms) (tries : ℕ) (own left : State) (seen added : ChipHistory) (result out : ℕ)
    (process : Process (Option Word)) (what : Option Word → Type 0)
    (same : (told : Option Word) → what told ↔ Runs terms tries process seen added told) where
  pub reads_so : ((told : Option Word) × what told × (result ≡ code_of_access told) × IsRead told out) × (left ≡ own)
      ↔ ComesTo terms tries result (NumberAt out) (reads_off process own) seen added left
  reads_so =
      let all = ends_with terms tries result (NumberAt out) left seen added what process
      (λ told. end_of (code_of_access told) (word_given told) own) same in (
        λ h. let ((told, so, code, is), rests) = h in all.0 (told, so, (code, read_in told out is, rests)),
        λ h. let (told, so, got) = all.1 h in ((told, so, got.0, in_read told out got.1), got.2),
      )

-- ---- notes

module _ {State : Type 0} (terms : Terms) (tries : ℕ) (own left : State) (seen added : ChipHistory) (result : ℕ)
    (note : Option Told) where
  -- what is noted without a step
  abbrev NotesSo : Option ChipHistory → Type 0
  NotesSo told = (added ≡ []) × IfSome told (λ whole. whole ≡ seen)

  notes_so : (told : Option ChipHistory) → NotesSo told ↔ Runs terms tries noted seen added told
  notes_so told =
      let one = one_act terms tries Notes (λ (whole : Option ChipHistory). whole) seen added told in (
        λ h. one.1 (told, h, refl),
        λ h. let (whole, so, is) = one.0 h in subst NotesSo (sym is) so,
      )

  told_as : (told : Option ChipHistory) → NotesSo told
      → Got terms tries result (NoteAt note) left seen added (note_end own told) → Tells note own seen added result left
  told_as None so got = inr (record { code_is = got.0; quiet = so.0; leaves = got.2 })
  told_as (Some whole) so got = inl (
    subst (λ es. TellsOf note es) so.1 got.1,
    record { code_is = got.0; quiet = so.0; leaves = got.2 },
  )

  pub tells : Tells note own seen added result left ↔ ComesTo terms tries result (NoteAt note) (ending noted (note_end own)) seen
      added left
  tells =
      let all = ends_with terms tries result (NoteAt note) left seen added NotesSo noted (note_end own) notes_so in (
        λ h. elim h [
          | inl one ↦ all.0 (Some seen, (one.1.quiet, refl), (one.1.code_is, one.0, one.1.leaves))
          | inr none ↦ all.0 (None, (none.quiet, tt), (none.code_is, tt, none.leaves))
        ],
        λ h. let (told, so, got) = all.1 h in told_as told so got,
      )

  pub heeds : (told : Told) → (result ≡ done) × Heeds terms.port told.whole seen added × (left ≡ own)
      ↔ ComesTo terms tries result NoPlace (ending (heeded told.whole) (λ done_so. end_of done Nothing own)) seen added
      left
  heeds told =
      let all = ends_with terms tries result NoPlace left seen added
      (λ done_so. Heeds terms.port told.whole seen added) (heeded told.whole) (λ done_so. end_of done Nothing own)
      (λ done_so.
      let one = one_act terms tries (HeedsAct told.whole) (λ (d : Unit {0}). d) seen added done_so in (
        λ h. one.1 (tt, h, refl),
        λ h. let (d, so, is) = one.0 h in so,
      )) in (
        λ h. let (code, so, same) = h in all.0 (tt, so, (code, tt, same)),
        λ h. let (d, so, got) = all.1 h in (got.0, so, got.2),
      )
