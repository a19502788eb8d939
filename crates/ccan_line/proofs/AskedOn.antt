-- The points of a host's line that asks.
use Rattle.std.proofs.Common.{ℕ, ◌≡◌, ◌+◌, Bool, true, false, refl, sym, ap, ◌∙◌, arith, if◌then◌else◌}
use Rattle.ccan_object.specs.declared.profile.Profile.{Profile}
use Rattle.ccan_object.specs.declared.record.Record.{Record}
use Rattle.ccan_object.specs.Interface.{Registers}
use Rattle.ccan_object.specs.Profile.{Holds}
use Rattle.ccan_process.specs.Process.{Ended}
use Rattle.ccan_process.specs.Act.{Process}
use Rattle.ccan_line.specs.declared.course.Course.{Course}
use Rattle.ccan_line.specs.declared.course.Course.TheVariants.{At, Ended as Ends}
use Rattle.ccan_line.specs.declared.line_answer.LineAnswer.{LineAnswer}
use Rattle.ccan_line.specs.declared.host_line.HostLine.{HostLine}
use Rattle.ccan_line.specs.declared.host_line.HostLine.TheVariants as host
use Rattle.ccan_line.specs.Asking.{place_of, goes_on, word_with, word_fits, answer_with}
use Rattle.ccan_line.specs.Engine.{after_look, course_rest}
use Rattle.ccan_line.specs.HostEngine.{HasLook, asked, host_asking}
use Rattle.ccan_line.proofs.Heads.{ask_head}

-- no look has shown anything
pub fits_at_first : (line : HostLine) → word_fits line 0 0 ≡ true
fits_at_first (host.Flags flag) = refl
fits_at_first other = refl

-- the object of the next look is one of the profile
pub place_held : (profile : Profile) (line : HostLine) (looks word : ℕ) → HasLook profile line looks word
    → Holds profile (place_of line looks)
place_held profile (host.Transfer request set) looks word has = absurd has.asks
place_held profile (host.Until object flag turns) looks word has = has.named.0
place_held profile host.Interrupt looks word has =
    let within = has.within in record { least = omega arith; greatest = omega (arith, within) }
place_held profile (host.Flags flag) looks word has =
    let within = has.within in record { least = omega arith; greatest = omega (arith, within) }

-- a look of such a line goes on, or ends it
module _ (profile : Profile) (line : HostLine) (looks word : ℕ) (shown : Record) (has : HasLook profile line looks word)
    (registers : Registers) where
  asked_by : (on : Bool) → goes_on profile line looks shown ≡ on
      → after_look shown (host_asking profile line registers looks word)
      ≡ (if on then host_asking profile line registers (looks + 1) (word_with line looks word shown)
      else Ended (answer_with profile line looks word shown, registers))
  asked_by on is =
      ap (after_look shown) (ask_head profile registers looks word line has.asks has.within)
      ∙ ap (λ (b : Bool). if b then host_asking profile line registers (looks + 1) (word_with line looks word shown)
      else Ended (answer_with profile line looks word shown, registers)) is

  pub asked_goes_on : goes_on profile line looks shown ≡ true
      → after_look shown (host_asking profile line registers looks word)
      ≡ host_asking profile line registers (looks + 1) (word_with line looks word shown)
  asked_goes_on = asked_by true

  pub asked_ends : goes_on profile line looks shown ≡ false
      → after_look shown (host_asking profile line registers looks word)
      ≡ Ended (answer_with profile line looks word shown, registers)
  asked_ends = asked_by false

  -- so what is left is what follows the look
  abbrev pub asked_left : Course (ℕ × ℕ) LineAnswer → Process (LineAnswer × Registers)
  asked_left = course_rest (λ left next. host_asking profile line left next.0 next.1) registers

  abbrev asked_follows : Bool → Course (ℕ × ℕ) LineAnswer
  asked_follows on =
      if on then At (looks + 1, word_with line looks word shown) else Ends (answer_with profile line looks word shown)

  pub asked_comes : (course : Course (ℕ × ℕ) LineAnswer) → course ≡ asked profile line looks word shown
      → after_look shown (host_asking profile line registers looks word) ≡ asked_left course
  asked_comes course is = by (goes_on profile line looks shown) refl
    where
      by : (on : Bool) → goes_on profile line looks shown ≡ on
          → after_look shown (host_asking profile line registers looks word) ≡ asked_left course
      by true on = asked_goes_on on ∙ ap asked_left (sym (is ∙ ap asked_follows on))
      by false off = asked_ends off ∙ ap asked_left (sym (is ∙ ap asked_follows off))
