-- The words of a version.
use Rattle.std.proofs.Common.{◌≡◌, ◌≢◌, ℕ, zero, suc, ◌+◌, ◌<◌, ◌≤◌, Bool, List, [], ◌∷◌, get_or, sym, ap, ◌∙◌, subst, arith}
use Rattle.std.proofs.Common.{length, take, ◌++◌, zero-le}
use mathlib.Core.Logic.{dite}
use native.Mathlib.Decide.{ℕ_discrete}
use Rattle.ccan_object.specs.declared.profile.Profile.{Profile}
use Rattle.ccan_object.specs.Profile.{Holds}
use Rattle.ccan_ram.specs.History.{last_number, BeginsWith, History}
use Rattle.ccan_words.specs.declared.view.PortView.{PortView}
use Rattle.ccan_words.specs.declared.version.Version.{Version}
use Rattle.ccan_ram.specs.ByPort.{holding}
use Rattle.ccan_words.specs.Layout.{Form, IsBeside, Lies, Makes}
use Rattle.ccan_ram.specs.Sound.{Stands}
use Rattle.ccan_words.specs.Plays.{Knows, Notes, IsNextWord, change_of}
use Rattle.ccan_words.specs.Version.{IsSeatOf, IsContent, IsNextFor, IsWritten, with_note}
use Rattle.ccan_ram.proofs.Notes.{taken_same, taken_before, taken_length}
use Rattle.ccan_words.proofs.Seats.{noted, only_holds}
use Rattle.ccan_ram.proofs.Numbers.{stands_after}
use Rattle.ccan_words.proofs.Histories.{latest, unchanged}

module _ {profile : Profile} {most : ℕ} {contends : ℕ → ℕ → Bool} (F : Form profile most contends) (lies : Lies F)
    (makes : Makes F)
    (z : Version) (object : Holds profile z.object) where
  -- a word of the changed record
  pub next_inside : (at : History) (word i w : ℕ) → i < 3 → F.offset z.object + i ≡ word → IsContent z
      → w ≡ get_or z.content i 0 → IsNextWord F z at word w
  next_inside at word i w l is content e h legal few b same =
      e ∙ (ap (λ (ws : List ℕ). get_or ws i 0) content.0
      ∙ (sym (makes.value z.port z.object i z.change z.before h object l)
      ∙ ap (λ (n : ℕ). get_or (F.content (change_of z ∷ h)) n 0) is))

  -- a word beside it, where no version was found
  pub next_blank : (at : History) (word : ℕ) → word < F.width → IsBeside F z.object word → z.old ≡ 0 → IsNextWord F z at word 0
  next_blank at word inside out none h legal few b same =
      sym (makes.none z.port z.object word z.change z.before h object inside out
      (λ i c. (latest contends z.object h).none (same ∙ none) i c))

  -- and where one was found
  pub next_kept : (at : History) (word w : ℕ) (x : PortView) → word < F.width → IsBeside F z.object word → z.old ≢ 0
      → BeginsWith x.seen at
      → last_number contends z.object at ≡ z.old → ((h : History) → Stands x.seen z.old h → w ≡ get_or (F.content h) word 0)
      → IsNextWord F z at word w
  next_kept at word w x inside out nz part is read h legal few b same =
      let s = (latest contends z.object at).some (λ e. nz (sym is ∙ e)) in
      let st : Stands at z.old s.0 = subst (λ (n : ℕ). Stands at n s.0) is s.1 in
      read s.0 (stands_after x.seen at z.old s.0 part st)
      ∙ sym (makes.rest z.port z.object word z.change z.before h s.0 object inside out
      (λ i c. s.3 i c ∙ sym (unchanged contends h at z.object b (same ∙ sym is) i c)))

pub long_enough : (n m : ℕ) → (0 < n → m ≡ n) → n ≤ m
long_enough zero m f = zero-le
long_enough (suc n) m f = let e = f (omega arith) in omega arith

module _ {profile : Profile} {most : ℕ} {contends : ℕ → ℕ → Bool} (F : Form profile most contends) (z : Version) where
  pub written_none : (x : PortView) (me : Knows) → IsSeatOf z.port x me → IsWritten F z x 0 me
  written_none x me e =
      record { note = x.note; view = e; full = λ l. absurd (omega arith); words = λ at b s j l. absurd (omega arith) }

  -- the seat as it was, after a step that tells nothing
  pub written_still : (x : PortView) (i : ℕ) (m m' : Knows) → m' ≡ m → IsWritten F z x i m → IsWritten F z x i m'
  written_still x i m m' e w = record { note = w.note; view = e ∙ w.view; full = w.full; words = w.words }

  pub next_still : (i b : ℕ) (m m' : Knows) → m' ≡ m → IsNextFor F z m i b → IsNextFor F z m' i b
  next_still i b m m' e next p y at held part is = next p y at (ap (λ (u : Knows). holding p u.0) (sym e) ∙ held) part is

  pub written_more : (x : PortView) (i b : ℕ) (m m' : Knows) → IsWritten F z x i m → IsNextFor F z m i b → Notes z.port i b m m'
      → IsWritten F z x (i + 1) m'
  written_more x i b m m' w next t =
      let y : PortView = with_note w.note x in
      let up = long_enough i (length w.note) w.full in
      record {
        note = take i w.note ++ b ∷ [];
        view = noted z.port i b y m m' w.view t;
        full = λ _. taken_length w.note i b up;
        words = λ at part is j l.
            dite (ℕ_discrete j i)
            (λ e.
            let here = taken_same w.note i b up in
            subst (λ (u : ℕ × ℕ). IsNextWord F z at u.0 u.1)
            (λ n. (sym e n, (sym here ∙ ap (λ (u : ℕ). get_or (take i w.note ++ b ∷ []) u 0) (sym e)) n))
            (next z.port y at (only_holds z.port y m w.view) part is))
            (λ n.
            let less : j < i = omega arith in
            subst (IsNextWord F z at j) (sym (taken_before w.note i b j up less)) (w.words at part is j less));
      }
