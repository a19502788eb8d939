-- Who leaves sends nothing any more, and no others send but those who did before.
use Rattle.std.proofs.Common.{ℕ, ◌≡◌, Bool, true, false, refl, sym, ap, subst, ◌∙◌, true≢false}
use Rattle.std.specs.Prelude.{Option, Some, None, if◌then◌else◌}
use Rattle.ccan_accept.specs.declared.frame.Frame.{Frame}
use Rattle.ccan_confine.specs.declared.controller.Controller.{Controller}
use Rattle.ccan_chip.specs.Arrival.{takes_part}
use Rattle.ccan_wire.specs.declared.flaw.Flaw.{Flaw}
use Rattle.ccan_wire.specs.declared.member.Member.{Member}
use Rattle.ccan_wire.specs.declared.start.Start.TheVariants.{Won}
use Rattle.ccan_wire.specs.declared.wire.Wire.{Wire}
use Rattle.ccan_wire.specs.declared.wire.Wire.TheVariants.{Idle, Collided, Broken, Flagged, Unheard, Carried}
use Rattle.ccan_wire.specs.declared.winner.Part.{Part}
use Rattle.ccan_wire.specs.declared.winner.Part.TheVariants.{Sender, Dropped, Listener}
use Rattle.ccan_wire.specs.declared.winner.Winner.{Winner}
use Rattle.ccan_wire.specs.Event.{event_of}
use Rattle.ccan_wire.specs.Laws.{IsAsBefore, SomeLeave}
use Rattle.ccan_wire.specs.Member.{sent_by}
use Rattle.ccan_wire.specs.Sign.{goes_on}
use Rattle.ccan_wire.specs.Start.{Starts}
use Rattle.ccan_wire.specs.Winner.{part_of}
use Rattle.ccan_wire.specs.Wire.{Carries, Continues, Ends, IsWhole, Nobody, start_of}
use Rattle.ccan_wire.proofs.Settled.{still_won}
use Rattle.ccan_station.specs.Laws.{after_look}
use Rattle.ccan_station.specs.Station.{ending}

-- a member, as it is left where it stays, or not
abbrev left_of : Bool → Option Flaw → Member → Member
left_of stays flaw x = ending (if stays then Some x else None) flaw

still_sends : (stays : Bool) (x : Member) (flaw : Option Flaw) → stays ≡ true → sent_by (left_of stays flaw x) ≡ sent_by x
still_sends true x flaw is = refl
still_sends false x flaw is = absurd cc

as_before : (stays : Bool) (x : Member) (flaw : Option Flaw) (frame : Frame) → sent_by (left_of stays flaw x) ≡ Some frame
    → IsAsBefore x (left_of stays flaw x) frame
as_before true x flaw frame e = record { sent = e; hears = λ h. h; passive = λ p. p }
as_before false x flaw frame e = absurd cc

pub no_winner_changed : (m : ℕ → Member) (found : ℕ → Controller) (flaw : ℕ → Option Flaw) (wire later : Wire) (winner : Winner)
    (sender : ℕ) → Carries m wire → start_of wire ≡ Won winner → part_of winner sender ≡ Sender
    → takes_part (found sender) ≡ true → Carries (λ k. after_look (found k) (flaw k) (m k)) later
    → (left : Winner) × (start_of later ≡ Won left) × (left.frame ≡ winner.frame)
no_winner_changed m found flaw wire later winner sender a won part stays b =
    let other : ℕ → Member = λ k. after_look (found k) (flaw k) (m k) in
    let left : SomeLeave m other sender = record {
      stays = still_sends (takes_part (found sender)) (m sender) (flaw sender) stays;
      leave = λ k frame its. as_before (takes_part (found k)) (m k) (flaw k) frame its;
    } in
    still_won m other winner (subst (λ s. Starts m s) won a.starts) sender part left (start_of later) b.starts

-- ---- nobody sends the frame any more

not_on : (part : Part) (stays : Bool) (x : Member) (flaw : Option Flaw) → (part ≡ Sender → stays ≡ false)
    → goes_on part (left_of stays flaw x) ≡ false
not_on Sender true x flaw h = absurd (true≢false (h refl))
not_on Sender false x flaw h = refl
not_on Dropped stays x flaw h = refl
not_on Listener stays x flaw h = refl

not_whole : (other : ℕ → Member) (v w : Winner) → v ≡ w → Nobody goes_on other w → IsWhole other v → (A : Type 0) → A
not_whole other v w is none whole A =
    let sent = subst (λ u. (k : ℕ) × (goes_on (part_of u k) (other k) ≡ true)) is whole.sent in
    absurd (true≢false (sym sent.1 ∙ none sent.0))

module _ (other : ℕ → Member) (w : Winner) (none : Nobody goes_on other w) where
  cut_off : (later : Wire) → start_of later ≡ Won w → Ends other later → later ≡ Broken w
  cut_off Idle is h = absurd cc
  cut_off (Collided who) is h = absurd cc
  cut_off (Broken v) is h = let e : v ≡ w = cc in ap Broken e
  cut_off (Flagged v) is h = let e : v ≡ w = cc in not_whole other v w e none h.whole _
  cut_off (Unheard v flagged) is h = let e : v ≡ w = cc in not_whole other v w e none h.whole _
  cut_off (Carried v) is h = let e : v ≡ w = cc in not_whole other v w e none h.whole _

pub frames_cut_off : (m : ℕ → Member) (found : ℕ → Controller) (flaw : ℕ → Option Flaw) (wire later : Wire) (winner : Winner)
    → start_of wire ≡ Won winner → ((k : ℕ) → part_of winner k ≡ Sender → takes_part (found k) ≡ false)
    → Continues wire (λ k. after_look (found k) (flaw k) (m k)) later → later ≡ Broken winner
frames_cut_off m found flaw wire later winner won left h =
    cut_off (λ k. after_look (found k) (flaw k) (m k)) winner
    (λ k. not_on (part_of winner k) (takes_part (found k)) (m k) (flaw k) (left k)) later (h.settled ∙ won) h.ends

-- ---- and has no event

no_event_by : (on : Wire) (place : ℕ) (stays : Bool) (flaw : Option Flaw) (x : Member) → stays ≡ false
    → event_of on place (left_of stays flaw x) ≡ None
no_event_by on place true flaw x is = absurd cc
no_event_by on place false flaw x is = refl

pub no_event : (on : Wire) (place : ℕ) (found : Controller) (flaw : Option Flaw) (m : Member) → takes_part found ≡ false
    → event_of on place (after_look found flaw m) ≡ None
no_event on place found flaw m is = no_event_by on place (takes_part found) flaw m is
