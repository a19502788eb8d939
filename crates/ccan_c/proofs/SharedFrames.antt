-- What C was given of a frame, and gives back, is to each member what was decided. So the laws of what is on a bus are laws of the
-- chips that share it.
use Rattle.std.proofs.Common.{ℕ, ◌≡◌, ◌≤◌, ◌<◌, Bool, true, false, List, [], Option, Some, map, length, refl, sym, ap, ap₂, subst, ◌∙◌}
use Rattle.std.proofs.Common.{arith}
use Rattle.std.specs.Prelude.{slice_index_or, if◌then◌else◌}
use Rattle.std.proofs.Math.ListN.{get_or-map}
use Rattle.std.proofs.lemmas.List.{get_or_past, length-map}
use Rattle.ccan_accept.specs.declared.frame.Frame.{Frame}
use Rattle.ccan_wire.specs.declared.flaw.Flaw.{Flaw}
use Rattle.ccan_wire.specs.declared.member.Member.{Member}
use Rattle.ccan_wire.specs.declared.role.Role.{Role}
use Rattle.ccan_wire.specs.declared.role.Role.TheVariants.{Absent, Silent, Alone, Passive, Active, Looped}
use Rattle.ccan_wire.specs.declared.start.Start.TheVariants.{Nothing, Collision, Won}
use Rattle.ccan_wire.specs.declared.winner.Part.{Part}
use Rattle.ccan_wire.specs.declared.winner.Part.TheVariants.{Sender, Dropped, Listener}
use Rattle.ccan_wire.specs.declared.winner.Winner.{Winner}
use Rattle.ccan_wire.specs.declared.wire.Wire.{Wire}
use Rattle.ccan_wire.specs.declared.wire.Wire.TheVariants.{Idle, Collided, Broken, Flagged, Unheard, Carried}
use Rattle.ccan_wire.specs.Event.{event_as, event_in, event_of, listener_event, part_on, received_unheard, sender_event, sent_unheard}
use Rattle.ccan_wire.specs.Laws.{has_sent}
use Rattle.ccan_wire.specs.Member.{nobody, sent_by}
use Rattle.ccan_wire.specs.Role.{drives}
use Rattle.ccan_wire.specs.Winner.{is_among, part_in, part_of}
use Rattle.ccan_wire.specs.Wire.{Carries, start_of}
use Rattle.ccan_wire.proofs.Heard.{CarriedBy, carried, heard}
use Rattle.ccan_wire.proofs.Members.{by_place, nobody_past}
use Rattle.ccan_c.specs.declared.shown_member.ShownMember.{ShownMember}
use Rattle.ccan_c.specs.declared.shown_wire.ShownWire.{ShownWire}
use Rattle.ccan_c.specs.Bus.{is_on}
use Rattle.ccan_c.specs.Host.{number_of}
use Rattle.ccan_c.specs.SharedFrames.{HasReceived, IsFrame, IsPartOf, SendersSendTheSame, SentFramesAreReceived, members_of}
use Rattle.ccan_c.specs.Wire.{IsShownWire, has_dropped, is_sender, member_in, most_members, part_number, winner_in, wire_in, wire_kind, wire_of}

-- ---- what is read back

abbrev as_part : Bool → Bool → Part
as_part sends drops = if sends then Sender else (if drops then Dropped else Listener)

by_number : (p : Part) → as_part (is_sender (part_number p)) (has_dropped (part_number p)) ≡ p
by_number Sender = refl
by_number Dropped = refl
by_number Listener = refl

-- the part at a place, by its number
part_read : (numbers : List ℕ) (k : ℕ) (p : Part) → slice_index_or numbers k 0 ≡ part_number p
    → part_in (map is_sender numbers) (map has_dropped numbers) k ≡ p
part_read numbers k p is =
    ap₂ as_part (get_or-map is_sender numbers k 0 ∙ ap is_sender is) (get_or-map has_dropped numbers k 0 ∙ ap has_dropped is)
    ∙ by_number p

none_dropped : (k : ℕ) → is_among [] k ≡ false
none_dropped k = get_or_past [] k false (omega arith)

among_again : (b : Bool) → is_sender (part_number (as_part b false)) ≡ b
among_again true = refl
among_again false = refl

-- the same of frames that collide, of which nobody drops out
collided_read : (numbers : List ℕ) (who : List Bool) (k : ℕ) → slice_index_or numbers k 0 ≡ part_number (part_in who [] k)
    → part_in (map is_sender numbers) [] k ≡ part_in who [] k
collided_read numbers who k is =
    let part : part_in who [] k ≡ as_part (is_among who k) false
    = ap (λ (d : Bool). as_part (is_among who k) d) (none_dropped k) in
    let number : is_among (map is_sender numbers) k ≡ is_among who k
    = get_or-map is_sender numbers k 0 ∙ (ap is_sender (is ∙ ap part_number part) ∙ among_again (is_among who k)) in
    ap (λ (b : Bool). as_part b (is_among [] k)) number

flag_read : (b : Bool) → is_on (number_of b) ≡ b
flag_read true = refl
flag_read false = refl

-- to each of its members it is what was decided
pub record IsTheSame (on other : Wire) : Type 0 where
  pub parts : (k : ℕ) → k < most_members → part_on other k ≡ part_on on k
  pub to_sender : (role : Role) (flaw : Option Flaw) → sender_event other role flaw ≡ sender_event on role flaw
  pub to_listener : (flaw : Option Flaw) → listener_event other flaw ≡ listener_event on flaw

read_back_of : (on : Wire) (shown : ShownWire) → IsShownWire on shown → IsTheSame on (wire_of (wire_kind on) shown)
read_back_of Idle shown is = record { parts = λ k near. refl; to_sender = λ role flaw. refl; to_listener = λ flaw. refl }
read_back_of (Collided who) shown is = record {
  parts = λ k near. collided_read shown.part who k (is.parts k near);
  to_sender = λ role flaw. refl;
  to_listener = λ flaw. refl;
}
read_back_of (Broken winner) shown is = record {
  parts = λ k near. part_read shown.part k (part_of winner k) (is.parts k near);
  to_sender = λ role flaw. refl;
  to_listener = λ flaw. refl;
}
read_back_of (Flagged winner) shown is = record {
  parts = λ k near. part_read shown.part k (part_of winner k) (is.parts k near);
  to_sender = λ role flaw. refl;
  to_listener = λ flaw. refl;
}
read_back_of (Unheard winner flagged) shown is =
    let same : is_on shown.flagged ≡ flagged = ap is_on is.flagged ∙ flag_read flagged in
    record {
      parts = λ k near. part_read shown.part k (part_of winner k) (is.parts k near);
      to_sender = λ role flaw. ap (λ (b : Bool). sent_unheard b role flaw) same;
      to_listener = λ flaw. ap (λ (b : Bool). received_unheard b flaw) same;
    }
read_back_of (Carried winner) shown is = record {
  parts = λ k near. part_read shown.part k (part_of winner k) (is.parts k near);
  to_sender = λ role flaw. refl;
  to_listener = λ flaw. refl;
}

of_kind : (on : Wire) (shown : ShownWire) → IsShownWire on shown → wire_of (wire_kind on) shown ≡ wire_in shown
of_kind on shown is = ap (λ (n : ℕ). wire_of n shown) (sym is.kind)

pub read_back : (on : Wire) (shown : ShownWire) → IsShownWire on shown → IsTheSame on (wire_in shown)
read_back on shown is = subst (λ (w : Wire). IsTheSame on w) (of_kind on shown is) (read_back_of on shown is)

same_in : (on other : Wire) (m : Member) (p : Part) → IsTheSame on other → event_in p other m ≡ event_in p on m
same_in on other m Sender same = same.to_sender m.role m.flaw
same_in on other m Dropped same = refl
same_in on other m Listener same = same.to_listener m.flaw

same_at : (on other : Wire) (k : ℕ) (m : Member) → IsTheSame on other → k < most_members
    → event_in (part_on other k) other m ≡ event_in (part_on on k) on m
same_at on other k m same near =
    ap (λ (p : Part). event_in p other m) (same.parts k near) ∙ same_in on other m (part_on on k) same

same_as : (role : Role) (on other : Wire) (k : ℕ) (m : Member) → IsTheSame on other → k < most_members
    → event_as role other k m ≡ event_as role on k m
same_as Absent on other k m same near = refl
same_as Silent on other k m same near = same.to_listener m.flaw
same_as Alone on other k m same near = refl
same_as Passive on other k m same near = same_at on other k m same near
same_as Active on other k m same near = same_at on other k m same near
same_as Looped on other k m same near = refl

same_event : (on other : Wire) (k : ℕ) (m : Member) → IsTheSame on other → k < most_members
    → event_of other k m ≡ event_of on k m
same_event on other k m same near = same_as m.role on other k m same near

-- ---- the laws

module _ (starts ends : List ShownMember) (start end : ShownWire) (frame : IsFrame starts ends start end) where
  abbrev on : Wire
  on = frame.ended.on

  abbrev left : ℕ → Member
  left = members_of ends

  same : IsTheSame on (wire_in end)
  same = read_back on end frame.ended.shows

  -- a part that has sent is a sender of what was decided
  sent : (place : ℕ) (part : IsPartOf ends end place) → part.ends_so.told.own ≡ has_sent → event_of on place (left place) ≡ has_sent
  sent place part is =
      sym (same_event on (wire_in end) place (left place) same part.within)
      ∙ (ap (λ (m : Member). event_of (wire_in end) place m) (sym part.is_member) ∙ (sym part.ends_so.ends.own ∙ is))

  few_members : length (map member_in ends) ≤ most_members
  few_members = subst (λ (n : ℕ). n ≤ most_members) (sym (length-map ends member_in)) frame.few_left

  near : (other : ℕ) → drives (left other).role ≡ true → other < most_members
  near other takes_part =
      by_place (map member_in ends) other most_members (other < most_members) (few_members) (λ low. low)
      (λ past. absurd (
      let none : left other ≡ nobody = nobody_past (map member_in ends) other past in
      let wrong : false ≡ true = sym (ap (λ (m : Member). drives m.role) none) ∙ takes_part in
      cc
      ))

  received : (place : ℕ) (part : IsPartOf ends end place) → part.ends_so.told.own ≡ has_sent
      → (other : ℕ) × HasReceived ends end other
  received place part is =
      let h = heard left on place frame.ended.continues.ends (sent place part is) in
      let within = near h.0 h.1.drives in (
        h.0,
        record {
          within = within;
          takes_part = h.1.drives;
          received = same_event on (wire_in end) h.0 (left h.0) same within ∙ h.1.received;
        },
      )

pub sent_is_received : SentFramesAreReceived
sent_is_received starts ends start end place frame part is = received starts ends start end frame place part is

-- a frame that won at the start, by what C was given: each of its senders has sent it
abbrev SentBy : (ℕ → Member) → Winner → Type 0
SentBy m winner =
    (frame : Frame) × ((k : ℕ) → k < most_members → part_of winner k ≡ Sender → sent_by (m k) ≡ Some frame)

-- the winner that C gives back, where the one that was decided is this
by_winner : (m : ℕ → Member) (decided winner : Winner) (shown : ShownWire)
    → ((k : ℕ) → part_of decided k ≡ Sender → sent_by (m k) ≡ Some decided.frame)
    → ((k : ℕ) → k < most_members → slice_index_or shown.part k 0 ≡ part_number (part_of decided k))
    → Won (winner_in shown) ≡ Won winner → SentBy m winner
by_winner m decided winner shown theirs parts is = (
  decided.frame,
  λ k near sender.
      let there : winner_in shown ≡ winner = cc in
      let shown_part : part_of (winner_in shown) k ≡ part_of decided k
      = part_read shown.part k (part_of decided k) (parts k near) in
      let same : part_of (winner_in shown) k ≡ part_of winner k = ap (λ (w : Winner). part_of w k) there in
      theirs k (sym shown_part ∙ (same ∙ sender)),
)

at_start : (m : ℕ → Member) (on : Wire) (shown : ShownWire) (winner : Winner) → Carries m on → IsShownWire on shown
    → start_of (wire_of (wire_kind on) shown) ≡ Won winner → SentBy m winner
at_start m Idle shown winner carries is e = absurd (let wrong : Nothing ≡ Won winner = e in cc)
at_start m (Collided who) shown winner carries is e =
    absurd (let wrong : Collision (map is_sender shown.part) ≡ Won winner = e in cc)
at_start m (Broken decided) shown winner carries is e =
    by_winner m decided winner shown carries.starts.theirs is.parts e
at_start m (Flagged decided) shown winner carries is e =
    by_winner m decided winner shown carries.starts.theirs is.parts e
at_start m (Unheard decided flagged) shown winner carries is e =
    by_winner m decided winner shown carries.starts.theirs is.parts e
at_start m (Carried decided) shown winner carries is e =
    by_winner m decided winner shown carries.starts.theirs is.parts e

-- two senders of a frame that was carried
both_sent : (m : ℕ → Member) (start on : Wire) (shown : ShownWire) (first second : ℕ) → Carries m start
    → IsShownWire start shown → start_of on ≡ start_of (wire_in shown) → CarriedBy on first → CarriedBy on second
    → first < most_members → second < most_members
    → (frame : Frame) × (sent_by (m first) ≡ Some frame) × (sent_by (m second) ≡ Some frame)
both_sent m start Idle shown first second carries is settled one two near near' = absurd one
both_sent m start (Collided who) shown first second carries is settled one two near near' = absurd one
both_sent m start (Broken winner) shown first second carries is settled one two near near' = absurd one
both_sent m start (Flagged winner) shown first second carries is settled one two near near' = absurd one
both_sent m start (Unheard winner flagged) shown first second carries is settled one two near near' = absurd one
both_sent m start (Carried winner) shown first second carries is settled one two near near' =
    let by = at_start m start shown winner carries is (ap start_of (of_kind start shown is) ∙ sym settled) in
    (by.0, by.1 first near one, by.1 second near' two)

pub senders_send_the_same : SendersSendTheSame
senders_send_the_same starts ends start end first second frame one two is is' =
    let on = frame.ended.on in
    let left = members_of ends in
    both_sent (members_of starts) frame.decided.on on start first second frame.decided.carries frame.decided.shows
    frame.ended.continues.settled
    (carried left on first (sent starts ends start end frame first one is))
    (carried left on second (sent starts ends start end frame second two is'))
    one.within two.within
