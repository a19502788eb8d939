-- Who has sent was heard.
use Rattle.std.proofs.Common.{ℕ, ◌≡◌, Bool, true, false, ◌&&◌, not, Option, Some, None, refl, ap, ◌∙◌}
use Rattle.std.specs.Prelude.{is_none, if◌then◌else◌}
use Rattle.ccan_accept.specs.declared.frame.Frame.{Frame}
use Rattle.ccan_confine.specs.declared.bus_event.BusEvent.{BusEvent}
use Rattle.ccan_confine.specs.declared.bus_event.BusEvent.TheVariants as event
use Rattle.ccan_confine.specs.declared.status_event.StatusEvent.{StatusEvent}
use Rattle.ccan_confine.specs.declared.status_event.StatusEvent.TheVariants as status
use Rattle.ccan_wire.specs.declared.flaw.Flaw.{Flaw}
use Rattle.ccan_wire.specs.declared.member.Member.{Member}
use Rattle.ccan_wire.specs.declared.role.Role.{Role}
use Rattle.ccan_wire.specs.declared.role.Role.TheVariants.{Absent, Silent, Alone, Passive, Active, Looped}
use Rattle.ccan_wire.specs.declared.winner.Part.{Part}
use Rattle.ccan_wire.specs.declared.winner.Part.TheVariants.{Sender, Dropped, Listener}
use Rattle.ccan_wire.specs.declared.winner.Winner.{Winner}
use Rattle.ccan_wire.specs.declared.wire.Wire.{Wire}
use Rattle.ccan_wire.specs.declared.wire.Wire.TheVariants.{Idle, Collided, Broken, Flagged, Unheard, Carried}
use Rattle.ccan_wire.specs.Event.{event_alone, event_as, event_in, event_of, listener_event, own_or, part_on}
use Rattle.ccan_wire.specs.Event.{receive_fault, received_unheard, received_well, send_fault, sender_event, sent_unheard}
use Rattle.ccan_wire.specs.Member.{sent_by}
use Rattle.ccan_wire.specs.Role.{drives, hears, is_active}
use Rattle.ccan_wire.specs.Sign.{acknowledges}
use Rattle.ccan_wire.specs.Winner.{part_of}
use Rattle.ccan_wire.specs.Wire.{Carries, Ends}
use Rattle.ccan_wire.specs.Laws.{Hears, has_sent}

-- a frame is on the bus and acknowledged, and the member is one of its senders
abbrev pub CarriedBy : Wire → ℕ → Type 0
CarriedBy Idle k = ⊥
CarriedBy (Collided who) k = ⊥
CarriedBy (Broken winner) k = ⊥
CarriedBy (Flagged winner) k = ⊥
CarriedBy (Unheard winner x) k = ⊥
CarriedBy (Carried winner) k = part_of winner k ≡ Sender

-- the parts of an event
abbrev first : Option (BusEvent × StatusEvent) → Option BusEvent
first None = None
first (Some e) = Some e.0

abbrev second : Option (BusEvent × StatusEvent) → Option StatusEvent
second None = None
second (Some e) = Some e.1

-- ---- no other event is that of one who has sent

no_send_fault : (code : ℕ) → send_fault code ≡ has_sent → ⊥
no_send_fault code e = let d : Some event.SendFault ≡ Some event.Sent = ap first e in cc

no_receive_fault : (code : ℕ) → receive_fault code ≡ has_sent → ⊥
no_receive_fault code e = let d : Some event.ReceiveFault ≡ Some event.Sent = ap first e in cc

no_receipt : (o : Option Flaw) → received_well o ≡ has_sent → ⊥
no_receipt None e = let d : Some event.Received ≡ Some event.Sent = ap first e in cc
no_receipt (Some f) e = let d : Some event.ReceiveFault ≡ Some event.Sent = ap first e in cc

no_unheard_receipt : (x : Bool) (o : Option Flaw) → received_unheard x o ≡ has_sent → ⊥
no_unheard_receipt true o e = no_receive_fault (own_or o 2) e
no_unheard_receipt false o e = no_receipt o e

unacknowledged-sent : (x active : Bool) → Some (if x && not active then event.SendFault else event.SendNoAck) ≡ Some event.Sent → ⊥
unacknowledged-sent true true e = cc
unacknowledged-sent true false e = cc
unacknowledged-sent false active e = cc

no_unheard : (x : Bool) (r : Role) (o : Option Flaw) → sent_unheard x r o ≡ has_sent → ⊥
no_unheard x r None e = unacknowledged-sent x (is_active r) (ap first e)
no_unheard x r (Some f) e = let d : Some event.SendFault ≡ Some event.Sent = ap first e in cc

no_loop : (o : Option Frame) → event_alone o ≡ has_sent → ⊥
no_loop None e = cc
no_loop (Some f) e = let d : Some status.Looped ≡ Some status.Sent = ap second e in cc

not_heard : (w : Wire) (o : Option Flaw) → listener_event w o ≡ has_sent → ⊥
not_heard Idle o e = cc
not_heard (Collided who) o e = no_receive_fault 1 e
not_heard (Broken winner) o e = no_receive_fault (own_or o 1) e
not_heard (Flagged winner) o e = no_receive_fault (own_or o 2) e
not_heard (Unheard winner x) o e = no_unheard_receipt x o e
not_heard (Carried winner) o e = no_receipt o e

by_sender : (w : Wire) (r : Role) (o : Option Flaw) (k : ℕ) → part_on w k ≡ Sender → sender_event w r o ≡ has_sent
    → CarriedBy w k
by_sender Idle r o k part e = cc
by_sender (Collided who) r o k part e = no_send_fault 4 e
by_sender (Broken winner) r o k part e = no_send_fault (own_or o 4) e
by_sender (Flagged winner) r o k part e = no_send_fault (own_or o 2) e
by_sender (Unheard winner x) r o k part e = no_unheard x r o e
by_sender (Carried winner) r o k part e = part

in_part : (w : Wire) (k : ℕ) (x : Member) (p : Part) → part_on w k ≡ p → event_in p w x ≡ has_sent → CarriedBy w k
in_part w k x Sender part e = by_sender w x.role x.flaw k part e
in_part w k x Dropped part e = absurd (no_send_fault 4 e)
in_part w k x Listener part e = absurd (not_heard w x.flaw e)

carried_as : (r : Role) (w : Wire) (k : ℕ) (x : Member) → event_as r w k x ≡ has_sent → CarriedBy w k
carried_as Absent w k x e = absurd cc
carried_as Silent w k x e = absurd (not_heard w x.flaw e)
carried_as Alone w k x e = absurd (no_loop x.frame e)
carried_as Passive w k x e = in_part w k x (part_on w k) refl e
carried_as Active w k x e = in_part w k x (part_on w k) refl e
carried_as Looped w k x e = absurd (no_loop x.frame e)

pub carried : (m : ℕ → Member) (w : Wire) (k : ℕ) → event_of w k (m k) ≡ has_sent → CarriedBy w k
carried m w k e = carried_as (m k).role w k (m k) e

-- ---- who has heard

both : (d n : Bool) → (d && n) ≡ true → (d ≡ true) × (n ≡ true)
both true true e = (refl, refl)
both true false e = absurd cc
both false n e = absurd cc

is_none-none : (o : Option Flaw) → is_none o ≡ true → o ≡ None
is_none-none None e = refl
is_none-none (Some f) e = absurd cc

pub driven : (r : Role) (w : Wire) (k : ℕ) (x : Member) → drives r ≡ true → hears r ≡ true
    → event_as r w k x ≡ event_in (part_on w k) w x
driven Absent w k x e d = absurd cc
driven Silent w k x e d = absurd cc
driven Alone w k x e d = absurd cc
driven Passive w k x e d = refl
driven Active w k x e d = refl
driven Looped w k x e d = absurd cc

-- who acknowledges listens, takes part, hears the bus, and found no error
pub by_ack : (p : Part) (x : Member) → acknowledges p x ≡ true
    → (p ≡ Listener) × (drives x.role ≡ true) × (hears x.role ≡ true) × (x.flaw ≡ None)
by_ack Sender x e = absurd cc
by_ack Dropped x e = absurd cc
by_ack Listener x e =
    let parts = both (drives x.role) (hears x.role && is_none x.flaw) e in
    let found = both (hears x.role) (is_none x.flaw) parts.1 in
    (refl, parts.0, found.0, is_none-none x.flaw found.1)

-- who acknowledges a frame that is carried hears it
hears_carried : (m : ℕ → Member) (winner : Winner) (j : ℕ) → acknowledges (part_of winner j) (m j) ≡ true
    → Hears m (Carried winner) j
hears_carried m winner j e =
    let parts = by_ack (part_of winner j) (m j) e in
    record {
      drives = parts.1;
      hears = parts.2;
      listens = parts.0;
      received =
          driven (m j).role (Carried winner) j (m j) parts.1 parts.2
          ∙ (ap (λ p. event_in p (Carried winner) (m j)) parts.0 ∙ ap received_well parts.3);
    }

pub heard : (m : ℕ → Member) (w : Wire) (k : ℕ) → Ends m w → event_of w k (m k) ≡ has_sent → (j : ℕ) × Hears m w j
heard m Idle k a e = absurd (carried m Idle k e)
heard m (Collided who) k a e = absurd (carried m (Collided who) k e)
heard m (Broken winner) k a e = absurd (carried m (Broken winner) k e)
heard m (Flagged winner) k a e = absurd (carried m (Flagged winner) k e)
heard m (Unheard winner x) k a e = absurd (carried m (Unheard winner x) k e)
heard m (Carried winner) k a e = (a.heard.0, hears_carried m winner a.heard.0 a.heard.1)

pub one_is_sent : (m : ℕ → Member) (w : Wire) (j k : ℕ) → Carries m w → event_of w j (m j) ≡ has_sent
    → event_of w k (m k) ≡ has_sent
    → (frame : Frame) × (sent_by (m j) ≡ Some frame) × (sent_by (m k) ≡ Some frame)
one_is_sent m Idle j k a d e = absurd (carried m Idle k e)
one_is_sent m (Collided who) j k a d e = absurd (carried m (Collided who) k e)
one_is_sent m (Broken winner) j k a d e = absurd (carried m (Broken winner) k e)
one_is_sent m (Flagged winner) j k a d e = absurd (carried m (Flagged winner) k e)
one_is_sent m (Unheard winner x) j k a d e = absurd (carried m (Unheard winner x) k e)
one_is_sent m (Carried winner) j k a d e =
    (winner.frame, a.starts.theirs j (carried m (Carried winner) j d), a.starts.theirs k (carried m (Carried winner) k e))
