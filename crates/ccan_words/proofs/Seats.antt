-- What a step does to a seat with one port.
use Rattle.std.proofs.Common.{◌≡◌, ℕ, [], ap, ◌∙◌, Some}
use Rattle.ccan_ram.specs.declared.port.PortName.{PortName}
use Rattle.ccan_words.specs.declared.view.PortView.{PortView}
use Rattle.ccan_ram.specs.History.{History}
use Rattle.ccan_ram.specs.ByPort.{holding, with_held, nothing}
use Rattle.ccan_words.specs.View.{seen_in, see, see_all, note_at}
use Rattle.ccan_words.specs.Plays.{Knows, Notes}
use Rattle.ccan_words.specs.Version.{IsSeatOf}
use Rattle.ccan_ram.proofs.Holding.{holding-with_held_same, each_as-only, with_held-only}

pub only_holds : (p : PortName) (x : PortView) (me : Knows) → IsSeatOf p x me → holding p me.0 ≡ Some x
only_holds p x me e = ap (λ (m : Knows). holding p m.0) e ∙ holding-with_held_same p (Some x) nothing

pub only_seen : (p : PortName) (x : PortView) (me : Knows) → IsSeatOf p x me → seen_in (holding p me.0) ≡ x.seen
only_seen p x me e = ap seen_in (only_holds p x me e)

-- the seat sees a history
pub only_sees : (p : PortName) (x : PortView) (h : History) (me me' : Knows) → IsSeatOf p x me → me' ≡ (see_all h me.0, me.1)
    → IsSeatOf p (see h x) me'
only_sees p x h me me' e f = f ∙ (ap (λ (m : Knows). (see_all h m.0, m.1)) e ∙ (λ i. (each_as-only (see h) p (Some x) i, [])))

-- its port made a change
pub only_changes : (p : PortName) (x y : PortView) (h : History) (me me' : Knows) → IsSeatOf p x me
    → me' ≡ (with_held p (Some y) (see_all h me.0), me.1) → IsSeatOf p y me'
only_changes p x y h me me' e f =
    f ∙ (ap (λ (m : Knows). (with_held p (Some y) (see_all h m.0), m.1)) e
    ∙ ((λ i. (with_held p (Some y) (each_as-only (see h) p (Some x) i), []))
    ∙ (λ i. (with_held-only p (Some (see h x)) (Some y) i, []))))

-- its port noted a word
pub noted : (p : PortName) (j b : ℕ) (x : PortView) (me me' : Knows) → IsSeatOf p x me → Notes p j b me me'
    → IsSeatOf p (note_at j b x) me'
noted p j b x me me' view t =
    t x (only_holds p x me view)
    ∙ (ap (λ (m : Knows). (with_held p (Some (note_at j b x)) m.0, m.1)) view
    ∙ (λ i. (with_held-only p (Some x) (Some (note_at j b x)) i, [])))
