-- The turns of a picture. A turn that is lost costs another port a change, so there are few; and a turn is told by the history
-- that its looks stand at, and by the one that the port has seen at its end.
use Rattle.std.proofs.Common.{append_assoc, ◌≡◌, ℕ, zero, suc, ◌+◌, ◌*◌, ◌≤◌, Bool, List, ◌++◌}
use Rattle.std.proofs.Common.{sym, refl, ap, ◌∙◌, subst, arith}
use Rattle.ccan_object.specs.Profile.{objects_in}
use Rattle.ccan_ram.specs.declared.port.PortName.{PortName}
use Rattle.ccan_ram.specs.declared.port.PortName.TheVariants.{If1, If2, Bus}
use Rattle.ccan_ram.specs.declared.event.Event.{Event}
use Rattle.ccan_ram.specs.History.{History, changes_by, all_changes, events_of, BeginsWith}
use Rattle.ccan_ram.specs.Terms.{Terms}
use Rattle.ccan_ram.specs.SharedRam.{Memory, Pass, terms_of}
use Rattle.ccan_ram.specs.Picture.{pictured, Turn, LostTurn, LostTurns}
use Rattle.ccan_ram.proofs.Histories.{changes_later}
use Rattle.ccan_ram.proofs.Counting.{changes_by_own, one_more}
use Rattle.ccan_ram.proofs.Pictures.{pictured_changes}
use Rattle.ccan_ram.proofs.Steps.{unseen}

-- ---- each turn that is lost costs another port a change

one_lost : (terms : Terms) (seen added : List Event) → LostTurn terms seen added
    → all_changes seen + 1 ≤ all_changes (added ++ seen)
one_lost terms seen added lost =
    let less = lost.changed in
    one_more lost.other seen (added ++ seen) (omega arith) (changes_later If1 (added ++ seen) seen (added, refl))
    (changes_later If2 (added ++ seen) seen (added, refl)) (changes_later Bus (added ++ seen) seen (added, refl))

lost_changes : (terms : Terms) (i : ℕ) (seen added : List Event) → LostTurns terms i seen added
    → all_changes seen + i ≤ all_changes (added ++ seen)
lost_changes terms zero seen added none =
    subst (λ (z : List Event). all_changes seen + 0 ≤ all_changes (z ++ seen)) (sym none) (omega arith)
lost_changes terms (suc n) seen added (last, earlier, whole, lost, rest) =
    let one = one_lost terms (earlier ++ seen) last lost in
    let more = lost_changes terms n seen earlier rest in
    let is : last ++ (earlier ++ seen) ≡ added ++ seen =
    sym (append_assoc last earlier seen) ∙ ap (λ (z : List Event). z ++ seen) (sym whole) in
    subst (λ (z : List Event). all_changes seen + suc n ≤ all_changes z) is (omega arith)

few_for : (p : PortName) (i quota : ℕ) (seen end : History) → all_changes seen + i ≤ all_changes end
    → changes_by p end ≡ changes_by p seen → changes_by If1 end ≤ quota → changes_by If2 end ≤ quota
    → changes_by Bus end ≤ quota → i ≤ 2 * quota
few_for If1 i quota seen end all own a b c = omega arith
few_for If2 i quota seen end all own a b c = omega arith
few_for Bus i quota seen end all own a b c = omega arith

-- so there are no more than twice the quota
pub few_lost : (terms : Terms) (p : PortName) (i quota : ℕ) (seen added : List Event) → LostTurns terms i seen added
    → changes_by p (added ++ seen) ≡ changes_by p seen → ((q : PortName) → changes_by q (added ++ seen) ≤ quota)
    → i ≤ 2 * quota
few_lost terms p i quota seen added lost own few =
    few_for p i quota seen (added ++ seen) (lost_changes terms i seen added lost) own (few If1) (few If2) (few Bus)

-- ---- what a turn adds

module _ (contends : ℕ → ℕ → Bool) (memory : Memory) (p : PortName) where
  abbrev seeing : History → Pass
  seeing h = record { memory = memory; port = p; seen = h }

  -- the looks at all objects, the newest events of the history
  abbrev pub shown_at : History → History
  shown_at at = pictured p (objects_in memory.profile) at ++ at

  module _ (seen at end : History) (from : BeginsWith at seen) (own_from : events_of p at ≡ events_of p seen)
      (to : BeginsWith end (shown_at at)) (own_to : events_of p end ≡ events_of p (shown_at at)) where
    abbrev shots : History
    shots = pictured p (objects_in memory.profile) (from.0 ++ seen)

    abbrev pub added_by : List Event
    added_by = to.0 ++ (shots ++ from.0)

    pub added_is : added_by ++ seen ≡ end
    added_is =
        append_assoc to.0 (shots ++ from.0) seen
        ∙ (ap (λ (z : History). to.0 ++ z) (append_assoc shots from.0 seen)
        ∙ (ap (λ (z : History). to.0 ++ shown_at z) (sym from.1) ∙ sym to.1))

    abbrev pub turn_of : Turn (terms_of contends memory p) seen added_by
    turn_of = record {
      before = from.0;
      after = to.0;
      foreign_before = unseen contends (seeing seen) at (record { begins = from; own = own_from });
      foreign_after = unseen contends (seeing (shown_at at)) end (record { begins = to; own = own_to });
      whole = refl;
    }

    pub own_changes : changes_by p end ≡ changes_by p seen
    own_changes =
        changes_by_own p end _ own_to
        ∙ (pictured_changes p p (objects_in memory.profile) at at ∙ changes_by_own p at seen own_from)
