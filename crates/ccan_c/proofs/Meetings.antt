-- Three ports of a chip that meet, two at a time: IF1 meets IF2 and then the bus, and IF2 meets IF1 again. Two that meet have
-- then seen one and the same, so at the end each has seen what any of the three had.
use Rattle.std.proofs.Common.{◌≡◌, List, ◌++◌, sym, ap, subst, ◌∙◌, arith}
use Rattle.ccan_ram.specs.declared.event.Event.{Event}
use Rattle.ccan_ram.specs.declared.port.PortName.{PortName}
use Rattle.ccan_ram.specs.History.{BeginsWith, events_of}
use Rattle.ccan_ram.specs.SharedRam.{Memory, Pass, CanSee, IsWithin, Meets}
use Rattle.ccan_ram.proofs.Histories.{IsLegal-older, changes_by-append}
use Rattle.ccan_endless.specs.Chip.{ChipHistory, GoesFrom, ram_of, steps_of}
use Rattle.ccan_endless.specs.ChipPort.{AddsNone, ChipMeets, ChipPass}
use Rattle.ccan_endless.proofs.Onward.{goes_through}
use Rattle.ccan_registers.proofs.Histories.{no_events, no_steps}
use Rattle.ccan_c.specs.Meeting.{HasMet, HaveMet}
use Rattle.ccan_c.specs.Step.{own_of}
use Rattle.ccan_c.proofs.OwnEvents.{none_own, own_of-append}

-- a part of what is legal is legal
within_older : (memory : Memory) (more older : List Event) → IsWithin memory (more ++ older) → IsWithin memory older
within_older memory more older h = record {
  legal = IsLegal-older memory.profile more older h.legal;
  within = λ port. (let most = h.within port in let parts = changes_by-append port more older in omega (arith, most, parts));
}

sees_part : (memory : Memory) (pass : Pass) (history : List Event) → pass.memory ≡ memory → IsWithin memory history
    → BeginsWith history pass.seen → CanSee pass
sees_part memory pass history same within (more, is) =
    subst (λ (m : Memory). IsWithin m pass.seen) (sym same)
    (within_older memory more pass.seen (subst (IsWithin memory) is within))

-- a port that made no step at the controller, and none at an object, made no event
own_stays : (old new : ChipPass) → AddsNone old new
    → events_of old.pass.port new.pass.seen ≡ events_of old.pass.port old.pass.seen
    → own_of old.pass.port new.whole ≡ own_of old.pass.port old.whole
own_stays old new none own =
    let port = old.pass.port in
    let more = none.part.0 in
    let is : new.whole ≡ more ++ old.whole = none.part.1 in
    let steps = no_steps port more old.whole
    (subst (λ (h : ChipHistory). steps_of port h ≡ steps_of port old.whole) is none.own) in
    let ram : new.pass.seen ≡ ram_of (more ++ old.whole) = none.to.ram ∙ ap ram_of is in
    let events = no_events port more old.whole
    (ap (events_of port) (sym ram) ∙ (own ∙ ap (events_of port) none.from.ram)) in
    ap (own_of port) is
    ∙ (own_of-append port more old.whole ∙ ap (λ (l : ChipHistory). l ++ own_of port old.whole) (none_own port more steps events))

-- the same of a port by another name of it
own_as : (p q : PortName) (newer older : ChipHistory) → q ≡ p → own_of q newer ≡ own_of q older → own_of p newer ≡ own_of p older
own_as p q newer older same own = subst (λ (r : PortName). own_of r newer ≡ own_of r older) same own

-- what the other port had seen
begins_other : (b new_a new_b : ChipPass) → AddsNone b new_b → new_b.whole ≡ new_a.whole → GoesFrom new_a.whole b.whole
begins_other b new_a new_b none one = (none.part.0, sym one ∙ none.part.1)

module _ (a b d a1 b1 a2 d2 b3 a3 : ChipPass) (second_is : a.pass.memory ≡ b.pass.memory)
    (third_is : a.pass.memory ≡ d.pass.memory)
    (first : Meets a.pass b.pass a1.pass b1.pass) (second : Meets a1.pass d.pass a2.pass d2.pass)
    (third : Meets b1.pass a2.pass b3.pass a3.pass) (first_chip : ChipMeets a b a1 b1) (second_chip : ChipMeets a1 d a2 d2)
    (third_chip : ChipMeets b1 a2 b3 a3) where
  -- what IF1 has seen after its two meetings
  a2_a : GoesFrom a2.whole a.whole
  a2_a = goes_through a2.whole a1.whole a.whole second_chip.none_a.part first_chip.none_a.part

  a2_b : GoesFrom a2.whole b.whole
  a2_b = goes_through a2.whole a1.whole b.whole second_chip.none_a.part (begins_other b a1 b1 first_chip.none_b first_chip.one)

  a2_d : GoesFrom a2.whole d.whole
  a2_d = begins_other d a2 d2 second_chip.none_b second_chip.one

  a3_a2 : GoesFrom a3.whole a2.whole
  a3_a2 = third_chip.none_b.part

  b3_a2 : GoesFrom b3.whole a2.whole
  b3_a2 = begins_other a2 b3 a3 third_chip.none_b third_chip.one

  if1_has : HasMet a b d a a3
  if1_has = record {
    same = record {
      memory = third.same_b.memory ∙ (second.same_a.memory ∙ first.same_a.memory);
      port = third.same_b.port ∙ (second.same_a.port ∙ first.same_a.port);
    };
    sees = record {
      one = third_chip.none_b.to;
      sees = sees_part b1.pass.memory a3.pass third.history
          (third.same_b.memory ∙ (second.same_a.memory ∙ (first.same_a.memory ∙ (second_is ∙ sym first.same_b.memory))))
          third.legal third.part_b;
    };
    begins_if1 = goes_through a3.whole a2.whole a.whole a3_a2 a2_a;
    begins_if2 = goes_through a3.whole a2.whole b.whole a3_a2 a2_b;
    begins_bus = goes_through a3.whole a2.whole d.whole a3_a2 a2_d;
    own = own_as a.pass.port a2.pass.port a3.whole a2.whole (second.same_a.port ∙ first.same_a.port)
        (own_stays a2 a3 third_chip.none_b third.shared_b.own_b)
        ∙ (own_as a.pass.port a1.pass.port a2.whole a1.whole first.same_a.port
        (own_stays a1 a2 second_chip.none_a second.shared_a.own_a)
        ∙ own_stays a a1 first_chip.none_a first.shared_a.own_a);
  }

  if2_has : HasMet a b d b b3
  if2_has = record {
    same = record { memory = third.same_a.memory ∙ first.same_b.memory; port = third.same_a.port ∙ first.same_b.port };
    sees = record {
      one = third_chip.none_a.to;
      sees = sees_part b1.pass.memory b3.pass third.history third.same_a.memory third.legal third.part_a;
    };
    begins_if1 = goes_through b3.whole a2.whole a.whole b3_a2 a2_a;
    begins_if2 = goes_through b3.whole a2.whole b.whole b3_a2 a2_b;
    begins_bus = goes_through b3.whole a2.whole d.whole b3_a2 a2_d;
    own = own_as b.pass.port b1.pass.port b3.whole b1.whole first.same_b.port
        (own_stays b1 b3 third_chip.none_a third.shared_a.own_a)
        ∙ own_stays b b1 first_chip.none_b first.shared_b.own_b;
  }

  bus_has : HasMet a b d d d2
  bus_has = record {
    same = second.same_b;
    sees = record {
      one = second_chip.none_b.to;
      sees = sees_part a1.pass.memory d2.pass second.history
          (second.same_b.memory ∙ (sym third_is ∙ sym first.same_a.memory)) second.legal second.part_b;
    };
    begins_if1 = (a2_a.0, second_chip.one ∙ a2_a.1);
    begins_if2 = (a2_b.0, second_chip.one ∙ a2_b.1);
    begins_bus = second_chip.none_b.part;
    own = own_stays d d2 second_chip.none_b second.shared_b.own_b;
  }

  pub have_met : HaveMet a b d a3 b3 d2
  have_met = record { if1_met = if1_has; if2_met = if2_has; bus_met = bus_has }
