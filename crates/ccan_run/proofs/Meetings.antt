-- A port that has met two others, one after the other.
use Rattle.std.proofs.Common.{◌≡◌, ◌++◌, List, sym, ap, subst, ◌∙◌, append_assoc, arith}
use Rattle.ccan_ram.specs.declared.port.PortName.{PortName}
use Rattle.ccan_ram.specs.declared.event.Event.{Event}
use Rattle.ccan_ram.specs.History.{BeginsWith, events_of}
use Rattle.ccan_ram.specs.SharedRam.{Memory, Pass, IsWithin, Meets}
use Rattle.ccan_ram.proofs.Histories.{IsLegal-older, changes_by-append}
use Rattle.ccan_run.specs.Trio.{CatchesUp}

-- what a history goes on from has no more changes than it
within_older : (memory : Memory) (more older : List Event) → IsWithin memory (more ++ older) → IsWithin memory older
within_older memory more older h = record {
  legal = IsLegal-older memory.profile more older h.legal;
  within = λ port. (let most = h.within port in let parts = changes_by-append port more older in omega arith);
}

begins_further : (newest newer older : List Event) → BeginsWith newest newer → BeginsWith newer older → BeginsWith newest older
begins_further newest newer older (last, is) (more, is') =
    (last ++ more, is ∙ ap (λ es. last ++ es) is' ∙ sym (append_assoc last more older))

pub two_meetings : (port second third between second_after after third_after : Pass) → Meets port second between second_after
    → Meets between third after third_after → CatchesUp port second third after second_after third_after
two_meetings port second third between second_after after third_after first last = record {
  sees = within_older after.memory last.part_a.0 after.seen
      (subst (λ (m : Memory). IsWithin m (last.part_a.0 ++ after.seen)) (sym last.same_a.memory)
      (subst (IsWithin between.memory) last.part_a.1 last.legal));
  begins = begins_further after.seen between.seen port.seen last.shared_a.begins_a first.shared_a.begins_a;
  begins_second = begins_further after.seen between.seen second.seen last.shared_a.begins_a first.shared_a.begins_b;
  begins_third = last.shared_a.begins_b;
  quiet = record {
    same = record { memory = last.same_a.memory ∙ first.same_a.memory; port = last.same_a.port ∙ first.same_a.port };
    own = subst (λ (p : PortName). events_of p after.seen ≡ events_of p between.seen) first.same_a.port last.shared_a.own_a
        ∙ first.shared_a.own_a;
  };
  quiet_second = record { same = first.same_b; own = first.shared_b.own_b };
  quiet_third = record { same = last.same_b; own = last.shared_b.own_b };
}
