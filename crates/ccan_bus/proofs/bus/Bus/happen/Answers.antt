use Rattle.std.proofs.Common.{false, refl, sym, ap, subst, ◌∙◌, arith}
use Rattle.ccan_confine.specs.Counters.{Counts, new_counts, counts_after}
use Rattle.ccan_confine.specs.Status.{AddsStep, Happened}
use Rattle.std.proofs.lemmas.List.{get_or_default}
use Rattle.ccan_bus.specs.Nodes.{count_at}
use Rattle.ccan_bus.proofs.Pasts.{GoesOn-happens}
use Rattle.ccan_bus.proofs.bus.Bus.happen.Goals as goal

pub returns-clause-goes_on : goal.returns-clause-goes_on
returns-clause-goes_on c = λ each shared.
    GoesOn-happens each c.args.event c.args.self.now _ c.args.self.now.few
    record {
      others = refl;
      counters =
          λ node within. c.counted-self.ensures.each node (omega arith)
          ∙ ap (λ e. counts_after e (count_at c.args.self.now.nodes node)) (sym (shared node (omega arith)));
      noted_on = λ on.
          subst (λ (k : Counts). AddsStep (Happened c.args.event k.levels) c.args.self.now.status c.noted-self.result)
          (get_or_default c.counted-self.result 0 c.index-self-0.result (new_counts false)
          (omega (arith, c.counted-self.ensures.all)))
          (c.noted-self.ensures.on (c.is_on-is_on.ensures ∙ on));
      noted_off = λ off. c.noted-self.ensures.off (c.is_on-is_on.ensures ∙ off);
      loaded = refl;
      loops_back = refl;
      choice = refl;
    }
