use Rattle.std.proofs.Common.{sym, ap, ◌∙◌}
use Rattle.ccan_bus.specs.RoundLine.{code_of}
use Rattle.ccan_bus.proofs.Rounds.{none_left, spoiled, unheard, heard}
use Rattle.ccan_bus.proofs.bus.Bus.conclude.Goals as goal

pub returns-in-Some : goal.returns-in-Some
returns-in-Some c =
    record {
      same = c.happen.ensures.same;
      held = tt;
      goes_on =
          spoiled c.args.self.now c.args.line.now c.args.winner c.args.frame c.requires.won c.happen.new.self
          c.only-senders.result c.only-senders.ensures
          c.in-Some.code (ap code_of (sym c.fault.ensures) ∙ sym c.in-Some.ensures.value) c.happen.ensures.goes_on;
    }

pub returns-then-another_is_on : goal.returns-then-another_is_on
returns-then-another_is_on c =
    record {
      same = c.happen-then-another_is_on.ensures.same;
      held = c.due-due.ensures.held;
      goes_on =
          heard c.args.self.now c.args.line.now c.args.winner c.args.frame c.requires.won
          c.happen-then-another_is_on.new.self c.only-senders.result c.only-senders.ensures
          _ c.transfer_of-event.result c.due-due.ensures.due c.transfer_of-event.ensures.value (ap code_of (sym c.fault.ensures)
          ∙ (sym c.code.ensures.value ∙ none_left _ c.in_default.not-Some))
          (c.another_is_on.ensures.listener c.if-another_is_on.true) c.happen-then-another_is_on.ensures.goes_on;
    }

pub returns-else-another_is_on : goal.returns-else-another_is_on
returns-else-another_is_on c =
    record {
      same = c.happen-else-another_is_on.ensures.same;
      held = tt;
      goes_on =
          unheard c.args.self.now c.args.line.now c.args.winner c.args.frame c.requires.won
          c.happen-else-another_is_on.new.self c.only-senders.result c.only-senders.ensures
          (ap code_of (sym c.fault.ensures) ∙ (sym c.code.ensures.value ∙ none_left _ c.in_default.not-Some))
          (c.another_is_on.ensures.alone c.if-another_is_on.false) c.happen-else-another_is_on.ensures.goes_on;
    }
