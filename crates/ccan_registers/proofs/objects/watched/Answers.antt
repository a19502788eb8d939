use Rattle.std.proofs.Common.{refl, sym, ◌∙◌, arith}
use Rattle.ccan_ram.proofs.Calls.{Goes-weaker}
use Rattle.ccan_handler.proofs.Watches.{first_shows, none_more}
use Rattle.ccan_handler.proofs.Watches as watches
use Rattle.ccan_endless.proofs.ChipPorts.{none_through}
use Rattle.ccan_registers.proofs.Going.{none_yet}
use Rattle.ccan_registers.proofs.objects.watched.Goals as goal

pub loop-turn-init : goal.loop-turn-init
loop-turn-init c = record {
  settings = refl;
  none = none_yet c.args.chip.now.port c.requires.one;
  looks = watches.none_yet (λ before. c.args.object) c.args.flag;
}

pub loop-turn-preserved : goal.loop-turn-preserved
loop-turn-preserved c = record {
  settings = c.look-shown.ensures.settings ∙ c.loop-turn.invariant.settings;
  none = none_through _ _ _ c.loop-turn.invariant.none c.look-shown.ensures.chip;
  looks = none_more (λ before. c.args.object) c.loop-turn.turn c.args.object c.look-shown.result c.look-shown.ensures.looks refl
      c.args.flag (sym c.of.ensures ∙ c.if-of.false) c.loop-turn.invariant.looks;
}

pub returns-then-of : goal.returns-then-of
returns-then-of c = record {
  settings = c.look-shown.ensures.settings ∙ c.loop-turn.invariant.settings;
  none = none_through _ _ _ c.loop-turn.invariant.none c.look-shown.ensures.chip;
  goes = Goes-weaker (first_shows (λ before. c.args.object) c.loop-turn.turn c.args.object c.look-shown.result
      c.look-shown.ensures.looks refl c.args.flag (sym c.of.ensures ∙ c.if-of.true) c.loop-turn.invariant.looks)
      (λ seen added here after p. (c.loop-turn.turn, omega arith, p));
}
