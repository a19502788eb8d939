use Rattle.std.proofs.Common.{refl, sym, ◌∙◌, arith}
use Rattle.ccan_ram.proofs.Calls.{Goes-weaker}
use Rattle.ccan_handler.proofs.Watches.{none_yet, none_more, first_shows}
use Rattle.ccan_handler.proofs.watch.until.Goals as goal

pub loop-turn-init : goal.loop-turn-init
loop-turn-init g c = none_yet (λ before. c.args.object) c.args.flag

pub loop-turn-preserved : goal.loop-turn-preserved
loop-turn-preserved g c =
    none_more (λ before. c.args.object) c.loop-turn.turn c.args.object c.look-shown.result c.look-shown.ensures refl c.args.flag
    (sym c.of.ensures ∙ c.if-of.false) c.loop-turn.invariant

pub returns-then-of : goal.returns-then-of
returns-then-of g c =
    Goes-weaker (first_shows (λ before. c.args.object) c.loop-turn.turn c.args.object c.look-shown.result
    c.look-shown.ensures refl
    c.args.flag (sym c.of.ensures ∙ c.if-of.true) c.loop-turn.invariant)
    (λ seen added here after p. (c.loop-turn.turn, omega arith, p))
