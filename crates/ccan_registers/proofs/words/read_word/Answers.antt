use Rattle.std.proofs.Common.{ℕ, ◌==◌, ap}
use Rattle.ccan_registers.proofs.Accesses.{on_true}
use Rattle.ccan_registers.proofs.Going.{weaker}
use Rattle.ccan_registers.proofs.words.read_word.Goals as goal

pub returns-clause-goes : goal.returns-clause-goes
returns-clause-goes c =
    weaker c.args.chip.now.port c.read_aligned.new.chip.port _ _ c.read_aligned.ensures.goes
    (λ seen added h. on_true _ _ _ (ap (λ (k : ℕ). k == 0) c.if-offset-ne0.false) h)
