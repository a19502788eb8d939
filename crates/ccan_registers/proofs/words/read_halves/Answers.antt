use Rattle.std.proofs.Common.{◌+◌, sym, ◌∙◌, subst}
use Rattle.ccan_ram.specs.Terms.{Terms}
use Rattle.ccan_endless.specs.Chip.{ChipHistory}
use Rattle.ccan_chip.specs.declared.port_settings.PortSettings.{PortSettings}
use Rattle.ccan_registers.specs.ChipSteps.{ChipGoes}
use Rattle.ccan_registers.specs.Register.{ReadsAt, at_register}
use Rattle.ccan_registers.proofs.Accesses.{on_false, on_true}
use Rattle.ccan_registers.proofs.Going.{goes_then, weaker}
use Rattle.ccan_registers.proofs.Halves.{joined-refused}
use Rattle.ccan_registers.proofs.words.read_halves.Goals as goal

pub returns-then-is_refused-clause-goes : goal.returns-then-is_refused-clause-goes
returns-then-is_refused-clause-goes c =
    let low = at_register c.read_at-low.result in
    let refused = sym c.is_refused.ensures ∙ c.if-is_refused.true in
    weaker c.args.chip.now.port c.read_at-low.new.chip.port _ _ c.read_at-low.ensures.goes
    (λ seen added h. (low, on_true _ _ _ refused (h, c.joined.ensures ∙ joined-refused low refused)))

pub returns-clause-goes : goal.returns-clause-goes
returns-clause-goes c =
    let low = at_register c.read_at-low.result in
    let high = at_register c.read_at-high.result in
    let first : Terms → ChipHistory → ChipHistory → Type 0 = λ terms s a.
    ReadsAt terms c.args.chip.now.settings.tries c.args.chip.now.settings.map c.args.offset c.args.own.now s a low in
    let second : Terms → ChipHistory → ChipHistory → Type 0 = λ terms s a.
    ReadsAt terms c.args.chip.now.settings.tries c.args.chip.now.settings.map (c.args.offset + 2) c.args.own.now s a high in
    let reads = subst (λ (s : PortSettings). ChipGoes c.read_at-low.new.chip.port c.read_at-high.new.chip.port
    (λ terms seen added. ReadsAt terms s.tries s.map (c.args.offset + 2) c.args.own.now seen added high))
    c.read_at-low.ensures.settings c.read_at-high.ensures.goes in
    weaker c.args.chip.now.port c.read_at-high.new.chip.port _ _
    (goes_then c.args.chip.now.port c.read_at-low.new.chip.port c.read_at-high.new.chip.port
    first second c.read_at-low.ensures.goes reads)
    (λ seen added h. (low, on_false _ _ _ (sym c.is_refused.ensures ∙ c.if-is_refused.false) (high, h, c.joined-2.ensures)))
