use Rattle.std.proofs.Common.{◌+◌, ◌/◌, ◌%◌, ◌^◌, refl, sym, ◌∙◌, subst}
use Rattle.ccan_ram.specs.Terms.{Terms}
use Rattle.ccan_endless.specs.Chip.{ChipHistory}
use Rattle.ccan_chip.specs.declared.port_settings.PortSettings.{PortSettings}
use Rattle.ccan_registers.specs.ChipSteps.{ChipGoes}
use Rattle.ccan_registers.specs.Register.{WritesAt, at_register}
use Rattle.ccan_registers.proofs.Accesses.{on_false, on_true}
use Rattle.ccan_registers.proofs.Going.{goes_then, weaker}
use Rattle.ccan_registers.proofs.words.write_halves.Goals as goal

pub returns-then-is_refused-clause-goes : goal.returns-then-is_refused-clause-goes
returns-then-is_refused-clause-goes c =
    let high = at_register c.write_at-high.result in
    weaker c.args.chip.now.port c.write_at-high.new.chip.port _ _ c.write_at-high.ensures.goes
    (λ seen added h. (high, on_true _ _ _ (sym c.is_refused.ensures ∙ c.if-is_refused.true) (h, refl)))

pub returns-clause-goes : goal.returns-clause-goes
returns-clause-goes c =
    let high = at_register c.write_at-high.result in
    let low = at_register c.write_at-low.result in
    let between = c.write_at-high.new.own in
    let value = c.args.value in
    let first : Terms → ChipHistory → ChipHistory → Type 0 = λ terms s a.
    WritesAt terms c.args.chip.now.settings.tries c.args.chip.now.settings.map (c.args.offset + 2) (value / 2 ^ 16) c.args.own.now s a high between in
    let second : Terms → ChipHistory → ChipHistory → Type 0 = λ terms s a.
    WritesAt terms c.args.chip.now.settings.tries c.args.chip.now.settings.map c.args.offset (value % 2 ^ 16) between s a low c.write_at-low.new.own in
    let writes = subst (λ (s : PortSettings). ChipGoes c.write_at-high.new.chip.port c.write_at-low.new.chip.port
    (λ terms seen added. WritesAt terms s.tries s.map c.args.offset (value % 2 ^ 16) between seen added low
    c.write_at-low.new.own)) c.write_at-high.ensures.settings c.write_at-low.ensures.goes in
    weaker c.args.chip.now.port c.write_at-low.new.chip.port _ _
    (goes_then c.args.chip.now.port c.write_at-high.new.chip.port c.write_at-low.new.chip.port
    first second c.write_at-high.ensures.goes writes)
    (λ seen added h. (
      high,
      on_false _ _ _ (sym c.is_refused.ensures ∙ c.if-is_refused.false)
          (low, between, h, c.both_written.ensures),
    ))
