use Rattle.std.proofs.Common.{◌≡◌, ◌==◌, ℕ, false, Ok, refl, ap, arith, subst}
use Rattle.std.proofs.lemmas.Bool.Decides.{nat_tests}
use Rattle.ccan_ram.specs.declared.flag.Flag.TheVariants.{TxRqst}
use Rattle.ccan_chip.specs.declared.port_settings.PortSettings.{PortSettings}
use Rattle.ccan_registers.specs.ChipSteps.{ChipGoes}
use Rattle.ccan_registers.specs.Objects.{ShowsFlags}
use Rattle.ccan_registers.specs.PowerDown.{SetsPower}
use Rattle.ccan_registers.specs.Register.{IsQuiet}
use Rattle.ccan_registers.proofs.Accesses.{on_false, on_true}
use Rattle.ccan_registers.proofs.Going.{goes_then, rests, weaker}
use Rattle.ccan_registers.proofs.powering.power_down_idle.Goals as goal

some : (n : ℕ) → (n ≡ 0 → ⊥) → (n == 0) ≡ false
some n other = grind (arith, nat_tests)

pub returns-then-requests-eq0-clause-goes : goal.returns-then-requests-eq0-clause-goes
returns-then-requests-eq0-clause-goes c =
    let old = c.args.chip.now.port in
    let looked = c.flags-requests.new.chip.port in
    let last = c.set_power.new.chip.port in
    let requests = c.flags-requests.result in
    let sets = subst (λ (s : PortSettings). ChipGoes looked last
    (λ terms seen added. SetsPower terms s.tries seen added c.set_power.result))
    c.flags-requests.ensures.settings c.set_power.ensures.goes in
    weaker old last _ _
    (goes_then old looked last (λ terms seen added. ShowsFlags terms TxRqst seen added requests)
    (λ terms seen added. SetsPower terms c.args.chip.now.settings.tries seen added c.set_power.result) c.flags-requests.ensures.goes sets)
    (λ seen added h. (
      requests,
      record {
        earlier = h.earlier;
        later = h.later;
        whole = h.whole;
        begins = h.begins;
        ends = on_true _ _ _ (ap (λ (k : ℕ). k == 0) c.if-requests-eq0.true) h.ends;
      },
    ))

pub returns-else-requests-eq0-clause-goes : goal.returns-else-requests-eq0-clause-goes
returns-else-requests-eq0-clause-goes c =
    let old = c.args.chip.now.port in
    let looked = c.flags-requests.new.chip.port in
    let requests = c.flags-requests.result in
    weaker old looked _ _
    (goes_then old looked looked (λ terms seen added. ShowsFlags terms TxRqst seen added requests)
    (λ terms seen added. IsQuiet added (Ok false) false) c.flags-requests.ensures.goes
    (rests looked (λ terms seen added. IsQuiet added (Ok false) false) (record { quiet = refl; told_is = refl })))
    (λ seen added h. (
      requests,
      record {
        earlier = h.earlier;
        later = h.later;
        whole = h.whole;
        begins = h.begins;
        ends = on_false _ _ _ (some requests c.if-requests-eq0.false) h.ends;
      },
    ))
