use Rattle.std.proofs.Common.{ℕ, ◌≡◌, ◌+◌, ◌-◌, ◌⊎◌, inl, inr, refl, arith}
use Rattle.test_runs.proofs.landing.LandingLabelled.pass.Goals as goal

pub returns-clause-passes : goal.returns-clause-passes
returns-clause-passes c passes =
    record {
      leads_on = λ past here stands. (c.args.state.now - 1, inl (omega (arith, stands, c.if-state-eq0.false)), refl);
      alone = λ past here there stands follow. by here there stands follow;
    }
  where
    by : (here there : ℕ) → c.args.state.now ≡ here → (here ≡ there + 1) ⊎ (here ≡ c.args.self.now.at) × (here ≡ there + 2)
        → c.args.state.now - 1 ≡ there
    by here there stands (inl one) = omega (arith, stands, one)
    by here there stands (inr two) = absurd (omega (arith, stands, two.0, c.if-state-self.false))
