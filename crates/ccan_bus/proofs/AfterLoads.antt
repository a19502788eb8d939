-- Which of the two follows a load: the transfer of loop back mode, or the frames that contend.
use Rattle.std.proofs.Common.{◌≡◌, ◌&&◌, Bool, true, false, refl, sym, ap, subst, ◌∙◌}
use Rattle.ccan_bus.specs.declared.bus.Bus.{Bus}
use Rattle.ccan_bus.specs.declared.decision.Decision.{Decision}
use Rattle.ccan_bus.specs.declared.round_line.RoundLine.{RoundLine}
use Rattle.ccan_bus.specs.Past.{BusPast, is_on, hears_itself}
use Rattle.ccan_bus.specs.Bus.{LedTo, GoesOn, is_on_now}
use Rattle.ccan_bus.specs.Decide.{Decides, DecidesBack, DecidesBetween}
use Rattle.ccan_bus.proofs.Pasts.{on_same, GoesOn-weaker}

pub and_true : (a b c : Bool) → a ≡ true → c ≡ b → c ≡ true → (a && b) ≡ true
and_true a b c p q r = rw p (sym q ∙ r)

pub and_false : (a b c : Bool) → a ≡ true → c ≡ b → c ≡ false → (a && b) ≡ false
and_false a b c p q r = rw p (sym q ∙ r)

pub and_first : (a b : Bool) → a ≡ false → (a && b) ≡ false
and_first a b p = rw p refl

pub and_second : (a b : Bool) → (a && b) ≡ true → b ≡ true
and_second true b h = h
and_second false b h = absurd cc

hears_now : (past : BusPast) (bus : Bus) → LedTo past bus → hears_itself past ≡ (bus.loops_back && is_on_now bus 0)
hears_now past bus led = ap (λ b. b && is_on past 0) (sym led.loops_back) ∙ ap (λ b. bus.loops_back && b) (on_same past bus led 0)

module _ (line : RoundLine) (bus new : Bus) (decided : Decision) where
  pub decides_back : (bus.loops_back && is_on_now bus 0) ≡ true → GoesOn bus new (λ past after. DecidesBack past after decided)
      → GoesOn bus new (λ past after. Decides (hears_itself past) line past after decided)
  decides_back is g =
      GoesOn-weaker g (λ past after led there h.
      subst (λ b. Decides b line past after decided) (sym (hears_now past bus led ∙ is)) h)

  pub decides_between : (bus.loops_back && is_on_now bus 0) ≡ false
      → GoesOn bus new (λ past after. DecidesBetween line past after decided)
      → GoesOn bus new (λ past after. Decides (hears_itself past) line past after decided)
  decides_between is g =
      GoesOn-weaker g (λ past after led there h.
      subst (λ b. Decides b line past after decided) (sym (hears_now past bus led ∙ is)) h)
