-- A port that made no step at the controller since some earlier time.
use Rattle.std.proofs.Common.{◌≡◌, refl, sym, ap, subst, ◌∙◌}
use Rattle.std.specs.Prelude.{ℕ, ◌+◌, ◌-◌, List, ◌++◌, length, take}
use Rattle.std.proofs.Math.Nat.{add-sub_cancel}
use Rattle.std.proofs.Math.Seq.{take-append_seam}
use Rattle.std.proofs.lemmas.List.{length-append}
use Rattle.ccan_ram.specs.declared.port.PortName.{PortName}
use Rattle.ccan_endless.specs.Chip.{ChipHistory, GoesFrom, steps_of}
use Rattle.ccan_endless.specs.ChipPort.{AddsNone, ChipPass, SeesOne}
use Rattle.ccan_endless.proofs.Onward.{goes_through}
use Rattle.ccan_chip.specs.Objects.{MadeNone}

-- what a history begins with, before the end that is the older one
begins : (more older : ChipHistory) → take (length (more ++ older) - length older) (more ++ older) ≡ more
begins more older =
    ap (λ n. take n (more ++ older))
    (ap (λ n. n - length older) (length-append more older) ∙ add-sub_cancel (length more) (length older))
    ∙ take-append_seam more older

goes_from : (newer older : ChipHistory) → GoesFrom newer older
    → newer ≡ take (length newer - length older) newer ++ older
goes_from newer older from =
    let more_is = ap (λ h. take (length h - length older) h) from.1 ∙ begins from.0 older in
    from.1 ∙ ap (λ m. m ++ older) (sym more_is)

pub made_none : (earlier now : ChipPass) → AddsNone earlier now → MadeNone earlier now
made_none earlier now none = record { same = none.same; part = goes_from now.whole earlier.whole none.part; own = none.own }

pub none_since : (earlier now : ChipPass) → SeesOne earlier → SeesOne now → MadeNone earlier now → AddsNone earlier now
none_since earlier now from to made =
    record { same = made.same; from = from; to = to; part = (_, made.part); own = made.own }

-- a call that made none goes on from there
pub none_onward : (earlier between now : ChipPass) → MadeNone earlier between → AddsNone between now → MadeNone earlier now
none_onward earlier between now made none =
    record {
      same = record { memory = none.same.memory ∙ made.same.memory; port = none.same.port ∙ made.same.port };
      part = goes_from now.whole earlier.whole (goes_through now.whole between.whole earlier.whole none.part (_, made.part));
      own =
          subst (λ (p : PortName). steps_of p now.whole ≡ steps_of p between.whole) made.same.port none.own ∙ made.own;
    }
