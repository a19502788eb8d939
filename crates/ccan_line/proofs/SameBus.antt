-- What no line of the bus changes.
use Rattle.std.proofs.Common.{◌≡◌, ap}
use Rattle.ccan_bus.specs.declared.bus.Bus.{Bus}
use Rattle.ccan_bus.specs.Bus.{IsSameBus}
use Rattle.ccan_line.specs.BusEngine.{BusFixed, fixed_of}

pub fixed_same : {old new : Bus} → IsSameBus old new → fixed_of new ≡ fixed_of old
fixed_same same i = record { profile = same.profile i; others = same.others i; choice = same.choice i }

pub same_fixed : {old new : Bus} → fixed_of new ≡ fixed_of old → IsSameBus old new
same_fixed same = record {
  profile = ap (λ (f : BusFixed). f.profile) same;
  others = ap (λ (f : BusFixed). f.others) same;
  choice = ap (λ (f : BusFixed). f.choice) same;
}
