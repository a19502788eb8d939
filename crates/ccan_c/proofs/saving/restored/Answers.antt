use Rattle.std.proofs.Common.{subst, ◌≡◌}
use Rattle.std.specs.Prelude.{Result}
use Rattle.ccan_ram.specs.declared.port.PortName.TheVariants.{Bus, If1, If2}
use Rattle.ccan_endless.specs.ChipPort.{ChipPass}
use Rattle.ccan_registers.specs.declared.interface_set.InterfaceSet.{InterfaceSet}
use Rattle.ccan_registers.specs.ChipSteps.{ChipGoes}
use Rattle.ccan_registers.specs.declared.saved.not_restored.NotRestored.{NotRestored}
use Rattle.ccan_registers.specs.PutBack.{PutsBack}
use Rattle.ccan_c.specs.Chip.{AllOpen}
use Rattle.ccan_c.specs.Meeting.{HaveMet}
use Rattle.ccan_c.specs.Opening.{after_reset, begins_as}
use Rattle.ccan_c.specs.Saving.{IsRestored}
use Rattle.ccan_c.proofs.saving.restored.Goals as goal

pub returns-in-Some-clause-restored : goal.returns-in-Some-clause-restored
returns-in-Some-clause-restored c =
    let saved = c.args.saved.now in
    let opens = c.in-Ok.ensures in
    let words = c.in-Ok.ram.words in
    let put = c.put_back.new.port in
    let new = c.meet_ports.new in
    let as_if1 : c.in-Ok.if1 ≡ begins_as words If1 after_reset = λ i. record { pass = opens.if1 i; whole = opens.chip.0 i } in
    let as_if2 : c.in-Ok.if2 ≡ begins_as words If2 after_reset = λ i. record { pass = opens.if2 i; whole = opens.chip.1 i } in
    let as_bus : c.in-Ok.bus ≡ begins_as words Bus after_reset = λ i. record { pass = opens.bus i; whole = opens.chip.2 i } in
    record {
      memory = words;
      memory_is = opens.memory;
      put = put;
      goes =
          subst (λ (u : ChipPass × Result (Unit {0}) NotRestored).
          ChipGoes u.0 put (λ terms seen added. PutsBack terms saved seen added u.1))
          (λ i. (as_bus i, c.in_default-put_back.is i)) c.put_back.ensures.goes;
      if1 = new.if1;
      if2 = new.if2;
      bus = new.bus;
      met =
          subst (λ (u : ChipPass × ChipPass). HaveMet u.0 u.1 put new.if1 new.if2 new.bus) (λ i. (as_if1 i, as_if2 i))
          c.meet_ports.ensures;
      handles =
          subst (λ (own : InterfaceSet). AllOpen c.in-Some.chip (λ h k l. IsRestored new.if1 saved saved.if1 h
          × IsRestored new.if2 saved saved.if2 k × IsRestored new.bus saved own l)) c.reset.ensures c.in-Some.ensures;
    }
