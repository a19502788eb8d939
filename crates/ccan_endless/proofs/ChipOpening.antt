-- A history in which no port has done anything is empty. So the first step of a seat that holds all ports is the first event.
use Rattle.std.proofs.Common.{◌≡◌, ℕ, [], ◌∷◌, sym, refl, ap, ◌∙◌, subst, Some}
use Rattle.ccan_object.specs.declared.profile.Profile.{Profile}
use Rattle.ccan_confine.specs.declared.controller_change.ControllerChange.{ControllerChange}
use Rattle.ccan_confine.specs.Controller.{packed, new_controller}
use Rattle.ccan_ram.specs.declared.port.PortName.TheVariants.{If1, If2, Bus}
use Rattle.ccan_ram.specs.ByPort.{holding}
use Rattle.ccan_ram.specs.declared.port.PortName.{PortName}
use Rattle.ccan_ram.specs.History.{events_of}
use Rattle.ccan_ram.specs.Port.{same_port}
use Rattle.ccan_ram.proofs.Booleans.{chosen}
use Rattle.ccan_ram.proofs.Ports.{same_own}
use Rattle.ccan_endless.specs.declared.chip.ChipEvent.TheVariants.{OfRam, OfController}
use Rattle.ccan_endless.specs.declared.chip.ControllerStep.TheVariants.{Make}
use Rattle.ccan_endless.specs.Chip.{ChipHistory, ram_of, steps_of, controller_at, step_at}
use Rattle.ccan_endless.specs.ChipPort.{begun_by}
use Rattle.ccan_endless.specs.ChipRule.{ChipKnows, SetsController, SawAll, all_seen, chip_all_ports, ram_knows}
use Rattle.ccan_endless.specs.Seat.{SeatKnows, chip_me}
use Rattle.ccan_endless.specs.View.{all_ports, start}

pub nobody : (log : ChipHistory) → ((p : PortName) → steps_of p log ≡ []) → ((p : PortName) → events_of p (ram_of log) ≡ [])
    → log ≡ []
nobody [] steps events = refl
nobody (OfRam e ∷ h) steps events =
    let own : events_of e.port (e ∷ ram_of h) ≡ e ∷ events_of e.port (ram_of h) = chosen (same_port e.port e.port) _ _
    (same_own e.port) in
    let none = events e.port in
    let wrong : e ∷ events_of e.port (ram_of h) ≡ [] = sym own ∙ none in
    cc wrong
nobody (OfController e ∷ h) steps events =
    let own : steps_of e.port (OfController e ∷ h) ≡ e ∷ steps_of e.port h = chosen (same_port e.port e.port) _ _
    (same_own e.port) in
    let none = steps e.port in
    let wrong : e ∷ steps_of e.port h ≡ [] = sym own ∙ none in
    cc wrong

seen_nothing : (p : PortName) → holding p (all_seen []) ≡ Some []
seen_nothing If1 = refl
seen_nothing If2 = refl
seen_nothing Bus = refl

held_start : (quota : ℕ) (p : PortName) → holding p (all_ports quota) ≡ Some (start quota)
held_start quota If1 = refl
held_start quota If2 = refl
held_start quota Bus = refl

pub begun : (profile : Profile) (quota : ℕ) (z : ControllerChange) (seat to : SeatKnows) (found : ℕ)
    → seat.me ≡ (all_ports quota, [])
    → seat.chip ≡ all_seen [] → seat.told ≡ [] → SetsController profile Bus z new_controller (chip_me seat) found (chip_me to)
    → (to.me ≡ (all_ports quota, [])) × (to.chip ≡ all_seen (begun_by z))
begun profile quota z seat to found a b d told =
    let first : ChipKnows = (chip_all_ports quota, []) in
    let is : chip_me seat ≡ first = λ i. (record { ram = (a i).0; chip = b i; told = d i }, (a i).1) in
    let t = subst (λ (m : ChipKnows). SetsController profile Bus z new_controller m found (chip_me to)) is told in
    let none : t.log ≡ [] =
    nobody t.log (λ p. (t.finds.goes_on p [] (seen_nothing p)).own)
    (λ p. (t.finds.ram p (start quota) (held_start quota p)).own) in
    let hit = t.finds.found_is ∙ ap (λ (h : ChipHistory). packed (controller_at h)) none in
    let view = subst (λ (h : ChipHistory). SawAll (OfController (step_at Bus (Make z) new_controller) ∷ h) first
    (chip_me to)) none
    (t.done hit).1 in
    (ap ram_knows view, ap (λ (m : ChipKnows). m.0.chip) view)
