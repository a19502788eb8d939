-- The end of a chip. The rule still holds, so there is one history of the chip of which each port has seen a part. The words of
-- the objects are those of the records that it leaves (`LastWords`), and the controller's word is that of its controller.
use Rattle.std.proofs.Common.{◌≡◌, ℕ, List, sym, refl, ap, ◌∙◌, subst, get_or, Some, None}
use mathlib.Core.Option.{some}
use lib.ListN.{get_elem?}
use Rattle.ccan_object.specs.declared.profile.Profile.{Profile}
use Rattle.ccan_confine.specs.declared.controller.Controller.{Controller}
use Rattle.ccan_confine.specs.Controller.{packed, IsController}
use Rattle.ccan_ram.specs.declared.by_port.ByPort.{ByPort}
use Rattle.ccan_ram.specs.declared.port.PortName.{PortName}
use Rattle.ccan_ram.specs.declared.port.PortName.TheVariants.{If1, If2, Bus}
use Rattle.ccan_ram.specs.ByPort.{only, together}
use Rattle.ccan_ram.specs.History.{History, IsLegal, BeginsWith, events_of}
use Rattle.ccan_ram.specs.Ending.{Ends, final_records}
use Rattle.ccan_endless.specs.declared.final_chip.FinalChip.{FinalChip}
use Rattle.ccan_endless.specs.declared.view.PortView.{PortView}
use Rattle.ccan_endless.specs.declared.view.ChipView.{ChipView}
use Rattle.ccan_endless.specs.Layout.{controller_cell}
use Rattle.ccan_endless.specs.Rule.{Settles}
use Rattle.ccan_endless.specs.Ending.{LeaveRecords}
use Rattle.ccan_endless.specs.Chip.{ChipHistory, GoesFrom, ram_of, controller_at, steps_of}
use Rattle.ccan_endless.specs.ChipPort.{ChipPass}
use Rattle.ccan_endless.specs.ChipRule.{ChipKeeps, IsBeginning, ram_state, ram_view}
use Rattle.ccan_endless.specs.ChipEnding.{IsChipPart, ChipEnds}
use Rattle.ccan_endless.proofs.LastWords.{HasSeen, part_at, settled, three_held}
use Rattle.ccan_endless.proofs.Lifting.{ChipState, map_at}
use Rattle.ccan_endless.proofs.ControllerSteps.{controller_is}

abbrev pub three_wholes : ChipHistory → ChipHistory → ChipHistory → ByPort ChipHistory
three_wholes a b c = record { if1 = Some a; if2 = Some b; bus = Some c }

-- three ports in one seat
pub three_chips : (ca cb cc c1 c2 : ByPort ChipHistory) (a b c : ChipHistory) → ca ≡ only If1 (Some a) → cb ≡ only If2 (Some b)
    → cc ≡ only Bus (Some c) → c1 ≡ together ca cb → c2 ≡ together c1 cc → c2 ≡ three_wholes a b c
three_chips ca cb cc c1 c2 a b c va vb vc e f =
    let first : c1 ≡ record { if1 = Some a; if2 = Some b; bus = None } = e ∙ (λ i. together (va i) (vb i)) in
    f ∙ (λ i. together (first i) (vc i))

part_of : (p : PortName) (x : PortView) (h : ChipHistory) (port : ChipPass) (log : ChipHistory) → HasSeen p x port.pass
    → h ≡ port.whole
    → IsBeginning log p h → BeginsWith (ram_of log) x.seen → events_of p (ram_of log) ≡ events_of p x.seen → IsChipPart port log
part_of p x h port log seen is b begins own = record {
  begins = subst (GoesFrom log) is b.part;
  steps =
      subst (λ (u : PortName × ChipHistory). steps_of u.0 log ≡ steps_of u.0 u.1) (λ i. (sym seen.port_is i, is i)) b.own;
  ram = part_at p x port.pass (ram_of log) seen begins own;
}

-- what is known of a port at the end
pub record Closes (p : PortName) (x : PortView) (h : ChipHistory) (port : ChipPass) : Type 0 where
  pub seen : HasSeen p x port.pass
  pub whole_is : h ≡ port.whole

module _ (profile : Profile) (s : ChipState) (c : ChipKeeps profile s) (ws : List ℕ) (id : ℕ) (v : ChipView)
    (at : get_elem? s.views id ≡ some v) (same : s.words ≡ ws) (xa xb xd : PortView) (ha hb hd : ChipHistory)
    (ram_is : v.ram ≡ three_held xa xb xd) (chip_is : v.chip ≡ three_wholes ha hb hd) where
  abbrev w : ChipView
  w = record { ram = three_held xa xb xd; chip = three_wholes ha hb hd; told = v.told }

  here : get_elem? s.views id ≡ some w
  here = subst (λ (u : ChipView). get_elem? s.views id ≡ some u) (λ i. record { ram = ram_is i; chip = chip_is i; told = v.told }) at

  -- one more of the three
  closes_if1 : (port : ChipPass) → Closes If1 xa ha port → IsChipPart port c.log
  closes_if1 port k =
      let f = c.ram.seats id If1 w.ram xa (map_at ram_view s.views id w here) refl in
      part_of If1 xa ha port c.log k.seen k.whole_is (c.seats id If1 w ha here refl)
      (subst (λ (h : History). BeginsWith h xa.seen) c.same f.part)
      (subst (λ (h : History). events_of If1 h ≡ events_of If1 xa.seen) c.same f.own)

  closes_if2 : (port : ChipPass) → Closes If2 xb hb port → IsChipPart port c.log
  closes_if2 port k =
      let f = c.ram.seats id If2 w.ram xb (map_at ram_view s.views id w here) refl in
      part_of If2 xb hb port c.log k.seen k.whole_is (c.seats id If2 w hb here refl)
      (subst (λ (h : History). BeginsWith h xb.seen) c.same f.part)
      (subst (λ (h : History). events_of If2 h ≡ events_of If2 xb.seen) c.same f.own)

  closes_bus : (port : ChipPass) → Closes Bus xd hd port → IsChipPart port c.log
  closes_bus port k =
      let f = c.ram.seats id Bus w.ram xd (map_at ram_view s.views id w here) refl in
      part_of Bus xd hd port c.log k.seen k.whole_is (c.seats id Bus w hd here refl)
      (subst (λ (h : History). BeginsWith h xd.seen) c.same f.part)
      (subst (λ (h : History). events_of Bus h ≡ events_of Bus xd.seen) c.same f.own)

  pub chip_ended : (a b d : ChipPass) (final : FinalChip) → Closes If1 xa ha a → Closes If2 xb hb b → Closes Bus xd hd d
      → final.memory.profile ≡ profile → final.memory.profile ≡ a.pass.memory.profile
      → LeaveRecords profile ws final.memory.records
      → ((k : Controller) → IsController k → packed k ≡ get_or ws controller_cell 0 → final.controller ≡ k)
      → ChipEnds a b d final
  chip_ended a b d final ka kb kd whole own value unpacks =
      let left : final.memory.records ≡ final_records profile c.ram.log =
      value c.ram.log (subst (λ (l : List ℕ). Settles profile l c.ram.log) same (settled profile (ram_state s) c.ram)) in
      let good = controller_is c.log c.legal in
      let now : final.controller ≡ controller_at c.log =
      unpacks (controller_at c.log) good (sym c.word ∙ ap (λ (l : List ℕ). get_or l controller_cell 0) same) in
      record {
        profile_is = own;
        history = c.log;
        legal = subst (λ (u : Profile × History). IsLegal u.0 u.1) (λ i. (sym whole i, c.same i)) c.ram.sound.legal;
        steps_legal = c.legal;
        part_if1 = closes_if1 a ka;
        part_if2 = closes_if2 b kb;
        part_bus = closes_bus d kd;
        left = left ∙ (λ i. final_records (sym whole i) (c.same i));
        controller_is = now;
        is = subst IsController (sym now) good;
      }

-- the message RAM's part of it
pub ends_of : (a b d : ChipPass) (final : FinalChip) → ChipEnds a b d final → Ends a.pass b.pass d.pass final.memory
ends_of a b d final e = record {
  profile_is = e.profile_is;
  history = ram_of e.history;
  legal = e.legal;
  part_if1 = e.part_if1.ram;
  part_if2 = e.part_if2.ram;
  part_bus = e.part_bus.ram;
  left = e.left;
}
