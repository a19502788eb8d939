-- What a port knows after a step at the controller.
use Rattle.std.proofs.Common.{◌≡◌, ◌∷◌, sym, refl, ap, ◌∙◌, subst, Some}
use Rattle.ccan_object.specs.declared.profile.Profile.{Profile}
use Rattle.ccan_confine.specs.declared.controller.Controller.{Controller}
use Rattle.ccan_ram.specs.declared.port.PortName.{PortName}
use Rattle.ccan_ram.specs.ByPort.{holding, held_as}
use Rattle.ccan_ram.specs.History.{BeginsWith, History, events_of}
use Rattle.ccan_ram.specs.SharedRam.{Memory}
use Rattle.ccan_ram.proofs.Holding.{holding-each_as}
use Rattle.ccan_ram.proofs.Counting.{changes_by_own}
use Rattle.ccan_endless.specs.declared.chip.ChipEvent.TheVariants.{OfController}
use Rattle.ccan_endless.specs.declared.chip.ControllerStep.{ControllerStep}
use Rattle.ccan_endless.specs.declared.port.Port.TheInside.{Inside}
use Rattle.ccan_endless.specs.declared.view.PortView.{PortView}
use Rattle.ccan_endless.specs.View.{see}
use Rattle.ccan_endless.specs.Plays.{GoesOn}
use Rattle.ccan_endless.specs.Version.{IsSeatOf}
use Rattle.ccan_endless.specs.Chip.{ChipHistory, GoesFrom, ram_of, steps_of, IsControllerStep, step_at}
use Rattle.ccan_endless.specs.ChipRule.{ChipKnows, ram_knows, SawAll, ChipGoesOn}
use Rattle.ccan_endless.specs.ChipPort.{ChipPass, whole_in, SeesOne, AddsController, AddsNone, AddsNoEvent}
use Rattle.ccan_endless.specs.Seat.{IsSeated, chip_me}
use Rattle.ccan_endless.proofs.Seats.{only_sees, only_seen, only_holds}
use Rattle.ccan_endless.proofs.Tables.{memory_is}
use Rattle.ccan_endless.proofs.Ports.{WordSeat, pass, chip_pass, pass_is, IsPortOf, with_seat, part, kept, same_port_as, seen_within}
use Rattle.ccan_endless.proofs.ChipPorts.{sees_one}

module _ (s : Inside) (i : IsPortOf s) {was : ChipPass} (is_was : chip_pass s ≡ was) {memory : Memory}
    (of_memory : was.pass.memory ≡ memory) (to : WordSeat) (table : to.table_id ≡ s.seat.table_id)
    (seated : IsSeated (chip_me to).0) (h : ChipHistory)
    (had : holding s.name s.seat.chip ≡ Some h) (log log' : ChipHistory) (same : ram_of log' ≡ ram_of log)
    (ram : (p : PortName) (x : PortView) → holding p s.seat.me.0 ≡ Some x → GoesOn memory.profile p x (ram_of log))
    (goes : ChipGoesOn s.name h log) (view : SawAll log' (chip_me s.seat) (chip_me to)) where
  on : GoesOn s.key.profile s.name i.held (ram_of log')
  on =
      let here : memory.profile ≡ s.key.profile =
      ap (λ (m : Memory). m.profile) (sym (memory_is (pass_is is_was) of_memory)) in
      let o = ram s.name i.held (only_holds s.name i.held s.seat.me i.view) in
      subst (λ (u : Profile × History). GoesOn u.0 s.name i.held u.1) (λ j. (here j, sym same j)) o

  view_is : IsSeatOf s.name (see (ram_of log') i.held) to.me
  view_is = only_sees s.name i.held (ram_of log') s.seat.me to.me i.view (ap ram_knows view)

  -- the port is one still
  pub stepped_after : IsPortOf (with_seat s to)
  stepped_after =
      kept s i to (see (ram_of log') i.held) seated view_is refl on.sound
      (changes_by_own s.name (ram_of log') i.held.seen on.own)

  abbrev new : ChipPass
  new = chip_pass (with_seat s to)

  old_whole : (chip_pass s).whole ≡ h
  old_whole = ap whole_in had

  pub new_whole : new.whole ≡ log'
  new_whole =
      ap (λ (m : ChipKnows). whole_in (holding s.name m.0.chip)) view
      ∙ ap whole_in (holding-each_as (λ old. log') s.name s.seat.chip ∙ ap (held_as (λ (old : ChipHistory). log')) had)

  from : SeesOne (record { pass = pass s; whole = h })
  from = subst (λ (w : ChipHistory). SeesOne (record { pass = pass s; whole = w })) old_whole (sees_one s i)

  to_one : SeesOne new
  to_one = sees_one (with_seat s to) stepped_after

  -- which saw of the message RAM what others did
  pub adds_no_event : AddsNoEvent was new
  adds_no_event =
      let p = part s i (ram_of log') on in
      let seen = sym (only_seen s.name (see (ram_of log') i.held) to.me view_is) in
      subst (λ (q : ChipPass). AddsNoEvent q new) is_was
      (record {
        part = subst (λ (r : History). BeginsWith r (pass s).seen) seen p.begins;
        own = subst (λ (r : History). events_of s.name r ≡ events_of s.name (pass s).seen) seen p.own;
        sees = seen_within (with_seat s to) stepped_after;
      })

  pub adds_step : (step : ControllerStep) (before : Controller) → log' ≡ OfController (step_at s.name step before) ∷ log
      → IsControllerStep (step_at s.name step before) log → AddsController was new step before
  adds_step step before is stands =
      subst (λ (q : ChipPass). AddsController q new step before) is_was
      (subst (λ (w : ChipHistory). AddsController (record { pass = pass s; whole = w }) new step before) (sym old_whole)
      (record {
        same = same_port_as s i to table;
        from = from;
        to = to_one;
        log = log;
        part = goes.part;
        own = goes.own;
        whole = new_whole ∙ is;
        stands = stands;
      }))

  pub adds_none : log' ≡ log → AddsNone was new
  adds_none is =
      subst (λ (q : ChipPass). AddsNone q new) is_was
      (subst (λ (w : ChipHistory). AddsNone (record { pass = pass s; whole = w }) new) (sym old_whole)
      (record {
        same = same_port_as s i to table;
        from = from;
        to = to_one;
        part = subst (λ (g : ChipHistory). GoesFrom g h) (sym (new_whole ∙ is)) goes.part;
        own = subst (λ (g : ChipHistory). steps_of s.name g ≡ steps_of s.name h) (sym (new_whole ∙ is)) goes.own;
      }))
