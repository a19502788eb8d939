-- What a round that finds a controller is to its registers: a load changes nothing of them, and then the decision tells.
use Rattle.std.proofs.Common.{ℕ, ◌≡◌, Bool, true, false, ◌&&◌, not, List, refl, sym, ap, subst, ◌∙◌, inl, inr, ◌++◌, arith}
use Rattle.std.specs.Prelude.{Option, Some, None, nat_le}
use Rattle.std.proofs.lemmas.Bool.Decides.{nat_tests}
use Rattle.ccan_object.specs.declared.record.Record.{Record}
use Rattle.ccan_confine.specs.declared.bus_event.BusEvent.{BusEvent}
use Rattle.ccan_confine.specs.declared.controller.Controller.{Controller}
use Rattle.ccan_confine.specs.declared.status_event.StatusEvent.{StatusEvent}
use Rattle.ccan_confine.specs.Counters.{AreAfter, NodeEvent, faults_to_off, is_off, levels_after_all}
use Rattle.ccan_confine.specs.Status.{lec_of}
use Rattle.ccan_confine.proofs.Calls.{listed_levels}
use Rattle.ccan_confine.proofs.Steps.{counts-off}
use Rattle.ccan_ram.specs.declared.event.Event.{Event}
use Rattle.ccan_ram.specs.Terms.{Terms}
use Rattle.ccan_bus.specs.declared.answer.LoadAnswer.{LoadAnswer}
use Rattle.ccan_bus.specs.declared.answer.LoadAnswer.TheVariants as load
use Rattle.ccan_bus.specs.declared.answer.RoundAnswer.{RoundAnswer}
use Rattle.ccan_bus.specs.declared.decision.Decision.{Decision}
use Rattle.ccan_bus.specs.declared.round_end.RoundEnd.{RoundEnd}
use Rattle.ccan_bus.specs.declared.round_line.RoundLine.{RoundLine}
use Rattle.ccan_bus.specs.declared.round_report.RoundReport.{RoundReport}
use Rattle.ccan_bus.specs.Controller.{WasTo, events_with, with_controller}
use Rattle.ccan_bus.specs.Load.{Loads}
use Rattle.ccan_bus.specs.Past.{BusPast, hears_itself, is_on}
use Rattle.ccan_bus.specs.Round.{refusal_of_round}
use Rattle.ccan_bus.specs.RoundReport.{RunsOn, RunsSteps}
use Rattle.ccan_chip.specs.Arrival.{may_take_part, takes_part}
use Rattle.ccan_chip.specs.Round.{as_found, loops_back, own_in}
use Rattle.ccan_chip.proofs.Owns.{decides_off, decides_on, stays}

-- the past is as it was but for what is loaded
abbrev pub OnlyLoads : BusPast → BusPast → Type 0
OnlyLoads past after = (loaded : Option (ℕ × Record)) × (after ≡ record past { loaded = loaded })

module _ (terms : Terms) (tries : ℕ) (seen added : List Event) (past after : BusPast) where
  only_loads : (loading : LoadAnswer) → Loads terms tries seen added past after loading → OnlyLoads past after
  only_loads (load.Loaded object started) h = (Some (object, started), h.now_loaded)
  only_loads (load.Held object) h = (past.loaded, h.same)
  only_loads load.Nothing (inl h) = (past.loaded, h.same)
  only_loads load.Nothing (inr h) = (past.loaded, h.same)
  only_loads (load.Busy object) h = (past.loaded, h.2.same)
  only_loads (load.Spent object) h = (past.loaded, h.same)

still_on : (past : BusPast) (loaded : Option (ℕ × Record)) → is_on (record past { loaded = loaded }) 0 ≡ is_on past 0
unfolding is_on
still_on past loaded = refl

module _ (terms : Terms) (line : RoundLine) (tries : ℕ) (seen added : List Event) (past after : BusPast) (lec : ℕ)
    (left : lec ≡ lec_of after.steps) where
  runs_on : (refusal : Option RoundAnswer) (decided : Option Decision) (end : RoundEnd)
      → RunsOn refusal terms line tries seen added past after decided end
      → (on : Bool) → is_on past 0 ≡ on → WasTo (own_in on decided lec) past after
  runs_on (Some refusal) None end h on is = stays past after h.same
  runs_on (Some refusal) (Some decided) end h on is = absurd h
  runs_on None None end h on is = absurd h
  runs_on None (Some decided) end h true is = decides_on line past after lec left (hears_itself past) is decided h.0
  runs_on None (Some decided) end h false is =
      decides_off line past after past.loops_back (is_on past 0) is is decided h.0

-- what is loaded has no part in it
still_to : (own : Option (BusEvent × StatusEvent)) (past after : BusPast) (loaded : Option (ℕ × Record))
    → WasTo own (record past { loaded = loaded }) after → WasTo own past after
still_to None past after loaded h = h
still_to (Some own) past after loaded h = h

-- a round is to the controller what its decision is
pub runs_to : (terms : Terms) (line : RoundLine) (tries : ℕ) (seen added : List Event) (past after : BusPast)
    (report : RoundReport) (lec : ℕ) → lec ≡ lec_of after.steps
    → RunsSteps terms line tries seen added past after report
    → (on : Bool) → is_on past 0 ≡ on → WasTo (own_in on report.decision lec) past after
runs_to terms line tries seen added past after report lec left runs on is =
    let loads = only_loads terms tries seen runs.first past runs.between report.loading runs.loads in
    let there : is_on runs.between 0 ≡ on = ap (λ p. is_on p 0) loads.1 ∙ (still_on past loads.0 ∙ is) in
    let told = runs_on terms line tries (runs.first ++ seen) runs.last runs.between after lec left
    (refusal_of_round report.loading) report.decision report.end runs.runs on there in
    still_to (own_in on report.decision lec) past after loads.0
    (subst (λ p. WasTo (own_in on report.decision lec) p after) loads.1 told)

off_levels : is_off (levels_after_all true faults_to_off) ≡ true
off_levels = ap is_off (sym (listed_levels true faults_to_off _ counts-off))

on_by : (events : List NodeEvent) (loops off : Bool) (past : BusPast) → is_off (levels_after_all true events) ≡ off
    → is_on (with_controller events loops past) 0 ≡ not off
unfolding is_on events_with
on_by events loops off past is = let there : nat_le 0 past.others ≡ true = grind (arith, nat_tests) in rw there (ap not is)

first : (a b : Bool) → (a && b) ≡ true → a ≡ true
first true b h = refl
first false b h = absurd cc

second : (a b : Bool) → (a && b) ≡ true → b ≡ true
second true b h = h
second false b h = absurd cc

not_off : (b : Bool) → not b ≡ true → b ≡ false
not_off true h = absurd cc
not_off false h = refl

found_by : (c : Controller) (events : List NodeEvent) (past : BusPast) → AreAfter true events c.counters
    → (takes : Bool) → takes_part c ≡ takes → is_on (as_found c events past) 0 ≡ takes
found_by c events past after true is =
    let off : is_off (levels_after_all true events) ≡ false =
    ap is_off (sym (listed_levels true events c.counters after))
    ∙ not_off _ (second (not c.control.init) _ (first (may_take_part c) _ is)) in
    rw is (on_by events (loops_back c) false past off)
found_by c events past after false is =
    rw is (still_on (with_controller faults_to_off false past) None ∙ on_by faults_to_off false true past off_levels)

-- the controller is on in the round just where it takes part
pub found_on : (c : Controller) (events : List NodeEvent) (past : BusPast) → AreAfter true events c.counters
    → is_on (as_found c events past) 0 ≡ takes_part c
found_on c events past after = found_by c events past after (takes_part c) refl
