-- Three threads on a chip of the library for C stand in the list of all schedules of their tables.
use Rattle.std.proofs.Common.{Bool, true, false, List, refl, sym, ap, subst}
use Rattle.ccan_object.specs.declared.profile.Profile.{Profile}
use Rattle.ccan_ram.specs.declared.port.PortName.{PortName}
use Rattle.ccan_ram.specs.declared.port.PortName.TheVariants.{Bus, If1, If2}
use Rattle.ccan_ram.specs.History.{IsLegal}
use Rattle.ccan_ram.specs.SharedRam.{terms_of}
use Rattle.ccan_ram.specs.Terms.{Terms}
use Rattle.ccan_endless.specs.Chip.{ChipHistory, ram_of}
use Rattle.ccan_endless.specs.Layout.{same_object}
use Rattle.ccan_c.specs.declared.shown_final.ShownFinal.{ShownFinal}
use Rattle.ccan_c.specs.HostCall.{code_got}
use Rattle.ccan_c.specs.Opening.{Set}
use Rattle.ccan_c.specs.Threads.{FitOneHistory, Part, Places, opened_with, opening_bus}
use Rattle.ccan_device.specs.declared.answer.ChipAnswer.{ChipAnswer}
use Rattle.ccan_calls.specs.HostAsk.{asked_by, place_of}
use Rattle.ccan_calls.specs.HostCallProcess.{host_process}
use Rattle.ccan_calls.specs.InTheList.{AreStepsOf, IsInTheList, MayBeOn, OnlyMeet, StandsInTheList, ThreadSteps, calls_of_bus, calls_of_if1, calls_of_if2, chip_after}
use Rattle.ccan_calls.specs.ThreadProcess.{asked, code_of_call, on_bus_process, place_of_call}
use Rattle.ccan_calls.proofs.ListWalk.{AreOn, acts_on, all_come}
use Rattle.ccan_calls.proofs.Placed.{IsLegalHere}
use Rattle.ccan_calls.proofs.ThreadsReport.{bus_calls_report, host_calls_report}
use Rattle.ccan_calls.proofs.ThreadsPlaced.{bus_through, if1_through, if2_through, in_history}

-- a chip on which these are the steps of the three
are_on : (profile : Profile) (set : Set) (parts : List Part) (steps : ThreadSteps) → AreStepsOf profile set parts steps
    → (refuses : Bool) → MayBeOn refuses parts → AreOn refuses steps.if1 × AreOn refuses steps.if2 × AreOn refuses steps.bus
are_on profile set parts steps asked true may = (tt, tt, tt)
are_on profile set parts steps asked false (if1, if2, bus) = (
  host_calls_report (terms_of same_object asked.memory If1) set.map (calls_of_if1 parts) set.opening.own steps.if1
      asked.if1_asks if1,
  host_calls_report (terms_of same_object asked.memory If2) set.map (calls_of_if2 parts) set.opening.own steps.if2
      asked.if2_asks if2,
  bus_calls_report (terms_of same_object asked.memory Bus) set.map set.nodes (calls_of_bus parts) (opening_bus set.nodes)
      steps.bus asked.bus_asks bus,
)

module _ (refuses : Bool) (eq : ChipAnswer → ChipAnswer → Bool) (profile : Profile) (set : Set) (parts : List Part) (out : ShownFinal)
    (h : FitOneHistory profile (opened_with set) parts out) (only : OnlyMeet parts) where
  abbrev its : PortName → Terms
  its port = terms_of same_object h.memory port

  abbrev base : ChipHistory
  base = set.opening.begun

  legal_here : (port : PortName) → IsLegalHere (its port) h.history
  legal_here port = record {
    ram = subst (λ p. IsLegal p (ram_of h.history)) (sym h.memory_is.profile_is) h.legal;
    controller = h.steps_legal;
  }

  pub stands : StandsInTheList (acts_on refuses) eq refuses profile set parts out
  stands =
      let (first, placed1) = in_history (its If1) set.tries (host_process (its If1) set.map) asked_by code_got place_of base
      set.opening.own (calls_of_if1 parts) h.first.if1 h.last.if1 h.history (legal_here If1) h.if1.begins h.if1.own
      (if1_through its set parts h.first h.last only h.means refl) (ap (λ (p : Places). p.if1.seen) h.begins)
      (ap (λ (p : Places). p.if1.state) h.begins) in
      let (second, placed2) = in_history (its If2) set.tries (host_process (its If2) set.map) asked_by code_got place_of base
      set.opening.own (calls_of_if2 parts) h.first.if2 h.last.if2 h.history (legal_here If2) h.if2.begins h.if2.own
      (if2_through its set parts h.first h.last only h.means refl) (ap (λ (p : Places). p.if2.seen) h.begins)
      (ap (λ (p : Places). p.if2.state) h.begins) in
      let (third, placed3) = in_history (its Bus) set.tries (on_bus_process (its Bus) set.map set.nodes) asked code_of_call
      place_of_call base (opening_bus set.nodes) (calls_of_bus parts) h.first.bus h.last.bus h.history (legal_here Bus)
      h.bus.begins h.bus.own
      (bus_through its set parts h.first h.last only h.means refl (ap (λ (p : Places). p.bus.state.past.choice) h.begins))
      (ap (λ (p : Places). p.bus.seen) h.begins) (ap (λ (p : Places). p.bus.state) h.begins) in
      let steps : ThreadSteps = record { if1 = first.steps; if2 = second.steps; bus = third.steps } in
      let asked : AreStepsOf profile set parts steps =
      record {
        memory = h.memory;
        memory_is = h.memory_is;
        if1_asks = record { answers = first.answers; left = h.last.if1.state; answered = first.answered; asks = first.asks };
        if2_asks = record { answers = second.answers; left = h.last.if2.state; answered = second.answered; asks = second.asks };
        bus_asks = record { answers = third.answers; left = h.last.bus.state; answered = third.answered; asks = third.asks };
      } in
      record {
        steps = steps;
        of_calls = asked;
        last = chip_after profile h.history;
        shows = record { objects = h.shows.objects; records = h.shows.records };
        in_list = λ may. let (on1, on2, on3) = are_on profile set parts steps asked refuses may in
            subst (λ p. IsInTheList (acts_on refuses) eq (chip_after p base) (chip_after p h.history) steps)
            h.memory_is.profile_is
            (λ if1 if2 bus place1 place2 place_bus by1 by2 by3.
            all_come h.memory base refuses eq if1 if2 bus h.history first.steps second.steps third.steps place1 place2 place_bus
            placed1 placed2 placed3 on1 on2 on3 by1 by2 by3);
      }
