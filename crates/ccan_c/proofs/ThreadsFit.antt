-- A chip from its opening to its end: the history with which it ends is one that the calls on its handles fit.
use Rattle.std.proofs.Common.{◌≡◌, ℕ, List, [], ◌∷◌, ◌++◌, Some, map, refl, sym, ap, ap₂, subst, ◌∙◌}
use Rattle.std.proofs.Common.{arith}
use Rattle.std.specs.Prelude.{Result, Ok, Err}
use Rattle.std.specs.declared.option.Option.{Option}
use Rattle.ccan_object.specs.declared.profile.Profile.{Profile}
use Rattle.ccan_object.specs.Profile.{objects_in}
use Rattle.ccan_ram.specs.declared.port.PortName.{PortName}
use Rattle.ccan_ram.specs.declared.port.PortName.TheVariants.{If1, If2, Bus}
use Rattle.ccan_ram.specs.Ending.{final_records}
use Rattle.ccan_ram.specs.History.{IsLegal, events_of}
use Rattle.ccan_ram.specs.SharedRam.{IsSamePort, Memory, IsMemoryOf, terms_of}
use Rattle.ccan_ram.specs.Terms.{Terms}
use Rattle.ccan_endless.specs.declared.final_chip.FinalChip.{FinalChip}
use Rattle.ccan_endless.specs.Chip.{ChipHistory, ram_of, steps_of}
use Rattle.ccan_endless.specs.ChipEnding.{ChipEnds, IsChipPart}
use Rattle.ccan_endless.specs.ChipPort.{ChipPass, reset_history}
use Rattle.ccan_endless.specs.Layout.{most, same_object}
use Rattle.ccan_registers.specs.declared.access_error.AccessError.{AccessError}
use Rattle.ccan_registers.specs.declared.interface_set.InterfaceSet.{InterfaceSet}
use Rattle.ccan_registers.specs.ChipSteps.{SeesChip, terms_at}
use Rattle.ccan_registers.specs.InterfaceSet.{reset_set}
use Rattle.ccan_chip.specs.declared.map.Map.{Map}
use Rattle.ccan_registers.specs.Dcan.{reset_of}
use Rattle.ccan_registers.specs.Resetting.{ResetsChip}
use Rattle.ccan_registers.specs.declared.saved.chip.Saved.{Saved}
use Rattle.ccan_registers.specs.Format.{text_of}
use Rattle.ccan_registers.specs.Looks.{LooksAtAll}
use Rattle.ccan_registers.proofs.Histories.{no_events, no_steps}
use Rattle.ccan_c.specs.declared.chip.Chip.{Chip}
use Rattle.ccan_c.specs.declared.held.Held.{Held}
use Rattle.ccan_c.specs.declared.shown_final.ShownFinal.{ShownFinal}
use Rattle.ccan_c.specs.Bus.{held_on}
use Rattle.ccan_c.specs.FrameCall.{BusState, CallOnBus, CallOnBusDoes, CallOnBusMeans}
use Rattle.ccan_c.specs.Chip.{AllOpen, EndsWith, Opens}
use Rattle.ccan_c.specs.Held.{IsHolding, WorksAsBefore, pass_of, port_of}
use Rattle.ccan_c.specs.Host.{held_by}
use Rattle.ccan_c.specs.HostCall.{HostCall, HostCallDoes, HostCallMeans, code_of_access}
use Rattle.ccan_c.specs.Meeting.{HasMet, HaveMet, MeetHeld}
use Rattle.ccan_c.specs.Opening.{Set, after_reset, begins_as}
use Rattle.ccan_c.specs.Record.{IsFinal, c_record}
use Rattle.ccan_c.specs.Resetting.{IsReset, ResetsHeld, ResetsMet}
use Rattle.ccan_c.specs.Saving.{IsSavedOf, RestoresAs, SavesHeld}
use Rattle.ccan_c.specs.Step.{Place, CallsMean, Leads, own_of}
use Rattle.ccan_c.specs.Steps.{Steps}
use Rattle.ccan_c.specs.Threads.{Beginning, opened_with, restored_as, set_of, Begins, BeginsAt}
use Rattle.ccan_c.specs.Threads.{Part, at_once, meeting, saving, resetting, PartDoes, PartsDo, Places, PartMeans, PartsMean}
use Rattle.ccan_c.specs.Threads.{MeetsAll, HaveMetAll, ResetsAll, SavesAll, bus_unloaded, opening_bus}
use Rattle.ccan_c.specs.Threads.{IsPartOf, FitOneHistory, CallsFitOneHistory}
use Rattle.ccan_c.proofs.OwnEvents.{none_own, own_of-append}
use Rattle.ccan_c.proofs.Steps.{IsAt, HasBus, HasSet, bus_step, host_step, reached, still_on}

-- an open handle stands for one thing
same_open : (o : Option Held) (h k : Held) → o ≡ Some h → o ≡ Some k → h ≡ k
same_open o h k e f = cc

-- where the handle of a host stands
abbrev pub place : Held → Place InterfaceSet
place held = record { state = held.own; seen = (port_of held).whole }

abbrev pub bus_place : BusState → Held → Place BusState
bus_place past held = record { state = past; seen = (port_of held).whole }

abbrev pub all_places : Held → Held → Held → BusState → Places
all_places first second third past = record { if1 = place first; if2 = place second; bus = bus_place past third }

-- where they stand by what their ports have seen
abbrev pub places_of : InterfaceSet → InterfaceSet → BusState → ChipPass → ChipPass → ChipPass → Places
places_of first second past a b d =
    record {
      if1 = record { state = first; seen = a.whole };
      if2 = record { state = second; seen = b.whole };
      bus = record { state = past; seen = d.whole };
    }

-- the code of a change that was made or not
abbrev code_told : Result (Unit {0}) AccessError → ℕ
code_told told = code_of_access (Some told)

same_itself : (port : ChipPass) → IsSamePort port.pass port.pass
same_itself port = record { memory = refl; port = refl }

-- a handle that holds a port of this memory with what the chip was opened with
at_holding : (memory : Memory) (port : PortName) (set : Set) (from : ChipPass) (own : InterfaceSet) (held : Held)
    → from.pass.memory ≡ memory → from.pass.port ≡ port → IsHolding from set.nodes set.tries set.map own held
    → IsAt memory port set held
at_holding memory port set from own held same name h = record {
  memory_is = ap (λ (p : ChipPass). p.pass.memory) h.port_is ∙ same;
  port_is = ap (λ (p : ChipPass). p.pass.port) h.port_is ∙ name;
  nodes_are = h.nodes_are;
  tries_are = h.tries_are;
  map_is = h.map_is;
  sees = h.sees;
}

-- the first event of a chip that opens as after a reset is legal
sees_reset : (memory : Memory) → SeesChip (begins_as memory Bus after_reset)
sees_reset memory = record {
  one = record {
    ram = refl;
    legal = (
      record {
        before = refl;
        after = refl;
        stands = record { can = tt; own = λ h. refl };
        is = record {
          host = refl;
          tec = omega arith;
          rec = omega arith;
          groups = omega arith;
          lec = omega arith;
          register = omega arith;
          extension = omega arith;
          out = λ on. refl;
        };
      },
      tt,
    );
  };
  sees = record { legal = tt; within = λ port. omega arith };
}

module _ (memory : Memory) (set : Set) where
  abbrev pub terms : PortName → Terms
  terms port = terms_of same_object memory port

  -- the three handles are open, each in its place
  pub record ChipAt (chip : Chip) : Type 0 where
    pub first : Held
    pub second : Held
    pub third : Held
    pub if1_open : held_by chip.if1 ≡ Some first
    pub if2_open : held_by chip.if2 ≡ Some second
    pub bus_open : held_on chip.bus ≡ Some third
    pub if1_at : IsAt memory If1 set first
    pub if2_at : IsAt memory If2 set second
    pub bus_at : IsAt memory Bus set third
    pub past : BusState
    pub led : HasBus past third

  abbrev pub places : {chip : Chip} → ChipAt chip → Places
  places c = all_places c.first c.second c.third c.past

  -- an open handle stands for one thing
  all_open_are : (what : Held → Held → Held → Type 0) (chip : Chip) (c : ChipAt chip) → AllOpen chip what
      → what c.first c.second c.third
  all_open_are what chip c (h, k, l, e, f, g, w) =
      subst (λ (x : Held). what x c.second c.third) (same_open _ _ _ e c.if1_open)
      (subst (λ (x : Held). what h x c.third) (same_open _ _ _ f c.if2_open)
      (subst (λ (x : Held). what h k x) (same_open _ _ _ g c.bus_open) w))

  terms_are : (port : PortName) (held : Held) → IsAt memory port set held → terms_at (port_of held) ≡ terms port
  terms_are port held at = ap₂ (λ (m : Memory) (p : PortName). terms_of same_object m p) at.memory_is at.port_is

  -- ---- calls

  host_calls : (port : PortName) (calls : List HostCall) (held : Held) (before after : Option Held)
      → IsAt memory port set held → before ≡ Some held → Leads HostCallDoes calls before after
      → (new : Held) × (after ≡ Some new) × IsAt memory port set new
      × CallsMean (HostCallMeans (terms port) set.tries set.map) calls (place held) (place new)
  host_calls port calls held before after at is leads =
      let r = reached HasSet HostCallDoes (λ t n m l. HostCallMeans t n l) host_step memory port set calls held after
      held.own at refl
      (subst (λ (o : Option Held). Leads HostCallDoes calls o after) is leads) in (
        r.new,
        r.is_open,
        r.at,
        subst (λ (s : InterfaceSet). CallsMean (HostCallMeans (terms port) set.tries set.map) calls (place held)
            (record { state = s; seen = (port_of r.new).whole })) r.leads r.mean_all,
      )

  bus_calls : (calls : List CallOnBus) (held : Held) (past : BusState) (before after : Option Held)
      → IsAt memory Bus set held → HasBus past held → before ≡ Some held → Leads CallOnBusDoes calls before after
      → (new : Held) × (left : BusState) × (after ≡ Some new) × IsAt memory Bus set new × HasBus left new
      × CallsMean (CallOnBusMeans (terms Bus) set.tries set.nodes set.map) calls (bus_place past held) (bus_place left new)
  bus_calls calls held past before after at led is leads =
      let r = reached HasBus CallOnBusDoes CallOnBusMeans bus_step memory Bus set calls held after past at led
      (subst (λ (o : Option Held). Leads CallOnBusDoes calls o after) is leads) in
      (r.new, r.left, r.is_open, r.at, r.leads, r.mean_all)

  -- ---- meetings

  -- a handle whose port, as it is now, meets the others
  at_meeting : (port : PortName) (a b d from : ChipPass) (old new : Held) → IsAt memory port set old
      → IsSamePort (pass_of old) from.pass → WorksAsBefore old new → HasMet a b d from (port_of new)
      → IsAt memory port set new
  at_meeting port a b d from old new at same works met = record {
    memory_is = met.same.memory ∙ (same.memory ∙ at.memory_is);
    port_is = met.same.port ∙ (same.port ∙ at.port_is);
    nodes_are = works.nodes ∙ at.nodes_are;
    tries_are = works.tries ∙ at.tries_are;
    map_is = works.map ∙ at.map_is;
    sees = met.sees;
  }

  meets : {State : Type 0} (port : PortName) (first second : InterfaceSet) (past : BusState) (a b d from to : ChipPass)
      (before after : State) → from.pass.port ≡ port → after ≡ before → HasMet a b d from to
      → MeetsAll port (places_of first second past a b d)
      (record { state = before; seen = from.whole }) (record { state = after; seen = to.whole })
  meets port first second past a b d from to before after name keeps met = record {
    keeps = keeps;
    begins_if1 = met.begins_if1;
    begins_if2 = met.begins_if2;
    begins_bus = met.begins_bus;
    own = subst (λ (p : PortName). own_of p to.whole ≡ own_of p from.whole) name met.own;
  }

  -- the ports of the three handles have met, whatever the handles' registers were before
  have_met_all : (first second : InterfaceSet) (past : BusState) (a b d : ChipPass) (h k l : Held)
      → a.pass.port ≡ If1 → b.pass.port ≡ If2 → d.pass.port ≡ Bus → h.own ≡ first → k.own ≡ second
      → HaveMet a b d (port_of h) (port_of k) (port_of l)
      → HaveMetAll (places_of first second past a b d) (all_places h k l past)
  have_met_all first second past a b d h k l if1 if2 bus own own' met = record {
    if1_meets = meets If1 first second past a b d a (port_of h) first h.own if1 own met.if1_met;
    if2_meets = meets If2 first second past a b d b (port_of k) second k.own if2 own' met.if2_met;
    bus_meets = meets Bus first second past a b d d (port_of l) past past bus refl met.bus_met;
  }

  -- ---- calls that take the whole chip

  -- three handles, each in its place
  record ThreeAt (first second third : Held) (past : BusState) : Type 0 where
    if1_at : IsAt memory If1 set first
    if2_at : IsAt memory If2 set second
    bus_at : IsAt memory Bus set third
    led : HasBus past third

  -- the three have met
  met_at : (h k l h' k' l' : Held) (past : BusState) → ThreeAt h k l past → MeetHeld h k l h' k' l'
      → ThreeAt h' k' l' past × HaveMetAll (all_places h k l past) (all_places h' k' l' past)
  met_at h k l h' k' l' past t meet =
      let ports = meet.ports in (
        record {
          if1_at = at_meeting If1 _ _ _ (port_of h) h h' t.if1_at (same_itself (port_of h)) meet.keeps_if1.works ports.if1_met;
          if2_at = at_meeting If2 _ _ _ (port_of k) k k' t.if2_at (same_itself (port_of k)) meet.keeps_if2.works ports.if2_met;
          bus_at = at_meeting Bus _ _ _ (port_of l) l l' t.bus_at (same_itself (port_of l)) meet.keeps_bus.works ports.bus_met;
          led = still_on past l l' meet.keeps_bus t.led;
        },
        have_met_all h.own k.own past (port_of h) (port_of k) (port_of l) h' k' l' t.if1_at.port_is t.if2_at.port_is
            t.bus_at.port_is meet.keeps_if1.own meet.keeps_if2.own ports,
      )

  -- the bus's port has made steps, and all else stays
  module _ (what : Terms → ChipHistory → ChipHistory → Type 0) (old new : Held) (at : IsAt memory Bus set old)
      (steps : Steps what old new) where
    stepped_at : IsAt memory Bus set new
    stepped_at = record {
      memory_is = steps.goes.same.memory ∙ at.memory_is;
      port_is = steps.goes.same.port ∙ at.port_is;
      nodes_are = steps.kept.works.nodes ∙ at.nodes_are;
      tries_are = steps.kept.works.tries ∙ at.tries_are;
      map_is = steps.kept.works.map ∙ at.map_is;
      sees = (steps.goes.each at.sees).1;
    }

    steps_mean : (added : ChipHistory) × ((port_of new).whole ≡ added ++ (port_of old).whole)
        × what (terms Bus) (port_of old).whole added
    steps_mean =
        let g = steps.goes.each at.sees in
        (g.0, g.2, subst (λ (t : Terms). what t (port_of old).whole g.0) (terms_are Bus old at) g.3)

  module _ (h k l : Held) (past : BusState) (t : ThreeAt h k l past) where
    -- a saving: the bus's port looks
    saved_at : (text : List ℕ) (bus : Held) (saved : Saved) → text ≡ text_of saved → IsSavedOf h k l bus saved
        → ThreeAt h k bus past × SavesAll terms set text (all_places h k l past) (all_places h k bus past)
    saved_at text bus saved text_is is =
        let looking : Terms → ChipHistory → ChipHistory → Type 0
        = λ u seen added. LooksAtAll u saved.controller saved.records seen added in
        let m = steps_mean looking l bus t.bus_at is.looks in (
          record {
            if1_at = t.if1_at;
            if2_at = t.if2_at;
            bus_at = stepped_at looking l bus t.bus_at is.looks;
            led = still_on past l bus is.looks.kept t.led;
          },
          record {
            saved = saved;
            text_is = text_is;
            profile = is.profile ∙ ap (λ (m : Memory). m.profile) t.bus_at.memory_is;
            map = is.map ∙ t.bus_at.map_is;
            tries = is.tries ∙ t.bus_at.tries_are;
            others = is.others ∙ t.bus_at.nodes_are;
            if1 = is.own_if1;
            if2 = is.own_if2;
            added = m.0;
            looks = m.2;
            leaves = λ i. record { if1 = place h; if2 = place k; bus = record { state = past; seen = m.1 i } };
          },
        )

    abbrev making : Result (Unit {0}) AccessError → Terms → ChipHistory → ChipHistory → Type 0
    making told u seen added = ResetsChip u (reset_of l.chip.settings.map) l.chip.settings.tries seen added told

    by_tries : (told : Result (Unit {0}) AccessError) (seen added : ChipHistory) → making told (terms Bus) seen added
        → ResetsChip (terms Bus) (reset_of set.map) set.tries seen added told
    by_tries told seen added m =
        subst (λ (u : Map × ℕ). ResetsChip (terms Bus) (reset_of u.0) u.1 seen added told)
        (λ i. (t.bus_at.map_is i, t.bus_at.tries_are i)) m

    abbrev LeftReset : ℕ → Held → Held → Held → Type 0
    LeftReset code h' k' l' =
        (after : BusState) × ThreeAt h' k' l' after
        × ResetsAll terms set code (all_places h k l past) (all_places h' k' l' after)

    -- a reset: the bus's port resets the controller and the objects, nothing is loaded, and then the three meet
    reset_at : (code : ℕ) (h' k' l' : Held) → code ≡ code_told (Ok tt) → IsReset h k l h' k' l' → LeftReset code h' k' l'
    reset_at code h' k' l' code_is r =
        let g = r.goes.each t.bus_at.sees in
        let mean = subst (λ (u : Terms). making (Ok tt) u (port_of l).whole g.0) (terms_are Bus l t.bus_at) g.3 in
        let after = bus_unloaded past in
        let met = have_met_all reset_set reset_set after (port_of h) (port_of k) r.put h' k' l'
        t.if1_at.port_is t.if2_at.port_is (r.goes.same.port ∙ t.bus_at.port_is) r.if1.own r.if2.own r.met in (
          after,
          record {
            if1_at = at_meeting If1 _ _ _ (port_of h) h h' t.if1_at (same_itself (port_of h)) r.if1.works r.met.if1_met;
            if2_at = at_meeting If2 _ _ _ (port_of k) k k' t.if2_at (same_itself (port_of k)) r.if2.works r.met.if2_met;
            bus_at = at_meeting Bus _ _ _ r.put l l' t.bus_at r.goes.same r.bus.works r.met.bus_met;
            led = (r.bus.drops past.past t.led.0, sym r.bus.station);
          },
          record {
            told = Ok tt;
            code_is = code_is;
            added = g.0;
            resets = by_tries (Ok tt) (port_of l).whole g.0 mean;
            leaves =
                subst (λ (seen : ChipHistory). HaveMetAll (record {
                  if1 = record { state = reset_set; seen = (port_of h).whole };
                  if2 = record { state = reset_set; seen = (port_of k).whole };
                  bus = record { state = after; seen = seen };
                }) (all_places h' k' l' after)) g.2 met;
          },
        )

    -- or it was refused
    not_reset : (code : ℕ) (why : AccessError) (h' k' l' : Held) → code ≡ code_told (Err why) → h' ≡ h → k' ≡ k
        → Steps (making (Err why)) l l' → LeftReset code h' k' l'
    not_reset code why h' k' l' code_is first second steps =
        let m = steps_mean (making (Err why)) l l' t.bus_at steps in (
          past,
          record {
            if1_at = subst (λ (x : Held). IsAt memory If1 set x) (sym first) t.if1_at;
            if2_at = subst (λ (x : Held). IsAt memory If2 set x) (sym second) t.if2_at;
            bus_at = stepped_at (making (Err why)) l l' t.bus_at steps;
            led = still_on past l l' steps.kept t.led;
          },
          record {
            told = Err why;
            code_is = code_is;
            added = m.0;
            resets = by_tries (Err why) (port_of l).whole m.0 m.2;
            leaves = λ i. record {
              if1 = place (first i);
              if2 = place (second i);
              bus = record { state = past; seen = m.1 i };
            };
          },
        )

    reset_as_told : (told : Result (Unit {0}) AccessError) (code : ℕ) (h' k' l' : Held) → code ≡ code_told told
        → ResetsMet h k l h' k' l' told → LeftReset code h' k' l'
    reset_as_told (Ok done) code h' k' l' code_is r = reset_at code h' k' l' code_is r
    reset_as_told (Err why) code h' k' l' code_is (first, second, steps) =
        not_reset code why h' k' l' code_is first second steps

  -- ---- parts

  abbrev Done : Part → {old : Chip} → ChipAt old → Chip → Type 0
  Done part c new = (d : ChipAt new) × PartMeans terms set part (places c) (places d)

  three_of : (chip : Chip) (c : ChipAt chip) → ThreeAt c.first c.second c.third c.past
  three_of chip c = record { if1_at = c.if1_at; if2_at = c.if2_at; bus_at = c.bus_at; led = c.led }

  abbrev chip_of : (chip : Chip) (h k l : Held) (past : BusState) → held_by chip.if1 ≡ Some h → held_by chip.if2 ≡ Some k
      → held_on chip.bus ≡ Some l → ThreeAt h k l past → ChipAt chip
  chip_of chip h k l past e f g t = record {
    first = h;
    second = k;
    third = l;
    if1_open = e;
    if2_open = f;
    bus_open = g;
    if1_at = t.if1_at;
    if2_at = t.if2_at;
    bus_at = t.bus_at;
    past = past;
    led = t.led;
  }

  -- calls lead each handle on by itself; a call that takes the whole chip is of the handles that stand here
  part_done : (part : Part) (old new : Chip) (c : ChipAt old) → PartDoes part old new → Done part c new
  part_done (at_once if1 if2 bus) old new c h =
      let a = host_calls If1 if1 c.first (held_by old.if1) (held_by new.if1) c.if1_at c.if1_open h.if1_leads in
      let b = host_calls If2 if2 c.second (held_by old.if2) (held_by new.if2) c.if2_at c.if2_open h.if2_leads in
      let d = bus_calls bus c.third c.past (held_on old.bus) (held_on new.bus) c.bus_at c.led c.bus_open h.bus_leads in (
        record {
          first = a.0;
          second = b.0;
          third = d.0;
          if1_open = a.1;
          if2_open = b.1;
          bus_open = d.2;
          if1_at = a.2;
          if2_at = b.2;
          bus_at = d.3;
          past = d.1;
          led = d.4;
        },
        record { if1_means = a.3; if2_means = b.3; bus_means = d.5 },
      )
  part_done meeting old new c does =
      let (h, k, l, e, f, g, meet) = all_open_are
      (λ h k l. AllOpen new (λ h' k' l'. MeetHeld h k l h' k' l')) old c does in
      let m = met_at c.first c.second c.third h k l c.past (three_of old c) meet in
      (chip_of new h k l c.past e f g m.0, m.1)
  part_done (saving text) old new c does =
      let (h, k, l, e, f, g, (saved, text_is, s)) = all_open_are
      (λ h k l. AllOpen new (λ h' k' l'. (saved : Saved) × (text ≡ text_of saved) × SavesHeld h k l h' k' l' saved)) old c does in
      let m = met_at c.first c.second c.third h k s.between c.past (three_of old c) s.meet in
      let d = saved_at h k s.between c.past m.0 text l saved text_is s.saves in
      (chip_of new h k l c.past e f g d.0, (all_places h k s.between c.past, m.1, d.1))
  part_done (resetting code) old new c does =
      let (h, k, l, e, f, g, (told, code_is, r)) = all_open_are
      (λ h k l. AllOpen new (λ h' k' l'. (told : Result (Unit {0}) AccessError) × (code ≡ code_told told)
      × ResetsHeld h k l h' k' l' told)) old c does in
      let m = met_at c.first c.second c.third r.if1 r.if2 r.bus c.past (three_of old c) r.meet in
      let d = reset_as_told r.if1 r.if2 r.bus c.past m.0 told code h k l code_is r.resets in
      (chip_of new h k l d.0 e f g d.1, (all_places r.if1 r.if2 r.bus c.past, m.1, d.2))

  parts_done : (parts : List Part) (old new : Chip) (c : ChipAt old) → PartsDo parts old new
      → (d : ChipAt new) × PartsMean terms set parts (places c) (places d)
  parts_done [] old new c is =
      subst (λ (chip : Chip). (d : ChipAt chip) × (places d ≡ places c)) (sym is) (c, refl)
  parts_done (part ∷ parts) old new c (between, does, rest) =
      let a = part_done part old between c does in
      let b = parts_done parts between new a.0 rest in
      (b.0, (places a.0, a.1, b.1))

  -- ---- the end

  -- what a port had seen of the chip is a part of the history, which has no other events of the port
  part_of : (port : PortName) (held : Held) (history : ChipHistory) → IsAt memory port set held
      → IsChipPart (port_of held) history → IsPartOf port (port_of held).whole history
  part_of port held history at part =
      let here = (pass_of held).port in
      let whole = (port_of held).whole in
      let more = part.begins.0 in
      let is : history ≡ more ++ whole = part.begins.1 in
      let steps : steps_of here more ≡ [] =
      no_steps here more whole (ap (steps_of here) (sym is) ∙ part.steps) in
      let events : events_of here (ram_of more) ≡ [] =
      no_events here more whole
      (ap (λ (h : ChipHistory). events_of here (ram_of h)) (sym is) ∙ (part.ram.own ∙ ap (events_of here) at.sees.one.ram)) in
      let own : own_of here history ≡ own_of here whole =
      ap (own_of here) is ∙ (own_of-append here more whole
      ∙ ap (λ (l : ChipHistory). l ++ own_of here whole) (none_own here more steps events)) in
      record {
        begins = part.begins;
        own = subst (λ (p : PortName). own_of p history ≡ own_of p whole) at.port_is own;
      }

  -- a chip that C ends where its handles stand here fits the history with which it ends
  fits_at_end : (profile : Profile) (beginning : Beginning) (parts : List Part) (chip : Chip) (out : ShownFinal)
      (first : Places) (c : ChipAt chip) → IsMemoryOf profile most memory → BeginsAt terms beginning first
      → PartsMean terms (set_of beginning) parts first (places c) → EndsWith chip out
      → FitOneHistory profile beginning parts out
  fits_at_end profile beginning parts chip out first c is begins means does =
      let (final, ends, shown) = all_open_are (λ h k l. (final : FinalChip)
      × ChipEnds (port_of h) (port_of k) (port_of l) final × IsFinal final.memory out) chip c does in
      let same : final.memory.profile ≡ profile =
      ends.profile_is ∙ ap (λ (m : Memory). m.profile) c.if1_at.memory_is ∙ is.profile_is in
      record {
        memory = memory;
        memory_is = is;
        first = first;
        begins = begins;
        last = places c;
        means = means;
        history = ends.history;
        legal = subst (λ (p : Profile). IsLegal p (ram_of ends.history)) same ends.legal;
        steps_legal = ends.steps_legal;
        if1 = part_of If1 c.first ends.history c.if1_at ends.part_if1;
        if2 = part_of If2 c.second ends.history c.if2_at ends.part_if2;
        bus = part_of Bus c.third ends.history c.bus_at ends.part_bus;
        shows = record {
          objects = shown.objects ∙ ap objects_in same;
          records =
              shown.records
              ∙ ap (map c_record) (ends.left ∙ ap (λ (p : Profile). final_records p (ram_of ends.history)) same);
        };
      }

-- ---- how a chip begins

-- where the handles stand at first
record First (profile : Profile) (beginning : Beginning) (chip : Chip) : Type 0 where
  memory : Memory
  memory_is : IsMemoryOf profile most memory
  at : ChipAt memory (set_of beginning) chip
  begins : BeginsAt (terms_of same_object memory) beginning (places memory (set_of beginning) at)

first_opened : (profile : Profile) (set : Set) (chip : Chip) → Opens profile set chip → First profile (opened_with set) chip
first_opened profile set chip opens =
    let memory = opens.memory in
    let (h, k, l, e, f, g, (first, second, third)) = opens.handles in
    record {
      memory = memory;
      memory_is = opens.memory_is;
      at = record {
        first = h;
        second = k;
        third = l;
        if1_open = e;
        if2_open = f;
        bus_open = g;
        if1_at = at_holding memory If1 set (begins_as memory If1 set.opening) set.opening.own h refl refl first;
        if2_at = at_holding memory If2 set (begins_as memory If2 set.opening) set.opening.own k refl refl second;
        bus_at = at_holding memory Bus set (begins_as memory Bus set.opening) set.opening.own l refl refl third;
        past = opening_bus set.nodes;
        led = (third.bus_is, sym third.station_is);
      };
      begins = λ i. record {
        if1 = record { state = first.own_is i; seen = (first.port_is i).whole };
        if2 = record { state = second.own_is i; seen = (second.port_is i).whole };
        bus = record { state = opening_bus set.nodes; seen = (third.port_is i).whole };
      };
    }

-- the handles of a chip that was saved: their ports are those that have met
first_restored : (saved : Saved) (chip : Chip) → RestoresAs saved chip → First saved.profile (restored_as saved) chip
first_restored saved chip r =
    let memory = r.memory in
    let set = set_of (restored_as saved) in
    let past = opening_bus saved.others in
    let (h, k, l, e, f, g, (first, second, third)) = r.handles in
    let started = begins_as memory Bus after_reset in
    let goes = r.goes.each (sees_reset memory) in
    let first_port = begins_as memory If1 after_reset in
    let second_port = begins_as memory If2 after_reset in
    let ports : HaveMet first_port second_port r.put (port_of h) (port_of k) (port_of l) =
    subst (λ (u : ChipPass × ChipPass × ChipPass). HaveMet first_port second_port r.put u.0 u.1 u.2)
    (λ i. (sym first.port_is i, sym second.port_is i, sym third.port_is i)) r.met in
    let met = have_met_all memory set saved.if1 saved.if2 past first_port second_port r.put h k l refl refl r.goes.same.port
    first.own_is second.own_is ports in
    record {
      memory = memory;
      memory_is = r.memory_is;
      at = record {
        first = h;
        second = k;
        third = l;
        if1_open = e;
        if2_open = f;
        bus_open = g;
        if1_at = at_holding memory If1 set r.if1 saved.if1 h r.met.if1_met.same.memory r.met.if1_met.same.port first;
        if2_at = at_holding memory If2 set r.if2 saved.if2 k r.met.if2_met.same.memory r.met.if2_met.same.port second;
        bus_at = at_holding memory Bus set r.bus reset_set l (r.met.bus_met.same.memory ∙ r.goes.same.memory)
            (r.met.bus_met.same.port ∙ r.goes.same.port) third;
        past = past;
        led = (third.bus_is, sym third.station_is);
      };
      begins = record {
        added = goes.0;
        puts = goes.3;
        met =
            subst (λ (seen : ChipHistory). HaveMetAll (record {
              if1 = record { state = saved.if1; seen = reset_history };
              if2 = record { state = saved.if2; seen = reset_history };
              bus = record { state = past; seen = seen };
            }) (all_places h k l past)) goes.2 met;
      };
    }

first_of : (profile : Profile) (beginning : Beginning) (chip : Chip) → Begins profile beginning chip
    → First profile beginning chip
first_of profile (opened_with set) chip opens = first_opened profile set chip opens
first_of profile (restored_as saved) chip (same, restores) =
    subst (λ (p : Profile). First p (restored_as saved) chip) same (first_restored saved chip restores)

pub fit_one_history : CallsFitOneHistory
fit_one_history profile beginning parts chip last out begins does ended =
    let first = first_of profile beginning chip begins in
    let memory = first.memory in
    let set = set_of beginning in
    let done = parts_done memory set parts chip last first.at does in
    fits_at_end memory set profile beginning parts last out (places memory set first.at) done.0 first.memory_is first.begins
    done.1 ended
