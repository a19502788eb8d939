-- Calls on an open handle, as steps in what its port has seen of the chip.
use Rattle.std.proofs.Common.{◌≡◌, ℕ, List, [], ◌∷◌, ◌++◌, Some, refl, sym, ap, ap₂, subst, ◌∙◌}
use Rattle.std.specs.declared.option.Option.{Option}
use Rattle.ccan_ram.specs.declared.port.PortName.{PortName}
use Rattle.ccan_ram.specs.SharedRam.{Memory, IsSamePort, terms_of}
use Rattle.ccan_ram.specs.Terms.{Terms}
use Rattle.ccan_endless.specs.Chip.{ChipHistory}
use Rattle.ccan_endless.specs.Layout.{same_object}
use Rattle.ccan_bus.specs.Bus.{LedTo}
use Rattle.ccan_chip.specs.declared.chip_bus.ChipBus.{ChipBus}
use Rattle.ccan_chip.specs.declared.map.Map.{Map}
use Rattle.ccan_registers.specs.declared.interface_set.InterfaceSet.{InterfaceSet}
use Rattle.ccan_registers.specs.ChipSteps.{SeesChip, terms_at}
use Rattle.ccan_registers.specs.Frames.{StationState}
use Rattle.ccan_c.specs.declared.held.Held.{Held}
use Rattle.ccan_c.specs.BusCall.{station_after}
use Rattle.ccan_c.specs.FrameCall.{BusState, CallOnBus, CallOnBusDoes, CallOnBusMeans, FrameCallMeans, of_frames, of_rounds}
use Rattle.ccan_c.specs.Held.{IsKept, WorksAsBefore, pass_of, port_of, station_of}
use Rattle.ccan_c.specs.HostCall.{HostCall, HostCallDoes, HostCallMeans}
use Rattle.ccan_c.specs.Opening.{Set}
use Rattle.ccan_c.specs.Step.{Place, CallsMean, Leads}

-- what the port of the handle works under
abbrev pub here : Held → Terms
here held = terms_at (port_of held)

-- the handle is open after the call, and its port has seen what it had seen and the added events, of which this holds
pub record Step {State : Type 0} (led : State → Held → Type 0) (held : Held) (after : Option Held)
    (what : ChipHistory → State → Type 0) : Type 0 where
  pub new : Held
  pub is_open : after ≡ Some new
  pub same : IsSamePort (pass_of held) (pass_of new)
  pub works : WorksAsBefore held new
  pub sees : SeesChip (port_of new)
  pub added : ChipHistory
  pub seen : (port_of new).whole ≡ added ++ (port_of held).whole
  pub left : State
  pub leads : led left new
  pub means : what added left

-- ---- the calls of a host work on its registers

abbrev pub HasSet : InterfaceSet → Held → Type 0
HasSet own held = own ≡ held.own

pub host_step : (call : HostCall) (held : Held) (after : Option Held) (own : InterfaceSet) → SeesChip (port_of held)
    → HasSet own held → HostCallDoes call (Some held) after
    → Step HasSet held after
    (λ added left. HostCallMeans (here held) held.chip.settings.tries held.chip.settings.map call own (port_of held).whole added left)
host_step call held after own sees is (new, is_open, runs) =
    let a = runs.goes.each sees in
    record {
      new = new;
      is_open = is_open;
      same = runs.goes.same;
      works = runs.works;
      sees = a.1;
      added = a.0;
      seen = a.2;
      left = new.own;
      leads = refl;
      means =
          subst (λ (o : InterfaceSet). HostCallMeans (here held) held.chip.settings.tries held.chip.settings.map call o (port_of held).whole a.0 new.own)
          (sym is) a.3;
    }

-- ---- those of the bus on its past, and on its part in frames

abbrev pub HasBus : BusState → Held → Type 0
HasBus state held = LedTo state.past held.bus.bus × (state.station ≡ station_of held)

-- where nothing but the port changed
pub still_on : (state : BusState) (old new : Held) → IsKept old new → HasBus state old → HasBus state new
still_on state old new kept led =
    (subst (λ (b : ChipBus). LedTo state.past b.bus) (sym kept.bus) led.0, led.1 ∙ sym kept.station)

pub bus_step : (call : CallOnBus) (held : Held) (after : Option Held) (state : BusState) → SeesChip (port_of held)
    → HasBus state held → CallOnBusDoes call (Some held) after
    → Step HasBus held after
    (λ added left. CallOnBusMeans (here held) held.chip.settings.tries held.nodes held.chip.settings.map call state (port_of held).whole added left)
bus_step (of_rounds call) held after state sees led (new, is_open, runs) =
    let g = runs.goes state.past led.0 in
    let a = g.2.each sees in
    record {
      new = new;
      is_open = is_open;
      same = g.2.same;
      works = runs.works;
      sees = a.1;
      added = a.0;
      seen = a.2;
      left = record { past = g.0; station = station_of new };
      leads = (g.1, refl);
      means = (a.3, runs.station ∙ ap (λ (s : StationState). station_after call s) (sym led.1));
    }
bus_step (of_frames call) held after state sees led (new, is_open, runs) =
    let g = runs.goes state.past led.0 in
    let a = g.2.each sees in
    let left : BusState = record { past = g.0; station = station_of new } in
    record {
      new = new;
      is_open = is_open;
      same = g.2.same;
      works = runs.works;
      sees = a.1;
      added = a.0;
      seen = a.2;
      left = left;
      leads = (g.1, refl);
      means =
          subst (λ (s : StationState). FrameCallMeans (here held) held.chip.settings.tries call
          (record { past = state.past; station = s }) (port_of held).whole a.0 left) (sym led.1) a.3;
    }

-- ---- calls, one after another

-- the open handle of a port of this memory, of a chip that was opened with this
pub record IsAt (memory : Memory) (port : PortName) (set : Set) (held : Held) : Type 0 where
  pub memory_is : (pass_of held).memory ≡ memory
  pub port_is : (pass_of held).port ≡ port
  pub nodes_are : held.nodes ≡ set.nodes
  pub tries_are : held.chip.settings.tries ≡ set.tries
  pub map_is : held.chip.settings.map ≡ set.map
  pub sees : SeesChip (port_of held)

module _ {Call State : Type 0} (led : State → Held → Type 0) (does : Call → Option Held → Option Held → Type 0)
    (means : Terms → ℕ → ℕ → Map → Call → State → ChipHistory → ChipHistory → State → Type 0)
    (step : (call : Call) (held : Held) (after : Option Held) (state : State) → SeesChip (port_of held) → led state held
    → does call (Some held) after
    → Step led held after
    (λ added left. means (here held) held.chip.settings.tries held.nodes held.chip.settings.map call state (port_of held).whole added left))
    (memory : Memory) (port : PortName) (set : Set) where
  abbrev pub mean : Call → State → ChipHistory → ChipHistory → State → Type 0
  mean = means (terms_of same_object memory port) set.tries set.nodes set.map

  -- where calls have led
  pub record Reached (calls : List Call) (old : Place State) (after : Option Held) : Type 0 where
    pub new : Held
    pub is_open : after ≡ Some new
    pub at : IsAt memory port set new
    pub left : State
    pub leads : led left new
    pub mean_all : CallsMean mean calls old (record { state = left; seen = (port_of new).whole })

  by_name : (held : Held) (call : Call) (state left : State) (seen added : ChipHistory) → IsAt memory port set held
      → means (here held) held.chip.settings.tries held.nodes held.chip.settings.map call state seen added left → mean call state seen added left
  by_name held call state left seen added at h =
      subst (λ (t : Terms). means t set.tries set.nodes set.map call state seen added left)
      (ap₂ (λ (m : Memory) (p : PortName). terms_of same_object m p) at.memory_is at.port_is)
      (subst (λ (n : ℕ). means (here held) n set.nodes set.map call state seen added left) at.tries_are
      (subst (λ (n : ℕ). means (here held) held.chip.settings.tries n set.map call state seen added left) at.nodes_are
      (subst (λ (m : Map). means (here held) held.chip.settings.tries held.nodes m call state seen added left) at.map_is h)))

  pub reached : (calls : List Call) (held : Held) (after : Option Held) (state : State) → IsAt memory port set held
      → led state held → Leads does calls (Some held) after
      → Reached calls (record { state = state; seen = (port_of held).whole }) after
  reached [] held after state at leads is =
      record { new = held; is_open = is; at = at; left = state; leads = leads; mean_all = refl }
  reached (call ∷ calls) held after state at leads (between, does_call, rest) =
      let s = step call held between state at.sees leads does_call in
      let at_new : IsAt memory port set s.new = record {
        memory_is = s.same.memory ∙ at.memory_is;
        port_is = s.same.port ∙ at.port_is;
        nodes_are = s.works.nodes ∙ at.nodes_are;
        tries_are = s.works.tries ∙ at.tries_are;
        map_is = s.works.map ∙ at.map_is;
        sees = s.sees;
      } in
      let t = reached calls s.new after s.left at_new s.leads
      (subst (λ (o : Option Held). Leads does calls o after) s.is_open rest) in
      record {
        new = t.new;
        is_open = t.is_open;
        at = t.at;
        left = t.left;
        leads = t.leads;
        mean_all = (
          s.added,
          s.left,
          by_name held call state s.left (port_of held).whole s.added at s.means,
          subst (λ (h : ChipHistory). CallsMean mean calls (record { state = s.left; seen = h })
              (record { state = t.left; seen = (port_of t.new).whole })) s.seen t.mean_all,
        );
      }
