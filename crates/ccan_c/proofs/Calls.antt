-- Calls on an open handle, and on a closed one.
use Rattle.std.proofs.Common.{◌≡◌, ℕ, Bool, true, false, [], Some, None, MatchOption, MatchBool, refl, sym, subst, ◌∙◌}
use Rattle.std.specs.Prelude.{is_some}
use Rattle.std.specs.declared.option.Option.{Option}
use Rattle.ccan_bus.specs.Bus.{LedTo}
use Rattle.ccan_bus.specs.Past.{BusPast}
use Rattle.ccan_ram.specs.declared.port.PortName.TheVariants.{Bus}
use Rattle.ccan_ram.specs.Terms.{Terms}
use Rattle.ccan_chip.specs.declared.chip_bus.ChipBus.{ChipBus}
use Rattle.ccan_chip.specs.Arrival.{unloaded}
use Rattle.ccan_endless.specs.Chip.{ChipHistory}
use Rattle.ccan_chip.specs.declared.map.Map.{Map}
use Rattle.ccan_registers.specs.declared.interface_set.InterfaceSet.{InterfaceSet}
use Rattle.ccan_registers.specs.ChipSteps.{terms_at}
use Rattle.ccan_registers.specs.Frames.{StationState}
use Rattle.ccan_registers.proofs.Going.{rests, weaker}
use Rattle.ccan_c.specs.declared.held.Held.{Held}
use Rattle.ccan_c.specs.BusCall.{BusCall, BusCallDoes, BusCallMeans, BusRuns, station_after}
use Rattle.ccan_c.specs.Call.{IsCall}
use Rattle.ccan_c.specs.FrameCall.{BusState, FrameCall, FrameCallDoes, FrameCallMeans, FrameRuns}
use Rattle.ccan_c.specs.Held.{IsOpenAs, WorksAsBefore, pass_of, port_of, station_of}
use Rattle.ccan_c.specs.Host.{flag_numbered, is_object}
use Rattle.ccan_c.specs.HostCall.{HostCall, HostCallDoes, HostCallMeans, HostRuns, IsWaitRefused, until}
use Rattle.ccan_c.specs.Steps.{BusSteps, HostSteps, StationSteps, Steps}
use Rattle.ccan_c.specs.Together.{IsNamed}

-- the handle is open, and this came of it
pub on_open : (o p : Option Held) (code : ℕ) (held : Held) (what : Held → Type 0)
    → o ≡ Some held → what held → IsCall o p code what
on_open o p code held what is_open h = subst (λ (z : Option Held). IsCall z p code what) (sym is_open) h

-- a number that was known
pub on_known : {X : Type 0} (o : Option X) (x : X) (P : Type 0) (Q : X → Type 0) → Some x ≡ o → Q x → MatchOption o P Q
on_known o x P Q known h = subst (λ z. MatchOption z P Q) known h

-- and one that was not
pub on_unknown : {X : Type 0} (o : Option X) (P : Type 0) (Q : X → Type 0) → None ≡ o → P → MatchOption o P Q
on_unknown o P Q unknown h = subst (λ z. MatchOption z P Q) unknown h

-- where there is nothing, there is none
pub none_there : {X : Type 0} (o : Option X) → is_some o ≡ false → None ≡ o
none_there None empty = refl
none_there (Some x) empty = absurd (let wrong : true ≡ false = empty in cc)

-- a test that was passed
pub on_true : (b : Bool) (P Q : Type 0) → b ≡ true → P → MatchBool b P Q
on_true b P Q passed h = subst (λ z. MatchBool z P Q) (sym passed) h

-- and one that failed
pub on_false : (b : Bool) (P Q : Type 0) → b ≡ false → Q → MatchBool b P Q
on_false b P Q failed h = subst (λ z. MatchBool z P Q) (sym failed) h

-- a handle works as it does
pub same_work : (held : Held) → WorksAsBefore held held
same_work held = record { tries = refl; nodes = refl; map = refl }

-- a call of a host that makes no step and leaves the handle
pub host_rests : (call : HostCall) (held : Held)
    → HostCallMeans (terms_at (port_of held)) held.chip.settings.tries held.chip.settings.map call held.own (port_of held).whole [] held.own
    → IsOpenAs (HostRuns call held) (Some held)
host_rests call held h = (
  held,
  refl,
  record {
    works = same_work held;
    bus = refl;
    goes = rests (port_of held) _ h;
  },
)

-- the same of the bus
pub bus_rests : (call : BusCall) (held : Held) → station_after call (station_of held) ≡ station_of held
    → ((past : BusPast) → LedTo past held.bus.bus
    → BusCallMeans (terms_at (port_of held)) held.chip.settings.tries held.nodes held.chip.settings.map call past (port_of held).whole [] past)
    → IsOpenAs (BusRuns call held) (Some held)
bus_rests call held still h = (
  held,
  refl,
  record {
    works = same_work held;
    own = refl;
    station = sym still;
    goes = λ past led. (past, led, rests (port_of held) _ (h past led));
  },
)

-- what a call does with what the handle of a host stands for
pub host_did : (call : HostCall) (old new : Held) (what : Terms → ChipHistory → ChipHistory → InterfaceSet → Type 0)
    → HostSteps what old new
    → ((seen added : ChipHistory) → what (terms_at (port_of old)) seen added new.own
    → HostCallMeans (terms_at (port_of old)) old.chip.settings.tries old.chip.settings.map call old.own seen added new.own)
    → IsOpenAs (HostRuns call old) (Some new)
host_did call old new what does f = (
  new,
  refl,
  record {
    works = does.works;
    bus = does.bus;
    goes = weaker (port_of old) (port_of new) _ _ does.goes f;
  },
)

-- the same where its registers stay
pub host_looked : (call : HostCall) (old new : Held) (what : Terms → ChipHistory → ChipHistory → Type 0) → Steps what old new
    → ((seen added : ChipHistory) → what (terms_at (port_of old)) seen added
    → HostCallMeans (terms_at (port_of old)) old.chip.settings.tries old.chip.settings.map call old.own seen added old.own)
    → IsOpenAs (HostRuns call old) (Some new)
host_looked call old new what does f = (
  new,
  refl,
  record {
    works = does.kept.works;
    bus = does.kept.bus;
    goes =
        weaker (port_of old) (port_of new) _ _ does.goes (λ seen added h.
        subst (λ (own : InterfaceSet). HostCallMeans (terms_at (port_of old)) old.chip.settings.tries old.chip.settings.map call old.own seen added own)
        (sym does.kept.own) (f seen added h));
  },
)

-- what a call does with what the bus's handle stands for
pub bus_did : (call : BusCall) (old new : Held) (what : Terms → BusPast → ChipHistory → ChipHistory → BusPast → Type 0)
    → BusSteps what old new → station_of new ≡ station_after call (station_of old)
    → ((past after : BusPast) (seen added : ChipHistory) → what (terms_at (port_of old)) past seen added after
    → BusCallMeans (terms_at (port_of old)) old.chip.settings.tries old.nodes old.chip.settings.map call past seen added after)
    → IsOpenAs (BusRuns call old) (Some new)
bus_did call old new what does station f = (
  new,
  refl,
  record {
    works = does.works;
    own = does.own;
    station = station;
    goes = λ past led. (let a = does.goes past led in
        (a.0, a.1, weaker (port_of old) (port_of new) _ _ a.2 (λ seen added h. f past a.0 seen added h)));
  },
)

-- the same where the bus stays
pub bus_looked : (call : BusCall) (old new : Held) (what : Terms → ChipHistory → ChipHistory → Type 0) → Steps what old new
    → station_after call (station_of old) ≡ station_of old
    → ((past : BusPast) (seen added : ChipHistory) → LedTo past old.bus.bus → what (terms_at (port_of old)) seen added
    → BusCallMeans (terms_at (port_of old)) old.chip.settings.tries old.nodes old.chip.settings.map call past seen added past)
    → IsOpenAs (BusRuns call old) (Some new)
bus_looked call old new what does still f = (
  new,
  refl,
  record {
    works = does.kept.works;
    own = does.kept.own;
    station = does.kept.station ∙ sym still;
    goes = λ past led. (
      past,
      subst (λ (b : ChipBus). LedTo past b.bus) (sym does.kept.bus) led,
      weaker (port_of old) (port_of new) _ _ does.goes (λ seen added h. f past seen added led h),
    );
  },
)

-- the bus's handle stays the bus's
pub still_named : (o : Option Held) (old new : Held) → IsNamed Bus o → o ≡ Some old → (pass_of new).port ≡ (pass_of old).port
    → IsNamed Bus (Some new)
still_named o old new named is same = λ h e. (
    let there : new ≡ h = cc in
    subst (λ (x : Held). (pass_of x).port ≡ Bus) there (same ∙ named old is)
    )

-- a call that is refused on an open handle
pub host_refused : (call : HostCall) (o : Option Held) → is_some o ≡ true
    → ((held : Held) → HostCallMeans (terms_at (port_of held)) held.chip.settings.tries held.chip.settings.map call held.own (port_of held).whole [] held.own)
    → HostCallDoes call o o
host_refused call None is h = absurd (let wrong : false ≡ true = is in cc)
host_refused call (Some held) is h = host_rests call held (h held)

pub bus_refused : (call : BusCall) (o : Option Held) → is_some o ≡ true
    → ((old : StationState) → station_after call old ≡ old)
    → ((held : Held) (past : BusPast) → LedTo past held.bus.bus
    → BusCallMeans (terms_at (port_of held)) held.chip.settings.tries held.nodes held.chip.settings.map call past (port_of held).whole [] past)
    → BusCallDoes call o o
bus_refused call None is still h = absurd (let wrong : false ≡ true = is in cc)
bus_refused call (Some held) is still h = bus_rests call held (still (station_of held)) (h held)

-- a call that left the handle as it was
pub host_rests_as : (call : HostCall) (held new : Held) → new ≡ held
    → HostCallMeans (terms_at (port_of held)) held.chip.settings.tries held.chip.settings.map call held.own (port_of held).whole [] held.own
    → IsOpenAs (HostRuns call held) (Some new)
host_rests_as call held new is h =
    subst (λ (x : Held). IsOpenAs (HostRuns call held) (Some x)) (sym is) (host_rests call held h)

pub bus_rests_as : (call : BusCall) (held new : Held) → new ≡ held
    → station_after call (station_of held) ≡ station_of held
    → ((past : BusPast) → LedTo past held.bus.bus
    → BusCallMeans (terms_at (port_of held)) held.chip.settings.tries held.nodes held.chip.settings.map call past (port_of held).whole [] past)
    → IsOpenAs (BusRuns call held) (Some new)
bus_rests_as call held new is still h =
    subst (λ (x : Held). IsOpenAs (BusRuns call held) (Some x)) (sym is) (bus_rests call held still h)

-- a number that is known or not, and a test, one fact for another
known_or_not : {X : Type 0} (o : Option X) (P P' : Type 0) (Q Q' : X → Type 0) → (P → P') → ((x : X) → Q x → Q' x)
    → MatchOption o P Q → MatchOption o P' Q'
known_or_not None P P' Q Q' f g h = f h
known_or_not (Some x) P P' Q Q' f g h = g x h

passed_or_not : (b : Bool) (P P' Q Q' : Type 0) → (P → P') → (Q → Q') → MatchBool b P Q → MatchBool b P' Q'
passed_or_not true P P' Q Q' f g h = f h
passed_or_not false P P' Q Q' f g h = g h

-- a wait with a number that is out of its range
pub wait_refused : (terms : Terms) (tries : ℕ) (map : Map) (object number turns code out : ℕ) (own : InterfaceSet)
    (seen : ChipHistory) → IsWaitRefused terms.profile object number turns code
    → HostCallMeans terms tries map (until object number turns code out) own seen [] own
wait_refused terms tries map object number turns code out own seen h =
    passed_or_not (is_object terms.profile object) _ _ _ _
    (known_or_not (flag_numbered number) _ _ _ _ (λ is. record { code_is = is; quiet = refl; leaves = refl })
    (λ flag (failed, is). on_false _ _ _ failed (record { code_is = is; quiet = refl; leaves = refl })))
    (λ is. record { code_is = is; quiet = refl; leaves = refl }) h

-- the same of a call that is a host's too, and leaves the registers
pub bus_wrote : (call : BusCall) (old new : Held) (what : Terms → ChipHistory → ChipHistory → InterfaceSet → Type 0)
    → HostSteps what old new → new.own ≡ old.own → station_after call (station_of old) ≡ station_of old
    → ((past : BusPast) (seen added : ChipHistory) → what (terms_at (port_of old)) seen added old.own
    → BusCallMeans (terms_at (port_of old)) old.chip.settings.tries old.nodes old.chip.settings.map call past seen added past)
    → IsOpenAs (BusRuns call old) (Some new)
bus_wrote call old new what does own still f = (
  new,
  refl,
  record {
    works = does.works;
    own = own;
    station = does.station ∙ sym still;
    goes = λ past led. (
      past,
      subst (λ (b : ChipBus). LedTo past b.bus) (sym does.bus) led,
      weaker (port_of old) (port_of new) _ _ does.goes (λ seen added h.
          f past seen added (subst (λ (left : InterfaceSet). what (terms_at (port_of old)) seen added left) own h)),
    );
  },
)

-- ---- a chip's part in a frame on a bus of several

-- what a call does that leaves the bus of rounds
pub frame_did : (call : FrameCall) (old new : Held)
    (what : Terms → StationState → ChipHistory → ChipHistory → StationState → Type 0) → StationSteps what old new
    → new.bus ≡ old.bus
    → ((past : BusPast) (seen added : ChipHistory) → what (terms_at (port_of old)) (station_of old) seen added (station_of new)
    → FrameCallMeans (terms_at (port_of old)) old.chip.settings.tries call (record { past = past; station = station_of old }) seen added
    (record { past = past; station = station_of new }))
    → IsOpenAs (FrameRuns call old) (Some new)
frame_did call old new what does bus f = (
  new,
  refl,
  record {
    works = does.works;
    own = does.own;
    goes = λ past led. (
      past,
      subst (λ (b : ChipBus). LedTo past b.bus) (sym bus) led,
      weaker (port_of old) (port_of new) _ _ does.goes (λ seen added h. f past seen added h),
    );
  },
)

-- and one that drops what was loaded for a round
pub frame_began : (call : FrameCall) (old new : Held)
    (what : Terms → StationState → ChipHistory → ChipHistory → StationState → Type 0) → StationSteps what old new
    → ((past : BusPast) → LedTo past old.bus.bus → LedTo (unloaded past) new.bus.bus)
    → ((past : BusPast) (seen added : ChipHistory) → what (terms_at (port_of old)) (station_of old) seen added (station_of new)
    → FrameCallMeans (terms_at (port_of old)) old.chip.settings.tries call (record { past = past; station = station_of old }) seen added
    (record { past = unloaded past; station = station_of new }))
    → IsOpenAs (FrameRuns call old) (Some new)
frame_began call old new what does drops f = (
  new,
  refl,
  record {
    works = does.works;
    own = does.own;
    goes = λ past led. (
      unloaded past,
      drops past led,
      weaker (port_of old) (port_of new) _ _ does.goes (λ seen added h. f past seen added h),
    );
  },
)

-- a call that is refused on an open handle
pub frame_refused : (call : FrameCall) (o : Option Held) → is_some o ≡ true
    → ((held : Held) (state : BusState)
    → FrameCallMeans (terms_at (port_of held)) held.chip.settings.tries call state (port_of held).whole [] state)
    → FrameCallDoes call o o
frame_refused call None is h = absurd (let wrong : false ≡ true = is in cc)
frame_refused call (Some held) is h = (
  held,
  refl,
  record {
    works = same_work held;
    own = refl;
    goes = λ past led. (past, led, rests (port_of held) _ (h held (record { past = past; station = station_of held })));
  },
)

-- what a call does that leaves all but the port
pub frame_looked : (call : FrameCall) (old new : Held) (what : Terms → ChipHistory → ChipHistory → Type 0) → Steps what old new
    → ((past : BusPast) (seen added : ChipHistory) → what (terms_at (port_of old)) seen added
    → FrameCallMeans (terms_at (port_of old)) old.chip.settings.tries call (record { past = past; station = station_of old }) seen added
    (record { past = past; station = station_of old }))
    → IsOpenAs (FrameRuns call old) (Some new)
frame_looked call old new what does f = (
  new,
  refl,
  record {
    works = does.kept.works;
    own = does.kept.own;
    goes = λ past led. (
      past,
      subst (λ (b : ChipBus). LedTo past b.bus) (sym does.kept.bus) led,
      weaker (port_of old) (port_of new) _ _ does.goes (λ seen added h.
          subst (λ (s : StationState). FrameCallMeans (terms_at (port_of old)) old.chip.settings.tries call
          (record { past = past; station = station_of old }) seen added (record { past = past; station = s }))
          (sym does.kept.station)
          (f past seen added h)),
    );
  },
)
