-- The laws of the controller's registers.
use Rattle.std.proofs.Common.{◌≡◌, ℕ, ◌+◌, Bool, true, false, ◌&&◌, ◌||◌, not, cond, nat_le, List, [], ◌∷◌, ◌++◌, refl, sym}
use Rattle.std.specs.List.{list_any}
use Rattle.std.proofs.Common.{ap, ◌∙◌, inl, inr, Some, None, unwrap_or}
use Rattle.std.proofs.lemmas.Bool.{or_left, or_right, or_parts, and_from}
use Rattle.std.proofs.lemmas.Bool.Decides.{leb_tells}
use Rattle.ccan_confine.specs.declared.controller.Controller.{Controller}
use Rattle.ccan_confine.specs.declared.controller_change.ControllerChange.{ControllerChange}
use Rattle.ccan_confine.specs.declared.controller_change.ControllerChange.TheVariants as change
use Rattle.ccan_confine.specs.declared.status_event.StatusEvent.TheVariants as event
use Rattle.ccan_confine.specs.StatusEvent.{is_sent, is_received}
use Rattle.ccan_confine.specs.Counters.{Counts, Levels, NodeEvent, Groups, ClearInit, AreAfter, AddsEvent, counts_after}
use Rattle.ccan_confine.specs.Counters.{counts_cleared, is_recovering, new_counts, is_off}
use Rattle.ccan_confine.specs.RegisterWords.{control_with}
use Rattle.ccan_confine.specs.Controller.{changed_by, controller_after, counts_grouped, clears_init_of, is_handlers}
use Rattle.ccan_confine.specs.ControllerLaws.{controller_of, add_event, node_events, CountersAreAsDefined, HostsLeaveTheCounters}
use Rattle.ccan_confine.specs.ControllerLaws.{GoingOffSetsInit, StatusReadsClear, MasksLoseNothing, FlagsAreGivenLast, is_dcan_reset}
use Rattle.ccan_confine.specs.ControllerLaws.{tx_ok_given, rx_ok_given, newest_given, is_joining, HasLeftUntilJoining}
use Rattle.ccan_confine.proofs.Calls.{listed_after, listed_clear, listed_ignored, listed_counted, listed_back, adds_result}
use Rattle.ccan_confine.proofs.Steps.{counts-none}

-- groups of recessive bits, by whether they count and whether they are enough
grouped_adds : (n : ℕ) (k : Counts) → AddsEvent (Groups n) k (counts_grouped n k)
grouped_adds n k = by (is_recovering k) refl where
  more : Counts
  more = record k { groups = k.groups + n }

  enough : Bool → Counts
  enough b = cond b (new_counts k.host) more

  is_at : (b : Bool) (r : Counts) → is_recovering k ≡ b → cond b (enough (nat_le 128 (k.groups + n))) k ≡ r
      → counts_grouped n k ≡ r
  is_at b r e f = ap (λ (z : Bool). cond z (enough (nat_le 128 (k.groups + n))) k) e ∙ f

  by_groups : is_recovering k ≡ true → (b : Bool) → nat_le 128 (k.groups + n) ≡ b → AddsEvent (Groups n) k (counts_grouped n k)
  by_groups is true e = elim (leb_tells 128 (k.groups + n)) [
    | inl h ↦ adds_result (Groups n) k (new_counts k.host) (counts_grouped n k) (is_at true (new_counts k.host) is (ap enough e))
        (listed_back n k is h.1)
    | inr h ↦ (let both : true ≡ false = sym e ∙ h.0 in absurd cc)
  ]
  by_groups is false e = elim (leb_tells 128 (k.groups + n)) [
    | inl h ↦ (let both : true ≡ false = sym h.0 ∙ e in absurd cc)
    | inr h ↦ adds_result (Groups n) k more (counts_grouped n k) (is_at true more is (ap enough e)) (listed_counted n k is h.1)
  ]

  by : (b : Bool) → is_recovering k ≡ b → AddsEvent (Groups n) k (counts_grouped n k)
  by true is = by_groups is (nat_le 128 (k.groups + n)) refl
  by false is = adds_result (Groups n) k k (counts_grouped n k) (is_at false k is refl) (listed_ignored n k is)

cleared_adds : (b : Bool) (k : Counts) (events : List NodeEvent) → AreAfter true events k
    → AreAfter true (cond b (ClearInit ∷ events) events) (cond b (counts_cleared k) k)
cleared_adds true k events e = listed_clear k (counts_cleared k) refl true events e
cleared_adds false k events e = e

change_adds : (z : ControllerChange) (c : Controller) (events : List NodeEvent) → AreAfter true events c.counters
    → AreAfter true (add_event z c events) (controller_after z c).counters
change_adds (change.Frame event noted) c events e =
    listed_after event c.counters (counts_after event c.counters) refl true events e
change_adds (change.Recessive n) c events e = grouped_adds n c.counters true events e
change_adds change.ReadStatus c events e = e
change_adds change.ReadAndClearStatus c events e = e
change_adds (change.WriteStatus flags) c events e = e
change_adds (change.WriteControl control) c events e = cleared_adds (clears_init_of c control) c.counters events e
change_adds (change.WriteControlBits which to) c events e =
    cleared_adds (clears_init_of c (control_with which to c.control)) c.counters events e
change_adds (change.WriteTest test) c events e = e
change_adds (change.WriteBitTiming word) c events e = e
change_adds (change.WriteExtension word) c events e = e
change_adds (change.WriteTiming register extension) c events e = e
change_adds change.Reset c events e = sym (counts-none true)
change_adds change.ResetDcan c events e = sym (counts-none true)
change_adds change.Join c events e = e
change_adds change.PowerDown c events e = e

pub counters_defined : CountersAreAsDefined
unfolding controller_of node_events
counters_defined [] = sym (counts-none true)
counters_defined (z ∷ earlier) = change_adds z (controller_of earlier) (node_events earlier) (counters_defined earlier)

one_levels : (b : Bool) (x y : Counts) (l : Levels) → x.levels ≡ l → y.levels ≡ l → (cond b x y).levels ≡ l
one_levels true x y l e f = e
one_levels false x y l e f = f

pub hosts_leave : HostsLeaveTheCounters
hosts_leave (change.Frame event noted) c host other = absurd cc
hosts_leave (change.Recessive n) c host other = absurd cc
hosts_leave change.ReadStatus c host other = refl
hosts_leave change.ReadAndClearStatus c host other = refl
hosts_leave (change.WriteStatus flags) c host other = refl
hosts_leave (change.WriteControl control) c host other =
    one_levels (clears_init_of c control) (counts_cleared c.counters) c.counters c.counters.levels refl refl
hosts_leave (change.WriteControlBits which to) c host other =
    one_levels (clears_init_of c (control_with which to c.control)) (counts_cleared c.counters) c.counters c.counters.levels refl
    refl
hosts_leave (change.WriteTest test) c host other = refl
hosts_leave (change.WriteBitTiming word) c host other = refl
hosts_leave (change.WriteExtension word) c host other = refl
hosts_leave (change.WriteTiming register extension) c host other = refl
hosts_leave change.Reset c host other = absurd cc
hosts_leave change.ResetDcan c host other = absurd cc
hosts_leave change.Join c host other = absurd cc
hosts_leave change.PowerDown c host other = absurd cc

-- Init after new counters
init_with : (init before after : Bool) → before ≡ false → after ≡ true → (init || (not before && after)) ≡ true
init_with init before after on off = or_right init _ (and_from (not before) after (ap not on) off)

-- a step that leaves the error counters leads no controller off
stays : (z : ControllerChange) (c : Controller) {P : Type 0} → is_handlers z ≡ false → is_dcan_reset z ≡ false → is_off c.counters.levels ≡ false
    → is_off (controller_after z c).counters.levels ≡ true → P
stays z c host other on off =
    let both : false ≡ true = sym on ∙ (ap is_off (sym (hosts_leave z c host other)) ∙ off) in
    absurd cc

pub off_sets_init : GoingOffSetsInit
off_sets_init (change.Frame event noted) c on off =
    init_with c.control.init (is_off c.counters.levels) (is_off (counts_after event c.counters).levels) on off
off_sets_init (change.Recessive n) c on off =
    init_with c.control.init (is_off c.counters.levels) (is_off (counts_grouped n c.counters).levels) on off
off_sets_init change.ReadStatus c on off = stays change.ReadStatus c refl refl on off
off_sets_init change.ReadAndClearStatus c on off = stays change.ReadAndClearStatus c refl refl on off
off_sets_init (change.WriteStatus flags) c on off = stays (change.WriteStatus flags) c refl refl on off
off_sets_init (change.WriteControl control) c on off = stays (change.WriteControl control) c refl refl on off
off_sets_init (change.WriteControlBits which to) c on off = stays (change.WriteControlBits which to) c refl refl on off
off_sets_init (change.WriteTest test) c on off = stays (change.WriteTest test) c refl refl on off
off_sets_init (change.WriteBitTiming word) c on off = stays (change.WriteBitTiming word) c refl refl on off
off_sets_init (change.WriteExtension word) c on off = stays (change.WriteExtension word) c refl refl on off
off_sets_init (change.WriteTiming register extension) c on off = stays (change.WriteTiming register extension) c refl refl on off
off_sets_init change.Reset c on off = refl
off_sets_init change.ResetDcan c on off = refl
off_sets_init change.Join c on off = let both : false ≡ true = sym on ∙ off in absurd cc
off_sets_init change.PowerDown c on off = let both : false ≡ true = sym on ∙ off in absurd cc

-- a step that is no joining leaves a controller that has left as one
still_left : (z : ControllerChange) (c : Controller) → is_joining z ≡ false → c.has_left ≡ true
    → (controller_after z c).has_left ≡ true
still_left (change.Frame event noted) c other left = or_left c.has_left _ left
still_left (change.Recessive n) c other left = or_left c.has_left _ left
still_left change.ReadStatus c other left = or_left c.has_left _ left
still_left change.ReadAndClearStatus c other left = or_left c.has_left _ left
still_left (change.WriteStatus flags) c other left = or_left c.has_left _ left
still_left (change.WriteControl control) c other left = or_left c.has_left _ left
still_left (change.WriteControlBits which to) c other left = or_left c.has_left _ left
still_left (change.WriteTest test) c other left = or_left c.has_left _ left
still_left (change.WriteBitTiming word) c other left = or_left c.has_left _ left
still_left (change.WriteExtension word) c other left = or_left c.has_left _ left
still_left (change.WriteTiming register extension) c other left = or_left c.has_left _ left
still_left change.Reset c other left = refl
still_left change.ResetDcan c other left = refl
still_left change.Join c other left = absurd cc
still_left change.PowerDown c other left = or_left c.has_left _ left

-- Init is 1 only where the controller has left
init_left : (changes : List ControllerChange) → (controller_of changes).control.init ≡ true
    → (controller_of changes).has_left ≡ true
unfolding controller_of
init_left [] on = absurd cc
init_left (z ∷ earlier) on = or_right (changed_by z (controller_of earlier)).has_left _ on

pub left_until_joining : HasLeftUntilJoining
unfolding controller_of
left_until_joining [] earlier on none = init_left earlier on
left_until_joining (z ∷ later) earlier on none =
    let parts = or_parts (is_joining z) (list_any is_joining later) none in
    still_left z (controller_of (later ++ earlier)) parts.0 (left_until_joining later earlier on parts.1)

masked : (a b : Bool) → ((a && false) || (b && false)) ≡ false
masked true true = refl
masked true false = refl
masked false true = refl
masked false false = refl

pub reads_clear : StatusReadsClear
reads_clear c = (masked c.control.sie c.control.eie, masked c.control.sie c.control.eie)

pub masks_keep : MasksLoseNothing
masks_keep (change.Frame event noted) c control = (refl, refl)
masks_keep (change.Recessive n) c control = (refl, refl)
masks_keep change.ReadStatus c control = (refl, refl)
masks_keep change.ReadAndClearStatus c control = (refl, refl)
masks_keep (change.WriteStatus flags) c control = (refl, refl)
masks_keep (change.WriteControl written) c control = (refl, refl)
masks_keep (change.WriteControlBits which to) c control = (refl, refl)
masks_keep (change.WriteTest test) c control = (refl, refl)
masks_keep (change.WriteBitTiming word) c control = (refl, refl)
masks_keep (change.WriteExtension word) c control = (refl, refl)
masks_keep (change.WriteTiming register extension) c control = (refl, refl)
masks_keep change.Reset c control = (refl, refl)
masks_keep change.ResetDcan c control = (refl, refl)
masks_keep change.Join c control = (refl, refl)
masks_keep change.PowerDown c control = (refl, refl)

-- a flag that is set or stays
set_by : (b before : Bool) → (before || b) ≡ unwrap_or (cond b (Some true) None) before
set_by true true = refl
set_by true false = refl
set_by false true = refl
set_by false false = refl

recovery_sends : (b : Bool) (before : Bool) → (before || is_sent (cond b event.Recovery event.Level)) ≡ before
recovery_sends true true = refl
recovery_sends true false = refl
recovery_sends false true = refl
recovery_sends false false = refl

recovery_receives : (b : Bool) (before : Bool) → (before || is_received (cond b event.Recovery event.Level)) ≡ before
recovery_receives true true = refl
recovery_receives true false = refl
recovery_receives false true = refl
recovery_receives false false = refl

tx_step : (z : ControllerChange) (c : Controller) → (controller_after z c).status.tx_ok ≡ unwrap_or (tx_ok_given z) c.status.tx_ok
tx_step (change.Frame event noted) c = set_by (is_sent noted) c.status.tx_ok
tx_step (change.Recessive n) c = recovery_sends (nat_le 1 n && is_recovering c.counters) c.status.tx_ok
tx_step change.ReadStatus c = refl
tx_step change.ReadAndClearStatus c = refl
tx_step (change.WriteStatus flags) c = refl
tx_step (change.WriteControl control) c = refl
tx_step (change.WriteControlBits which to) c = refl
tx_step (change.WriteTest test) c = refl
tx_step (change.WriteBitTiming word) c = refl
tx_step (change.WriteExtension word) c = refl
tx_step (change.WriteTiming register extension) c = refl
tx_step change.Reset c = refl
tx_step change.ResetDcan c = refl
tx_step change.Join c = refl
tx_step change.PowerDown c = refl

rx_step : (z : ControllerChange) (c : Controller) → (controller_after z c).status.rx_ok ≡ unwrap_or (rx_ok_given z) c.status.rx_ok
rx_step (change.Frame event noted) c = set_by (is_received noted) c.status.rx_ok
rx_step (change.Recessive n) c = recovery_receives (nat_le 1 n && is_recovering c.counters) c.status.rx_ok
rx_step change.ReadStatus c = refl
rx_step change.ReadAndClearStatus c = refl
rx_step (change.WriteStatus flags) c = refl
rx_step (change.WriteControl control) c = refl
rx_step (change.WriteControlBits which to) c = refl
rx_step (change.WriteTest test) c = refl
rx_step (change.WriteBitTiming word) c = refl
rx_step (change.WriteExtension word) c = refl
rx_step (change.WriteTiming register extension) c = refl
rx_step change.Reset c = refl
rx_step change.ResetDcan c = refl
rx_step change.Join c = refl
rx_step change.PowerDown c = refl

pub given_last : FlagsAreGivenLast
unfolding controller_of newest_given
given_last [] = (refl, refl)
given_last (z ∷ earlier) =
    let before = given_last earlier in (
      tx_step z (controller_of earlier) ∙ ap (unwrap_or (tx_ok_given z)) before.0,
      rx_step z (controller_of earlier) ∙ ap (unwrap_or (rx_ok_given z)) before.1,
    )
