-- The steps on the controller's word keep the rule of the chip. No word of an object or a place is written, so the rule of the
-- objects' words stays; and a word tells its controller, so that an exchange that succeeds found the controller of which its
-- change was computed.
use Rattle.std.proofs.Common.{◌≡◌, ◌≢◌, ℕ, ◌<◌, Bool, List, [], ◌∷◌, set, get_or, sym, eqb}
use Rattle.std.proofs.Common.{refl, ap, ◌∙◌, subst, arith, Some, None, eq-eqb, ne_eqb, length-set, get_or-set_other, get_or-set_same}
use Rattle.std.proofs.Common.{lit<, lit≤}
use mathlib.Core.Option.{some}
use mathlib.Core.Logic.{dite}
use native.Mathlib.Decide.{ℕ_discrete}
use lib.ListN.{get_elem?}
use prog.Atomic.{either}
use Rattle.atomic_table.specs.Table.{keeps, Allows}
use Rattle.ccan_object.specs.declared.profile.Profile.{Profile}
use Rattle.ccan_object.specs.Profile.{Holds}
use Rattle.ccan_confine.specs.declared.controller.Controller.{Controller}
use Rattle.ccan_confine.specs.declared.controller_change.ControllerChange.{ControllerChange}
use Rattle.ccan_confine.specs.Controller.{packed, IsController, controller_after, new_controller}
use Rattle.ccan_confine.proofs.Controllers.{one_word}
use Rattle.ccan_ram.specs.declared.port.PortName.{PortName}
use Rattle.ccan_ram.specs.Port.{port_index, same_port}
use Rattle.ccan_ram.specs.ByPort.{holding}
use Rattle.ccan_ram.specs.History.{History}
use Rattle.ccan_ram.proofs.Ports.{below_three, same_not}
use Rattle.ccan_ram.proofs.Booleans.{passed}
use Rattle.ccan_ram.proofs.Histories.{begins_again}
use Rattle.ccan_ram.proofs.Holding.{held_before, not_held, holding-each_as}
use Rattle.ccan_endless.specs.declared.chip.ChipEvent.TheVariants.{OfRam, OfController}
use Rattle.ccan_endless.specs.declared.chip.ControllerEvent.{ControllerEvent}
use Rattle.ccan_endless.specs.declared.chip.ControllerStep.TheVariants.{Look, Make}
use Rattle.ccan_endless.specs.declared.view.ChipView.{ChipView}
use Rattle.ccan_endless.specs.View.{see, see_all, View}
use Rattle.ccan_endless.specs.Layout.{cell, place, spot, side_for, object_words, controller_cell}
use Rattle.ccan_endless.specs.Rule.{IsHead, Keeps}
use Rattle.ccan_endless.specs.Plays.{GoesOn}
use Rattle.ccan_endless.specs.Chip.{ChipHistory, ram_of, controller_at, steps_of, IsControllerLegal, GoesFrom}
use Rattle.ccan_endless.specs.Chip.{step_at}
use Rattle.ccan_endless.specs.ChipRule.{ChipKnows, ram_view, ram_state, chip_see, Agree, ChipKeeps}
use Rattle.ccan_endless.specs.ChipRule.{FindsController, LooksController, SeesController, IsSetting, SetsController}
use Rattle.ccan_endless.proofs.Layouts.{cell_inside, spot_inside, place_inside, side_for-small}
use Rattle.ccan_endless.proofs.SeatMoves.{TableState, with_view, KeepsAt, Still, moved, within-see_all, sees, goes_by, still, on_for}
use Rattle.ccan_endless.proofs.Moves.{saw_all}
use Rattle.ccan_endless.proofs.Lifting.{ChipState, chip_with_view, map_at, goes_again, goes_more, agree_saw, sees_all, chip_moved}

pub new_is : IsController new_controller
new_is = record {
  host = refl;
  tec = lit< tt;
  rec = lit≤ tt;
  groups = lit< tt;
  lec = lit≤ tt;
  register = lit< tt;
  extension = lit< tt;
  out = λ on. absurd cc;
}

-- what a legal history leaves is a controller
pub controller_is : (h : ChipHistory) → IsControllerLegal h → IsController (controller_at h)
controller_is [] l = new_is
controller_is (OfRam e ∷ h) l = controller_is h l
controller_is (OfController e ∷ h) l = l.0.is

-- a step of another port
steps_other : (p q : PortName) (e : ControllerEvent) (h : ChipHistory) → e.port ≡ p → q ≢ p
    → steps_of q (OfController e ∷ h) ≡ steps_of q h
steps_other p q e h is n = passed (same_port e.port q) _ _ (same_not e.port q (λ same. n (same ∙ is)))

module _ (profile : Profile) where
  module _ (s : TableState) (r : Keeps profile s) (id : ℕ) (v : View) (n : ℕ) (at : get_elem? s.views id ≡ some v) where
    abbrev ws : List ℕ
    ws = set s.words controller_cell n

    apart : (i : ℕ) → i < object_words → get_or ws i 0 ≡ get_or s.words i 0
    apart i l = get_or-set_other s.words controller_cell i n 0 (λ e. absurd (omega arith))

    cells : (k : ℕ) → Holds profile k → get_or ws (cell k) 0 ≡ get_or s.words (cell k) 0
    cells k h = apart (cell k) (let c = cell_inside h in omega arith)

    spots : (p : PortName) (k value : ℕ) → Holds profile k → (j : ℕ) → j < 2
        → get_or ws (spot p k (side_for p value) j) 0 ≡ get_or s.words (spot p k (side_for p value) j) 0
    spots p k value h j l =
        apart (spot p k (side_for p value) j)
        (spot_inside h (port_index p) (side_for p value) j (let t = below_three p in omega arith) (side_for-small p value) l).1

    same : Still profile s.words ws r.log r.log
    same = record { stand = λ m t. t; last = λ k. refl; object = λ k. refl; cells = cells }

    -- the controller's word changes, and the seat sees all of the message RAM's history
    aside : KeepsAt profile (with_view s ws id (see_all r.log v)) r.log
    aside =
        moved profile s r id v (see_all r.log v) ws r.log at (within-see_all r.log v) r.sound
        (length-set s.words controller_cell n ∙ r.wide)
        (λ k h. subst (λ (z : ℕ). IsHead k z r.log) (sym (cells k h)) (r.heads k h))
        (λ k j h l.
        ap (λ (z : ℕ). get_or ws (place z k j) 0) (cells k h)
        ∙ (apart (place (get_or s.words (cell k) 0) k j) (place_inside h (get_or s.words (cell k) 0) j l).1 ∙ r.currents k j h l))
        (λ p y e. let u = held_before (see r.log) p v y e in
        sees profile s.words ws r.log r.log p u.0 y u.2
        (λ h short f. still profile s.words ws r.log r.log same p u.0.at u.0.value u.0.read u.0.note h short
        (spots p u.0.at u.0.value h) f)
        (r.seats id p v u.0 at u.1))
        (λ p y none f. goes_by profile s.words ws r.log r.log p y (begins_again r.log) refl
        (λ h short g. still profile s.words ws r.log r.log same p y.at y.value y.read y.note h short (spots p y.at y.value h)
        g) f)

  module _ (s : ChipState) (c : ChipKeeps profile s) (id : ℕ) (v : ChipView) (at : get_elem? s.views id ≡ some v) where
    pub is_now : IsController (controller_at c.log)
    is_now = controller_is c.log c.legal

    abbrev seen : ChipHistory → ChipView
    seen log = record { ram = see_all (ram_of log) v.ram; chip = chip_see log v.chip; told = v.told }

    -- the controller's word becomes what this history leaves, and the seat sees the history
    stepped : (n : ℕ) (log : ChipHistory) → ram_of log ≡ ram_of c.log → GoesFrom log c.log → IsControllerLegal log
        → n ≡ packed (controller_at log) → ((q : PortName) → holding q v.chip ≡ None → steps_of q log ≡ steps_of q c.log)
        → ChipKeeps profile (chip_with_view s (set s.words controller_cell n) id (seen log))
    stepped n log same goes legal word others =
        let r = c.ram in
        let ram = aside (ram_state s) r id v.ram n (map_at ram_view s.views id v at) in
        let hist : r.log ≡ ram_of log = c.same ∙ sym same in
        chip_moved profile s c id v (seen log) (set s.words controller_cell n) log (ram_of log) at
        (subst (λ (h : History). KeepsAt profile (with_view (ram_state s) (set s.words controller_cell n) id (see_all h v.ram)) h)
        hist ram) refl legal
        (get_or-set_same s.words controller_cell n 0 (let wide = r.wide in omega arith) ∙ word)
        (λ p.
        subst (Agree (holding p (see_all (ram_of log) v.ram))) (sym (holding-each_as (λ old. log) p v.chip))
        (agree_saw log (ram_of log) (holding p v.ram) (holding p (see_all (ram_of log) v.ram)) (holding p v.chip) refl
        (saw_all v.ram (ram_of log) p) (c.agree id p v at)))
        (sees_all profile log v.chip)
        (λ q g none b. record { part = through g b.part; own = others q none ∙ b.own })
        refl
        through
      where
        through : (g : ChipHistory) → GoesFrom c.log g → GoesFrom log g
        through g b = subst (λ (h : ChipHistory). GoesFrom h g) (sym goes.1) (goes_more goes.0 c.log g b)

    -- what was found
    finds : (found : ℕ) (me : ChipKnows) → me.0 ≡ v → found ≡ get_or s.words controller_cell 0
        → FindsController profile c.log me found
    finds found me is f =
        subst (λ (z : ChipView). FindsController profile c.log (z, me.1) found) (sym is)
        (record {
          found_is = f ∙ c.word;
          is = is_now;
          ram = λ p x h. subst (GoesOn profile p x) c.same
              (on_for profile (ram_state s) c.ram id p v.ram x (map_at ram_view s.views id v at) h);
          goes_on = λ p h e. let b = c.seats id p v h at e in record { part = b.part; own = b.own; legal = c.legal };
          told = c.told id v at;
        })

  pub looks_controller : (slots id : ℕ) (me : ChipKnows) (p : PortName) (h : ChipHistory) → holding p me.0.chip ≡ Some h
      → Allows (ChipKeeps profile) slots id me controller_cell (λ n. n) (LooksController profile p me)
  looks_controller slots id me p h held s c _ at _ =
      let v : ChipView = me.0 in
      let e : ControllerEvent = step_at p Look (controller_at c.log) in
      let log : ChipHistory = OfController e ∷ c.log in
      let legal : IsControllerLegal log =
      (record { before = refl; after = refl; stands = tt; is = is_now s c id v at }, c.legal) in (
        seen s c id v at log,
        keeps,
        tt,
        stepped s c id v at (get_or s.words controller_cell 0) log refl (OfController e ∷ [], refl) legal c.word
            (λ q none. steps_other p q e c.log refl (not_held p q v.chip h held none)),
        record {
          log = c.log;
          finds = finds s c id v at (get_or s.words controller_cell 0) me refl refl;
          view = refl;
          legal = legal;
        },
      )

  pub sees_controller : (slots id : ℕ) (me : ChipKnows)
      → Allows (ChipKeeps profile) slots id me controller_cell (λ n. n) (SeesController profile me)
  sees_controller slots id me s c _ at _ =
      let v : ChipView = me.0 in (
        seen s c id v at c.log,
        keeps,
        tt,
        stepped s c id v at (get_or s.words controller_cell 0) c.log refl (goes_again c.log) c.legal c.word (λ q none. refl),
        record { log = c.log; finds = finds s c id v at (get_or s.words controller_cell 0) me refl refl; view = refl },
      )

  pub sets_controller : (slots id : ℕ) (me : ChipKnows) (p : PortName) (change : ControllerChange) (before : Controller)
      (h : ChipHistory) → holding p me.0.chip ≡ Some h → IsSetting p change before
      → Allows (ChipKeeps profile) slots id me controller_cell
      (λ n. either (eqb n (packed before)) (packed (controller_after change before)) n)
      (SetsController profile p change before me)
  sets_controller slots id me p change before h held setting s c _ at _ =
      let v : ChipView = me.0 in
      let n0 : ℕ = get_or s.words controller_cell 0 in
      let new : ℕ = packed (controller_after change before) in
      let e : ControllerEvent = step_at p (Make change) before in
      let log : ChipHistory = OfController e ∷ c.log in
      let found = finds s c id v at n0 me refl refl in
      dite (ℕ_discrete n0 (packed before))
      (λ hit.
      let same : before ≡ controller_at c.log =
      one_word before (controller_at c.log) setting.is_before (is_now s c id v at) (sym hit ∙ c.word) in
      let legal : IsControllerLegal log =
      (record { before = same; after = refl; stands = setting.may; is = setting.is_after }, c.legal) in (
        seen s c id v at log,
        keeps,
        tt,
        subst (λ (b : Bool).
            ChipKeeps profile (chip_with_view s (set s.words controller_cell (either b new n0)) id (seen s c id v at log)))
            (sym (eq-eqb n0 (packed before) hit))
            (stepped s c id v at new log refl (OfController e ∷ [], refl) legal refl
            (λ q none. steps_other p q e c.log refl (not_held p q v.chip h held none))),
        record { log = c.log; finds = found; done = λ _. (same, refl, legal); lost = λ miss. absurd (miss hit) },
      ))
      (λ miss. (
        seen s c id v at c.log,
        keeps,
        tt,
        subst (λ (b : Bool).
            ChipKeeps profile (chip_with_view s (set s.words controller_cell (either b new n0)) id (seen s c id v at c.log)))
            (sym (ne_eqb n0 (packed before) miss))
            (stepped s c id v at n0 c.log refl (goes_again c.log) c.legal c.word (λ q none. refl)),
        record { log = c.log; finds = found; done = λ hit. absurd (miss hit); lost = λ _. refl },
      ))
