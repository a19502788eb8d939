-- An exchange of an object's word keeps the rule.
use Rattle.std.proofs.Common.{◌≡◌, ◌≢◌, ℕ, ◌+◌, ◌<◌, Bool, true, false, List, [], ◌∷◌, set, get_or, length, eqb}
use Rattle.std.proofs.Common.{sym, refl, ap, ◌∙◌, subst, ⊎_elim, arith, Some, length-set, get_or-set_other, get_or-set_same}
use Rattle.std.proofs.Common.{ne_eqb, eq-eqb, zero-le}
use mathlib.Core.Option.{some}
use mathlib.Core.Logic.{dite}
use native.Mathlib.Decide.{ℕ_discrete}
use lib.ListN.{get_elem?}
use lib.Seq.{set-get_or}
use prog.Atomic.{either}
use Rattle.atomic_table.specs.Table.{keeps, Allows}
use Rattle.ccan_object.specs.declared.profile.Profile.{Profile}
use Rattle.ccan_ram.specs.declared.port.PortName.{PortName}
use Rattle.ccan_ram.specs.Port.{change_number}
use Rattle.ccan_ram.specs.History.{record_at, changes_by, next_number, last_number, BeginsWith, History}
use Rattle.ccan_words.specs.declared.view.PortView.{PortView}
use Rattle.ccan_words.specs.declared.version.Version.{Version}
use Rattle.ccan_ram.specs.ByPort.{holding, with_held}
use Rattle.ccan_words.specs.View.{see, see_all, View}
use Rattle.ccan_words.specs.Layout.{Form, IsNumber, Lies}
use Rattle.ccan_ram.specs.Sound.{IsSound, Stands}
use Rattle.ccan_words.specs.Rule.{Fits, Keeps, Heads, Versions}
use Rattle.ccan_words.specs.Plays.{Knows, GoesOn, Makes, change_of, Exchanges, IsDrafted}
use Rattle.ccan_ram.proofs.Booleans.{when, chosen, passed}
use Rattle.ccan_ram.proofs.Ports.{port_discrete}
use Rattle.ccan_ram.proofs.Counting.{changes_by_own, of_other}
use Rattle.ccan_words.proofs.Histories.{unchanged}
use Rattle.ccan_ram.proofs.Histories.{begins_again, begins_through, begins_further}
use Rattle.ccan_ram.proofs.Holding.{holding-with_held_same, holding-with_held_other, held_before, not_held}
use Rattle.ccan_words.proofs.SeatMoves.{TableState, with_view, sound_for, is_next, Within}
use Rattle.ccan_words.proofs.SeatMoves.{moved, goes_by, sees, on_for, standing, saw, below_top}
use Rattle.ccan_ram.proofs.Sounding.{changes_not, sound_change}

-- ---- a history with one change more

changed_last : (contends : ℕ → ℕ → Bool) (z : Version) (i : ℕ) (h : History) → contends z.object i ≡ true
    → last_number contends i (change_of z ∷ h) ≡ next_number z.port h
changed_last contends z i h e = chosen (contends z.object i) _ _ e

other_last : (contends : ℕ → ℕ → Bool) (z : Version) (i : ℕ) (h : History) → contends z.object i ≡ false
    → last_number contends i (change_of z ∷ h) ≡ last_number contends i h
other_last contends z i h e = passed (contends z.object i) _ _ e

-- what the port holds after its change
abbrev after : Version → History → PortView → PortView
after z h x = record { seen = change_of z ∷ h; note = []; quota = x.quota }

module _ {profile : Profile} {most : ℕ} {contends : ℕ → ℕ → Bool} (F : Form profile most contends) (lies : Lies F) where
  module _ (s : TableState) (r : Keeps F s) (id : ℕ) (me : Knows) (word : ℕ) (z : Version) (x : PortView)
      (held : holding z.port me.0 ≡ Some x)
      (is : word ≡ F.cell z.object) (d : IsDrafted F z x) (at : get_elem? s.views id ≡ some me.0) where
    abbrev v : View
    v = me.0

    abbrev p : PortName
    p = z.port

    abbrev log' : History
    log' = change_of z ∷ r.log

    abbrev y0 : PortView
    y0 = after z r.log x

    abbrev w : View
    w = with_held p (Some y0) (see_all log' v)

    abbrev ws : List ℕ
    ws = set s.words word z.number

    fx : Fits F s.words r.log p x
    fx = r.seats id p v x at held

    count : changes_by p r.log ≡ changes_by p x.seen
    count = changes_by_own p r.log x.seen fx.own

    room : changes_by p r.log < r.quota
    room = let c = count in let room = d.room in let own = r.one_quota id p v x at held in omega arith

    few : changes_by p r.log < most
    few = let c = room in let top = r.top in omega arith

    number_is : z.number ≡ next_number p r.log
    number_is = d.numbered ∙ ap (λ (c : ℕ). change_number p (c + 1)) (sym count)

    in_cells : word < F.cells
    in_cells = let c = lies.cells z.object d.held in omega arith

    in_size : word < length s.words
    in_size = let c = in_cells in let wide = r.wide in let above = lies.above in omega arith

    apart : (i : ℕ) → i ≢ word → get_or ws i 0 ≡ get_or s.words i 0
    apart i n = get_or-set_other s.words word i z.number 0 n

    place_apart : (n i : ℕ) → IsNumber most n → i < F.width → get_or ws (F.place n i) 0 ≡ get_or s.words (F.place n i) 0
    place_apart n i num l = apart (F.place n i) (λ eq. let f = (lies.fits n i num l).0 in let c = in_cells in omega arith)

    next_kept : (q : PortName) → changes_by q r.log < most → (i : ℕ) → i < F.width
        → get_or ws (F.place (next_number q r.log) i) 0 ≡ get_or s.words (F.place (next_number q r.log) i) 0
    next_kept q fq i l = place_apart (next_number q r.log) i (is_next r.log q fq) l

    -- the port's own holding, and another's
    own_holding : (y : PortView) → holding p w ≡ Some y → y0 ≡ y
    own_holding y h = let u = holding-with_held_same p (Some y0) (see_all log' v) in cc

    other_holding : (q : PortName) (y : PortView) → q ≢ p → holding q w ≡ Some y → holding q (see_all log' v) ≡ Some y
    other_holding q y n h = sym (holding-with_held_other p q (Some y0) (see_all log' v) n) ∙ h

    as_own : (q : PortName) (y : PortView) → q ≡ p → holding q w ≡ Some y → y0 ≡ y
    as_own q y eq h = own_holding y (subst (λ (u : PortName). holding u w ≡ Some y) eq h)

    within : Within w v
    within q y h =
        ⊎_elim
        (λ (eq : q ≡ p).
        (x, subst (λ (u : PortName). holding u v ≡ Some x) (sym eq) held, ap (λ (u : PortView). u.quota) (as_own q y eq h)))
        (λ (n : q ≢ p).
        let t = held_before (see log') q v y (other_holding q y n h) in
        (t.0, t.1, ap (λ (u : PortView). u.quota) t.2))
        (port_discrete q p)

    module _ (hit : get_or s.words word 0 ≡ z.old) where
      head : last_number contends z.object r.log ≡ z.old
      head = sym (r.heads z.object d.held) ∙ (ap (λ (i : ℕ). get_or s.words i 0) (sym is) ∙ hit)

      begins : BeginsWith r.log d.at
      begins = begins_through r.log x.seen d.at fx.part d.at_seen

      -- the draft's record is still that of the object
      here : z.before ≡ record_at z.object r.log
      here =
          sym d.before_is
          ∙ sym (unchanged contends r.log d.at z.object begins (head ∙ sym d.old_is) z.object
          (lies.itself z.object))

      sound : IsSound profile r.quota log'
      sound =
          sound_change p z.object z.change z.before r.log profile r.quota d.held here d.fit d.left room r.sound

      heads : Heads F ws log'
      heads k object =
          ⊎_elim
          (λ (eq : contends z.object k ≡ true).
          ap (λ (i : ℕ). get_or ws i 0) (sym (is ∙ lies.sharing z.object k eq))
          ∙ (get_or-set_same s.words word z.number 0 in_size ∙ (number_is ∙ sym (changed_last contends z k r.log eq))))
          (λ (n : contends z.object k ≡ false).
          apart (F.cell k) (λ eq. lies.separate z.object k d.held.least object.least n (sym is ∙ sym eq))
          ∙ (r.heads k object ∙ sym (other_last contends z k r.log n)))
          (when (contends z.object k))

      -- the version that is published has the words of the port's note
      published : (n j : ℕ) (h : History) → next_number p r.log ≡ n → h ≡ log' → j < F.width
          → get_or ws (F.place n j) 0 ≡ get_or (F.content h) j 0
      published n j h named ends l =
          subst (λ (u : ℕ × History). get_or ws (F.place u.0 j) 0 ≡ get_or (F.content u.1) j 0) (λ i. (named i, sym ends i))
          (place_apart (next_number p r.log) j (is_next r.log p few) l
          ∙ (fx.note few j (let f = d.full in omega arith) ∙ d.words j l r.log r.sound.legal (below_top F s r) begins head))

      versions : Versions F ws log'
      versions n j h t l =
          ⊎_elim
          (λ (a : (true ≡ true) × (next_number p r.log ≡ n) × (h ≡ log')). published n j h a.1 a.2 l)
          (λ (a : Stands r.log n h). place_apart n j (standing F s r n h a) l ∙ r.versions n j h a l)
          t

      own_fits : Fits F ws log' p y0
      own_fits = record { part = begins_again log'; own = refl; short = zero-le; note = λ _ j l. absurd (omega arith) }

      fits : (q : PortName) (y : PortView) → holding q w ≡ Some y → Fits F ws log' q y
      fits q y h =
          ⊎_elim
          (λ (eq : q ≡ p).
          subst (λ (u : PortName). Fits F ws log' u y) (sym eq) (subst (Fits F ws log' p) (as_own q y eq h) own_fits))
          (λ (n : q ≢ p).
          let t = held_before (see log') q v y (other_holding q y n h) in
          sees F s.words ws r.log log' q t.0 y
          (changes_not p z.object z.change z.before r.log q n) t.2 (next_kept q) (r.seats id q v t.0 at t.1))
          (port_discrete q p)

      done : Keeps F (with_view s ws id w)
      done =
          moved F s r id v w ws log' at within sound (length-set s.words word z.number ∙ r.wide) heads versions fits
          (λ q y none f.
          goes_by F s.words ws r.log log' q y (begins_further (change_of z) _ _ (begins_again r.log))
          (of_other p q (change_of z) r.log refl (not_held p q v x held none)) (next_kept q) f)

      makes : (y : PortView) → holding p v ≡ Some y → Makes profile p log' me (w, me.1) y
      makes y h =
          let same : x ≡ y = cc in
          subst (Makes profile p log' me (w, me.1)) same
          (record { view = refl; sound = sound_for r.quota x.quota log' (r.one_quota id p v x at held) sound })

  pub exchanges : (slots id : ℕ) (me : Knows) (word : ℕ) (z : Version) (x : PortView) → holding z.port me.0 ≡ Some x
      → word ≡ F.cell z.object → IsDrafted F z x
      → Allows (Keeps F) slots id me word (λ n. either (eqb n z.old) z.number n) (Exchanges F z me)
  exchanges slots id me word z x held is d s r _ at _ =
      let v : View = me.0 in
      let n0 : ℕ = get_or s.words word 0 in
      let found_last : n0 ≡ last_number contends z.object r.log =
      subst (λ (i : ℕ). get_or s.words i 0 ≡ last_number contends z.object r.log) (sym is) (r.heads z.object d.held) in
      let on : (y : PortView) → holding z.port v ≡ Some y → GoesOn profile z.port y r.log =
      λ y h. on_for F s r id z.port v y at h in
      let seen = saw F s r id v r.log at r.sound (begins_again r.log) (λ q. refl) (λ k. refl) (λ n h t. t) (λ q none. refl) in
      dite (ℕ_discrete n0 z.old)
      (λ hit. (
        w s r id me word z x held is d at,
        keeps,
        tt,
        subst (λ (b : Bool).
            Keeps F (with_view s (set s.words word (either b z.number n0)) id (w s r id me word z x held is d at)))
            (sym (eq-eqb n0 z.old hit)) (done s r id me word z x held is d at hit),
        record {
          log = r.log;
          goes_on = on;
          found_last = found_last;
          done = λ _ y h. makes s r id me word z x held is d at hit y h;
          lost = λ miss. absurd (miss hit);
        },
      ))
      (λ miss. (
        see_all r.log v,
        keeps,
        tt,
        subst (λ (b : Bool). Keeps F (with_view s (set s.words word (either b z.number n0)) id (see_all r.log v)))
            (sym (ne_eqb n0 z.old miss))
            (subst (λ (us : List ℕ). Keeps F (with_view s us id (see_all r.log v))) (sym (set-get_or s.words word 0)) seen),
        record { log = r.log; goes_on = on; found_last = found_last; done = λ hit. absurd (miss hit); lost = λ _. refl },
      ))
