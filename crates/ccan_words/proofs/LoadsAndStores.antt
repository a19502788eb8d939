-- Loads and stores of words keep the rule.
use Rattle.std.proofs.Common.{◌≡◌, ◌≢◌, ℕ, ◌+◌, ◌<◌, ◌≤◌, Bool, List, ◌∷◌, set, get_or, length, sym}
use Rattle.std.proofs.Common.{refl, ap, ◌∙◌, subst, ⊎_elim, arith, Some, length-set, get_or-set_other, get_or-set_same}
use Rattle.std.proofs.Common.{true≢false}
use mathlib.Core.Option.{some}
use mathlib.Core.Logic.{dite}
use native.Mathlib.Decide.{ℕ_discrete}
use lib.ListN.{get_elem?}
use lib.Seq.{set-get_or}
use Rattle.atomic_table.specs.Table.{keeps, Allows}
use Rattle.atomic_table.proofs.Lists.{set_again}
use Rattle.ccan_object.specs.declared.profile.Profile.{Profile}
use Rattle.ccan_object.specs.Profile.{Holds}
use Rattle.ccan_ram.specs.declared.port.PortName.{PortName}
use Rattle.ccan_ram.specs.Port.{port_index, change_number}
use Rattle.ccan_ram.specs.History.{record_at, changes_by, next_number, last_number, History}
use Rattle.ccan_ram.specs.Attempt.{look_at}
use Rattle.ccan_words.specs.declared.view.PortView.{PortView}
use Rattle.ccan_ram.specs.ByPort.{holding, with_held}
use Rattle.ccan_words.specs.View.{see_all, note_at, View}
use Rattle.ccan_words.specs.Layout.{Form, Lies, IsNumber}
use Rattle.ccan_ram.specs.Sound.{IsSound, Stands}
use Rattle.ccan_words.specs.Rule.{Latest, Fits, Keeps}
use Rattle.ccan_words.specs.Plays.{Knows, Looks, Watches, Reads, Notes}
use Rattle.ccan_ram.proofs.Ports.{port_at, port_discrete}
use Rattle.ccan_ram.proofs.Counting.{changes_by_own, of_other}
use Rattle.ccan_ram.proofs.Numbers.{stands_after, next_is_new}
use Rattle.ccan_ram.proofs.Histories.{begins_again, begins_further}
use Rattle.ccan_words.proofs.Histories.{latest}
use Rattle.ccan_ram.proofs.Notes.{taken_same, taken_before, taken_length}
use Rattle.ccan_ram.proofs.Holding.{holding-with_held_same, holding-with_held_other, not_held}
use Rattle.ccan_words.proofs.SeatMoves.{TableState, with_view, sound_for, is_next, Within}
use Rattle.ccan_words.proofs.SeatMoves.{moved, goes_by, on_for, standing, saw}
use Rattle.ccan_ram.proofs.Sounding.{sound_look}

module _ {profile : Profile} {most : ℕ} {contends : ℕ → ℕ → Bool} (F : Form profile most contends) (lies : Lies F) where
  pub looks : (slots id : ℕ) (me : Knows) (word : ℕ) (p : PortName) (k : ℕ) (x : PortView) → holding p me.0 ≡ Some x
      → Holds profile k
      → word ≡ F.cell k
      → Allows (Keeps F) slots id me word (λ n. n) (Looks F p k me)
  looks slots id me word p k x held object is s r _ at _ =
      let v : View = me.0 in
      let log' : History = look_at p k (record_at k r.log) ∷ r.log in
      let sound : IsSound profile r.quota log' = sound_look profile r.quota p k r.log object r.sound in
      let found_last : get_or s.words word 0 ≡ last_number contends k r.log =
      subst (λ (z : ℕ). get_or s.words z 0 ≡ last_number contends k r.log) (sym is) (r.heads k object) in (
        see_all log' v,
        keeps,
        tt,
        subst (λ (ws : List ℕ). Keeps F (with_view s ws id (see_all log' v))) (sym (set-get_or s.words word 0))
            (saw F s r id v log' at sound (begins_further _ _ _ (begins_again r.log)) (λ q. refl) (λ w. refl)
            (λ n h t. ⊎_elim (λ a. absurd (true≢false (sym a.0))) (λ a. a) t)
            (λ q none. of_other p q (look_at p k (record_at k r.log)) r.log refl (not_held p q v x held none))),
        record {
          log = r.log;
          view = refl;
          goes_on = λ y h. (on_for F s r id p v y at h, sound_for r.quota y.quota log' (r.one_quota id p v y at h) sound);
          found_last = found_last;
          latest = subst (λ (n : ℕ). Latest contends k n r.log) (sym found_last) (latest contends k r.log);
          number = λ nz. let l = latest contends k r.log in
              let t = l.some (λ z. nz (found_last ∙ z)) in subst (IsNumber most) (sym found_last)
              (standing F s r (last_number contends k r.log) t.0 t.1);
        },
      )

  pub watches : (slots id : ℕ) (me : Knows) (word : ℕ) → Allows (Keeps F) slots id me word (λ n. n) (λ _ n. Watches F me n)
  watches slots id me word s r _ at _ = let v : View = me.0 in (
    see_all r.log v,
    keeps,
    tt,
    subst (λ (ws : List ℕ). Keeps F (with_view s ws id (see_all r.log v))) (sym (set-get_or s.words word 0))
        (saw F s r id v r.log at r.sound (begins_again r.log) (λ q. refl) (λ w. refl) (λ n h t. t) (λ q none. refl)),
    record { log = r.log; view = refl; goes_on = λ p y h. on_for F s r id p v y at h },
  )

  pub reads : (slots id : ℕ) (me : Knows) (word : ℕ) → Allows (Keeps F) slots id me word (λ n. n) (Reads F word me)
  reads slots id me word s r _ at _ = let v : View = me.0 in (
    v,
    keeps,
    tt,
    subst (λ (z : List ℕ × List View). Keeps F record { words = z.0; homes = s.homes; views = z.1 })
        (λ i. (sym (set-get_or s.words word 0) i, sym (set_again s.views id v at) i)) r,
    record {
      view = refl;
      value = λ p x n j h held t l is. ap (λ (z : ℕ). get_or s.words z 0) is
          ∙ r.versions n j h (stands_after r.log x.seen n h (r.seats id p v x at held).part t) l;
    },
  )

  -- the first words of two ports' next versions lie apart
  next_apart : (h : History) (p q : PortName) (i j : ℕ) → changes_by p h < most → changes_by q h < most
      → i < F.width → j < F.width → q ≢ p → F.place (next_number q h) i ≢ F.place (next_number p h) j
  next_apart h p q i j fp fq li lj n e =
      let t = (lies.one (next_number q h) i (next_number p h) j (is_next h q fq) (is_next h p fp) li lj e).0 in
      let few = lies.few in
      let same : port_index q ≡ port_index p = omega arith in
      n (port_at q p same)

  -- a port's store of the next word of its version
  module _ (s : TableState) (r : Keeps F s) (id : ℕ) (v : View) (word : ℕ) (p : PortName) (j b : ℕ) (x : PortView)
      (held : holding p v ≡ Some x) (short : changes_by p x.seen < most) (inside : j < F.width) (up : j ≤ length x.note)
      (is : word ≡ F.place (next_number p x.seen) j) (at : get_elem? s.views id ≡ some v) where
    abbrev y0 : PortView
    y0 = note_at j b x

    abbrev w : View
    w = with_held p (Some y0) v

    abbrev ws : List ℕ
    ws = set s.words word b

    abbrev mine : ℕ
    mine = next_number p r.log

    fx : Fits F s.words r.log p x
    fx = r.seats id p v x at held

    count : changes_by p r.log ≡ changes_by p x.seen
    count = changes_by_own p r.log x.seen fx.own

    few : changes_by p r.log < most
    few = let c = count in let m = short in omega arith

    here : word ≡ F.place mine j
    here = is ∙ ap (λ (c : ℕ). F.place (change_number p (c + 1)) j) (sym count)

    number : IsNumber most mine
    number = is_next r.log p few

    behind_cells : F.cells ≤ word
    behind_cells = let f = (lies.fits mine j number inside).0 in let h = here in omega arith

    in_size : word < length s.words
    in_size = let f = (lies.fits mine j number inside).1 in let h = here in let wide = r.wide in omega arith

    apart : (i : ℕ) → i ≢ word → get_or ws i 0 ≡ get_or s.words i 0
    apart i n = get_or-set_other s.words word i b 0 n

    -- a word of another version, or another word of this one
    place_apart : (n i : ℕ) → IsNumber most n → i < F.width → ((n ≡ mine) × (i ≡ j) → ⊥)
        → get_or ws (F.place n i) 0 ≡ get_or s.words (F.place n i) 0
    place_apart n i num l other = apart (F.place n i) (λ e. other (lies.one n i mine j num number l inside (e ∙ here)))

    heads : (k : ℕ) → Holds profile k → get_or ws (F.cell k) 0 ≡ last_number contends k r.log
    heads k l =
        apart (F.cell k) (λ (e : F.cell k ≡ word). let cell = lies.cells k l in let above = behind_cells in absurd (omega arith))
        ∙ r.heads k l

    versions : (n i : ℕ) (h : History) → Stands r.log n h → i < F.width
        → get_or ws (F.place n i) 0 ≡ get_or (F.content h) i 0
    versions n i h t l =
        place_apart n i (standing F s r n h t) l
        (λ e. next_is_new r.log p h (subst (λ (m : ℕ). Stands r.log m h) e.0 t))
        ∙ r.versions n i h t l

    -- another port's holding, and this one's
    others : (q : PortName) (y : PortView) → q ≢ p → Fits F s.words r.log q y → Fits F ws r.log q y
    others q y n f =
        goes_by F s.words ws r.log r.log q y (begins_again r.log) refl
        (λ fq i l. apart (F.place (next_number q r.log) i) (λ e. next_apart r.log p q i j few fq l inside n (e ∙ here))) f

    other_holding : (q : PortName) (y : PortView) → q ≢ p → holding q w ≡ Some y → holding q v ≡ Some y
    other_holding q y n h = sym (holding-with_held_other p q (Some y0) v n) ∙ h

    as_own : (q : PortName) (y : PortView) → q ≡ p → holding q w ≡ Some y → y0 ≡ y
    as_own q y e h =
        let own : holding p w ≡ Some y = subst (λ (z : PortName). holding z w ≡ Some y) e h in
        let u = holding-with_held_same p (Some y0) v in cc

    within : Within w v
    within q y h =
        ⊎_elim
        (λ (e : q ≡ p).
        (x, subst (λ (z : PortName). holding z v ≡ Some x) (sym e) held, ap (λ (z : PortView). z.quota) (as_own q y e h)))
        (λ (n : q ≢ p). (y, other_holding q y n h, refl))
        (port_discrete q p)

    noted_word : (i : ℕ) → i < length y0.note → get_or ws (F.place mine i) 0 ≡ get_or y0.note i 0
    noted_word i l =
        let len = taken_length x.note j b up in
        dite (ℕ_discrete i j)
        (λ same. ap (λ (z : ℕ). get_or ws (F.place mine z) 0) same
        ∙ (ap (λ (z : ℕ). get_or ws z 0) (sym here) ∙ (get_or-set_same s.words word b 0 in_size
        ∙ (sym (taken_same x.note j b up) ∙ ap (λ (z : ℕ). get_or y0.note z 0) (sym same)))))
        (λ other. let less : i < j = omega arith in
        place_apart mine i number (omega arith) (λ e. other e.1)
        ∙ (fx.note few i (omega arith) ∙ sym (taken_before x.note j b i up less)))

    own_fits : Fits F ws r.log p y0
    own_fits = record {
      part = fx.part;
      own = fx.own;
      short = (let len = taken_length x.note j b up in omega arith);
      note = λ _ i l. noted_word i l;
    }

    fits : (q : PortName) (y : PortView) → holding q w ≡ Some y → Fits F ws r.log q y
    fits q y h =
        ⊎_elim
        (λ (e : q ≡ p). subst (λ (z : PortName × PortView). Fits F ws r.log z.0 z.1) (λ i. (sym e i, as_own q y e h i)) own_fits)
        (λ (n : q ≢ p). others q y n (r.seats id q v y at (other_holding q y n h)))
        (port_discrete q p)

    noted : Keeps F (with_view s ws id w)
    noted =
        moved F s r id v w ws r.log at within r.sound (length-set s.words word b ∙ r.wide) heads versions fits
        (λ q y none f. others q y (not_held p q v x held none) f)

  pub notes : (slots id : ℕ) (me : Knows) (word : ℕ) (p : PortName) (j b : ℕ) (x : PortView) → holding p me.0 ≡ Some x
      → changes_by p x.seen < most → j < F.width → j ≤ length x.note
      → word ≡ F.place (next_number p x.seen) j → Allows (Keeps F) slots id me word (λ _. b) (λ _ n. Notes p j b me n)
  notes slots id me word p j b x held short inside up is s r _ at _ = (
    with_held p (Some (note_at j b x)) me.0,
    keeps,
    tt,
    noted s r id me.0 word p j b x held short inside up is at,
    λ y h. ap (λ (z : PortView). (with_held p (Some (note_at j b z)) me.0, me.1)) (cc),
  )
