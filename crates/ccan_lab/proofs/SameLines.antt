-- Outcomes that have the same where it is looked at show the same lines there.
use Rattle.std.proofs.Common.{ℕ, zero, suc, ◌+◌, ◌-◌, ◌++◌, ◌<◌, ◌≤◌, ◌≡◌, Bool, true, false, List, [], None, Some, Option, length, length-append, map, min, slice_get, take, unwrap_or, if◌then◌else◌, refl, sym, ap, subst, ◌∙◌, arith, inl, inr}
use Rattle.std.proofs.lemmas.Bool.{cases_lt}
use Rattle.std.proofs.lemmas.List.{length-map, length-take}
use Rattle.std.proofs.lemmas.List.FromFn.{length-enumerate_from}
use Rattle.std.proofs.lemmas.Option.{slice_get_past}
use Rattle.std.specs.List.{enumerate_from}
use Rattle.ccan_object.specs.declared.record.Record.{Record}
use Rattle.ccan_ram.specs.declared.port.PortName.TheVariants.{If1, If2, Bus}
use Rattle.ccan_outcomes.specs.declared.ending.Ending.{Ending}
use Rattle.ccan_outcomes.specs.Observed.{LookAlike, is_marked}
use Rattle.ccan_lab.specs.Observed.{observed_line, observed_lines}
use Rattle.ccan_lab.specs.Report.{each}
use Rattle.ccan_lab.specs.Rows.{final_rows, line_at, rows_of, row_text}
use Rattle.ccan_lab.proofs.Chosen.{final_none, final_some, final_text, item, row_bus, row_final, row_if1, row_if2}

-- the same texts, one after another
each_same : (count : ℕ) (f g : ℕ → List ℕ) → ((k : ℕ) → f k ≡ g k) → each count f ≡ each count g
unfolding each
each_same zero f g same = refl
each_same (suc count) f g same = λ i. each_same count f g same i ++ same count i

-- ---- the lines of objects

final_long : (records others : List Record) → length records ≡ length others
    → length (final_rows records) ≡ length (final_rows others)
unfolding final_rows
final_long records others long =
    let xs = take 64 records in
    let ys = take 64 others in
    length-map (enumerate_from 1 xs) final_text
    ∙ (length-enumerate_from 1 xs
    ∙ (length-take 64 records ∙ (ap (λ (n : ℕ). min 64 n) long ∙ sym (length-take 64 others)))
    ∙ (sym (length-enumerate_from 1 ys) ∙ sym (length-map (enumerate_from 1 ys) final_text)))

final_past : (records : List Record) (index : ℕ) → 64 ≤ index → line_at (final_rows records) index ≡ []
unfolding line_at final_rows
final_past records index high =
    let xs = take 64 records in
    let many = length-map (enumerate_from 1 xs) final_text in
    let numbered = length-enumerate_from 1 xs in
    let taken = length-take 64 records in
    let few : length xs ≤ 64 = grind (arith, taken) in
    ap (λ (o : Option (List ℕ)). unwrap_or o [])
    (slice_get_past (map final_text (enumerate_from 1 xs)) index (omega (arith, high, few, many, numbered)))

final_same : (records others : List Record) (index : ℕ) → slice_get records index ≡ slice_get others index
    → line_at (final_rows records) index ≡ line_at (final_rows others) index
final_same records others index same =
    elim (cases_lt index 64) as (λ _. line_at (final_rows records) index ≡ line_at (final_rows others) index) [
      | inl low ↦ by (slice_get records index) refl low
      | inr high ↦ final_past records index high ∙ sym (final_past others index high)
    ]
  where
    by : (found : Option Record) → slice_get records index ≡ found → index < 64
        → line_at (final_rows records) index ≡ line_at (final_rows others) index
    by None at low = final_none records index at ∙ sym (final_none others index (sym same ∙ at))
    by (Some left) at low = final_some records index left low at ∙ sym (final_some others index left low (sym same ∙ at))

-- ---- all lines

module _ (marks : List Bool) (one other : Ending) (if1 : length one.if1 ≡ length other.if1)
    (if2 : length one.if2 ≡ length other.if2) (bus : length one.bus ≡ length other.bus)
    (records : length one.records ≡ length other.records) (alike : LookAlike marks one other) where
  abbrev Same : ℕ → Type 0
  Same place = line_at (rows_of one) place ≡ line_at (rows_of other) place

  same_if1 : (line : ℕ) → line < length one.if1 → is_marked marks line ≡ true → Same line
  same_if1 line low marked =
      let a = item one.if1 line low in
      row_if1 one line a.0 a.1 ∙ sym (row_if1 other line a.0 (sym (alike.if1 line marked) ∙ a.1))

  same_if2 : (line : ℕ) → line < length one.if2 → is_marked marks (length one.if1 + line) ≡ true
      → Same (length one.if1 + line)
  same_if2 line low marked =
      let a = item one.if2 line low in
      row_if2 one (length one.if1) line a.0 refl a.1
      ∙ sym (row_if2 other (length one.if1) line a.0 (sym if1) (sym (alike.if2 line marked) ∙ a.1))

  same_bus : (line : ℕ) → line < length one.bus → is_marked marks (length one.if1 + length one.if2 + line) ≡ true
      → Same (length one.if1 + (length one.if2 + line))
  same_bus line low marked =
      let a = item one.bus line low in
      row_bus one (length one.if1) (length one.if2) line a.0 refl refl a.1
      ∙ sym (row_bus other (length one.if1) (length one.if2) line a.0 (sym if1) (sym if2) (sym (alike.bus line marked) ∙ a.1))

  same_final : (index : ℕ) → is_marked marks (length one.if1 + length one.if2 + length one.bus + index) ≡ true
      → Same (length one.if1 + (length one.if2 + (length one.bus + index)))
  same_final index marked =
      row_final one (length one.if1) (length one.if2) (length one.bus) index refl refl refl
      ∙ (final_same one.records other.records index (alike.records index marked)
      ∙ sym (row_final other (length one.if1) (length one.if2) (length one.bus) index (sym if1) (sym if2) (sym bus)))

  behind_bus : (k : ℕ) → length one.if1 + length one.if2 + length one.bus ≤ k → is_marked marks k ≡ true → Same k
  behind_bus k high marked =
      let index = k - (length one.if1 + length one.if2 + length one.bus) in
      let at : length one.if1 + (length one.if2 + (length one.bus + index)) ≡ k = omega (arith, high) in
      let place : length one.if1 + length one.if2 + length one.bus + index ≡ k = omega (arith, high) in
      subst Same at (same_final index (subst (λ (p : ℕ). is_marked marks p ≡ true) (sym place) marked))

  behind_if2 : (k : ℕ) → length one.if1 + length one.if2 ≤ k → is_marked marks k ≡ true → Same k
  behind_if2 k high marked =
      elim (cases_lt k (length one.if1 + length one.if2 + length one.bus)) as (λ _. Same k) [
        | inl low ↦
            let line = k - (length one.if1 + length one.if2) in
            let at : length one.if1 + (length one.if2 + line) ≡ k = omega (arith, high) in
            let place : length one.if1 + length one.if2 + line ≡ k = omega (arith, high) in
            subst Same at (same_bus line (omega (arith, low, high))
            (subst (λ (p : ℕ). is_marked marks p ≡ true) (sym place) marked))
        | inr more ↦ behind_bus k more marked
      ]

  behind_if1 : (k : ℕ) → length one.if1 ≤ k → is_marked marks k ≡ true → Same k
  behind_if1 k high marked =
      elim (cases_lt k (length one.if1 + length one.if2)) as (λ _. Same k) [
        | inl low ↦
            let line = k - length one.if1 in
            let at : length one.if1 + line ≡ k = omega (arith, high) in
            subst Same at (same_if2 line (omega (arith, low, high)) (subst (λ (p : ℕ). is_marked marks p ≡ true) (sym at) marked))
        | inr more ↦ behind_if2 k more marked
      ]

  same_line : (k : ℕ) → is_marked marks k ≡ true → Same k
  same_line k marked =
      elim (cases_lt k (length one.if1)) as (λ _. Same k) [
        | inl low ↦ same_if1 k low marked
        | inr more ↦ behind_if1 k more marked
      ]

  same_shown : (k : ℕ) → observed_line marks (rows_of one) k ≡ observed_line marks (rows_of other) k
  unfolding observed_line
  same_shown k = by (is_marked marks k) refl
    where
      by : (b : Bool) → is_marked marks k ≡ b
          → (if is_marked marks k then line_at (rows_of one) k else [])
          ≡ (if is_marked marks k then line_at (rows_of other) k else [])
      by true marked = ap (λ (l : List ℕ). if is_marked marks k then l else []) (same_line k marked)
      by false none =
          ap (λ (b : Bool). if b then line_at (rows_of one) k else []) none
          ∙ sym (ap (λ (b : Bool). if b then line_at (rows_of other) k else []) none)

  as_long : length (rows_of one) ≡ length (rows_of other)
  unfolding rows_of
  as_long =
      let a = map (row_text If1) one.if1 in
      let b = map (row_text If2) one.if2 in
      let d = map (row_text Bus) one.bus in
      let e = map (row_text If1) other.if1 in
      let f = map (row_text If2) other.if2 in
      let g = map (row_text Bus) other.bus in
      let r = final_rows one.records in
      let s = final_rows other.records in
      let one1 = length-append a (b ++ (d ++ r)) in
      let one2 = length-append b (d ++ r) in
      let one3 = length-append d r in
      let two1 = length-append e (f ++ (g ++ s)) in
      let two2 = length-append f (g ++ s) in
      let two3 = length-append g s in
      let long1 = length-map one.if1 (row_text If1) in
      let long2 = length-map one.if2 (row_text If2) in
      let long3 = length-map one.bus (row_text Bus) in
      let more1 = length-map other.if1 (row_text If1) in
      let more2 = length-map other.if2 (row_text If2) in
      let more3 = length-map other.bus (row_text Bus) in
      let ends = final_long one.records other.records records in
      omega (arith, one1, one2, one3, two1, two2, two3, long1, long2, long3, more1, more2, more3, ends, if1, if2, bus)

  pub lines_same : observed_lines marks (rows_of one) ≡ observed_lines marks (rows_of other)
  lines_same =
      each_same (length (rows_of one)) (observed_line marks (rows_of one)) (observed_line marks (rows_of other)) same_shown
      ∙ ap (λ (n : ℕ). each n (observed_line marks (rows_of other))) as_long
