-- The lines of ports and of objects are those that stand in their places.
use Rattle.std.proofs.Common.{◌≡◌, ◌<◌, ◌≤◌, ◌+◌, ◌-◌, ◌++◌, ◌↔◌, ◌⊎◌, inl, inr, ℕ, zero, suc, List, [], ◌∷◌, Some, None, Option, Contains, length, length-append, map, slice_get, take, unwrap_or, option_map, refl, sym, ap, subst, ◌∙◌, arith}
use Rattle.std.proofs.lemmas.List.{length-map}
use Rattle.std.proofs.lemmas.List.FromFn.{length-enumerate_from}
use Rattle.std.proofs.lemmas.Option.{get_or_from_slice_get, slice_get-get_or, slice_get-map, slice_get_past, slice_get_within}
use Rattle.std.specs.List.{enumerate_from}
use Rattle.ccan_line.specs.Script.{ScriptFields}
use Rattle.ccan_object.specs.declared.record.Record.{Record}
use Rattle.ccan_object.specs.Profile.{objects_in}
use Rattle.ccan_ram.specs.declared.port.PortName.{PortName}
use Rattle.ccan_ram.specs.declared.port.PortName.TheVariants.{If1, If2, Bus}
use Rattle.ccan_line.specs.declared.line_end.LineEnd.{LineEnd}
use Rattle.ccan_outcomes.specs.declared.ending.Ending.{Ending}
use Rattle.ccan_outcomes.specs.OutcomeWords.{EndsSo, IsComplete, IsLeft}
use Rattle.ccan_lab.specs.Choices.{AreLinesOf, HasObjects, HasPort, final_of}
use Rattle.ccan_lab.specs.Observed.{places_of}
use Rattle.ccan_lab.specs.Rows.{final_row, final_rows, line_at, rows_of, row_text}
use Rattle.ccan_lab.specs.Summary.{AreLinesAt}
use Rattle.ccan_lab.proofs.Texts.{numbered_at, numbered_length}

-- ---- lists

pub front : {A : Type 0} (xs ys : List A) (k : ℕ) → k < length xs → slice_get (xs ++ ys) k ≡ slice_get xs k
front [] ys k low = absurd (omega (arith, low))
front (x ∷ xs) ys zero low = refl
front (x ∷ xs) ys (suc k) low = front xs ys k (omega (arith, low))

pub behind : {A : Type 0} (xs ys : List A) (n k : ℕ) → length xs ≡ n → slice_get (xs ++ ys) (n + k) ≡ slice_get ys k
behind [] ys n k long = let same : n + k ≡ k = omega (arith, long) in ap (λ (m : ℕ). slice_get ys m) same
behind (x ∷ xs) ys zero k long = absurd (omega (arith, long))
behind {A} (x ∷ xs) ys (suc n) k long =
    let next : suc n + k ≡ suc (n + k) = omega arith in
    ap (λ (m : ℕ). slice_get (x ∷ (xs ++ ys)) m) next ∙ behind xs ys n k (omega (arith, long))

-- an item stands in the first list or behind it
pub part_of : {A : Type 0} (xs ys : List A) (k : ℕ) (x : A) → slice_get (xs ++ ys) k ≡ Some x
    → (slice_get xs k ≡ Some x) ⊎ ((j : ℕ) × (k ≡ length xs + j) × (slice_get ys j ≡ Some x))
part_of [] ys k x at = let same : k ≡ 0 + k = omega arith in inr (k, same, at)
part_of (y ∷ xs) ys zero x at = inl at
part_of {A} (y ∷ xs) ys (suc k) x at =
    elim (part_of xs ys k x at) as (λ _. (slice_get (y ∷ xs) (suc k) ≡ Some x)
    ⊎ ((j : ℕ) × (suc k ≡ length (y ∷ xs) + j) × (slice_get ys j ≡ Some x))) [
      | inl here ↦ inl here
      | inr on ↦ let is = on.1 in inr (on.0, omega (arith, is), on.2)
    ]

pub item : {A : Type 0} (xs : List A) (k : ℕ) → k < length xs → (x : A) × (slice_get xs k ≡ Some x)
item [] k low = absurd (omega (arith, low))
item (x ∷ xs) zero low = (x, refl)
item (x ∷ xs) (suc k) low = item xs k (omega (arith, low))

-- what stands in the images is the image of an item, and the image of each item stands there
pub image_of : {A B : Type 0} (f : A → B) (xs : List A) (y : B) → Contains (map f xs) y → (x : A) × Contains xs x × (f x ≡ y)
image_of f [] y (k, low, at) = absurd (omega (arith, low))
image_of f (x ∷ xs) y (zero, low, at) = (x, (0, omega arith, refl), at)
image_of f (x ∷ xs) y (suc k, low, at) =
    let on = image_of f xs y (k, omega (arith, low), at) in
    let inside = on.1 in
    let less = inside.1 in
    (on.0, (suc inside.0, omega (arith, less), inside.2), on.2)

pub image_in : {A B : Type 0} (f : A → B) (xs : List A) (x : A) → Contains xs x → Contains (map f xs) (f x)
image_in f [] x (k, low, at) = absurd (omega (arith, low))
image_in f (y ∷ xs) x (zero, low, at) = (0, omega arith, ap f at)
image_in f (y ∷ xs) x (suc k, low, at) =
    let on = image_in f xs x (k, omega (arith, low), at) in
    let less = on.1 in
    (suc on.0, omega (arith, less), on.2)

-- ---- the line of an object

pub length-take-le-list : {A : Type 0} (n : ℕ) (xs : List A) → length (take n xs) ≤ length xs
length-take-le-list zero xs = omega arith
length-take-le-list (suc n) [] = omega arith
length-take-le-list (suc n) (x ∷ xs) = let later = length-take-le-list n xs in omega (arith, later)

taken : {A : Type 0} (n : ℕ) (xs : List A) (k : ℕ) → k < n → slice_get (take n xs) k ≡ slice_get xs k
taken zero xs k low = absurd (omega (arith, low))
taken (suc n) [] k low = refl
taken (suc n) (x ∷ xs) zero low = refl
taken (suc n) (x ∷ xs) (suc k) low = taken n xs k (omega (arith, low))

abbrev pub final_text : ℕ × Record → List ℕ
final_text object = final_row object.0 object.1

pub final_some : (records : List Record) (index : ℕ) (left : Record) → index < 64 → slice_get records index ≡ Some left
    → line_at (final_rows records) index ≡ final_row (index + 1) left
unfolding line_at final_rows
final_some records index left low at =
    let xs = take 64 records in
    let there : slice_get xs index ≡ Some left = taken 64 records index low ∙ at in
    let within = slice_get_within xs index left there in
    let read = sym (get_or_from_slice_get xs index left left there) in
    let numbered : slice_get (enumerate_from 1 xs) index ≡ Some (index + 1, left) =
    slice_get-get_or (enumerate_from 1 xs) index (0, left) (numbered_length 1 xs index within)
    ∙ ap (λ (o : ℕ × Record). Some o) (numbered_at xs index left within read) in
    ap (λ (o : Option (List ℕ)). unwrap_or o [])
    (slice_get-map final_text (enumerate_from 1 xs) index ∙ ap (option_map final_text) numbered)

past : (records : List Record) (index : ℕ) → slice_get records index ≡ None → length records ≤ index
past [] index at = omega arith
past (r ∷ rs) zero at = absurd cc
past (r ∷ rs) (suc index) at = let later = past rs index at in omega (arith, later)

pub final_none : (records : List Record) (index : ℕ) → slice_get records index ≡ None
    → line_at (final_rows records) index ≡ []
unfolding line_at final_rows
final_none records index at =
    let xs = take 64 records in
    let high = past records index at in
    let less = length-take-le-list 64 records in
    let many = length-map (enumerate_from 1 xs) final_text in
    let numbered = length-enumerate_from 1 xs in
    ap (λ (o : Option (List ℕ)). unwrap_or o [])
    (slice_get_past (map final_text (enumerate_from 1 xs)) index (omega (arith, high, less, many, numbered)))

-- ---- what a line answers, as it is printed

pub lines_printed : (IsOutcome : Ending → Type 0) (port : PortName) (line : ℕ) (ends : List LineEnd)
    → ((end : LineEnd) → Contains ends end ↔ EndsSo IsOutcome port line end)
    → AreLinesOf IsOutcome port line (map (row_text port) ends)
lines_printed IsOutcome port line ends are = record {
  right = λ text inside.
      let of = image_of (row_text port) ends text inside in
      (of.0, (are of.0).0 of.1, of.2);
  complete = λ end is. image_in (row_text port) ends end ((are end).1 is);
}

-- ---- the rows of an outcome

module _ (ending : Ending) where
  abbrev first : List (List ℕ)
  first = map (row_text If1) ending.if1

  abbrev second : List (List ℕ)
  second = map (row_text If2) ending.if2

  abbrev third : List (List ℕ)
  third = map (row_text Bus) ending.bus

  pub row_if1 : (line : ℕ) (answer : LineEnd) → slice_get ending.if1 line ≡ Some answer
      → line_at (rows_of ending) line ≡ row_text If1 answer
  unfolding line_at rows_of
  row_if1 line answer at =
      let low = slice_get_within ending.if1 line answer at in
      let many = length-map ending.if1 (row_text If1) in
      ap (λ (o : Option (List ℕ)). unwrap_or o [])
      (front first (second ++ (third ++ final_rows ending.records)) line (omega (arith, low, many))
      ∙ (slice_get-map (row_text If1) ending.if1 line ∙ ap (option_map (row_text If1)) at))

  pub row_if2 : (if1 line : ℕ) (answer : LineEnd) → length ending.if1 ≡ if1 → slice_get ending.if2 line ≡ Some answer
      → line_at (rows_of ending) (if1 + line) ≡ row_text If2 answer
  unfolding line_at rows_of
  row_if2 if1 line answer long at =
      let low = slice_get_within ending.if2 line answer at in
      let many = length-map ending.if2 (row_text If2) in
      ap (λ (o : Option (List ℕ)). unwrap_or o [])
      (behind first (second ++ (third ++ final_rows ending.records)) if1 line (length-map ending.if1 (row_text If1) ∙ long)
      ∙ (front second (third ++ final_rows ending.records) line (omega (arith, low, many))
      ∙ (slice_get-map (row_text If2) ending.if2 line ∙ ap (option_map (row_text If2)) at)))

  pub row_bus : (if1 if2 line : ℕ) (answer : LineEnd) → length ending.if1 ≡ if1 → length ending.if2 ≡ if2
      → slice_get ending.bus line ≡ Some answer → line_at (rows_of ending) (if1 + (if2 + line)) ≡ row_text Bus answer
  unfolding line_at rows_of
  row_bus if1 if2 line answer one two at =
      let low = slice_get_within ending.bus line answer at in
      let many = length-map ending.bus (row_text Bus) in
      ap (λ (o : Option (List ℕ)). unwrap_or o [])
      (behind first (second ++ (third ++ final_rows ending.records)) if1 (if2 + line)
      (length-map ending.if1 (row_text If1) ∙ one)
      ∙ (behind second (third ++ final_rows ending.records) if2 line (length-map ending.if2 (row_text If2) ∙ two)
      ∙ (front third (final_rows ending.records) line (omega (arith, low, many))
      ∙ (slice_get-map (row_text Bus) ending.bus line ∙ ap (option_map (row_text Bus)) at))))

  pub row_final : (if1 if2 bus index : ℕ) → length ending.if1 ≡ if1 → length ending.if2 ≡ if2 → length ending.bus ≡ bus
      → line_at (rows_of ending) (if1 + (if2 + (bus + index))) ≡ line_at (final_rows ending.records) index
  unfolding line_at rows_of
  row_final if1 if2 bus index one two three =
      ap (λ (o : Option (List ℕ)). unwrap_or o [])
      (behind first (second ++ (third ++ final_rows ending.records)) if1 (if2 + (bus + index))
      (length-map ending.if1 (row_text If1) ∙ one)
      ∙ (behind second (third ++ final_rows ending.records) if2 (bus + index) (length-map ending.if2 (row_text If2) ∙ two)
      ∙ behind third (final_rows ending.records) bus index (length-map ending.bus (row_text Bus) ∙ three)))

-- ---- the lines that stand in a place

module _ (script : ScriptFields) (IsOutcome : Ending → Type 0)
    (have : (ending : Ending) → IsOutcome ending → IsComplete script ending) where
  at_if1 : (line : ℕ) (texts : List (List ℕ)) → line < length script.if1 → AreLinesOf IsOutcome If1 line texts
      → AreLinesAt IsOutcome line texts
  at_if1 line texts low are = record {
    right = λ text inside.
        let of = are.right text inside in
        let there = of.1 in
        (there.0, there.1, row_if1 there.0 line of.0 there.2 ∙ of.2);
    complete = λ ending inside.
        let long = (have ending inside).if1 in
        let answer = item ending.if1 line (omega (arith, low, long)) in
        subst (Contains texts) (sym (row_if1 ending line answer.0 answer.1))
        (are.complete answer.0 (ending, inside, answer.1));
  }

  at_if2 : (line : ℕ) (texts : List (List ℕ)) → line < length script.if2 → AreLinesOf IsOutcome If2 line texts
      → AreLinesAt IsOutcome (length script.if1 + line) texts
  at_if2 line texts low are = record {
    right = λ text inside.
        let of = are.right text inside in
        let there = of.1 in (
          there.0,
          there.1,
          row_if2 there.0 (length script.if1) line of.0 (have there.0 there.1).if1 there.2 ∙ of.2,
        );
    complete = λ ending inside.
        let long = (have ending inside).if2 in
        let answer = item ending.if2 line (omega (arith, low, long)) in
        subst (Contains texts)
        (sym (row_if2 ending (length script.if1) line answer.0 (have ending inside).if1 answer.1))
        (are.complete answer.0 (ending, inside, answer.1));
  }

  at_bus : (line : ℕ) (texts : List (List ℕ)) → line < length script.bus → AreLinesOf IsOutcome Bus line texts
      → AreLinesAt IsOutcome (length script.if1 + (length script.if2 + line)) texts
  at_bus line texts low are = record {
    right = λ text inside.
        let of = are.right text inside in
        let there = of.1 in
        let each = have there.0 there.1 in (
          there.0,
          there.1,
          row_bus there.0 (length script.if1) (length script.if2) line of.0 each.if1 each.if2 there.2 ∙ of.2,
        );
    complete = λ ending inside.
        let each = have ending inside in
        let long = each.bus in
        let answer = item ending.bus line (omega (arith, low, long)) in
        subst (Contains texts)
        (sym (row_bus ending (length script.if1) (length script.if2) line answer.0 each.if1 each.if2 answer.1))
        (are.complete answer.0 (ending, inside, answer.1));
  }

  module _ (memories : List (List Record))
      (are_left : (records : List Record) → Contains memories records ↔ IsLeft IsOutcome records) where
    at_object : (index : ℕ) (texts : List (List ℕ)) → texts ≡ map (final_of (index + 1)) memories
        → AreLinesAt IsOutcome (length script.if1 + (length script.if2 + (length script.bus + index))) texts
    at_object index texts is = record {
      right = λ text inside.
          let of = image_of (final_of (index + 1)) memories text (subst (λ (l : List (List ℕ)). Contains l text) is inside) in
          let there = (are_left of.0).0 of.1 in
          let each = have there.0 there.1 in
          let here : index ≡ index + 1 - 1 = omega arith in (
            there.0,
            there.1,
            row_final there.0 (length script.if1) (length script.if2) (length script.bus) index each.if1 each.if2 each.bus
                ∙ (ap (λ (n : ℕ). line_at (final_rows there.0.records) n) here
                ∙ (ap (final_of (index + 1)) there.2 ∙ of.2)),
          );
      complete = λ ending inside.
          let each = have ending inside in
          let there = image_in (final_of (index + 1)) memories ending.records
          ((are_left ending.records).1 (ending, inside, refl)) in
          let here : index + 1 - 1 ≡ index = omega arith in
          subst (λ (l : List (List ℕ)). Contains l (line_at (rows_of ending)
          (length script.if1 + (length script.if2 + (length script.bus + index))))) (sym is)
          (subst (Contains (map (final_of (index + 1)) memories))
          (ap (λ (n : ℕ). line_at (final_rows ending.records) n) here
          ∙ sym (row_final ending (length script.if1) (length script.if2) (length script.bus) index each.if1 each.if2
          each.bus)) there);
    }

    -- ---- all places

    module _ (one two three four : List (List (List ℕ))) (if1 : HasPort IsOutcome If1 (length script.if1) [] one)
        (if2 : HasPort IsOutcome If2 (length script.if2) one two) (bus : HasPort IsOutcome Bus (length script.bus) two three)
        (objects : HasObjects memories (objects_in script.profile) three four) where
      long1 : length one ≡ length script.if1
      long1 = ap (λ (l : List (List (List ℕ))). length l) if1.new_is ∙ if1.as_many

      long2 : length two ≡ length script.if1 + length script.if2
      long2 =
          let sum = length-append one if2.more in
          let many = if2.as_many in
          let before = long1 in
          ap (λ (l : List (List (List ℕ))). length l) if2.new_is ∙ omega (arith, sum, many, before)

      long3 : length three ≡ length script.if1 + length script.if2 + length script.bus
      long3 =
          let sum = length-append two bus.more in
          let many = bus.as_many in
          let before = long2 in
          ap (λ (l : List (List (List ℕ))). length l) bus.new_is ∙ omega (arith, sum, many, before)

      pub as_many_places : length four ≡ places_of script
      as_many_places =
          let sum = length-append three objects.more in
          let many = objects.as_many in
          let before = long3 in
          ap (λ (l : List (List (List ℕ))). length l) objects.new_is ∙ omega (arith, sum, many, before)

      in_one : (place : ℕ) (lines : List (List ℕ)) → slice_get one place ≡ Some lines → AreLinesAt IsOutcome place lines
      in_one place lines at =
          let there = ap (λ (l : List (List (List ℕ))). slice_get l place) (sym if1.new_is) ∙ at in
          let low = slice_get_within if1.more place lines there in
          let many = if1.as_many in
          at_if1 place lines (omega (arith, low, many)) (if1.are place lines there)

      in_two : (place : ℕ) (lines : List (List ℕ)) → slice_get two place ≡ Some lines → AreLinesAt IsOutcome place lines
      in_two place lines at =
          elim (part_of one if2.more place lines (ap (λ (l : List (List (List ℕ))). slice_get l place) (sym if2.new_is) ∙ at))
          as (λ _. AreLinesAt IsOutcome place lines) [
            | inl here ↦ in_one place lines here
            | inr (j, is, there) ↦
                let low = slice_get_within if2.more j lines there in
                let many = if2.as_many in
                let before = long1 in
                subst (λ (n : ℕ). AreLinesAt IsOutcome n lines)
                (sym (is ∙ ap (λ (n : ℕ). n + j) long1))
                (at_if2 j lines (omega (arith, low, many)) (if2.are j lines there))
          ]

      in_three : (place : ℕ) (lines : List (List ℕ)) → slice_get three place ≡ Some lines → AreLinesAt IsOutcome place lines
      in_three place lines at =
          elim (part_of two bus.more place lines (ap (λ (l : List (List (List ℕ))). slice_get l place) (sym bus.new_is) ∙ at))
          as (λ _. AreLinesAt IsOutcome place lines) [
            | inl here ↦ in_two place lines here
            | inr (j, is, there) ↦
                let low = slice_get_within bus.more j lines there in
                let many = bus.as_many in
                let before = long2 in
                let here : length script.if1 + (length script.if2 + j) ≡ place = omega (arith, is, before) in
                subst (λ (n : ℕ). AreLinesAt IsOutcome n lines) here
                (at_bus j lines (omega (arith, low, many)) (bus.are j lines there))
          ]

      pub in_four : (place : ℕ) (lines : List (List ℕ)) → slice_get four place ≡ Some lines → AreLinesAt IsOutcome place lines
      in_four place lines at =
          elim (part_of three objects.more place lines
          (ap (λ (l : List (List (List ℕ))). slice_get l place) (sym objects.new_is) ∙ at))
          as (λ _. AreLinesAt IsOutcome place lines) [
            | inl here ↦ in_three place lines here
            | inr (j, is, there) ↦
                let before = long3 in
                let here : length script.if1 + (length script.if2 + (length script.bus + j)) ≡ place =
                omega (arith, is, before) in
                subst (λ (n : ℕ). AreLinesAt IsOutcome n lines) here
                (at_object j lines (objects.are j lines there))
          ]
