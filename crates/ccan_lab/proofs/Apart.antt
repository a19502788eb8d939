-- Lists and counts that grow place by place, and outcome by outcome.
use Rattle.std.proofs.Common.{add-one, ◌≡◌, Option, Some, None, option_map, ◌+◌, ◌++◌, ℕ, List, [], ◌∷◌, Bool, true, false, map, filter, take, length, get_or, zero, suc, ◌<◌, refl, ap, sym, ◌∙◌, arith, ◌||◌, not, cond, append-nil, length-append, if◌then◌else◌, string_bytes, Global, String, Bor}
use Rattle.ccan_outcomes.specs.declared.ending.Ending.{Ending}
use Rattle.ccan_lab.specs.Observed.{IsFirstText, first_count, is_named, is_observed, is_place, is_repeat, observed_lines, observed_texts, repeats_in, text_at}
use Rattle.ccan_lab.specs.Place.{place_name}
use Rattle.ccan_lab.specs.Rows.{rows_of}
use Rattle.std.specs.List.{list_any, range_with_len}
use Rattle.std.proofs.lemmas.List.Folds.{list_any-append}
use Rattle.std.proofs.lemmas.List.FromFn.{filter_of_map_range_with_len_more, map-range_with_len_more}
use Rattle.std.proofs.lemmas.Simd.{map-map}
use Rattle.std.specs.Str.{bytes_eq}
use Rattle.std.proofs.lemmas.Bool.{false≢true}
use Rattle.clap.proofs.WalkLemmas.{list_any-map}

-- the marks of the places so far, and that of one more
pub marks_more : (names : List (List ℕ)) (if1 if2 bus place : ℕ)
    → map (is_observed names if1 if2 bus) (range_with_len 0 (place + 1))
    ≡ map (is_observed names if1 if2 bus) (range_with_len 0 place) ++ is_observed names if1 if2 bus place ∷ []
marks_more names if1 if2 bus place = map-range_with_len_more (is_observed names if1 if2 bus) 0 place place (omega arith)

any_one : (p : List ℕ → Bool) (name : List ℕ) → list_any p (name ∷ []) ≡ p name
any_one p name = by (p name)
  where
    by : (b : Bool) → (b || false) ≡ b
    by true = refl
    by false = refl

-- whether a word names one of the places so far, or one more
pub place_more : (word : List ℕ) (if1 if2 bus place : ℕ) → is_place word if1 if2 bus (place + 1)
    ≡ (is_place word if1 if2 bus place || bytes_eq word (place_name if1 if2 bus place))
place_more word if1 if2 bus place =
    let so_far = map (place_name if1 if2 bus) (range_with_len 0 place) in
    ap (list_any (bytes_eq word)) (map-range_with_len_more (place_name if1 if2 bus) 0 place place (omega arith))
    ∙ list_any-append (bytes_eq word) so_far (place_name if1 if2 bus place ∷ [])
    ∙ ap (λ (b : Bool). list_any (bytes_eq word) so_far || b) (any_one (bytes_eq word) (place_name if1 if2 bus place))

-- how many of the outcomes so far are first to show what they do, and with one more
pub count_more : (texts : List (List ℕ)) (number : ℕ) → first_count texts (number + 1)
    ≡ (if is_repeat texts number then first_count texts number else first_count texts number + 1)
unfolding first_count
count_more texts number =
    ap length (filter_of_map_range_with_len_more not (is_repeat texts) 0 number number (omega arith))
    ∙ by (filter not (map (is_repeat texts) (range_with_len 0 number))) (is_repeat texts number)
  where
    by : (xs : List Bool) (b : Bool) → length (xs ++ cond (not b) (b ∷ []) []) ≡ (if b then length xs else length xs + 1)
    by xs true = ap length (append-nil xs)
    by xs false = length-append xs (false ∷ [])

pub count_none : (texts : List (List ℕ)) → first_count texts 0 ≡ 0
unfolding first_count
count_none texts = refl

-- what the outcomes show, by their lines
pub texts_by_rows : (marks : List Bool) (endings : List Ending)
    → map (observed_lines marks) (map rows_of endings) ≡ observed_texts marks endings
texts_by_rows marks endings = map-map (observed_lines marks) rows_of endings

-- the text in a place of a list of them
pub text_in : (texts : List (String Global)) (number : ℕ) (d : String Global) → number < length texts
    → text_at (map string_bytes texts) number ≡ string_bytes (get_or texts number d)
text_in [] number d within = absurd (omega arith)
text_in (text ∷ later) zero d within = refl
text_in (text ∷ later) (suc number) d within = text_in later number d (omega arith)

-- whether a text before it is the same, of one text more
pub repeats_more : (texts : List (List ℕ)) (number : ℕ) → repeats_in texts (number + 1)
    ≡ repeats_in texts number ++ is_repeat texts number ∷ []
repeats_more texts number = map-range_with_len_more (is_repeat texts) 0 number number (omega arith)

take_next : (texts : List (List ℕ)) (number : ℕ) → number < length texts
    → take (suc number) texts ≡ take number texts ++ text_at texts number ∷ []
take_next [] number within = absurd (omega arith)
take_next (text ∷ later) zero within = refl
take_next (text ∷ later) (suc number) within = ap (λ (l : List (List ℕ)). text ∷ l) (take_next later number (omega arith))

-- whether a text is among those so far, and one more
pub kept_more : (texts : List (List ℕ)) (number : ℕ) (text : List ℕ) → number < length texts
    → list_any (λ shown. bytes_eq shown text) (take (number + 1) texts)
    ≡ cond (bytes_eq (text_at texts number) text) true (list_any (λ shown. bytes_eq shown text) (take number texts))
kept_more texts number text within =
    let is : List ℕ → Bool = λ shown. bytes_eq shown text in
    ap (λ (n : ℕ). list_any is (take n texts)) (add-one number)
    ∙ ap (list_any is) (take_next texts number within)
    ∙ list_any-append is (take number texts) (text_at texts number ∷ [])
    ∙ by (list_any is (take number texts)) (is (text_at texts number))
  where
    by : (before last : Bool) → (before || (last || false)) ≡ cond last true before
    by true true = refl
    by true false = refl
    by false true = refl
    by false false = refl

pub not_not : (b : Bool) → not (not b) ≡ b
not_not true = refl
not_not false = refl

-- whether one of these is the text in this place, by what it is
pub repeat_of : (texts : List (List ℕ)) (number : ℕ) (text : List ℕ) → text_at texts number ≡ text
    → list_any (λ shown. bytes_eq shown text) (take number texts) ≡ is_repeat texts number
unfolding is_repeat
repeat_of texts number text is =
    ap (λ (t : List ℕ). list_any (λ shown. bytes_eq shown t) (take number texts)) (sym is)

-- a first outcome's text
pub first_text : (IsText : List ℕ → ℕ → List ℕ → Type 0) (repeat : Bool) (lines : List ℕ) (number : ℕ) (added : List ℕ)
    → repeat ≡ false → IsText lines number added → IsFirstText IsText repeat lines number added
first_text IsText true lines number added is text = absurd (false≢true (sym is))
first_text IsText false lines number added is text = text

turned : (b : Bool) (count : ℕ) → (if not b then count + 1 else count) ≡ (if b then count else count + 1)
turned true count = refl
turned false count = refl

-- the count with one outcome more
pub count_by : (texts : List (List ℕ)) (number count : ℕ) (first : Bool) → count ≡ first_count texts number
    → first ≡ not (is_repeat texts number)
    → (if first then count + 1 else count) ≡ first_count texts (number + 1)
count_by texts number count first so_far is =
    ap (λ (b : Bool). if b then count + 1 else count) is
    ∙ turned (is_repeat texts number) count
    ∙ ap (λ (n : ℕ). if is_repeat texts number then n else n + 1) so_far ∙ sym (count_more texts number)

-- no name was found where none of its number was
pub none_found : (found : Option ℕ) → None ≡ option_map (λ index. index + 1) found → found ≡ None
none_found None is = refl
none_found (Some index) is = absurd cc

-- one of these names
pub named_by : (names : List (Bor (List ℕ))) (name : List ℕ)
    → list_any (λ word. bytes_eq word.now name) names ≡ is_named (map (λ word. word.now) names) name
unfolding is_named
named_by names name = list_any-map (λ word. bytes_eq word name) (λ (word : Bor (List ℕ)). word.now) names
