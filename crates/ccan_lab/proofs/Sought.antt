-- A line is one of an outcome if a letter of its word tells it, so the first outcome with some lines is that of the first word with
-- their signs.
use Rattle.std.proofs.Common.{ℕ, zero, suc, ◌+◌, ◌≡◌, ◌==◌, ◌||◌, ◌&&◌, not, cond, nat_lt, Bool, List, [], ◌∷◌, ◌++◌, Option, None, Some, Contains, length, map, position, slice_get, if◌then◌else◌, refl, sym, ap, ◌∙◌, arith, append-nil}
use Rattle.std.specs.List.{flat_map, list_any, prefix_len, range_with_len}
use Rattle.std.proofs.lemmas.List.Concat.{flat_map-append}
use Rattle.std.proofs.lemmas.List.Folds.{list_any-append}
use Rattle.std.proofs.lemmas.List.Sorted.{list_any-IsPermutation}
use Rattle.std.proofs.lemmas.Option.{get_or_from_slice_get}
use Rattle.ccan_language.specs.declared.letter.Letter.{Letter}
use Rattle.ccan_language.specs.Count.{all_words}
use Rattle.ccan_language.specs.Words.{with_letters}
use Rattle.ccan_language.specs.Signs.{has_sign, has_signs, first_with as first_with_signs}
use Rattle.ccan_language.proofs.Borne.{position_map}
use Rattle.ccan_language.proofs.Grown.{first_in, later_in}
use Rattle.ccan_language.proofs.Listed.{its_words}
use Rattle.ccan_line.specs.declared.line_answer.LineAnswer.TheVariants as answer
use Rattle.ccan_object.specs.declared.record.Record.{Record}
use Rattle.ccan_ram.specs.declared.port.PortName.{PortName}
use Rattle.ccan_ram.specs.declared.port.PortName.TheVariants.{If1, If2, Bus}
use Rattle.ccan_line.specs.declared.line_end.LineEnd.{LineEnd}
use Rattle.ccan_line.specs.LineEnd.{unframed}
use Rattle.ccan_outcomes.specs.Answers.{Answers}
use Rattle.ccan_outcomes.specs.declared.ending.Ending.{Ending}
use Rattle.ccan_outcomes.specs.declared.words.OutcomeWords.{OutcomeWords}
use Rattle.ccan_outcomes.specs.Letters.{AreNumbers, column_of, lettered, place_at, place_behind}
use Rattle.ccan_outcomes.specs.OutcomeWords.{AreOfLines, IsWordOf, ending_of_word, endings_in, last_place}
use Rattle.ccan_outcomes.proofs.LettersIn.{all_more, column_at, column_behind}
use Rattle.ccan_outcomes.proofs.Worded.{shown_by}
use Rattle.ccan_lab.specs.Answer.{first_with}
use Rattle.ccan_lab.specs.LineSigns.{is_told, lines_of_letter, lines_told, port_at, tells_line}
use Rattle.ccan_lab.specs.Rows.{end_lines, begins_so, final_rows, has_line, has_lines, lines_of}

-- ---- lists

-- two tests that agree on the items of a list find the same place
same_prefix : {X : Type 0} (p q : X → Bool) (xs : List X) → ((x : X) → Contains xs x → p x ≡ q x)
    → prefix_len (λ x. not (p x)) xs ≡ prefix_len (λ x. not (q x)) xs
same_prefix p q [] same = refl
same_prefix p q (x ∷ xs) same =
    ap (λ (b : Bool). cond (not b) (1 + prefix_len (λ it. not (p it)) xs) 0) (same x (first_in x xs))
    ∙ ap (λ (n : ℕ). cond (not (q x)) (1 + n) 0) (same_prefix p q xs (λ y inside. same y (later_in x xs y inside)))

pub same_position : {X : Type 0} (p q : X → Bool) (xs : List X) → ((x : X) → Contains xs x → p x ≡ q x)
    → position p xs ≡ position q xs
same_position p q xs same =
    ap (λ (n : ℕ). cond (nat_lt n (length xs)) (Some n) None) (same_prefix p q xs same)

-- the numbers so far, and one more
pub range_more : (a n : ℕ) → range_with_len a (n + 1) ≡ range_with_len a n ++ (a + n) ∷ []
range_more a zero = let same : a ≡ a + 0 = omega arith in ap (λ (k : ℕ). k ∷ []) same
range_more a (suc n) =
    let next : suc n + 1 ≡ suc (n + 1) = omega arith in
    let same : a + 1 + n ≡ a + suc n = omega arith in
    ap (range_with_len a) next
    ∙ ap (λ (l : List ℕ). a ∷ l) (range_more (a + 1) n ∙ ap (λ (k : ℕ). range_with_len (a + 1) n ++ k ∷ []) same)

-- a line stands among lists that are put together where it stands in one of them
pub any_of_each : {X : Type 0} (begin : List ℕ) (f : X → List (List ℕ)) (xs : List X)
    → has_line begin (flat_map f xs) ≡ list_any (λ x. has_line begin (f x)) xs
unfolding has_line
any_of_each begin f [] = refl
any_of_each begin f (x ∷ xs) =
    list_any-append (begins_so begin) (f x) (flat_map f xs)
    ∙ ap (λ (b : Bool). list_any (begins_so begin) (f x) || b) (any_of_each begin f xs)

-- ---- the lines of a word

-- the port by the column of a place
abbrev by_column : ℕ → Option PortName
by_column column =
    if column == column_of If1 then Some If1 else (if column == column_of If2 then Some If2
    else (if column == column_of Bus then Some Bus else None))

own_column : (port : PortName) → by_column (column_of port) ≡ Some port
own_column If1 = refl
own_column If2 = refl
own_column Bus = refl

at_line : (port : PortName) (line : ℕ) → port_at (place_at port line) ≡ Some port
at_line port line = ap by_column (column_at port line) ∙ own_column port

at_end : (lines : ℕ) → port_at (place_behind lines) ≡ None
at_end lines = ap by_column (column_behind lines)

module _ (words : OutcomeWords) where
  -- the letters of lines of one port
  of_port : (port : PortName) (line : ℕ) (numbers : List ℕ) (ends : List LineEnd)
      → AreNumbers words.numbers.answers.keys numbers ends
      → flat_map (lines_of_letter words) (lettered (place_at port line) numbers) ≡ flat_map (end_lines port) ends
  of_port port line [] [] are = refl
  of_port port line [] (a ∷ rest) are = absurd are
  of_port port line (n ∷ ns) [] are = absurd are
  of_port port line (n ∷ ns) (a ∷ rest) are =
      let later = flat_map (lines_of_letter words) (lettered (place_at port line + 4) ns) in
      let next : place_at port line + 4 ≡ place_at port (line + 1) = omega arith in
      ap (λ (o : Option PortName). lines_told words o n ++ later) (at_line port line)
      ∙ ap (λ (x : LineEnd). end_lines port x ++ later)
      (get_or_from_slice_get words.numbers.answers.keys n a (unframed answer.Init) are.0)
      ∙ ap (λ (l : List (List ℕ)). end_lines port a ++ l)
      (ap (λ (p : ℕ). flat_map (lines_of_letter words) (lettered p ns)) next ∙ of_port port (line + 1) ns rest are.1)

  module _ (answers : Answers) (records : List Record) (word : List Letter) (is : IsWordOf words answers records word) where
    abbrev one : List Letter
    one = lettered (place_at If1 0) is.if1

    abbrev two : List Letter
    two = lettered (place_at If2 0) is.if2

    abbrev three : List Letter
    three = lettered (place_at Bus 0) is.bus

    abbrev end : List Letter
    end = lettered (last_place words) (is.memory ∷ [])

    abbrev whole : List Letter
    whole = one ++ (two ++ (three ++ end))

    -- the letters that are put into the word tell the lines of its outcome
    of_letters : lines_of (ending_of_word words word) ≡ flat_map (lines_of_letter words) whole
    unfolding lines_of
    of_letters =
        let f = lines_of_letter words in
        let last : flat_map f end ≡ final_rows records =
        ap (λ (o : Option PortName). lines_told words o is.memory ++ []) (at_end (words.if1 + words.if2 + words.bus))
        ∙ append-nil (lines_told words None is.memory)
        ∙ ap final_rows (get_or_from_slice_get words.numbers.memories.keys is.memory records [] is.memory_is) in
        ap lines_of (shown_by words answers records word is)
        ∙ sym (
        flat_map-append f one (two ++ (three ++ end))
        ∙ ap (λ (l : List (List ℕ)). l ++ flat_map f (two ++ (three ++ end))) (of_port If1 0 is.if1 answers.if1 is.if1_are)
        ∙ ap (λ (l : List (List ℕ)). flat_map (end_lines If1) answers.if1 ++ l) (
        flat_map-append f two (three ++ end)
        ∙ ap (λ (l : List (List ℕ)). l ++ flat_map f (three ++ end)) (of_port If2 0 is.if2 answers.if2 is.if2_are)
        ∙ ap (λ (l : List (List ℕ)). flat_map (end_lines If2) answers.if2 ++ l) (
        flat_map-append f three end
        ∙ ap (λ (l : List (List ℕ)). l ++ flat_map f end) (of_port Bus 0 is.bus answers.bus is.bus_are)
        ∙ ap (λ (l : List (List ℕ)). flat_map (end_lines Bus) answers.bus ++ l) last
        )
        )
        )

    -- so a line is one of the outcome if a letter of the word tells it
    of_word : (begin : List ℕ) → has_line begin (lines_of (ending_of_word words word))
        ≡ list_any (λ (letter : Letter). has_line begin (lines_of_letter words letter)) word
    of_word begin =
        let tells : Letter → Bool = λ letter. has_line begin (lines_of_letter words letter) in
        ap (has_line begin) of_letters
        ∙ any_of_each begin (lines_of_letter words) whole
        ∙ ap (list_any tells) (sym (append-nil whole))
        ∙ list_any-IsPermutation tells (whole ++ []) (with_letters whole []) (all_more whole [])
        ∙ ap (list_any tells) (sym is.word_is)

  -- ---- the lines that are sought

  -- the word has the signs of the lines behind the first so many exactly if its outcome has those lines
  has_rest : (word : List Letter) (rows : List (List ℕ))
      → ((begin : List ℕ) → has_line begin rows
      ≡ list_any (λ (letter : Letter). has_line begin (lines_of_letter words letter)) word)
      → (all rest : List (List ℕ)) (n : ℕ) → ((k : ℕ) → slice_get all (n + k) ≡ slice_get rest k)
      → has_signs (tells_line words all) (range_with_len n (length rest)) word ≡ has_lines rest rows
  unfolding has_lines
  has_rest word rows is all [] n at = refl
  has_rest word rows is all (begin ∷ rest) n at =
      let here : n + 0 ≡ n = omega arith in
      let first : has_sign (tells_line words all) word n ≡ has_line begin rows =
      ap (λ (o : Option (List ℕ)). list_any (is_told words o) word) (ap (slice_get all) (sym here) ∙ at 0)
      ∙ sym (is begin) in
      ap (λ (b : Bool). b && has_signs (tells_line words all) (range_with_len (n + 1) (length rest)) word) first
      ∙ ap (λ (b : Bool). has_line begin rows && b) (has_rest word rows is all rest (n + 1) (λ k.
      let next : n + 1 + k ≡ n + suc k = omega arith in
      ap (slice_get all) next ∙ at (suc k)))

  pub first_is : AreOfLines words → (begins : List (List ℕ))
      → first_with_signs (tells_line words begins) (range_with_len 0 (length begins))
      (all_words words.graph.nodes.keys words.start)
      ≡ first_with begins (endings_in words)
  first_is of_lines begins =
      let nodes = words.graph.nodes.keys in
      let list = all_words nodes words.start in
      let its = its_words nodes words.graph.normal words.start words.within in
      let signs = has_signs (tells_line words begins) (range_with_len 0 (length begins)) in
      same_position signs (λ word. has_lines begins (lines_of (ending_of_word words word))) list (λ word inside.
      let of = of_lines word (its.right word inside) in
      has_rest word (lines_of (ending_of_word words word)) (of_word of.0 of.1 word of.2) begins begins 0 (λ k.
      let same : 0 + k ≡ k = omega arith in ap (slice_get begins) same))
      ∙ sym (position_map (has_lines begins) lines_of (λ (ending : Ending). has_lines begins (lines_of ending)) (λ ending. refl)
      (map (ending_of_word words) list)
      ∙ position_map (λ (ending : Ending). has_lines begins (lines_of ending)) (ending_of_word words)
      (λ word. has_lines begins (lines_of (ending_of_word words word))) (λ word. refl) list)
