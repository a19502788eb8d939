-- The lines of an outcome so far.
use Rattle.std.proofs.Common.{◌≡◌, ◌<◌, ◌≤◌, ◌+◌, ◌-◌, ℕ, zero, suc, List, [], ◌∷◌, ◌++◌, Option, length, take, drop, map, get_or, refl, sym, ap, ◌∙◌, append_assoc, append-nil, subst, take-append-drop, replicate, unwrap_or, arith}
use Rattle.std.proofs.Math.Seq.{take-add}
use Rattle.std.proofs.lemmas.List.{take_more}
use Rattle.std.proofs.lemmas.List.Folds.{flat_map-map}
use Rattle.std.proofs.lemmas.List.Concat.{flat_map-append}
use Rattle.std.proofs.lemmas.List.FromFn.{length-enumerate_from, get_or-enumerate_from}
use Rattle.std.specs.List.{concat, flat_map, enumerate_from, range_with_len}
use Rattle.ccan_object.specs.declared.profile.Profile.TheVariants.{Two}
use Rattle.ccan_object.specs.Profile.{objects_in}
use Rattle.ccan_object.specs.Record.{zero_record}
use Rattle.ccan_ram.specs.declared.event.Event.{Event}
use Rattle.ccan_ram.specs.History.{record_at}
use Rattle.ccan_object.specs.declared.record.Record.{Record}
use Rattle.ccan_ram.specs.declared.port.PortName.{PortName}
use Rattle.ccan_ram.specs.declared.port.PortName.TheVariants.{If1, If2, Bus}
use Rattle.ccan_line.specs.declared.line_answer.LineAnswer.{LineAnswer}
use Rattle.ccan_script.specs.Print.{final_line, line_text}
use Rattle.ccan_run.specs.Laws.{LastLinesAreFinals}
use Rattle.ccan_run.specs.Ordered.{answers_text, final_part, final_parts}
use Rattle.ccan_run.specs.declared.outcome.Outcome.{Outcome}
use Rattle.ccan_run.specs.Outcome.{last_lines, object_lines, outcome_text, port_lines}
use Rattle.ccan_run.specs.Output.{WritesPart}
use Rattle.ccan_run.specs.Waiting.{AddsText}
use Rattle.ccan_run.proofs.Waits.{adds_none, adds_then, part_after}

module _ {X : Type 0} (f : X → List ℕ) where
  one_more : (xs : List X) (i : ℕ) (d : X) → i < length xs
      → flat_map f (take (i + 1) xs) ≡ flat_map f (take i xs) ++ f (get_or xs i d)
  one_more xs i d h = ap (flat_map f) (take_more xs i d h) ∙ flat_map-append f (take i xs) (get_or xs i d ∷ [])
      ∙ ap (λ (t : List ℕ). flat_map f (take i xs) ++ t) (append-nil (f (get_or xs i d)))

  one_between : (xs rest whole : List X) (i : ℕ) (d : X) → i < length xs → whole ≡ take (i + 1) xs ++ rest
      → flat_map f whole ≡ flat_map f (take i xs) ++ (f (get_or xs i d) ++ flat_map f rest)
  one_between xs rest whole i d h is = ap (flat_map f) is ∙ flat_map-append f (take (i + 1) xs) rest
      ∙ ap (λ (t : List ℕ). t ++ flat_map f rest) (one_more xs i d h)
      ∙ append_assoc (flat_map f (take i xs)) (f (get_or xs i d)) (flat_map f rest)

-- ---- lines of a row of answers

module _ {X : Type 0} (text : List X → List ℕ) (f : X → List ℕ) (text_is : (xs : List X) → text xs ≡ flat_map f xs) where
  pub lines_begin : (a : Option (List ℕ)) (waits : List ℕ) → AddsText a a waits waits (text [])
  lines_begin a waits = subst (AddsText a a waits waits) (sym (text_is [])) (adds_none a waits)

  module _ (a b c : Option (List ℕ)) (first second : List ℕ) (xs : List X) (i : ℕ) (x : X) (line : List ℕ)
      (within : i < length xs)
      (at : x ≡ get_or xs i x) (printed : line ≡ f x) (so_far : AddsText a b first second (text (take i xs))) where
    here : line ≡ f (get_or xs i x)
    here = printed ∙ ap f at

    pub lines_go_on : (third : List ℕ) → AddsText b c second third line → AddsText a c first third (text (take (i + 1) xs))
    lines_go_on third added =
        let is : text (take i xs) ++ line ≡ text (take (i + 1) xs) =
        ap (λ (t : List ℕ). t ++ line) (text_is (take i xs)) ∙ ap (λ (t : List ℕ). flat_map f (take i xs) ++ t) here
        ∙ sym (one_more f xs i x within) ∙ sym (text_is (take (i + 1) xs)) in
        subst (AddsText a c first third) is (adds_then a b c first second third _ line so_far added)

    pub lines_break : WritesPart b c (second ++ line) → WritesPart a c (first ++ text xs)
    lines_break part =
        let rest = drop (i + 1) xs in
        part_after a b c first second (text (take i xs)) line (flat_map f rest) (text xs) so_far part
        (text_is xs ∙ one_between f xs rest xs i x within (sym (take-append-drop (i + 1) xs))
        ∙ ap (λ (t : List ℕ). flat_map f (take i xs) ++ (t ++ flat_map f rest)) (sym here)
        ∙ ap (λ (t : List ℕ). t ++ (line ++ flat_map f rest)) (sym (text_is (take i xs))))

pub port_lines_are : (port : PortName) (answers : List LineAnswer) → port_lines port answers ≡ flat_map (line_text port) answers
unfolding port_lines answers_text
port_lines_are port answers =
    flat_map-map (λ (reply : PortName × LineAnswer). line_text reply.0 reply.1) (λ (answer : LineAnswer). (port, answer)) answers

abbrev pub reply_text : PortName × LineAnswer → List ℕ
reply_text reply = line_text reply.0 reply.1

pub replies_are : (answers : List (PortName × LineAnswer)) → answers_text answers ≡ flat_map reply_text answers
unfolding answers_text
replies_are answers = refl

-- ---- the objects

pub final_part_is : (object : ℕ) (left : Record) (printed : Option (List ℕ)) → printed ≡ final_line object left
    → unwrap_or printed [] ≡ final_part object left
unfolding final_part
final_part_is object left printed is = ap (λ (line : Option (List ℕ)). unwrap_or line []) is

abbrev part_of_object : ℕ × Record → List ℕ
part_of_object object = final_part object.0 object.1

object_lines_are : (count : ℕ) (records : List Record)
    → object_lines count records ≡ flat_map part_of_object (take count (enumerate_from 1 records))
unfolding object_lines
object_lines_are count records = refl

pub objects_begin : (a : Option (List ℕ)) (waits : List ℕ) (records : List Record)
    → AddsText a a waits waits (object_lines 0 records)
objects_begin a waits records = subst (AddsText a a waits waits) (sym (object_lines_are 0 records)) (adds_none a waits)

module _ (a b c : Option (List ℕ)) (first second : List ℕ) (records : List Record) (number object : ℕ) (left : Record)
    (low : 1 ≤ number) (known : number ≤ length records) (is : object ≡ number) (at : left ≡ get_or records (number - 1) left)
    (so_far : AddsText a b first second (object_lines (number - 1) records)) where
  numbered : List (ℕ × Record)
  numbered = enumerate_from 1 records

  within : number - 1 < length numbered
  unfolding numbered
  within = omega (arith, length-enumerate_from 1 records, low, known)

  line_here : final_part object left ≡ part_of_object (get_or numbered (number - 1) (0, left))
  unfolding numbered
  line_here =
      let place : 1 + (number - 1) ≡ object = omega (arith, low, is) in
      let row : get_or (enumerate_from 1 records) (number - 1) (0, left) ≡ (1 + (number - 1), get_or records (number - 1) left) =
      get_or-enumerate_from 1 records (number - 1) (0, left) (omega (arith, low, known)) in
      ap (λ (r : Record). final_part object r) at ∙ ap (λ (n : ℕ). final_part n (get_or records (number - 1) left)) (sym place)
      ∙ ap part_of_object (sym row)

  pub objects_go_on : (third : List ℕ) → AddsText b c second third (final_part object left)
      → AddsText a c first third (object_lines (number + 1 - 1) records)
  unfolding numbered
  objects_go_on third added =
      let next : number - 1 + 1 ≡ number + 1 - 1 = omega (arith, low) in
      let is : object_lines (number - 1) records ++ final_part object left ≡ object_lines (number + 1 - 1) records =
      ap (λ (t : List ℕ). t ++ final_part object left) (object_lines_are (number - 1) records)
      ∙ ap (λ (t : List ℕ). flat_map part_of_object (take (number - 1) numbered) ++ t) line_here
      ∙ sym (one_more part_of_object numbered (number - 1) (0, left) within)
      ∙ ap (λ (n : ℕ). flat_map part_of_object (take n numbered)) next
      ∙ sym (object_lines_are (number + 1 - 1) records) in
      subst (AddsText a c first third) is (adds_then a b c first second third _ _ so_far added)

  pub objects_break : (count : ℕ) → number ≤ count → WritesPart b c (second ++ final_part object left)
      → WritesPart a c (first ++ object_lines count records)
  unfolding numbered
  objects_break count more part =
      let done = number - 1 + 1 in
      let all : count ≡ done + (count - done) = omega (arith, low, more) in
      let rest = take (count - done) (drop done numbered) in
      part_after a b c first second (object_lines (number - 1) records) (final_part object left) (flat_map part_of_object rest)
      (object_lines count records) so_far part
      (object_lines_are count records
      ∙ one_between part_of_object numbered rest (take count numbered) (number - 1) (0, left) within
      (ap (λ (n : ℕ). take n numbered) all ∙ take-add done (count - done) numbered)
      ∙ ap (λ (t : List ℕ). flat_map part_of_object (take (number - 1) numbered) ++ (t ++ flat_map part_of_object rest))
      (sym line_here)
      ∙ ap (λ (t : List ℕ). t ++ (final_part object left ++ flat_map part_of_object rest))
      (sym (object_lines_are (number - 1) records)))

-- what a history leaves has the lines of an ordered run of it
lines_left : (history : List Event) (rest : List Record) (count first : ℕ)
    → flat_map part_of_object
    (take count (enumerate_from first (map (λ o. record_at o history) (range_with_len first count) ++ rest)))
    ≡ concat (map (λ o. final_part o (record_at o history)) (range_with_len first count))
lines_left history rest zero first = refl
lines_left history rest (suc count) first =
    ap (λ (t : List ℕ). final_part first (record_at first history) ++ t) (lines_left history rest count (first + 1))

pub last_lines_are : LastLinesAreFinals
unfolding object_lines final_parts
last_lines_are last history is =
    let count = objects_in last.profile in
    ap (λ (records : List Record). flat_map part_of_object (take count (enumerate_from 1 records))) is
    ∙ lines_left history (replicate (objects_in Two - count) zero_record) count 1

-- ---- the whole text

module _ (o : Outcome) (if1 if2 bus : List LineAnswer) (first : if1 ≡ o.if1.items) (second : if2 ≡ o.if2.items)
    (third : bus ≡ o.bus.items) where
  pub text_is : outcome_text o ≡ port_lines If1 if1 ++ port_lines If2 if2 ++ port_lines Bus bus ++ last_lines o.last
  unfolding outcome_text
  text_is =
      ap (λ (l : List LineAnswer). port_lines If1 l ++ port_lines If2 o.if2.items ++ port_lines Bus o.bus.items
      ++ last_lines o.last) (sym first)
      ∙ ap (λ (l : List LineAnswer). port_lines If1 if1 ++ port_lines If2 l ++ port_lines Bus o.bus.items ++ last_lines o.last)
      (sym second)
      ∙ ap (λ (l : List LineAnswer). port_lines If1 if1 ++ port_lines If2 if2 ++ port_lines Bus l ++ last_lines o.last)
      (sym third)
