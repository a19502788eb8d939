-- Text that waits goes out in its order.
use Rattle.std.proofs.Common.{◌≡◌, ℕ, List, [], ◌++◌, Option, length-append, sym, ap, ◌∙◌, append_assoc, append-nil, subst, arith}
use Rattle.std.proofs.KnownBytes.{Appends-nil, Appends-trans}
use Rattle.std.specs.Io.KnownBytes.{Appends}
use Rattle.ccan_run.specs.Output.{WritesPart}
use Rattle.ccan_run.specs.Waiting.{AddsText}

pub adds_none : (a : Option (List ℕ)) (waits : List ℕ) → AddsText a a waits waits []
adds_none a waits = record { out = []; written = Appends-nil a; is = sym (append-nil waits) }

pub adds_then : (a b c : Option (List ℕ)) (first second third text more : List ℕ) → AddsText a b first second text
    → AddsText b c second third more → AddsText a c first third (text ++ more)
adds_then a b c first second third text more p q = record {
  out = p.out ++ q.out;
  written = Appends-trans a b c p.out q.out p.written q.written;
  is = append_assoc p.out q.out third ∙ ap (λ (z : List ℕ). p.out ++ z) q.is ∙ sym (append_assoc p.out second more)
      ∙ ap (λ (z : List ℕ). z ++ more) p.is ∙ append_assoc first text more;
}

-- what waited was written, and then more, where nothing waited at the start
pub adds_all : (a b c : Option (List ℕ)) (start waits text more whole : List ℕ) → start ≡ [] → AddsText a b start waits text
    → whole ≡ text ++ more → Appends b c (waits ++ more) → Appends a c whole
adds_all a b c start waits text more whole none p is written =
    subst (Appends a c)
    (sym (append_assoc p.out waits more) ∙ ap (λ (z : List ℕ). z ++ more) (p.is ∙ ap (λ (z : List ℕ). z ++ text) none) ∙ sym is)
    (Appends-trans a b c p.out (waits ++ more) p.written written)

pub part_more : (a b : Option (List ℕ)) (text more : List ℕ) → WritesPart a b text → WritesPart a b (text ++ more)
part_more a b text more p = record {
  front = p.front;
  rest = p.rest ++ more;
  is = ap (λ (z : List ℕ). z ++ more) p.is ∙ append_assoc p.front p.rest more;
  unfinished = omega (arith, length-append p.rest more, p.unfinished);
  written = p.written;
}

-- a write that failed after other text went out, with more text to come
pub part_after : (a b c : Option (List ℕ)) (first second text more rest whole : List ℕ) → AddsText a b first second text
    → WritesPart b c (second ++ more) → whole ≡ text ++ (more ++ rest) → WritesPart a c (first ++ whole)
part_after a b c first second text more rest whole p q is = record {
  front = p.out ++ q.front;
  rest = q.rest ++ rest;
  is = ap (λ (z : List ℕ). first ++ z) is ∙ sym (append_assoc first text (more ++ rest))
      ∙ ap (λ (z : List ℕ). z ++ (more ++ rest)) (sym p.is) ∙ append_assoc p.out second (more ++ rest)
      ∙ ap (λ (z : List ℕ). p.out ++ z) (sym (append_assoc second more rest) ∙ ap (λ (z : List ℕ). z ++ rest) q.is
      ∙ append_assoc q.front q.rest rest) ∙ sym (append_assoc p.out q.front (q.rest ++ rest));
  unfinished = omega (arith, length-append q.rest rest, q.unfinished);
  written = Appends-trans a b c p.out q.front p.written q.written;
}

-- the same, where nothing waited before
pub part_in : (a b c : Option (List ℕ)) (start second text more rest whole : List ℕ) → start ≡ []
    → AddsText a b start second text
    → WritesPart b c (second ++ more) → whole ≡ text ++ (more ++ rest) → WritesPart a c whole
part_in a b c start second text more rest whole none p q is =
    subst (WritesPart a c) (ap (λ (z : List ℕ). z ++ whole) none) (part_after a b c start second text more rest whole p q is)

-- ---- all that waits goes out

pub all_out : (a b c : Option (List ℕ)) (start waits last text : List ℕ) → AddsText a b start waits text → last ≡ waits
    → Appends b c last → Appends a c (start ++ text)
all_out a b c start waits last text p same written =
    subst (Appends a c) (ap (λ (z : List ℕ). p.out ++ z) same ∙ p.is) (Appends-trans a b c p.out last p.written written)

pub part_out : (a b c : Option (List ℕ)) (start waits last text : List ℕ) → AddsText a b start waits text → last ≡ waits
    → WritesPart b c last → WritesPart a c (start ++ text)
part_out a b c start waits last text p same q =
    part_after a b c start waits text [] [] text p (subst (WritesPart b c) (same ∙ sym (append-nil waits)) q)
    (sym (append-nil text))
