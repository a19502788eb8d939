-- A write goes on where the one before it stopped.
use Rattle.std.proofs.Common.{ℕ, ◌+◌, ◌<◌, List, Option, take, drop, length, length-drop, subst, sym, take-append-drop, arith}
use Rattle.std.proofs.Math.Seq.{take-add}
use Rattle.std.proofs.KnownBytes.{Appends-kept, Appends-trans}
use Rattle.std.specs.Io.KnownBytes.{Appends, Keeps}
use Rattle.ccan_run.specs.Output.{WritesPart}

pub writes_more : (a b c : Option (List ℕ)) (text : List ℕ) (w n : ℕ) → Appends a b (take w text)
    → Appends b c (take n (drop w text)) → Appends a c (take (w + n) text)
writes_more a b c text w n p q =
    subst (Appends a c) (sym (take-add w n text)) (Appends-trans a b c _ _ p q)

pub part_of : (a b : Option (List ℕ)) (text : List ℕ) (n : ℕ) → n < length text → Appends a b (take n text) → WritesPart a b text
part_of a b text n more p = record {
  front = take n text;
  rest = drop n text;
  is = sym (take-append-drop n text);
  unfinished = omega (arith, length-drop n text, more);
  written = p;
}

-- the write that failed left the writer as it was
pub part_kept : (a b c : Option (List ℕ)) (text : List ℕ) (n : ℕ) → n < length text → Appends a b (take n text) → Keeps b c
    → WritesPart a c text
part_kept a b c text n more p kept = part_of a c text n more (Appends-kept a b c (take n text) p kept)
