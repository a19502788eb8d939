-- The Message Handler Registers, bit by bit.
use Rattle.std.proofs.Common.{ℕ, zero, suc, ◌≡◌, ◌≢◌, ◌≤◌, ◌<◌, ◌+◌, ◌*◌, ◌%◌, ◌^◌, Bool, true, false, List, [], ◌∷◌, length, bit_and, bit_or, refl, sym, ap, subst, ◌∙◌, ⊎_elim, add-one, add-zero, lit<, arith}
use Rattle.std.proofs.Math.Nat.{pow-suc}
use Rattle.std.specs.Int.{bit_at}
use Rattle.std.proofs.lemmas.Bool.{cases_lt}
use Rattle.std.proofs.lemmas.Nat.{or_disjoint, pow_below}
use Rattle.std.proofs.lemmas.Nat.Bits.{and_pow, bit_at_above, bit_at_or, bit_at-pow_same, bit_at-pow_other}
use Rattle.ccan_object.specs.declared.record.Record.{Record}
use Rattle.ccan_object.specs.Bits.{bit}
use Rattle.ccan_object.specs.Record.{zero_record}
use Rattle.ccan_ram.specs.declared.event.Event.{Event}
use Rattle.ccan_ram.specs.declared.flag.Flag.{Flag}
use Rattle.ccan_ram.specs.declared.flag.Flag.TheVariants.{NewDat, MsgLst, IntPnd, TxRqst, MsgVal}
use Rattle.ccan_ram.specs.declared.handler_registers.HandlerRegisters.{HandlerRegisters}
use Rattle.ccan_ram.specs.Flags.{flag_of}
use Rattle.ccan_ram.specs.History.{record_at}
use Rattle.ccan_ram.specs.HandlerRegisters.{with_bit, flag_word, first_records, registers_of, register_of, zero_registers, with_flags, AreBelow}

-- ---- a bit set above all others

module _ (word place : ℕ) (below : word < 2 ^ place) where
  apart : bit_and word (2 ^ place) ≡ 0
  apart =
      let none = bit_at_above word place place below (omega arith) in
      omega (arith, and_pow word place, ap (λ n. n * 2 ^ place) none)

  raised : bit_or word (2 ^ place) ≡ word + 2 ^ place
  raised = or_disjoint word (2 ^ place) apart

  -- what is shifted in 64 bits
  pub shifted : place < 64 → bit_or word (1 * 2 ^ place % 18446744073709551616) ≡ word + 2 ^ place
  shifted small =
      let fits = pow_below place 64 small in
      let whole : 1 * 2 ^ place % 18446744073709551616 ≡ 2 ^ place = omega arith in
      ap (bit_or word) whole ∙ raised

  pub doubled : (bit : ℕ) → bit ≤ 2 ^ place → word + bit < 2 ^ (place + 1)
  doubled bit small = let twice : 2 ^ (place + 1) ≡ 2 ^ place * 2 = rw add-one (pow-suc 2 place) in omega arith

  -- the bit at the top, and those below it
  pub top_bit : (set : Bool) → bit (with_bit word place set) place ≡ set
  top_bit true =
      let none = bit_at_above word place place below (omega arith) in
      let one : bit_at (word + 2 ^ place) place ≡ 1 =
      ap (λ n. bit_at n place) (sym raised)
      ∙ (bit_at_or word (2 ^ place) place ∙ (rw (none, bit_at-pow_same place) refl)) in
      rw one refl
  top_bit false =
      let none = bit_at_above word place place below (omega arith) in
      let same : word + 0 ≡ word = omega arith in
      rw (same, none) refl

  pub low_bit : (set : Bool) (k : ℕ) → k < place → bit (with_bit word place set) k ≡ bit word k
  low_bit true k less =
      let other : k ≢ place = omega arith in
      let one : bit_at (word + 2 ^ place) k ≡ bit_at word k =
      ap (λ n. bit_at n k) (sym raised)
      ∙ (bit_at_or word (2 ^ place) k ∙ (let z = bit_at-pow_other place k other in rw z (omega arith))) in
      rw one refl
  low_bit false k less = let same : word + 0 ≡ word = omega arith in rw same refl

pub word_below : (flag : Flag) (shown : List Record) → flag_word flag shown < 2 ^ length shown
word_below flag [] = omega arith
word_below flag (last ∷ before) = next (flag_of flag last) (word_below flag before) where
  next : (set : Bool) → flag_word flag before < 2 ^ length before
      → with_bit (flag_word flag before) (length before) set < 2 ^ length (last ∷ before)
  next true low = subst (λ k. flag_word flag before + 2 ^ length before < 2 ^ k) (omega arith)
      (doubled (flag_word flag before) (length before) low (2 ^ length before) (omega arith))
  next false low = subst (λ k. flag_word flag before + 0 < 2 ^ k) (omega arith)
      (doubled (flag_word flag before) (length before) low 0 (omega arith))

-- ---- one more object

pub length-first_records : (n : ℕ) (h : List Event) → length (first_records n h) ≡ n
length-first_records zero h = refl
length-first_records (suc n) h = ap suc (length-first_records n h)

register_word : (flag : Flag) (shown : List Record) → register_of flag (registers_of shown) ≡ flag_word flag shown
register_word NewDat shown = refl
register_word MsgLst shown = refl
register_word IntPnd shown = refl
register_word TxRqst shown = refl
register_word MsgVal shown = refl

-- the flags of the next object's record go above those of the objects before it
module _ (n : ℕ) (r : Record) (w : HandlerRegisters) (h : List Event) (here : r ≡ record_at (n + 1) h)
    (so_far : w ≡ registers_of (first_records n h)) where
  next_word : (flag : Flag) → with_bit (register_of flag w) n (flag_of flag r) ≡ flag_word flag (first_records (n + 1) h)
  next_word flag =
      let next : n + 1 ≡ suc n = omega arith in
      let words = ap (register_of flag) so_far ∙ register_word flag (first_records n h) in
      let set = ap (flag_of flag) (here ∙ ap (λ k. record_at k h) next) in
      let size = sym (length-first_records n h) in
      (λ i. with_bit (words i) n (set i))
      ∙ (ap (λ k. with_bit (flag_word flag (first_records n h)) k (flag_of flag (record_at (suc n) h))) size
      ∙ ap (λ k. flag_word flag (first_records k h)) (sym next))

  pub registers_next : with_flags n r w ≡ registers_of (first_records (n + 1) h)
  registers_next = λ i. record {
    newdat = next_word NewDat i;
    msglst = next_word MsgLst i;
    intpnd = next_word IntPnd i;
    txrqst = next_word TxRqst i;
    msgval = next_word MsgVal i;
  }

-- a record that is all zero sets no flag
pub registers_same : (n : ℕ) (w : HandlerRegisters) (h : List Event) → zero_record ≡ record_at (n + 1) h
    → w ≡ registers_of (first_records n h) → w ≡ registers_of (first_records (n + 1) h)
registers_same n w h here so_far =
    let none : with_flags n zero_record w ≡ w = λ i. record {
      newdat = add-zero w.newdat i;
      msglst = add-zero w.msglst i;
      intpnd = add-zero w.intpnd i;
      txrqst = add-zero w.txrqst i;
      msgval = add-zero w.msgval i;
    } in
    sym none ∙ registers_next n zero_record w h here so_far

-- ---- no bits beyond those of the objects

pub none_below : AreBelow 0 zero_registers
none_below NewDat = lit< tt
none_below MsgLst = lit< tt
none_below IntPnd = lit< tt
none_below TxRqst = lit< tt
none_below MsgVal = lit< tt

-- there is room for one more
pub below_more : (n : ℕ) (w : HandlerRegisters) → AreBelow n w → AreBelow (n + 1) w
below_more n w below flag = let low = below flag in let grows = pow_below n (n + 1) (omega arith) in omega arith

pub registers_below : (n : ℕ) (w : HandlerRegisters) (h : List Event) → w ≡ registers_of (first_records n h) → AreBelow n w
registers_below n w h is flag =
    let word = ap (register_of flag) is ∙ register_word flag (first_records n h) in
    subst (λ k. register_of flag w < 2 ^ k) (length-first_records n h)
    (subst (λ k. k < 2 ^ length (first_records n h)) (sym word) (word_below flag (first_records n h)))

-- ---- each bit is the flag of its object

word_bit : (flag : Flag) (n k : ℕ) (h : List Event) → k < n
    → bit (flag_word flag (first_records n h)) k ≡ flag_of flag (record_at (k + 1) h)
word_bit flag zero k h less = absurd (omega arith)
word_bit flag (suc n) k h less =
    let before = first_records n h in
    let size = length-first_records n h in
    let low = word_below flag before in
    let set = flag_of flag (record_at (suc n) h) in
    ⊎_elim
    (λ (l : k < n). low_bit (flag_word flag before) (length before) low set k (omega (arith, size, l)) ∙ word_bit flag n k h l)
    (λ (g : n ≤ k). let top : k ≡ length before = omega (arith, size, g, less) in
    let next : suc n ≡ k + 1 = omega (arith, g, less) in
    ap (bit (flag_word flag (first_records (suc n) h))) top
    ∙ (top_bit (flag_word flag before) (length before) low set ∙ ap (λ i. flag_of flag (record_at i h)) next))
    (cases_lt k n)

pub register_bit : (flag : Flag) (n k : ℕ) (h : List Event) → k < n
    → bit (register_of flag (registers_of (first_records n h))) k ≡ flag_of flag (record_at (k + 1) h)
register_bit flag n k h less = ap (λ w. bit w k) (register_word flag (first_records n h)) ∙ word_bit flag n k h less
