-- Members at their places.
use Rattle.std.proofs.Common.{ℕ, ◌≡◌, ◌≤◌, ◌<◌, Bool, true, false, ◌&&◌, List, length, get_or, refl, sym, ap, ◌∙◌, arith}
use Rattle.std.specs.Prelude.{nat_lt, replicate}
use Rattle.std.proofs.lemmas.Bool.Decides.{nat_tests}
use Rattle.std.proofs.lemmas.List.{get_or-replicate, get_or_past, get_or_read, length-replicate}
use Rattle.ccan_wire.specs.declared.member.Member.{Member}
use Rattle.ccan_wire.specs.Member.{member_at, nobody}
use Rattle.ccan_wire.specs.Winner.{is_among}

-- past the members stands nobody
pub nobody_past : (members : List Member) (k : ℕ) → length members ≤ k → member_at members k ≡ nobody
nobody_past members k out = get_or_past members k nobody out

-- a place is one of the members' or past them
pub by_place : (members : List Member) (k n : ℕ) (P : Type 0) → length members ≤ n → (k < n → P) → (length members ≤ k → P) → P
by_place members k n P all low past = elim (nat_lt k n) as (λ b. nat_lt k n ≡ b → P) [
  | true ↦ λ e. low (grind (arith, nat_tests))
  | false ↦ λ e. past (let out : n ≤ k = grind (arith, nat_tests) in omega arith)
] refl

-- a member that was read
pub read_at : (members : List Member) (k : ℕ) (x : Member) → k < length members → x ≡ get_or members k x → x ≡ member_at members k
read_at members k x within is = get_or_read members k x within is nobody

-- a place is among some or not
pub by_among : (who : List Bool) (k : ℕ) (P : Type 0) → (is_among who k ≡ true → P) → (is_among who k ≡ false → P) → P
by_among who k P inside outside =
    elim (is_among who k) as (λ b. is_among who k ≡ b → P) [ true ↦ λ e. inside e | false ↦ λ e. outside e ] refl

-- of no places none is meant
none_among : (k n : ℕ) → is_among (replicate n false) k ≡ false
none_among k n = elim (nat_lt k n) as (λ b. nat_lt k n ≡ b → is_among (replicate n false) k ≡ false) [
  | true ↦ λ e. get_or-replicate n k false false (grind (arith, nat_tests))
  | false ↦ λ e.
      let out : n ≤ k = grind (arith, nat_tests) in
      get_or_past (replicate n false) k false (simp length-replicate out)
] refl

pub none_at_first : (k : ℕ) (b : Bool) → is_among (replicate 32 false) k ≡ (nat_lt k 0 && b)
none_at_first k b =
    none_among k 32 ∙ sym (let no : nat_lt k 0 ≡ false = grind (arith, nat_tests) in ap (λ x. x && b) no)
