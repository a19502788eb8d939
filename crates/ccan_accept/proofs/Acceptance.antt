-- Acceptance, place by place.
use Rattle.std.proofs.Common.{ℕ, ◌≡◌, ◌<◌, ◌^◌, ◌==◌, ◌↔◌, nat_le, if◌then◌else◌, Bool, true, false, ◌&&◌, ◌||◌, not, IsTrue, refl, sym, subst, ◌∙◌}
use Rattle.std.specs.Bool.{Decides}
use Rattle.std.specs.Cmp.{booleans_Decides}
use Rattle.std.specs.Int.{bit_at}
use Rattle.std.specs.Int.RustNames.{bit_and, bit_xor}
use Rattle.std.proofs.lemmas.Bool.{and_parts, and_from, not-true, not_from_false, false_from_ne_true}
use Rattle.std.proofs.lemmas.Bool.Decides.{same_from_decides, Decides-eqb, Decides-like}
use Rattle.ccan_object.specs.declared.record.Record.{Record}
use Rattle.ccan_object.specs.Bits.{bit, part}
use Rattle.ccan_object.specs.Record.{IsRecord}
use Rattle.ccan_accept.specs.declared.frame.Frame.{Frame}
use Rattle.ccan_accept.specs.Frame.{IsFrame, identifier_of}
use Rattle.ccan_accept.specs.Send.{number_of}
use Rattle.ccan_accept.specs.Accept.{Accepts, accepts, agrees_in_places, agrees_at, is_compared, is_locked, compares_xtd, compares_dir}
use Rattle.ccan_accept.proofs.Places.{each_below, all_below, none_differs, all_agree, same_number, same_places}

-- a test that counts only where another is true
unless : (c d : Bool) → (not c || d) ≡ true → c ≡ true → d ≡ true
unless true d h e = h
unless false d h e = absurd cc

unless_from : (c d : Bool) → (c ≡ true → d ≡ true) → (not c || d) ≡ true
unless_from true d h = h refl
unless_from false d h = refl

-- both flags of a lock
locked-open : (eob newdat : Bool) → eob ≡ false → newdat ≡ true → (not eob && newdat) ≡ false → ⊥
locked-open true newdat last new unlocked = cc
locked-open false true last new unlocked = cc
locked-open false false last new unlocked = cc

-- without a mask the places that both identifiers have are compared
compared_from : (umask masked high x y : Bool) → umask ≡ false → x ≡ y → (high || y) ≡ true
    → ((not umask || masked) && (high || (x && y))) ≡ true
compared_from true masked high x y u e has = cc
compared_from false masked true x y u e has = refl
compared_from false masked false true true u e has = refl
compared_from false masked false true false u e has = cc
compared_from false masked false false y u e has = cc

compared_has : (umask masked high x y : Bool) → ((not umask || masked) && (high || (x && y))) ≡ true → (high || y) ≡ true
compared_has umask masked true x y on = refl
compared_has umask masked false x true on = refl
compared_has true true false true false on = cc
compared_has true true false false false on = cc
compared_has true false false x false on = cc
compared_has false masked false true false on = cc
compared_has false masked false false false on = cc

without_mask : (umask flag : Bool) → umask ≡ false → (not umask || flag) ≡ true
without_mask true flag u = cc
without_mask false flag u = refl

module _ (r : Record) (f : Frame) where
  -- each compared place agrees
  abbrev pub SamePlaces : Type 0
  SamePlaces = (place : ℕ) → place < 29 → IsTrue (is_compared r f place) → bit_at r.id place ≡ bit_at (identifier_of f) place

  pub agrees-decides : Decides (agrees_in_places r f) SamePlaces
  unfolding agrees_in_places
  agrees-decides = (
    λ all place low on.
        (Decides-eqb (bit_at r.id place) (bit_at (identifier_of f) place)).0
        (unless (is_compared r f place) _ (each_below (agrees_at r f) 29 all place low) on),
    λ same. all_below (agrees_at r f) 29 (λ place low.
        unless_from (is_compared r f place) _
        (λ on. (Decides-eqb (bit_at r.id place) (bit_at (identifier_of f) place)).1 (same place low on))),
  )

  -- the word of the compared places that differ is 0 exactly where the identifiers agree
  pub agrees-word : (word : ℕ) → word < 2 ^ 29 → ((place : ℕ) → place < 29 → bit word place ≡ is_compared r f place)
      → (bit_and (bit_xor r.id (identifier_of f)) word == 0) ≡ agrees_in_places r f
  agrees-word word within is =
      same_from_decides _ _
      (Decides-like {P = bit_and (bit_xor r.id (identifier_of f)) word ≡ 0} {Q = SamePlaces} _
      (λ none place low on. all_agree r.id (identifier_of f) word within none place (is place low ∙ on))
      (λ same. none_differs r.id (identifier_of f) word within (λ place low on. same place low (sym (is place low) ∙ on)))
      (Decides-eqb _ 0))
      agrees-decides

  -- the test of acceptance is acceptance
  pub accepts-decides : Decides (accepts r f) (Accepts r f)
  unfolding accepts
  accepts-decides = (
    λ all.
        let four = and_parts _ _ all in
        let three = and_parts _ _ four.0 in
        let two = and_parts _ _ three.0 in
        let one = and_parts _ _ two.0 in
        record {
          valid = one.0;
          unlocked = not-true _ one.1;
          width = λ on. (booleans_Decides r.xtd f.xtd).0 (unless (compares_xtd r) _ two.1 on);
          kind = λ on. (booleans_Decides r.dir f.rtr).0 (unless (compares_dir r) _ three.1 on);
          places = agrees-decides.0 four.1;
        },
    λ a.
        and_from _ _
        (and_from _ _
        (and_from _ _
        (and_from _ _ a.valid (not_from_false _ a.unlocked))
        (unless_from (compares_xtd r) _ (λ on. (booleans_Decides r.xtd f.xtd).1 (a.width on))))
        (unless_from (compares_dir r) _ (λ on. (booleans_Decides r.dir f.rtr).1 (a.kind on))))
        (agrees-decides.1 a.places),
  )

  -- a locked object accepts nothing
  pub locked-accepts : r.eob ≡ false → r.newdat ≡ true → accepts r f ≡ false
  locked-accepts last new =
      false_from_ne_true (accepts r f) (λ yes. locked-open r.eob r.newdat last new (accepts-decides.0 yes).unlocked)

  -- without a mask an object accepts what has its own identifier, width and kind
  pub unmasked-accepts : IsRecord r → IsFrame f → IsTrue r.valid → is_locked r ≡ false → r.umask ≡ false
      → Accepts r f ↔ ((f.id ≡ number_of r) × (f.xtd ≡ r.xtd) × (f.rtr ≡ r.dir))
  unmasked-accepts is fits valid unlocked umask = (
    λ a.
        let width : r.xtd ≡ f.xtd = a.width (without_mask r.umask r.mxtd umask) in
        let kind : r.dir ≡ f.rtr = a.kind (without_mask r.umask r.mdir umask) in (
          subst (λ (x : Bool). f.id ≡ (if x then r.id else part r.id 18 11)) (sym width)
              (same_number f.xtd r.id f.id is.id fits.id (λ place low has.
              a.places place low (compared_from r.umask (bit r.mask place) (nat_le 18 place) r.xtd f.xtd umask width has))),
          sym width,
          sym kind,
        ),
    λ own.
        record {
          valid = valid;
          unlocked = unlocked;
          width = λ _. sym own.1;
          kind = λ _. sym own.2;
          places = λ place low on.
              same_places f.xtd r.id f.id is.id
              (subst (λ (x : Bool). f.id ≡ (if x then r.id else part r.id 18 11)) (sym own.1) own.0)
              place low
              (compared_has r.umask (bit r.mask place) (nat_le 18 place) r.xtd f.xtd on);
        },
  )
