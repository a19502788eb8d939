use Rattle.std.proofs.Common.{ℕ, ◌≡◌, ◌+◌, ◌<◌, List, [], ◌∷◌, ◌++◌, Ok, drop, get_or, length, take, sym, ap, subst, ◌∙◌, arith}
use Rattle.std.specs.List.{flat_map}
use Rattle.std.proofs.lemmas.List.{drop_more, length-drop, take_all}
use Rattle.ccan_object.specs.declared.profile.Profile.{Profile}
use Rattle.ccan_object.specs.Packing.{packed}
use Rattle.ccan_registers.specs.Format.{AreUnused, IsInterface}
use Rattle.ccan_registers.proofs.Texts.{length_packed}
use Rattle.ccan_registers.proofs.saved.words.saved_in.Goals as goal

-- a list from a place on
at_place : (ws : List ℕ) (i j : ℕ) → i < length ws → i + 1 ≡ j → drop i ws ≡ get_or ws i 0 ∷ drop j ws
at_place ws i j low next = subst (λ n. drop i ws ≡ get_or ws i 0 ∷ drop n ws) next (drop_more ws i 0 low)

pub returns-in_err-records-clause-only : goal.returns-in_err-records-clause-only
returns-in_err-records-clause-only c saved is text =
    let ws = c.args.words.now in
    let at_profile = c.in_ok-profile.ensures.only saved.profile (ap (λ (l : List ℕ). get_or l 2 0) text) in
    let p : c.in_ok-profile.profile ≡ saved.profile = cc in
    let many = length_packed saved.records in
    let count = is.records.count in
    let all = take_all 192 (flat_map packed saved.records) (omega arith) in
    let rest : flat_map packed saved.records ≡ take 192 (drop 17 ws) =
    sym all ∙ ap (λ (l : List ℕ). take 192 (drop 17 l)) text in
    let wrong =
    c.in_err-records.ensures.only saved.records is.records
    (subst (λ (q : Profile). AreUnused q saved.records) (sym p) is.unused) rest in
    absurd cc

pub returns-clause-found : goal.returns-clause-found
returns-clause-found c =
    let ws = c.args.words.now in
    let name = c.requires.name in
    let version = c.requires.version in
    let p = c.in_ok-profile.ensures.found in
    let m = c.in_ok-map.ensures.found in
    let t = c.in_ok-tries.ensures.found.1 in
    let o = c.in_ok-others.ensures.found.1 in
    let r = c.in_ok-controller.ensures.found in
    let a = c.in_ok-if1.ensures.found.1 in
    let b = c.in_ok-if2.ensures.found.1 in
    let rest = c.in_ok-records.ensures.found.2 in
    let all : take 192 (drop 17 ws) ≡ drop 17 ws = take_all 192 (drop 17 ws) (omega (arith, length-drop 17 ws)) in
    let d0 = at_place ws 0 1 (omega arith) (omega arith) in
    let d1 = at_place ws 1 2 (omega arith) (omega arith) in
    let d2 = at_place ws 2 3 (omega arith) (omega arith) in
    let d3 = at_place ws 3 4 (omega arith) (omega arith) in
    let d4 = at_place ws 4 5 (omega arith) (omega arith) in
    let d5 = at_place ws 5 6 (omega arith) (omega arith) in
    let d6 = at_place ws 6 7 (omega arith) (omega arith) in
    let d7 = at_place ws 7 8 (omega arith) (omega arith) in
    let d8 = at_place ws 8 9 (omega arith) (omega arith) in
    let d9 = at_place ws 9 10 (omega arith) (omega arith) in
    let d10 = at_place ws 10 11 (omega arith) (omega arith) in
    let d11 = at_place ws 11 12 (omega arith) (omega arith) in
    let d12 = at_place ws 12 13 (omega arith) (omega arith) in
    let d13 = at_place ws 13 14 (omega arith) (omega arith) in
    let d14 = at_place ws 14 15 (omega arith) (omega arith) in
    let d15 = at_place ws 15 16 (omega arith) (omega arith) in
    let d16 = at_place ws 16 17 (omega arith) (omega arith) in
    let whole
    : ws ≡ get_or ws 0 0 ∷ get_or ws 1 0 ∷ get_or ws 2 0 ∷ get_or ws 3 0 ∷ get_or ws 4 0 ∷ get_or ws 5 0 ∷ get_or ws 6 0
    ∷ ((get_or ws 7 0 ∷ get_or ws 8 0 ∷ get_or ws 9 0 ∷ get_or ws 10 0 ∷ get_or ws 11 0 ∷ [])
    ++ ((get_or ws 12 0 ∷ get_or ws 13 0 ∷ get_or ws 14 0 ∷ get_or ws 15 0 ∷ get_or ws 16 0 ∷ []) ++ drop 17 ws)) =
    cc in
    let z = rest ∙ all in
    (λ i. sym name i ∷ sym version i ∷ p i ∷ m i ∷ t i ∷ o i ∷ r i ∷ (a i ++ (b i ++ z i))) ∙ sym whole

pub returns-clause-only : goal.returns-clause-only
returns-clause-only c saved is text =
    let ws = c.args.words.now in
    let at_profile = c.in_ok-profile.ensures.only saved.profile (ap (λ (l : List ℕ). get_or l 2 0) text) in
    let p : c.in_ok-profile.profile ≡ saved.profile = cc in
    let at_map = c.in_ok-map.ensures.only saved.map (ap (λ (l : List ℕ). get_or l 3 0) text) in
    let m : c.in_ok-map.map ≡ saved.map = cc in
    let t : c.in_ok-tries.tries ≡ saved.tries =
    c.in_ok-tries.ensures.found.1 ∙ sym (ap (λ (l : List ℕ). get_or l 4 0) text) in
    let o : c.in_ok-others.others ≡ saved.others =
    c.in_ok-others.ensures.found.1 ∙ sym (ap (λ (l : List ℕ). get_or l 5 0) text) in
    let at_controller =
    c.in_ok-controller.ensures.only saved.controller is.controller (ap (λ (l : List ℕ). get_or l 6 0) text) in
    let r : c.in_ok-controller.controller ≡ saved.controller = cc in
    let at_if1 =
    c.in_ok-if1.ensures.only saved.if1 (subst (λ (q : Profile). IsInterface q saved.if1) (sym p) is.if1)
    (ap (λ (l : List ℕ). get_or l 7 0 ∷ get_or l 8 0 ∷ get_or l 9 0 ∷ get_or l 10 0 ∷ get_or l 11 0 ∷ []) text) in
    let a : c.in_ok-if1.if1 ≡ saved.if1 = cc in
    let at_if2 =
    c.in_ok-if2.ensures.only saved.if2 (subst (λ (q : Profile). IsInterface q saved.if2) (sym p) is.if2)
    (ap (λ (l : List ℕ). get_or l 12 0 ∷ get_or l 13 0 ∷ get_or l 14 0 ∷ get_or l 15 0 ∷ get_or l 16 0 ∷ []) text) in
    let b : c.in_ok-if2.if2 ≡ saved.if2 = cc in
    let many = length_packed saved.records in
    let count = is.records.count in
    let all = take_all 192 (flat_map packed saved.records) (omega arith) in
    let rest : flat_map packed saved.records ≡ take 192 (drop 17 ws) =
    sym all ∙ ap (λ (l : List ℕ). take 192 (drop 17 l)) text in
    let at_records =
    c.in_ok-records.ensures.only saved.records is.records
    (subst (λ (q : Profile). AreUnused q saved.records) (sym p) is.unused) rest in
    let records : c.in_ok-records.records ≡ saved.records = cc in
    λ i. Ok
    (record {
      profile = p i;
      map = m i;
      tries = t i;
      others = o i;
      if1 = a i;
      if2 = b i;
      controller = r i;
      records = records i;
    })
