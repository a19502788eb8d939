use Rattle.std.proofs.Common.{ℕ, eq-eqb, ne_eqb, ◌≡◌, ◌<◌, ◌&&◌, Bool, true, false, List, [], length, drop, sym, ap, subst, ◌∙◌, add-one, arith, rules}
use Rattle.ccan_lab.specs.Rows.{fits, some_rest}
use Rattle.ccan_lab.proofs.Fitting.{drop_past, fits_end, fits_first, fits_none, fits_star, some_first, some_last, some_later, take_rest}
use Rattle.ccan_lab.proofs.rows.+fits.Goals as goal

pub returns-in_default : goal.returns-in_default
returns-in_default bound c = sym (fits_none c.args.begin.now c.args.line.now c.in_default.ensures.cases)

pub returns-then-starts_literally : goal.returns-then-starts_literally
returns-then-starts_literally bound c =
    let line = c.args.line.now in
    let later = c.in-Some.later.now in
    let start = c.loop-start.start in
    let passes : List ℕ → Bool = fits later in
    let rest_is = take_rest line start (omega arith) in
    let earliest : (k : ℕ) → passes (drop k (drop start line)) ≡ true → passes (drop start line) ≡ true =
    subst (λ (rest : List ℕ). (k : ℕ) → passes (drop k rest) ≡ true → passes rest ≡ true) rest_is
    (c.starts_literally.ensures.earliest c.if-starts_literally.true) in
    c.fits.ensures ∙ ap passes rest_is
    ∙ sym (fits_star c.args.begin.now later c.in-Some.wanted.now c.in-Some.ensures.cases.0 line
    (eq-eqb c.in-Some.wanted.now 42 c.if-wanted-eq42.true)
    ∙ (c.loop-start.invariant ∙ some_first passes (drop start line) earliest))

pub loop-start-preserved : goal.loop-start-preserved
loop-start-preserved bound c =
    let line = c.args.line.now in
    let later = c.in-Some.later.now in
    let start = c.loop-start.start in
    let passes : List ℕ → Bool = fits later in
    let within : start < length line = omega arith in
    let none : passes (drop start line) ≡ false =
    sym (ap passes (take_rest line start within)) ∙ c.starts_literally.ensures.needed c.if-starts_literally.false in
    c.loop-start.invariant ∙ (some_later passes line start within none
    ∙ ap (λ (n : ℕ). some_rest passes (drop n line)) (sym (add-one start)))

pub returns-then-wanted-eq42 : goal.returns-then-wanted-eq42
returns-then-wanted-eq42 bound c =
    let line = c.args.line.now in
    let later = c.in-Some.later.now in
    let start = c.loop-start.start in
    let passes : List ℕ → Bool = fits later in
    let is : c.fits-then-wanted-eq42.result ≡ fits later [] = search rules in
    let gone : drop start line ≡ [] = drop_past line start (omega arith) in
    is ∙ sym (fits_star c.args.begin.now later c.in-Some.wanted.now c.in-Some.ensures.cases.0 line
    (eq-eqb c.in-Some.wanted.now 42 c.if-wanted-eq42.true)
    ∙ (c.loop-start.invariant ∙ (ap (some_rest passes) gone ∙ some_last passes)))

pub returns-then-wanted-byte : goal.returns-then-wanted-byte
returns-then-wanted-byte bound c =
    let later = c.in-Some.later.now in
    let rest = c.in-Some-split_first.rest.now in
    c.fits-then-wanted-byte.ensures
    ∙ sym (fits_first c.args.begin.now later c.in-Some.wanted.now c.in-Some.ensures.cases.0 c.args.line.now rest
    c.in-Some-split_first.byte.now (ne_eqb c.in-Some.wanted.now 42 c.if-wanted-eq42.false) c.in-Some-split_first.ensures.cases.0
    ∙ ap (λ (b : Bool). b && fits later rest)
    (eq-eqb c.in-Some.wanted.now c.in-Some-split_first.byte.now c.if-wanted-byte.true))

pub returns-else-wanted-byte : goal.returns-else-wanted-byte
returns-else-wanted-byte bound c =
    let later = c.in-Some.later.now in
    let rest = c.in-Some-split_first.rest.now in
    let no = ne_eqb c.in-Some.wanted.now c.in-Some-split_first.byte.now c.if-wanted-byte.false in
    no
    ∙ sym (fits_first c.args.begin.now later c.in-Some.wanted.now c.in-Some.ensures.cases.0 c.args.line.now rest
    c.in-Some-split_first.byte.now (ne_eqb c.in-Some.wanted.now 42 c.if-wanted-eq42.false) c.in-Some-split_first.ensures.cases.0
    ∙ ap (λ (b : Bool). b && fits later rest) no)

pub returns-in-None : goal.returns-in-None
returns-in-None bound c =
    sym (fits_end c.args.begin.now c.in-Some.later.now c.in-Some.wanted.now c.in-Some.ensures.cases.0 c.args.line.now
    (ne_eqb c.in-Some.wanted.now 42 c.if-wanted-eq42.false) c.in-None.ensures.cases)
