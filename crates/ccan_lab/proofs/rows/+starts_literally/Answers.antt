use Rattle.std.proofs.Common.{eq-eqb, ne_eqb, ◌&&◌, Bool, ap, ◌∙◌}
use Rattle.ccan_lab.specs.Rows.{fits}
use Rattle.ccan_lab.proofs.Fitting.{earliest_byte, earliest_star, fits_end, fits_first, fits_none}
use Rattle.ccan_lab.proofs.rows.+starts_literally.Goals as goal

pub returns-in_default-clause-earliest : goal.returns-in_default-clause-earliest
returns-in_default-clause-earliest bound c =
    λ starts count later. fits_none c.args.begin.now c.args.line.now c.in_default.ensures.cases

pub returns-then-wanted-eq42-clause-earliest : goal.returns-then-wanted-eq42-clause-earliest
returns-then-wanted-eq42-clause-earliest bound c =
    λ starts. earliest_star c.args.begin.now c.in-Some.later.now c.in-Some.wanted.now c.in-Some.ensures.cases.0 c.args.line.now
    (eq-eqb c.in-Some.wanted.now 42 c.if-wanted-eq42.true)

pub returns-then-wanted-byte-clause-needed : goal.returns-then-wanted-byte-clause-needed
returns-then-wanted-byte-clause-needed bound c =
    λ starts.
    let later = c.in-Some.later.now in
    let rest = c.in-Some-split_first.rest.now in
    fits_first c.args.begin.now later c.in-Some.wanted.now c.in-Some.ensures.cases.0 c.args.line.now rest
    c.in-Some-split_first.byte.now (ne_eqb c.in-Some.wanted.now 42 c.if-wanted-eq42.false) c.in-Some-split_first.ensures.cases.0
    ∙ ap (λ (b : Bool). b && fits later rest)
    (eq-eqb c.in-Some.wanted.now c.in-Some-split_first.byte.now c.if-wanted-byte.true)
    ∙ c.starts_literally.ensures.needed starts

pub returns-then-wanted-byte-clause-earliest : goal.returns-then-wanted-byte-clause-earliest
returns-then-wanted-byte-clause-earliest bound c =
    λ starts.
    earliest_byte c.args.begin.now c.in-Some.later.now c.in-Some.wanted.now c.in-Some.ensures.cases.0 c.args.line.now
    c.in-Some-split_first.rest.now c.in-Some-split_first.byte.now
    (ne_eqb c.in-Some.wanted.now 42 c.if-wanted-eq42.false) c.in-Some-split_first.ensures.cases.0
    (eq-eqb c.in-Some.wanted.now c.in-Some-split_first.byte.now c.if-wanted-byte.true)
    (c.starts_literally.ensures.earliest starts)

pub returns-else-wanted-byte-clause-needed : goal.returns-else-wanted-byte-clause-needed
returns-else-wanted-byte-clause-needed bound c =
    λ differs.
    let later = c.in-Some.later.now in
    let rest = c.in-Some-split_first.rest.now in
    fits_first c.args.begin.now later c.in-Some.wanted.now c.in-Some.ensures.cases.0 c.args.line.now rest
    c.in-Some-split_first.byte.now (ne_eqb c.in-Some.wanted.now 42 c.if-wanted-eq42.false) c.in-Some-split_first.ensures.cases.0
    ∙ ap (λ (b : Bool). b && fits later rest) differs

pub returns-in-None-clause-needed : goal.returns-in-None-clause-needed
returns-in-None-clause-needed bound c =
    λ starts.
    fits_end c.args.begin.now c.in-Some.later.now c.in-Some.wanted.now c.in-Some.ensures.cases.0 c.args.line.now
    (ne_eqb c.in-Some.wanted.now 42 c.if-wanted-eq42.false) c.in-None.ensures.cases
