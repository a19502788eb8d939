use Rattle.std.proofs.Common.{◌≡◌, ◌++◌, ℕ, List, string_bytes, append-nil, sym, subst, ap, ◌∙◌, OnOk}
use Rattle.ccan_lab.proofs.Parts.{same_none, same_one}
use Rattle.ccan_lab.proofs.summary.add_same.Goals as goal

pub returns-then-lines-eq1 : goal.returns-then-lines-eq1
returns-then-lines-eq1 c =
    subst (λ (t : List ℕ). OnOk c.add_same_line.result
    (string_bytes c.add_same_line.new.text ≡ string_bytes c.args.text.now ++ t))
    (sym (same_one c.args.lines.now _ c.if-lines-eq1.true)) c.add_same_line.ensures

pub returns-else-lines-eq1 : goal.returns-else-lines-eq1
returns-else-lines-eq1 c =
    let text = string_bytes c.args.text.now in
    sym (ap (λ (t : List ℕ). text ++ t) (same_none c.args.lines.now c.if-lines-eq1.false) ∙ append-nil text)
