use Rattle.std.proofs.Common.{◌∙◌, ◌++◌, ℕ, List, Result, Ok, Err, OnOk, codes, string_bytes, ap, append_assoc}
use Rattle.ccan_lab.proofs.answer.add_line_not_had.Goals as goal

on_ok : {T E : Type 0} (r : Result T E) (P Q : Type 0) → (P → Q) → OnOk r P → OnOk r Q
on_ok (Ok x) P Q f h = f h
on_ok (Err e) P Q f h = tt

pub returns : goal.returns
returns c =
    let text = string_bytes c.args.text.now in
    let ended = c.args.begin.now ++ codes "\n" in
    on_ok c.add_ended.result _ _ (λ is.
    is ∙ ap (λ (t : List ℕ). t ++ ended) c.in_ok-push_str.ensures.bytes
    ∙ append_assoc text (codes " has a line that begins so: ") ended) c.add_ended.ensures
