-- The text is four parts. After each, what went out and what waits are the parts so far; a failed write leaves a part of the
-- whole.
use Rattle.std.proofs.Common.{◌++◌, ◌∙◌, [], refl, append_assoc, append-nil}
use Rattle.std.proofs.lemmas.Result.{err_from_is_err_and, on_err_weaker, on_ok_weaker}
use Rattle.ccan_ram.specs.declared.port.PortName.TheVariants.{If1, If2, Bus}
use Rattle.ccan_run.specs.Outcome.{last_lines, outcome_text, port_lines}
use Rattle.ccan_run.proofs.OutcomeLines.{text_is}
use Rattle.ccan_run.proofs.Waits.{adds_all, adds_none, adds_then, part_in}
use Rattle.ccan_run.proofs.outcome_text.print_outcome.Goals as goal

pub returns-in_err-add_answers-clause-part : goal.returns-in_err-add_answers-clause-part
returns-in_err-add_answers-clause-part g c =
    let o = c.args.outcome.now in
    let if1 = c.deref.result.now in
    let rest = port_lines If2 o.if2.items ++ port_lines Bus o.bus.items ++ last_lines o.last in
    let text = text_is o if1 o.if2.items o.bus.items c.deref.ensures.value refl refl in
    let p = err_from_is_err_and c.from_residual.result c.from_residual.ensures.1 in
    rw p.1 (part_in _ _ _ _ _ [] (port_lines If1 if1) rest (outcome_text o) c.new-waiting.ensures (adds_none _ _)
    c.in_err-add_answers.ensures.part (text ∙ simp append_assoc))

pub returns-in_err-add_answers-2-clause-part : goal.returns-in_err-add_answers-2-clause-part
returns-in_err-add_answers-2-clause-part g c =
    let o = c.args.outcome.now in
    let if1 = c.deref.result.now in
    let if2 = c.deref-2.result.now in
    let rest = port_lines Bus o.bus.items ++ last_lines o.last in
    let text = text_is o if1 if2 o.bus.items c.deref.ensures.value c.deref-2.ensures.value refl in
    let p = err_from_is_err_and c.from_residual-in_err-add_answers-2.result c.from_residual-in_err-add_answers-2.ensures.1 in
    rw p.1 (part_in _ _ _ _ _ (port_lines If1 if1) (port_lines If2 if2) rest (outcome_text o) c.new-waiting.ensures
    c.in_ok-add_answers.ensures.ok c.in_err-add_answers-2.ensures.part (text ∙ simp append_assoc))

pub returns-in_err-add_answers-3-clause-part : goal.returns-in_err-add_answers-3-clause-part
returns-in_err-add_answers-3-clause-part g c =
    let o = c.args.outcome.now in
    let if1 = c.deref.result.now in
    let if2 = c.deref-2.result.now in
    let bus = c.deref-3.result.now in
    let so_far = adds_then _ _ _ _ _ _ _ _ c.in_ok-add_answers.ensures.ok c.in_ok-add_answers-2.ensures.ok in
    let text = text_is o if1 if2 bus c.deref.ensures.value c.deref-2.ensures.value c.deref-3.ensures.value in
    let p = err_from_is_err_and c.from_residual-in_err-add_answers-3.result c.from_residual-in_err-add_answers-3.ensures.1 in
    rw p.1 (part_in _ _ _ _ _ (port_lines If1 if1 ++ port_lines If2 if2) (port_lines Bus bus) (last_lines o.last)
    (outcome_text o)
    c.new-waiting.ensures so_far c.in_err-add_answers-3.ensures.part (text ∙ simp append_assoc))

pub returns-clause-ok : goal.returns-clause-ok
returns-clause-ok g c =
    let o = c.args.outcome.now in
    let both = adds_then _ _ _ _ _ _ _ _ c.in_ok-add_answers.ensures.ok c.in_ok-add_answers-2.ensures.ok in
    let so_far = adds_then _ _ _ _ _ _ _ _ both c.in_ok-add_answers-3.ensures.ok in
    let text = text_is o _ _ _ c.deref.ensures.value c.deref-2.ensures.value c.deref-3.ensures.value in
    on_ok_weaker c.print_finals.result
    (adds_all _ _ _ _ _ _ (last_lines o.last) (outcome_text o) c.new-waiting.ensures so_far (text ∙ simp append_assoc))
    c.print_finals.ensures.ok

pub returns-clause-part : goal.returns-clause-part
returns-clause-part g c =
    let o = c.args.outcome.now in
    let both = adds_then _ _ _ _ _ _ _ _ c.in_ok-add_answers.ensures.ok c.in_ok-add_answers-2.ensures.ok in
    let so_far = adds_then _ _ _ _ _ _ _ _ both c.in_ok-add_answers-3.ensures.ok in
    let text = text_is o _ _ _ c.deref.ensures.value c.deref-2.ensures.value c.deref-3.ensures.value in
    on_err_weaker c.print_finals.result
    (λ part. part_in _ _ _ _ _ _ (last_lines o.last) [] (outcome_text o) c.new-waiting.ensures so_far part
    (text ∙ simp (append_assoc, append-nil))) c.print_finals.ensures.part
