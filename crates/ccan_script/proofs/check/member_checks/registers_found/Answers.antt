use Rattle.std.proofs.Common.{◌≡◌, ◌∙◌, List, Some, ap, sym, string_bytes}
use Rattle.std.specs.Option.{option_or}
use Rattle.serde_json.specs.View.{members_view, view}
use Rattle.serde_json.proofs.Views.{Entry}
use Rattle.ccan_script.specs.FirstFault.{register_found, registers_found}
use Rattle.ccan_script.proofs.check.member_checks.registers_found.Goals as goal

pub returns-in-Some-register_found : goal.returns-in-Some-register_found
returns-in-Some-register_found c =
    let e : Entry = (c.in-Some.name.now, c.in-Some.value.now) in
    let here : register_found (string_bytes e.0) (view e.1) ≡ Some c.in-Some-register_found.part =
    ap (λ n. register_found n (view e.1)) (sym c.as_str.ensures.value) ∙ sym c.in-Some-register_found.ensures in
    sym (c.loop-name.invariant ∙ ap (λ (es : List Entry). registers_found (members_view es)) c.in-Some.ensures.steps
    ∙ ap (λ o. option_or o (registers_found (members_view c.next.new.self))) here)
