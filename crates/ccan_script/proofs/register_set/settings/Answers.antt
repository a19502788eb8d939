-- The entries are those that the loop has taken and those that are left: a bad one is found behind good ones only, and at
-- the end those taken are all.
use Rattle.std.proofs.Common.{◌≡◌, ◌∙◌, [], ◌∷◌, ◌++◌, ap, sym, subst, Some, is_some}
use Rattle.std.proofs.Common.{arith, append_assoc, length-append, string_cmp}
use Rattle.std.specs.List.Sorted.{IsStrictlySortedBy}
use Rattle.std.specs.Map.{keys_of}
use Rattle.serde_json.specs.View.{members_view, view}
use Rattle.serde_json.proofs.Views.{Entry}
use Rattle.ccan_script.specs.RegisterSet.{setting, settings}
use Rattle.ccan_script.proofs.Registers.{few, not_set, set_more}
use Rattle.ccan_script.proofs.register_set.settings.Goals as goal

pub returns-in_err-setting : goal.returns-in_err-setting
returns-in_err-setting c =
    let so_far = c.loop-name.invariant in
    let e : Entry = (c.in-Some.name.now, c.in-Some.value.now) in
    let all : c.args.members.now.entries ≡ so_far.0 ++ e ∷ c.next.new.self =
    so_far.1 ∙ ap (λ es. so_far.0 ++ es) c.in-Some.ensures.steps in
    let here = ap (λ name. setting name (view c.in-Some.value.now)) (sym c.as_str.ensures.value)
    ∙ sym c.in_err-setting.ensures in
    rw c.from_residual.ensures (sym (ap (λ es. settings (members_view es)) all ∙ not_set so_far.0 e c.next.new.self here))

pub push-requires : goal.push-requires
push-requires c =
    let so_far = c.loop-name.invariant in
    let e : Entry = (c.in-Some.name.now, c.in-Some.value.now) in
    let left = c.next.new.self in
    let all : c.args.members.now.entries ≡ so_far.0 ++ e ∷ left = so_far.1 ∙ ap (λ es. so_far.0 ++ es) c.in-Some.ensures.steps in
    let here = ap (λ name. setting name (view c.in-Some.value.now)) (sym c.as_str.ensures.value)
    ∙ sym c.in_ok-setting.ensures in
    let set = set_more so_far.0 e c.loop-name.set.items c.in_ok-setting.field-0 so_far.2 here in
    let sorted = subst (λ es. IsStrictlySortedBy string_cmp (keys_of es)) (all ∙ sym (append_assoc so_far.0 (e ∷ []) left))
    c.iter-name-items.ensures.ordered in
    let ten = few (so_far.0 ++ e ∷ []) left sorted (ap is_some set) in
    (omega arith, omega (arith, so_far.3, length-append so_far.0 (e ∷ []), ten))

pub loop-name-preserved : goal.loop-name-preserved
loop-name-preserved c =
    let so_far = c.loop-name.invariant in
    let e : Entry = (c.in-Some.name.now, c.in-Some.value.now) in
    let left = c.next.new.self in
    let all : c.args.members.now.entries ≡ so_far.0 ++ e ∷ left = so_far.1 ∙ ap (λ es. so_far.0 ++ es) c.in-Some.ensures.steps in
    let here = ap (λ name. setting name (view c.in-Some.value.now)) (sym c.as_str.ensures.value)
    ∙ sym c.in_ok-setting.ensures in (
      so_far.0 ++ e ∷ [],
      all ∙ sym (append_assoc so_far.0 (e ∷ []) left),
      set_more so_far.0 e c.loop-name.set.items c.in_ok-setting.field-0 so_far.2 here ∙ ap Some (sym c.push.ensures.items),
      omega (arith, c.push.ensures.len, so_far.3, length-append so_far.0 (e ∷ [])),
    )
