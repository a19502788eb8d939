use Rattle.std.proofs.Common.{◌≡◌, ◌+◌, ◌-◌, ◌<◌, ◌≤◌, ℕ, Some, None, length, slice_get, refl, sym, ap, ◌∙◌, arith, rules}
use Rattle.std.proofs.lemmas.Option.{slice_get_past, slice_get_read}
use Rattle.ccan_lab.specs.Rows.{final_row}
use Rattle.ccan_lab.proofs.Chosen.{final_none, final_some}
use Rattle.ccan_lab.proofs.choices.final_of.Goals as goal

pub returns-in-Some : goal.returns-in-Some
returns-in-Some c =
    let records = c.args.records.now in
    let object = c.args.object in
    let number = c.get.ensures in
    let least : 0 < object = search rules in
    let most : object ≤ 64 = search rules in
    let same : object - 1 + 1 ≡ object = omega (arith, least) in
    let low : object - 1 < 64 = omega (arith, least, most) in
    let from : c.from.result ≡ object = search rules in
    let at : slice_get records (c.from.result - 1) ≡ Some c.in-Some.left.now =
    slice_get_read records (length records) (c.from.result - 1) c.in-Some.left.now refl c.in-Some.ensures.lookup.3.0
    c.in-Some.ensures.lookup.1 in
    c.final_row.ensures ∙ sym (final_some records (object - 1) c.in-Some.left.now low
    (ap (λ (n : ℕ). slice_get records (n - 1)) (sym from) ∙ at)
    ∙ ap (λ (n : ℕ). final_row n c.in-Some.left.now) same)

pub returns-in-None : goal.returns-in-None
returns-in-None c =
    let records = c.args.records.now in
    let from : c.from.result ≡ c.args.object = search rules in
    let at : slice_get records (c.from.result - 1) ≡ None =
    slice_get_past records (c.from.result - 1) c.in-None.ensures.lookup.3 in
    c.new.ensures ∙ sym (final_none records (c.args.object - 1)
    (ap (λ (n : ℕ). slice_get records (n - 1)) (sym from) ∙ at))
