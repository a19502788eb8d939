use Rattle.std.proofs.Common.{◌≡◌, ◌+◌, Some, None, map, not, option_map, position, ap, sym, ◌∙◌, rules}
use Rattle.ccan_outcomes.specs.RaceScript.{fields_of}
use Rattle.ccan_lab.specs.Observed.{is_known}
use Rattle.std.proofs.lemmas.Simd.{map-map}
use Rattle.ccan_lab.proofs.observed.first_unknown.Goals as goal

pub returns-in-Some : goal.returns-in-Some
returns-in-Some c =
    let s = fields_of c.args.race.now in
    let names = c.in_ok-names.names.items in
    let known : c.in_ok-known.known.items ≡ map (λ name. is_known s name.now) names = search rules in
    let all = known ∙ sym (map-map (is_known s) (λ name. name.now) names) ∙ ap (map (is_known s)) c.in_ok-names.ensures in
    let found : Some c.in-Some.index ≡ position not c.in_ok-known.known.items = search rules in
    ap (option_map (λ index. index + 1)) (found ∙ ap (position not) all)

pub returns : goal.returns
returns c =
    let s = fields_of c.args.race.now in
    let names = c.in_ok-names.names.items in
    let known : c.in_ok-known.known.items ≡ map (λ name. is_known s name.now) names = search rules in
    let all = known ∙ sym (map-map (is_known s) (λ name. name.now) names) ∙ ap (map (is_known s)) c.in_ok-names.ensures in
    let none : None ≡ position not c.in_ok-known.known.items = search rules in
    ap (option_map (λ index. index + 1)) (none ∙ ap (position not) all)
