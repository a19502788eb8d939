use Rattle.std.proofs.Common.{◌≡◌, ◌||◌, Bool, map, ap, sym, ◌∙◌, rules}
use Rattle.ccan_lab.specs.Observed.{is_named}
use Rattle.ccan_lab.specs.Place.{place_kind, place_name}
use Rattle.ccan_lab.proofs.Apart.{named_by}
use Rattle.ccan_lab.proofs.observed.is_observed.Goals as goal
use Rattle.ccan_lab.proofs.observed.is_observed.Goals.{then-is_named, else-is_named}

pub returns : goal.returns
returns c =
    let names = c.args.names.now in
    let all = map (λ name. name.now) names in
    let counts = c.args.counts.now in
    let kind = place_kind counts.if1 counts.if2 counts.bus c.args.place in
    let name = place_name counts.if1 counts.if2 counts.bus c.args.place in
    let by_kind : c.is_named.result ≡ is_named all kind =
    c.is_named.ensures ∙ named_by names c.place_kind.result.now ∙ ap (is_named all) c.place_kind.ensures in
    elim c.if-is_named.branch [
      | then-is_named w ↦
          w.result-is ∙ w.if-is_named.true ∙ ap (λ (b : Bool). b || is_named all name) (sym w.if-is_named.true ∙ by_kind)
      | else-is_named w ↦
          let text : w.as_str.result.now ≡ name = search rules in
          let by_name : w.is_named-else-is_named.result ≡ is_named all name =
          w.is_named-else-is_named.ensures ∙ named_by names w.as_str.result.now ∙ ap (is_named all) text in
          w.result-is ∙ by_name ∙ ap (λ (b : Bool). b || is_named all name) (sym w.if-is_named.false ∙ by_kind)
    ]
