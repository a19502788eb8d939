use Rattle.std.proofs.Common.{◌≡◌, ℕ, [], List, replicate, sym, subst, ap, ◌∙◌}
use Rattle.ccan_words.specs.View.{all_ports}
use Rattle.ccan_words.specs.Rule.{Keeps}
use Rattle.atomic_table.specs.Table.{opening}
use Rattle.ccan_words.proofs.Parting.{opens}
use Rattle.ccan_words.proofs.words.Words.open.Goals as goal

pub of_words-requires : goal.of_words-requires
of_words-requires g c =
    let F = g.L.Layout.form c.args.key.profile in
    let zero_word : ℕ = 0 in
    let e : c.in_ok-zeros.zeros.items ≡ replicate c.size.result zero_word =
    c.in_ok-zeros.ensures.items_if_clones_equal (λ y same. same) in
    subst (λ (ws : List ℕ). Keeps F (opening {S = Unit {0}} ws [] (all_ports c.args.key.quota)))
    (sym (c.as_slice.ensures.value ∙ (e ∙ ap (λ (n : ℕ). replicate n zero_word) c.size.ensures)))
    (opens F c.args.key.quota c.requires.quota)
