use Rattle.std.proofs.Common.{◌∙◌, ap, sym, List, ℕ}
use Rattle.ccan_language.specs.declared.signs.Vain.{Vain}
use Rattle.ccan_language.specs.Count.{all_words}
use Rattle.ccan_language.specs.Signs.{first_with}
use Rattle.ccan_language.proofs.Borne.{vain_kept}
use Rattle.ccan_language.proofs.signs.is_vain.Goals as goal

pub returns : goal.returns
returns g c = λ is.
    let nodes = c.args.graph.now.nodes.keys in
    let bears = g.S.Signs.bears c.args.signs.now in
    let vain : Vain = record { node = c.args.index; signs = c.in_ok-signs.signs } in
    ap (λ (l : List ℕ). first_with bears l (all_words nodes c.args.index)) (sym c.in_ok-signs.ensures.items)
    ∙ vain_kept bears nodes c.args.vain.now.keys c.requires vain (sym c.contains.ensures ∙ is)
