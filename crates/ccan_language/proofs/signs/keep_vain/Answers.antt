use Rattle.std.proofs.Common.{◌∙◌, ap, subst, sym, List, ℕ}
use Rattle.ccan_language.specs.declared.signs.Vain.{Vain}
use Rattle.ccan_language.specs.Count.{all_words}
use Rattle.ccan_language.specs.Signs.{AreVain, first_with}
use Rattle.ccan_language.proofs.Borne.{vain_more}
use Rattle.ccan_language.proofs.signs.keep_vain.Goals as goal

pub returns : goal.returns
returns g c =
    let nodes = c.args.graph.now.nodes.keys in
    let bears = g.S.Signs.bears c.args.signs.now in
    let vain : Vain = record { node = c.args.index; signs = c.in_ok-signs.signs } in
    let none = ap (λ (l : List ℕ). first_with bears l (all_words nodes c.args.index)) c.in_ok-signs.ensures.items
    ∙ c.requires.none in
    subst (λ (l : List Vain). AreVain bears nodes l) (sym c.in_ok-insert.ensures.keys)
    (vain_more bears nodes c.args.vain.now.keys c.requires.vain vain none)
