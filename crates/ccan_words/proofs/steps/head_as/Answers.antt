use Rattle.std.proofs.Common.{◌≡◌, ℕ, ◌∙◌, ap, sym, subst}
use Rattle.ccan_object.specs.declared.profile.Profile.{Profile}
use Rattle.ccan_object.specs.Profile.{Holds}
use Rattle.ccan_words.specs.Picture.{CountsOn}
use Rattle.ccan_words.proofs.Posing.{counts_on}
use Rattle.ccan_words.proofs.Stepping.{cell_inside, profile_is, may_step}
use Rattle.ccan_words.proofs.steps.head_as.Goals as goal

pub load-requires : goal.load-requires
load-requires g c =
    let s = c.words.inside in
    let w = c.words.invariant in
    let form = g.L.Layout.form in
    let lies = g.met.L.Layout.lies s.key.profile in
    let d = g.D.Deed in
    let object : Holds s.key.profile d.object =
    subst (λ (u : Profile × ℕ). Holds u.0 u.1) (λ i. (sym (profile_is form w.0 w.1 c.words.view_is) i, sym c.requires.deed i))
    c.requires.object in
    let is : c.cell-word.result ≡ (form s.key.profile).cell d.object =
    c.cell-word.ensures ∙ ap (form s.key.profile).cell (sym c.requires.deed) in
    may_step form w.0 w.1 c.words.view_is c.args.seat.now c.requires.table c.requires.profile c.cell-word.result
    (cell_inside lies object is) (λ n. n) (λ u. CountsOn (form u) d.object c.args.seat.now.me)
    (counts_on (form s.key.profile) lies _ _ c.args.seat.now.me c.cell-word.result d.object object is)
