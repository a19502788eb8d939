use prog.Atomic.{either}
use Rattle.std.proofs.Common.{◌≡◌, ◌∙◌, ap, sym, subst, eqb}
use Rattle.atomic_table.specs.Table.{Allows}
use Rattle.ccan_object.specs.declared.profile.Profile.{Profile}
use Rattle.ccan_words.specs.Plays.{Exchanges, IsDraftedIn}
use Rattle.ccan_words.specs.Rule.{Keeps}
use Rattle.ccan_words.specs.declared.version.Version.{Version}
use Rattle.ccan_words.proofs.Exchanging.{exchanges}
use Rattle.ccan_words.proofs.Stepping.{cell_inside, profile_is, may_step}
use Rattle.ccan_words.proofs.steps.exchange_as.Goals as goal

pub compare_exchange-requires : goal.compare_exchange-requires
compare_exchange-requires g c =
    let s = c.words.inside in
    let w = c.words.invariant in
    let form = g.L.Layout.form in
    let F = form s.key.profile in
    let lies = g.met.L.Layout.lies s.key.profile in
    let z = g.D.Deed.version in
    let me = c.args.seat.now.me in
    let here = profile_is form w.0 w.1 c.words.view_is in
    let drafted =
    subst (λ (u : Profile × Version). IsDraftedIn (form u.0) u.1 me) (λ i. (sym here i, sym c.requires.deed i))
    c.requires.drafted in
    let is : c.cell-word.result ≡ F.cell z.object =
    c.cell-word.ensures ∙ ap (λ (v : Version). F.cell v.object) (sym c.requires.deed) in
    may_step form w.0 w.1 c.words.view_is c.args.seat.now c.requires.table c.requires.profile c.cell-word.result
    (cell_inside lies drafted.2.held is) (λ n. either (eqb n c.args.version.now.old) c.args.version.now.number n)
    (λ u. Exchanges (form u) z me)
    (subst (λ (v : Version). Allows (Keeps F) s.table.shared.table_id.slots c.args.seat.now.id me c.cell-word.result
    (λ n. either (eqb n v.old) v.number n) (Exchanges F z me)) c.requires.deed
    (exchanges F lies _ _ me c.cell-word.result z drafted.0 drafted.1 is drafted.2))
