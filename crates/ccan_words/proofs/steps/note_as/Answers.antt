use Rattle.std.proofs.Common.{◌≡◌, ◌<◌, ◌≤◌, ◌∙◌, length, refl, sym, subst, arith}
use Rattle.ccan_object.specs.declared.profile.Profile.{Profile}
use Rattle.ccan_ram.specs.History.{next_number}
use Rattle.ccan_words.specs.Plays.{Notes}
use Rattle.ccan_words.proofs.LoadsAndStores.{notes}
use Rattle.ccan_words.proofs.Stepping.{place_inside, next_is_number, profile_is, may_step}
use Rattle.ccan_words.proofs.steps.note_as.Goals as goal

pub store-requires : goal.store-requires
store-requires g c =
    let s = c.words.inside in
    let w = c.words.invariant in
    let form = g.L.Layout.form in
    let F = form s.key.profile in
    let lies = g.met.L.Layout.lies s.key.profile in
    let d = g.D.Deed in
    let h = c.requires.held in
    let inside : c.args.word < F.width =
    subst (λ (u : Profile). c.args.word < (form u).width) (sym (profile_is form w.0 w.1 c.words.view_is)) c.requires.word in
    let within : d.word < F.width = (let e = c.requires.deed in omega arith) in
    let up : d.word ≤ length h.x.note = (let e = c.requires.deed in let u = h.up in omega arith) in
    let is : c.place-place.result ≡ F.place (next_number d.port h.x.seen) d.word =
    c.place-place.ensures ∙ (λ i. F.place (h.next i) (sym c.requires.deed i)) in
    may_step form w.0 w.1 c.words.view_is c.args.seat.now c.requires.table refl c.place-place.result
    (place_inside lies (next_is_number h) inside c.place-place.ensures) (λ _. c.args.value)
    (λ _ _ n. Notes d.port d.word c.args.value c.args.seat.now.me n)
    (notes F lies _ _ c.args.seat.now.me c.place-place.result d.port d.word c.args.value h.x h.held h.few within up is)
