use Rattle.std.proofs.Common.{◌<◌, sym, subst}
use Rattle.ccan_object.specs.declared.profile.Profile.{Profile}
use Rattle.ccan_words.specs.Plays.{Reads}
use Rattle.ccan_words.proofs.LoadsAndStores.{reads}
use Rattle.ccan_words.proofs.Stepping.{place_inside, profile_is, may_step}
use Rattle.ccan_words.proofs.steps.read_as.Goals as goal

pub load-requires : goal.load-requires
load-requires g c =
    let s = c.words.inside in
    let w = c.words.invariant in
    let form = g.L.Layout.form in
    let lies = g.met.L.Layout.lies s.key.profile in
    let inside : c.args.word < (form s.key.profile).width =
    subst (λ (u : Profile). c.args.word < (form u).width) (sym (profile_is form w.0 w.1 c.words.view_is)) c.requires.word in
    may_step form w.0 w.1 c.words.view_is c.args.seat.now c.requires.table c.requires.profile c.place-place.result
    (place_inside lies c.requires.number inside c.place-place.ensures) (λ n. n)
    (λ u. Reads (form u) c.place-place.result c.args.seat.now.me)
    (reads (form s.key.profile) lies _ _ c.args.seat.now.me c.place-place.result)
