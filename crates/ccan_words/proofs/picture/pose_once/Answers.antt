use Rattle.ccan_words.specs.View.{see}
use Rattle.ccan_words.proofs.Seats.{only_holds}
use Rattle.ccan_words.proofs.Picturing.{posed_view, posed_sound, turn_posed, turn_missed, turned_as}
use Rattle.ccan_words.proofs.picture.pose_once.Goals as goal

pub pose-requires-clause-held : goal.pose-requires-clause-held
pose-requires-clause-held g c =
    let h = c.requires.held in
    let k = c.collect.ensures.told c.args.port h.0 h.1 h.2 in
    (see k.log h.0, only_holds c.args.port (see k.log h.0) _ k.view)

pub returns-clause-told : goal.returns-clause-told
returns-clause-told g c =
    let F = g.L.Layout.form c.args.words.now.profile in
    let lies = g.met.L.Layout.lies c.args.words.now.profile in
    let p = c.args.port in
    let t = c.pose.ensures.told in
    turned_as F p _ c.still.result _ _
    (λ stood x view sound top.
    let k = c.collect.ensures.told p x view sound in
    turn_posed F lies k t top (c.still.ensures.yes stood p _ (posed_view F lies k t) (posed_sound F lies k t)))
    (λ moved x view sound top.
    let k = c.collect.ensures.told p x view sound in
    turn_missed F lies k t (c.still.ensures.no moved p _ (posed_view F lies k t) (posed_sound F lies k t)))
