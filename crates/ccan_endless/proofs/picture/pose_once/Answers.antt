use Rattle.ccan_endless.specs.View.{see}
use Rattle.ccan_endless.proofs.Seats.{only_holds}
use Rattle.ccan_endless.proofs.Picturing.{posed_view, posed_sound, turn_posed, turn_missed, turned_as}
use Rattle.ccan_endless.proofs.Onward.{on_through}
use Rattle.ccan_endless.proofs.picture.pose_once.Goals as goal

pub pose-requires-clause-held : goal.pose-requires-clause-held
pose-requires-clause-held c =
    let h = c.requires.held in
    let k = c.collect.ensures.told c.args.port h.0 h.1 h.2 in
    (see k.log h.0, only_holds c.args.port (see k.log h.0) _ k.view)

pub returns-clause-told : goal.returns-clause-told
returns-clause-told c =
    let p = c.args.port in
    let t = c.pose.ensures.told in
    turned_as c.args.words.now.profile p _ c.still.result _ _
    (λ stood x view sound.
    let k = c.collect.ensures.told p x view sound in
    turn_posed k t (c.still.ensures.yes stood p _ (posed_view k t) (posed_sound k t)))
    (λ moved x view sound.
    let k = c.collect.ensures.told p x view sound in
    turn_missed k t (c.still.ensures.no moved p _ (posed_view k t) (posed_sound k t)))

pub returns-clause-onward : goal.returns-clause-onward
returns-clause-onward c = on_through c.collect.ensures.onward (on_through c.pose.ensures.onward c.still.ensures.onward)
