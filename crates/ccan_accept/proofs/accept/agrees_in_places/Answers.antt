use Rattle.ccan_accept.proofs.Acceptance.{agrees-word}
use Rattle.ccan_accept.proofs.accept.agrees_in_places.Goals as goal

pub returns : goal.returns
returns c =
    let compared = c.compared_places.ensures in
    let word = agrees-word c.args.object.now c.args.frame.now c.compared_places.result compared.within compared.places in
    rw (c.get.ensures.bits, c.get-2.ensures.bits, c.identifier.ensures.identifier) word
