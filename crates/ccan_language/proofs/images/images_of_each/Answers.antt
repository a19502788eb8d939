use Rattle.std.proofs.Common.{◌+◌, List, length, subst}
use Rattle.std.proofs.lemmas.Result.{IfOk-weaker}
use Rattle.ccan_language.specs.declared.states.State.{State}
use Rattle.ccan_language.specs.States.{HaveWordsOfStates}
use Rattle.ccan_language.proofs.Imaged.{have_images}
use Rattle.ccan_language.proofs.images.images_of_each.Goals as goal

pub returns-clause-images : goal.returns-clause-images
returns-clause-images c =
    let into = c.words_of_each.new.graph.nodes.keys in
    IfOk-weaker c.words_of_each.result _ _
    (λ made has.
    have_images c.args.graph.now.nodes.keys c.args.images.now (c.args.index + 1) c.in_ok-states.states.items
    c.args.graph.now.normal c.in_ok-states.ensures into made.items
    (subst (λ (l : List State). HaveWordsOfStates into l made.items (length l)) c.as_slice.ensures.value has))
    c.words_of_each.ensures.words
