use Rattle.ccan_c.specs.Threads.{opened_with}
use Rattle.ccan_calls.proofs.InTheList.{stands}
use Rattle.ccan_calls.proofs.laws.threads_stand_in_the_list.Goals as goal

pub returns : goal.returns
returns c = λ profile set parts chip last out begins only does ends.
    stands _ _ profile set parts out (c.calls_fit_one_history.ensures profile (opened_with set) parts chip last out begins does ends) only
