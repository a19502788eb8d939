use Rattle.std.proofs.Common.{◌⊎◌, inl, inr, [], refl}
use Rattle.std.specs.Prelude.{Ok, Err}
use Rattle.std.proofs.lemmas.Result.{IfOk-weaker}
use Rattle.clap.proofs.WalkLemmas.{IfOk-both}
use Rattle.ccan_lab.proofs.each_list.status_of_file.Goals as goal

other : {A B : Type 0} → A ⊎ B → ¬ A → B
other (inl a) none = absurd (none a)
other (inr b) none = b

pub returns-in-Ok-clause-listed : goal.returns-in-Ok-clause-listed
returns-in-Ok-clause-listed g c =
    let listed = c.in-Ok.ensures.listed in
    (listed.0, listed.1, (Ok c.in-Ok.end, listed.2, c.status_listed.ensures))

pub returns-in-Err-clause-listed : goal.returns-in-Err-clause-listed
returns-in-Err-clause-listed g c =
    let both = IfOk-both c.status_unlisted.result _ _ c.status_unlisted.ensures.status c.status_unlisted.ensures.other in
    IfOk-weaker c.status_unlisted.result _ _ (λ status is.
    let unlisted = other c.in-Err.ensures.unlisted is.1 in
    ([], unlisted.1, (Err c.in-Err.fault, (unlisted.0, refl), is.0)))
    both
