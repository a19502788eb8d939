use Rattle.std.proofs.Common.{refl}
use Rattle.test_runs.proofs.languages.says_the_letters_of_the_ways_to_an_end.Goals as goal

pub letters_said-requires-clause-back : goal.letters_said-requires-clause-back
letters_said-requires-clause-back g c = c.if-not-steps_lead_back.ensures.right refl
