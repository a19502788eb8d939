use Rattle.std.proofs.Common.{refl}
use Rattle.test_runs.proofs.languages.counts_and_numbers_words.Goals as goal

pub words_of_each-requires : goal.words_of_each-requires
words_of_each-requires g c = c.if-not-steps_lead_back.ensures.right refl
