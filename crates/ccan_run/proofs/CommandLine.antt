-- The command is one of which clap says everything.
use Rattle.std.proofs.Common.{◌≡◌, ◌≢◌, ◌∙◌, List, [], Option, true, refl, ap, sym, subst, codes, inl, inr}
use Rattle.clap.specs.Words.{App, HasKind, HasMatchesOf, IsAmong, Kinds, Text, app_of, fault_of, first_of, first_value, found_of}
use Rattle.clap.specs.Words.{is_simple, is_simple_and_free, kind_of, matches_of}
use Rattle.clap.specs.declared.ArgMatches.{ArgMatches}
use Rattle.clap.specs.declared.builder.Command.{Command}
use Rattle.clap.specs.declared.error.Error.{Error}
use Rattle.clap.proofs.OnLiterals.{clap_on_literals}
use Rattle.clap.proofs.WalkLemmas.{first_value-rows}
use Rattle.ccan_run.specs.declared.cli_error.CliError.TheVariants.{Words, Memory}
use Rattle.ccan_run.specs.declared.run_mode.RunMode.{RunMode}
use Rattle.ccan_run.specs.CliError.{error_from, error_of_kind}
use Rattle.ccan_run.specs.RunMode.{Answers, IsCommand, Names, Refuses, ccan, mode_of}

ccan_is_free : (names : Names) → is_simple_and_free (ccan names) ≡ true
unfolding ccan clap_on_literals
ccan_is_free names = refl

ccan_is_simple : (names : Names) → is_simple (ccan names) ≡ true
unfolding ccan clap_on_literals
ccan_is_simple names = refl

pub answers_from : (command : Command) (found : ArgMatches) (words : List Text) (word : Option Text) (mode : RunMode)
    → IsCommand command
    → HasMatchesOf (app_of command) words found
    → (is_simple_and_free (app_of command) ≡ true → fault_of (app_of command) words ≡ [])
    → word ≡ first_value (found_of found) (codes "mode") → mode ≡ mode_of word → Answers words mode
answers_from command found words word mode is matches taken value mode_is = record {
  names = is.0;
  modes = is.1;
  taken = ap (λ (a : App). fault_of a words) (sym is.2) ∙ taken (ap is_simple_and_free is.2 ∙ ccan_is_free is.0);
  mode_is = mode_is ∙ ap mode_of (value ∙ first_value-rows (found_of found) (codes "mode")
      ∙ ap (first_of (codes "mode"))
      ((matches (ap is_simple is.2 ∙ ccan_is_simple is.0)).0 ∙ ap (λ (a : App). matches_of a words) is.2));
}

some_kind : (kinds : Kinds) (e : Error) → HasKind kinds e → error_from e ≡ Words → kinds ≢ []
some_kind kinds e has is none = elim has [
  | inl memory ↦ let bad : Memory ≡ Words = ap error_of_kind (sym memory) ∙ is in cc
  | inr among ↦ subst (IsAmong (kind_of e)) none among
]

pub refuses_from : (command : Command) (words : List Text) (e : Error) → IsCommand command
    → (is_simple_and_free (app_of command) ≡ true → HasKind (fault_of (app_of command) words) e) → error_from e ≡ Words
    → Refuses words
refuses_from command words e is has fault = record {
  names = is.0;
  modes = is.1;
  refused = some_kind (fault_of (ccan is.0) words) e
      (subst (λ (a : App). HasKind (fault_of a words) e) is.2 (has (ap is_simple_and_free is.2 ∙ ccan_is_free is.0))) fault;
}
