use Rattle.std.proofs.Common.{◌≡◌, map}
use Rattle.std.proofs.lemmas.Result.{err_from_is_err_and}
use Rattle.ccan_run.specs.CliError.{error_from}
use Rattle.ccan_run.specs.declared.cli_error.CliError.TheVariants.{Words}
use Rattle.ccan_run.proofs.CommandLine.{answers_from, refuses_from}
use Rattle.ccan_run.proofs.run_mode.mode.Goals as goal

pub returns-clause-ok : goal.returns-clause-ok
returns-clause-ok g c = answers_from c.in_ok-command.field-0 c.in_ok-matches.matches (map g.S.AsStr.text c.args.words.now) _ _
    c.in_ok-command.ensures c.in_ok-matches.ensures.matches c.in_ok-matches.ensures.kinds c.get_str.ensures c.mode_named.ensures

pub returns-in_err-matches-clause-words : goal.returns-in_err-matches-clause-words
returns-in_err-matches-clause-words g c =
    let p = err_from_is_err_and c.from_residual-in_err-matches.result c.from_residual-in_err-matches.ensures.1 in
    λ h. let fault : error_from c.in_err-matches.field-0.0 ≡ Words = cc (p.1, p.2, h) in
    refuses_from c.in_ok-command.field-0 (map g.S.AsStr.text c.args.words.now) c.in_err-matches.field-0.0 c.in_ok-command.ensures
    c.in_err-matches.ensures.kinds fault
