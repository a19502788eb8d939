use Rattle.std.proofs.Common.{◌≡◌, ap, refl, rules, string_bytes, subst}
use Rattle.ccan_line.specs.Script.{ScriptFields}
use Rattle.ccan_outcomes.specs.RaceScript.{fields_of}
use Rattle.ccan_outcomes.specs.contracts.ending.EndingPartialEq.TheImpl.{ghosts as ending_is}
use Rattle.ccan_lab.specs.Answered.{raced}
use Rattle.ccan_lab.specs.Counting.{TellsCount}
use Rattle.ccan_lab.proofs.Allowed.{counts_so}
use Rattle.ccan_lab.proofs.counting.count_bytes.Goals as goal

pub returns-clause-counted : goal.returns-clause-counted
returns-clause-counted g c =
    let it = c.in_ok-race.ensures.searched in
    let searched = fields_of c.in_ok-race.race in
    let text = string_bytes c.in_ok-text.text in
    let same : text ≡ c.into_bytes.result.items = search rules in
    record {
      race = it.race;
      read = it.read;
      tells = subst (TellsCount c.args.frames (raced it.race) ending_is.eq) same
          (counts_so (raced it.race) searched (ap (λ (script : ScriptFields). script.profile) it.once) it.same_outcomes it.same_ends
          c.args.frames ending_is.eq text c.in_ok-text.ensures.counted);
      ends = refl;
    }
