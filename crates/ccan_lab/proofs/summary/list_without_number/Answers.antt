use Rattle.std.proofs.Common.{◌++◌, ◌∙◌, List, ℕ, ap}
use Rattle.ccan_outcomes.specs.RaceScript.{fields_of}
use Rattle.ccan_outcomes.specs.Ending.{IsOfEnd}
use Rattle.ccan_outcomes.specs.LineEnds.{SaysOutcome}
use Rattle.ccan_lab.specs.Summary.{choice_parts, name_in, same_parts}
use Rattle.ccan_lab.proofs.Parts.{choices_alike}
use Rattle.ccan_lab.proofs.summary.list_without_number.Goals as goal

pub returns : goal.returns
returns c =
    let script = fields_of c.args.race.now in
    let added = c.in_ok-add_parts.ensures in
    let parts = same_parts added.choices ++ choice_parts added.choices (name_in script) in
    record {
      why = c.requires.why;
      choices = added.choices;
      has_choices = choices_alike script (SaysOutcome c.args.lines.now) (IsOfEnd c.args.frames script) c.requires.ends added.choices
          added.has_choices;
      text_is = added.new_is ∙ ap (λ (t : List ℕ). t ++ parts) c.in_ok-text.ensures;
    }
