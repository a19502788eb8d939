use Rattle.std.proofs.Common.{◌≡◌, Bool, Option, Some, None, IfSome, IfNone, rules, subst, sym}
use Rattle.std.proofs.lemmas.Result.{IfErr-weaker}
use Rattle.ccan_outcomes.specs.RaceScript.{fields_of}
use Rattle.ccan_outcomes.specs.Ending.{AreAllEnds}
use Rattle.ccan_outcomes.specs.OutcomeWords.{endings_in}
use Rattle.ccan_outcomes.specs.contracts.all_ports.AllPortsPartialEq.TheImpl.{ghosts as ports_are}
use Rattle.ccan_lab.specs.declared.lab_error.LabError.TheVariants as fault
use Rattle.ccan_lab.specs.Words.{HasNoGraph}
use Rattle.ccan_lab.proofs.outcome_words.gathered_of.Goals as goal

of_some : {T : Type 0} (P : T → Type 0) (o : Option T) (found : T) → o ≡ Some found → IfSome o P → P found
of_some {T} P o found is holds = subst (λ (x : Option T). IfSome x P) is holds

of_none : {T : Type 0} (P : Type 0) (o : Option T) → o ≡ None → IfNone o P → P
of_none {T} P o is holds = subst (λ (x : Option T). IfNone x P) is holds

-- what stands of the words, by whether they have frames
pub returns-in-Some-2-clause-gathered : goal.returns-in-Some-2-clause-gathered
returns-in-Some-2-clause-gathered g c =
    let script = fields_of c.args.race.now in
    let words = c.in-Some-2.words in
    let is = c.in-Some-2.is in
    let so : words.numbers.frames ≡ c.args.frames = of_some _ _ _ is c.in_ok-words.ensures.told in
    record {
      can = record {
        machine = of_some _ _ _ c.in-Some.is c.in_ok-graph.ensures.machine;
        made = of_some _ _ _ is c.in_ok-words.ensures.made;
        ends = subst (λ (frames : Bool). AreAllEnds frames script (endings_in words)) (sym so)
            (of_some _ _ _ is c.in_ok-words.ensures.ends);
        runs = of_some _ _ _ is c.in_ok-words.ensures.runs;
        complete = of_some _ _ _ is c.in_ok-words.ensures.complete;
        letters = of_some _ _ _ is c.in_ok-words.ensures.letters;
      };
      are = of_some _ _ _ is c.in_ok-words.ensures.all;
      once = of_some _ _ _ is c.in_ok-words.ensures.distinct;
      asked = so;
    }

-- the graph is of the machine, and its words need so many nodes
pub returns-in_ok-line_ends_of-in-None-clause-gathered : goal.returns-in_ok-line_ends_of-in-None-clause-gathered
returns-in_ok-line_ends_of-in-None-clause-gathered g c = record {
  why = (
    c.in-Some.graph,
    of_some _ _ _ c.in-Some.is c.in_ok-graph.ensures.machine,
    of_none _ _ c.in-None.is c.in_ok-words.ensures.large,
  );
  ends = c.in_ok-line_ends_of-in-None.ensures.ends;
  whole = c.in_ok-line_ends_of-in-None.ensures.whole;
  said = c.in_ok-line_ends_of-in-None.ensures.said;
}

-- memory ran out
pub returns-in_err-words-clause-without : goal.returns-in_err-words-clause-without
returns-in_err-words-clause-without g c =
    IfErr-weaker c.from_residual-in_err-words.result (λ why. why ≡ fault.Memory) _
    (λ why is. subst (HasNoGraph (fields_of c.args.race.now) ports_are.eq c.args.most) (sym is) tt)
    (search (rules, c.from_residual-in_err-words.ensures))

pub returns-in_err-line_ends_of-in-None-clause-without : goal.returns-in_err-line_ends_of-in-None-clause-without
returns-in_err-line_ends_of-in-None-clause-without g c =
    IfErr-weaker c.from_residual-in_err-line_ends_of-in-None.result (λ why. why ≡ fault.Memory) _
    (λ why is. subst (HasNoGraph (fields_of c.args.race.now) ports_are.eq c.args.most) (sym is) tt)
    (search (rules, c.from_residual-in_err-line_ends_of-in-None.ensures))
