-- Why a line that is asked for has no answer.
use Rattle.std.proofs.Common.{ℕ, Bool, List}
use Rattle.ccan_line.specs.Script.{ScriptFields}
use Rattle.ccan_outcomes.specs.declared.all_ports.AllPorts.{AllPorts}
use Rattle.ccan_lab.specs.declared.lab_error.LabError.{LabError}
use Rattle.ccan_lab.specs.declared.lab_error.LabError.TheVariants as fault
use Rattle.ccan_lab.specs.Words.{HasNoGraph, IsUnanswered}

module _ (frames : Bool) (script : ScriptFields) (begins : List (List ℕ)) (eq : AllPorts → AllPorts → Bool) (most : ℕ) where
  -- there is no graph
  pub no_graph : (why : LabError) → HasNoGraph script eq most why → IsUnanswered frames script begins eq most why
  no_graph fault.Words h = absurd h
  no_graph fault.Open h = absurd h
  no_graph (fault.Input of) h = absurd h
  no_graph (fault.More told) h = h
  no_graph (fault.Nodes told) h = absurd h
  no_graph (fault.NoPlace number) h = absurd h
  no_graph fault.NoLine h = absurd h
  no_graph fault.Log h = absurd h
  no_graph fault.Frames h = absurd h
  no_graph (fault.NoOutcome number listed) h = absurd h
  no_graph fault.Memory h = tt
  no_graph fault.Write h = absurd h
