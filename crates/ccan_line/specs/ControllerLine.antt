-- A line of the bus that makes no step of the memory: it reads or sets what the bus keeps of its controller and its nodes. What it
-- answers, the past of the bus after it, and what of that past its answer shows. Source: this project's own, over the definitions
-- of the bus.
use Rattle.std.specs.Prelude.{ℕ, ◌≤◌, Bool, true, false, ◌∷◌}
use Rattle.std.specs.Coded.{le_prop, Unit-prop}
use Rattle.ccan_confine.specs.Counters.{Levels, state_of}
use Rattle.ccan_confine.specs.Status.{Enabled, WasRead, word_after}
use Rattle.ccan_bus.specs.Past.{BusPast, levels_at, clears_init, recovers}
use Rattle.ccan_line.specs.declared.controller_line.ControllerLine.{ControllerLine}
use Rattle.ccan_line.specs.declared.controller_line.ControllerLine.TheVariants.{Status, Control, Counters, Init, Recessive, LoopBack}
use Rattle.ccan_line.specs.declared.line_answer.LineAnswer.{LineAnswer}
use Rattle.ccan_line.specs.declared.line_answer.LineAnswer.TheVariants as answer
use Rattle.ccan_line.specs.Limits.{most_groups}

-- the recessive bits of a line
pub record AreGroups (groups : ℕ) : Type 0 where
  pub least : 1 ≤ groups
  pub greatest : groups ≤ most_groups

AreGroups-prop : (groups : ℕ) → IsProp (AreGroups groups)
AreGroups-prop groups a b = λ i. record { least = le_prop a.least b.least i; greatest = le_prop a.greatest b.greatest i }

-- the node that the line names is among this many others and the controller, and its numbers are in their ranges
abbrev pub ControllerFits : ℕ → ControllerLine → Type 0
ControllerFits nodes (Counters node) = node ≤ nodes
ControllerFits nodes (Recessive groups) = AreGroups groups
ControllerFits nodes line = Unit {0}

-- there is one proof of it
pub ControllerFits-prop : (nodes : ℕ) (line : ControllerLine) → IsProp (ControllerFits nodes line)
ControllerFits-prop nodes Status = Unit-prop
ControllerFits-prop nodes (Control sie eie) = Unit-prop
ControllerFits-prop nodes (Counters node) = le_prop
ControllerFits-prop nodes Init = Unit-prop
ControllerFits-prop nodes (Recessive groups) = AreGroups-prop groups
ControllerFits-prop nodes (LoopBack on) = Unit-prop

-- the error counters of a node
abbrev pub counters_shown : ℕ → Levels → LineAnswer
counters_shown node levels = answer.Counters node levels.tec levels.rec (state_of levels)

-- the state of the controller
abbrev pub state_shown : BusPast → LineAnswer
state_shown past = answer.Recessive (state_of (levels_at past 0))

-- the answer, and the past after the line
abbrev pub controller_end : ControllerLine → BusPast → LineAnswer × BusPast
controller_end Status past =
    (answer.Status (word_after past.steps (levels_at past 0)), record past { steps = WasRead ∷ past.steps })
controller_end (Control sie eie) past = (answer.Control sie eie, record past { steps = Enabled sie eie ∷ past.steps })
controller_end (Counters node) past = (counters_shown node (levels_at past node), past)
controller_end Init past = (answer.Init, clears_init past)
controller_end (Recessive groups) past = (state_shown (recovers groups past), recovers groups past)
controller_end (LoopBack on) past = (answer.LoopBack on, record past { loops_back = on })

-- the answer has the Status register in it
abbrev pub shows_status : ControllerLine → Bool
shows_status Status = true
shows_status (Control sie eie) = false
shows_status (Counters node) = false
shows_status Init = false
shows_status (Recessive groups) = false
shows_status (LoopBack on) = false

-- the answer has error counters in it, or the state that they mean
abbrev pub shows_counters : ControllerLine → Bool
shows_counters Status = false
shows_counters (Control sie eie) = false
shows_counters (Counters node) = true
shows_counters Init = false
shows_counters (Recessive groups) = true
shows_counters (LoopBack on) = false
