-- What a line of the bus stands for: the events that it adds to the history of the message RAM, its answer, and the past of
-- the bus after it. Source: this project's own, over the definitions of the bus.
use Rattle.std.specs.Prelude.{ℕ, ◌≡◌, ◌↔◌, Bool, IsTrue, List, []}
use Rattle.ccan_object.specs.declared.profile.Profile.{Profile}
use Rattle.ccan_ram.specs.declared.event.Event.{Event}
use Rattle.ccan_ram.specs.declared.flag.Flag.{Flag}
use Rattle.ccan_ram.specs.Terms.{Terms}
use Rattle.ccan_handler.specs.Watch.{Interrupts, ReadsFlags}
use Rattle.ccan_confine.specs.Status.{IsPending}
use Rattle.ccan_bus.specs.declared.answer.LoadAnswer.{LoadAnswer}
use Rattle.ccan_bus.specs.declared.answer.RoundAnswer.{RoundAnswer}
use Rattle.ccan_bus.specs.declared.bus.Bus.{Bus}
use Rattle.ccan_bus.specs.declared.choice.Choice.{Choice}
use Rattle.ccan_bus.specs.declared.choice.Choice.TheVariants.{InTurn, AtOnce}
use Rattle.ccan_bus.specs.Past.{BusPast}
use Rattle.ccan_bus.specs.Load.{Loads}
use Rattle.ccan_bus.specs.Round.{Round}
use Rattle.ccan_process.specs.Act.{Runs}
use Rattle.ccan_line.specs.declared.bus_line.BusLine.{BusLine}
use Rattle.ccan_line.specs.declared.bus_line.BusLine.TheVariants as line
use Rattle.ccan_line.specs.declared.line_answer.LineAnswer.{LineAnswer}
use Rattle.ccan_line.specs.declared.line_answer.LineAnswer.TheVariants as answer
use Rattle.ccan_line.specs.declared.line_end.LineEnd.{LineEnd}
use Rattle.ccan_line.specs.BusLine.{BusFits}
use Rattle.ccan_line.specs.ControllerLine.{controller_end}
use Rattle.ccan_line.specs.LineProcess.{bus_process}

-- a line that makes no step of the memory has this answer, and leaves this past
pub record Only (end : LineAnswer × BusPast) (reply : LineAnswer) (after : BusPast) (added : List Event) : Type 0 where
  pub quiet : added ≡ []
  pub answer_is : reply ≡ end.0
  pub past_is : after ≡ end.1

-- the interrupt value, with the status interrupt as the past of the bus has it
pub record ReadsInterrupt (terms : Terms) (added : List Event) (past after : BusPast) (reply : LineAnswer) : Type 0 where
  pub pending : Bool
  pub value : ℕ
  pub known : IsTrue pending ↔ IsPending past.steps
  pub reads : Interrupts terms pending added value
  pub answer_is : reply ≡ answer.Interrupt value
  pub past_is : after ≡ past

-- a flag of all objects
pub record ReadsWord (terms : Terms) (flag : Flag) (added : List Event) (past after : BusPast)
    (reply : LineAnswer) : Type 0 where
  pub word : ℕ
  pub reads : ReadsFlags terms flag added word
  pub answer_is : reply ≡ answer.Flags flag word terms.profile
  pub past_is : after ≡ past

-- what the line adds, as the bus and the memory handler have it
abbrev pub BusLineAdds : Terms → ℕ → BusLine → BusPast → List Event → List Event → LineAnswer → BusPast → Type 0
BusLineAdds terms tries line.Load past seen added reply after =
    (loading : LoadAnswer) × (reply ≡ answer.Load loading) × Loads terms tries seen added past after loading
BusLineAdds terms tries (line.Round round) past seen added reply after =
    (ended : RoundAnswer) × (reply ≡ answer.Round ended) × Round terms round tries seen added past after ended
BusLineAdds terms tries line.Interrupt past seen added reply after = ReadsInterrupt terms added past after reply
BusLineAdds terms tries (line.Flags flag) past seen added reply after = ReadsWord terms flag added past after reply
BusLineAdds terms tries (line.Controller at) past seen added reply after =
    Only (controller_end at past) reply after added

-- by how the bus chooses: object after object, and the line stands for the runs of its process, which say too which frame won; at
-- one moment, and it stands for what it adds, since an act of a process looks at one object
abbrev pub MeansBy : Choice → Terms → ℕ → BusLine → BusPast → List Event → List Event → LineAnswer → BusPast → Type 0
MeansBy InTurn terms tries line past seen added reply after =
    (end : LineEnd) × (end.answer ≡ reply) × Runs terms tries (bus_process terms.profile line past) seen added (end, after)
MeansBy AtOnce terms tries line past seen added reply after = BusLineAdds terms tries line past seen added reply after

-- what the line stands for
abbrev pub BusLineMeans : Terms → ℕ → BusLine → BusPast → List Event → List Event → LineAnswer → BusPast → Type 0
BusLineMeans terms tries line past seen added reply after = MeansBy past.choice terms tries line past seen added reply after

-- a bus of this profile runs each line of a script that has as many nodes
pub record TakesLine (profile : Profile) (bus : Bus) (line : BusLine) : Type 0 where
  pub same_profile : bus.profile ≡ profile
  pub known : BusFits bus.others line
