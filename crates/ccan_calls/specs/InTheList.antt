-- Three threads on a chip of the library for C stand in the list of all schedules of their tables. Source: this project's own.
use Rattle.std.specs.Prelude.{ℕ, ◌≡◌, ◌-◌, Bool, true, false, List, [], ◌∷◌, ◌++◌, length, map, replicate, Some, slice_get}
use Rattle.std.specs.Global.{Vec}
use Rattle.ccan_object.specs.declared.profile.Profile.{Profile}
use Rattle.ccan_object.specs.declared.profile.Profile.TheVariants.{Two}
use Rattle.ccan_object.specs.Profile.{objects_in}
use Rattle.ccan_object.specs.Record.{zero_record}
use Rattle.ccan_ram.specs.declared.port.PortName.TheVariants.{Bus, If1, If2}
use Rattle.ccan_ram.specs.History.{leaves}
use Rattle.ccan_ram.specs.SharedRam.{Memory, IsMemoryOf, terms_of}
use Rattle.ccan_endless.specs.Chip.{ChipHistory, controller_at, ram_of}
use Rattle.ccan_endless.specs.Layout.{most, same_object}
use Rattle.ccan_c.specs.declared.chip.Chip.{Chip}
use Rattle.ccan_c.specs.declared.shown_final.ShownFinal.{ShownFinal}
use Rattle.ccan_c.specs.Chip.{EndsWith}
use Rattle.ccan_c.specs.FrameCall.{CallOnBus}
use Rattle.ccan_c.specs.HostCall.{HostCall, code_got}
use Rattle.ccan_c.specs.Opening.{Set}
use Rattle.ccan_c.specs.Record.{c_record}
use Rattle.ccan_c.specs.Threads.{Begins, Part, PartsDo, at_once, meeting, opened_with, opening_bus, resetting, saving}
use Rattle.ccan_every.specs.declared.situation.Situation.TheVariants.{At}
use Rattle.ccan_every.specs.declared.table.Entry.TheVariants.{Acts}
use Rattle.ccan_every.specs.declared.table.Goes.{Goes}
use Rattle.ccan_every.specs.declared.table.Table.{Table}
use Rattle.ccan_every.specs.Outcome.{CanCome}
use Rattle.ccan_every.specs.Tables.{goes_on}
use Rattle.ccan_device.specs.declared.answer.ChipAnswer.{ChipAnswer}
use Rattle.ccan_device.specs.declared.memory.ChipMemory.{ChipMemory}
use Rattle.ccan_device.specs.declared.operation.ChipOperation.{ChipOperation}
use Rattle.ccan_calls.specs.DeviceSteps.{CallsAskFor, DeviceStep}
use Rattle.ccan_calls.specs.HostAsk.{asked_by, place_of}
use Rattle.ccan_calls.specs.HostCallProcess.{host_process}
use Rattle.ccan_calls.specs.Refusals.{NoneBusy}
use Rattle.ccan_calls.specs.ThreadProcess.{asked, code_of_call, on_bus_process, place_of_call, thread_process}

-- ---- threads as tables

-- what a thread does on a chip of one thread, at each of its places
abbrev pub ChipTable : Type 0
ChipTable = Table ChipOperation ChipAnswer

-- what an operation of a thread does on a chip
abbrev pub ChipActs : Type 1
ChipActs = ℕ → ChipOperation → ChipMemory → ChipMemory → ChipAnswer → Type 0

-- by these steps, the newest first, a thread has come from the first place of its table to this one
abbrev pub ComesBy : (ChipAnswer → ChipAnswer → Bool) → ChipTable → List DeviceStep → ℕ → Type 0
ComesBy eq table [] place = place ≡ 0
ComesBy eq table (step ∷ earlier) place =
    (before : ℕ) × (goes : Vec (Goes ChipAnswer)) × ComesBy eq table earlier before
    × (slice_get table.entries.items before ≡ Some (Acts step.operation goes))
    × (goes_on eq (length table.entries.items) goes.items step.answer ≡ Some place)

-- ---- calls as steps

-- all calls of a handle
abbrev pub calls_of_if1 : List Part → List HostCall
calls_of_if1 [] = []
calls_of_if1 (at_once if1 if2 bus ∷ parts) = if1 ++ calls_of_if1 parts
calls_of_if1 (part ∷ parts) = calls_of_if1 parts

abbrev pub calls_of_if2 : List Part → List HostCall
calls_of_if2 [] = []
calls_of_if2 (at_once if1 if2 bus ∷ parts) = if2 ++ calls_of_if2 parts
calls_of_if2 (part ∷ parts) = calls_of_if2 parts

abbrev pub calls_of_bus : List Part → List CallOnBus
calls_of_bus [] = []
calls_of_bus (at_once if1 if2 bus ∷ parts) = bus ++ calls_of_bus parts
calls_of_bus (part ∷ parts) = calls_of_bus parts

-- between their calls the three only meet
abbrev pub OnlyMeet : List Part → Type 0
OnlyMeet [] = Unit {0}
OnlyMeet (at_once if1 if2 bus ∷ parts) = OnlyMeet parts
OnlyMeet (meeting ∷ parts) = OnlyMeet parts
OnlyMeet (saving text ∷ parts) = ⊥
OnlyMeet (resetting code ∷ parts) = ⊥

-- the steps of three threads
pub record ThreadSteps : Type 0 where
  pub if1 : List DeviceStep
  pub if2 : List DeviceStep
  pub bus : List DeviceStep

-- the steps of each thread's calls on a chip that was opened with this
pub record AreStepsOf (profile : Profile) (set : Set) (parts : List Part) (steps : ThreadSteps) : Type 0 where
  pub memory : Memory
  pub memory_is : IsMemoryOf profile most memory
  pub if1_asks : CallsAskFor code_got place_of (calls_of_if1 parts)
      (thread_process (host_process (terms_of same_object memory If1) set.map) (map asked_by (calls_of_if1 parts))
      set.opening.own) steps.if1
  pub if2_asks : CallsAskFor code_got place_of (calls_of_if2 parts)
      (thread_process (host_process (terms_of same_object memory If2) set.map) (map asked_by (calls_of_if2 parts))
      set.opening.own) steps.if2
  pub bus_asks : CallsAskFor code_of_call place_of_call (calls_of_bus parts)
      (thread_process (on_bus_process (terms_of same_object memory Bus) set.map set.nodes) (map asked (calls_of_bus parts))
      (opening_bus set.nodes)) steps.bus

-- ---- the list

-- the chip as a history left it
abbrev pub chip_after : Profile → ChipHistory → ChipMemory
chip_after profile history = record { records = leaves profile (ram_of history); controller = controller_at history }

-- C gets these records of the chip, and zero records for the objects that the profile doesn't have
pub record ShowsChip (profile : Profile) (memory : ChipMemory) (out : ShownFinal) : Type 0 where
  pub objects : out.objects ≡ objects_in profile
  pub records : out.records
      ≡ map c_record (memory.records ++ replicate (objects_in Two - objects_in profile) zero_record)

-- the chip may refuse changes, or no call was busy or spent
abbrev pub MayBeOn : Bool → List Part → Type 0
MayBeOn true parts = Unit {0}
MayBeOn false parts =
    NoneBusy code_got (calls_of_if1 parts) × NoneBusy code_got (calls_of_if2 parts)
    × NoneBusy code_of_call (calls_of_bus parts)

module _ (acts : ChipActs) (eq : ChipAnswer → ChipAnswer → Bool) where
  -- Whatever tables the threads go by: what they and the chip have come to is among what all schedules of the tables come to, and
  -- so in the list of a search that was whole.
  abbrev pub IsInTheList : ChipMemory → ChipMemory → ThreadSteps → Type 0
  IsInTheList first last steps =
      (if1 if2 bus : ChipTable) (place1 place2 place_bus : ℕ)
      → ComesBy eq if1 steps.if1 place1 → ComesBy eq if2 steps.if2 place2 → ComesBy eq bus steps.bus place_bus
      → CanCome acts eq (if1 ∷ if2 ∷ bus ∷ []) first (At last (place1 ∷ place2 ∷ place_bus ∷ []))

  -- what three threads have come to on a chip that was opened with this
  pub record StandsInTheList (refuses : Bool) (profile : Profile) (set : Set) (parts : List Part) (out : ShownFinal)
      : Type 0 where
    pub steps : ThreadSteps
    pub of_calls : AreStepsOf profile set parts steps
    pub last : ChipMemory
    pub shows : ShowsChip profile last out
    pub in_list : MayBeOn refuses parts → IsInTheList (chip_after profile set.opening.begun) last steps

-- Whatever three threads do with a chip from its opening to its end, each on a handle of its own, with meetings and without: they
-- stand in the list of a chip that may refuse changes; and if no call was busy or spent, in that of one that refuses none but a
-- join.
abbrev pub ThreadsStandInTheList : Bool → ChipActs → (ChipAnswer → ChipAnswer → Bool) → Type 0
ThreadsStandInTheList refuses acts eq =
    (profile : Profile) (set : Set) (parts : List Part) (chip last : Chip) (out : ShownFinal)
    → Begins profile (opened_with set) chip → OnlyMeet parts → PartsDo parts chip last → EndsWith last out
    → StandsInTheList acts eq refuses profile set parts out
