-- The calls of three threads on an open chip, each with a handle of its own, and between them calls that take the whole chip: the
-- three meet, the chip is saved, or it is reset. Source: this project's own.
use Rattle.std.specs.Prelude.{ℕ, ◌≡◌, List, [], ◌∷◌, ◌++◌, map, Result, Ok, Err, Some}
use Rattle.ccan_object.specs.declared.profile.Profile.{Profile}
use Rattle.ccan_object.specs.Profile.{objects_in}
use Rattle.ccan_ram.specs.declared.port.PortName.{PortName}
use Rattle.ccan_ram.specs.declared.port.PortName.TheVariants.{If1, If2, Bus}
use Rattle.ccan_ram.specs.Ending.{final_records}
use Rattle.ccan_ram.specs.History.{IsLegal}
use Rattle.ccan_ram.specs.SharedRam.{Memory, IsMemoryOf, terms_of}
use Rattle.ccan_ram.specs.Terms.{Terms}
use Rattle.ccan_endless.specs.Chip.{ChipHistory, GoesFrom, IsControllerLegal, ram_of}
use Rattle.ccan_endless.specs.ChipPort.{reset_history}
use Rattle.ccan_endless.specs.Layout.{most, same_object}
use Rattle.ccan_bus.specs.Past.{opened_at_once}
use Rattle.ccan_registers.specs.declared.access_error.AccessError.{AccessError}
use Rattle.ccan_registers.specs.declared.interface_set.InterfaceSet.{InterfaceSet}
use Rattle.ccan_registers.specs.Frames.{at_rest}
use Rattle.ccan_registers.specs.InterfaceSet.{reset_set}
use Rattle.ccan_chip.specs.Arrival.{unloaded}
use Rattle.ccan_registers.specs.Dcan.{reset_of}
use Rattle.ccan_registers.specs.Resetting.{ResetsChip}
use Rattle.ccan_registers.specs.declared.saved.chip.Saved.{Saved}
use Rattle.ccan_registers.specs.Format.{text_of}
use Rattle.ccan_registers.specs.Looks.{LooksAtAll}
use Rattle.ccan_registers.specs.PutBack.{PutsBack}
use Rattle.ccan_c.specs.declared.chip.Chip.{Chip}
use Rattle.ccan_c.specs.declared.shown_final.ShownFinal.{ShownFinal}
use Rattle.ccan_c.specs.Bus.{held_on}
use Rattle.ccan_c.specs.FrameCall.{BusState, CallOnBus, CallOnBusDoes, CallOnBusMeans}
use Rattle.ccan_c.specs.Chip.{Opens, EndsWith}
use Rattle.ccan_c.specs.Host.{held_by}
use Rattle.ccan_c.specs.HostCall.{HostCall, HostCallDoes, HostCallMeans, code_of_access}
use Rattle.ccan_c.specs.Meeting.{Meet}
use Rattle.ccan_c.specs.Opening.{Set, after_reset}
use Rattle.ccan_c.specs.Record.{c_record}
use Rattle.ccan_c.specs.Resetting.{Resets}
use Rattle.ccan_c.specs.Saving.{RestoresAs, Saves}
use Rattle.ccan_c.specs.Step.{Place, CallsMean, Leads, own_of}

-- ---- what C does

-- how a chip begins: it is opened with this, or it is opened as one that was saved
pub data Beginning : Type 0 where
  opened_with : Set → Beginning
  restored_as : Saved → Beginning

-- what a chip that was saved opens with
abbrev pub set_of : Beginning → Set
set_of (opened_with set) = set
set_of (restored_as saved) = record { nodes = saved.others; tries = saved.tries; map = saved.map; opening = after_reset }

abbrev pub Begins : Profile → Beginning → Chip → Type 0
Begins profile (opened_with set) chip = Opens profile set chip
Begins profile (restored_as saved) chip = (saved.profile ≡ profile) × RestoresAs saved chip

-- calls on the three handles, those of one handle in their order, and mixed in any way with those of the others; or a call that
-- takes the whole chip: a meeting of the three; a saving, which gives C this text; or a reset in its place, which answers this
-- code
pub data Part : Type 0 where
  at_once : List HostCall → List HostCall → List CallOnBus → Part
  meeting : Part
  saving : List ℕ → Part
  resetting : ℕ → Part

-- each call has its contract, and so they lead from the one chip to the other
pub record LeadAtOnce (if1 if2 : List HostCall) (bus : List CallOnBus) (old new : Chip) : Type 0 where
  pub if1_leads : Leads HostCallDoes if1 (held_by old.if1) (held_by new.if1)
  pub if2_leads : Leads HostCallDoes if2 (held_by old.if2) (held_by new.if2)
  pub bus_leads : Leads CallOnBusDoes bus (held_on old.bus) (held_on new.bus)

abbrev pub PartDoes : Part → Chip → Chip → Type 0
PartDoes (at_once if1 if2 bus) old new = LeadAtOnce if1 if2 bus old new
PartDoes meeting old new = Meet old new
PartDoes (saving text) old new = Saves old new text
PartDoes (resetting code) old new = Resets old new code

abbrev pub PartsDo : List Part → Chip → Chip → Type 0
PartsDo [] old new = new ≡ old
PartsDo (part ∷ parts) old new = (between : Chip) × PartDoes part old between × PartsDo parts between new

-- ---- what it comes to

-- the places of the three handles
pub record Places : Type 0 where
  pub if1 : Place InterfaceSet
  pub if2 : Place InterfaceSet
  pub bus : Place BusState

-- the bus's handle as a chip opens: its bus chooses at one moment, nothing happened to it, and it has no part in a frame
abbrev pub opening_bus : ℕ → BusState
opening_bus nodes = record { past = opened_at_once nodes; station = at_rest }

-- and one in which nothing is loaded any more, and no frame is under way
abbrev pub bus_unloaded : BusState → BusState
bus_unloaded old = record { past = unloaded old.past; station = at_rest }

-- as a chip opens: registers as they begin, a bus as it opens, and the reset seen, if there was one
abbrev pub opening : Set → Places
opening set =
    record {
      if1 = record { state = set.opening.own; seen = set.opening.begun };
      if2 = record { state = set.opening.own; seen = set.opening.begun };
      bus = record { state = opening_bus set.nodes; seen = set.opening.begun };
    }

-- the bus's port has added events to what it had seen
abbrev pub bus_adds : ChipHistory → Places → Places
bus_adds added all =
    record { if1 = all.if1; if2 = all.if2; bus = record { state = all.bus.state; seen = added ++ all.bus.seen } }

-- nothing is loaded, and no frame is under way
abbrev pub bus_unloads : Places → Places
bus_unloads all =
    record { if1 = all.if1; if2 = all.if2; bus = record { state = bus_unloaded all.bus.state; seen = all.bus.seen } }

-- the hosts have these interface registers
abbrev pub hosts_have : InterfaceSet → InterfaceSet → Places → Places
hosts_have first second all =
    record {
      if1 = record { state = first; seen = all.if1.seen };
      if2 = record { state = second; seen = all.if2.seen };
      bus = all.bus;
    }

-- the calls of each handle stand for events of its port's history
pub record MeanAtOnce (terms : PortName → Terms) (set : Set) (if1 if2 : List HostCall) (bus : List CallOnBus)
    (old new : Places) : Type 0 where
  pub if1_means : CallsMean (HostCallMeans (terms If1) set.tries set.map) if1 old.if1 new.if1
  pub if2_means : CallsMean (HostCallMeans (terms If2) set.tries set.map) if2 old.if2 new.if2
  pub bus_means : CallsMean (CallOnBusMeans (terms Bus) set.tries set.nodes set.map) bus old.bus new.bus

-- a handle has met the others: its port has seen at least what each of the three had, it made no event, and the state stays
pub record MeetsAll {State : Type 0} (port : PortName) (all : Places) (old new : Place State) : Type 0 where
  pub keeps : new.state ≡ old.state
  pub begins_if1 : GoesFrom new.seen all.if1.seen
  pub begins_if2 : GoesFrom new.seen all.if2.seen
  pub begins_bus : GoesFrom new.seen all.bus.seen
  pub own : own_of port new.seen ≡ own_of port old.seen

pub record HaveMetAll (old new : Places) : Type 0 where
  pub if1_meets : MeetsAll If1 old old.if1 new.if1
  pub if2_meets : MeetsAll If2 old old.if2 new.if2
  pub bus_meets : MeetsAll Bus old old.bus new.bus

-- C gets the text of what the handles work with, and of what the bus's port finds by one look at the controller and one at each
-- object. Before it, as before a reset, the three have met
pub record SavesAll (terms : PortName → Terms) (set : Set) (text : List ℕ) (old new : Places) : Type 0 where
  pub saved : Saved
  pub text_is : text ≡ text_of saved
  pub profile : saved.profile ≡ (terms Bus).profile
  pub map : saved.map ≡ set.map
  pub tries : saved.tries ≡ set.tries
  pub others : saved.others ≡ set.nodes
  pub if1 : saved.if1 ≡ old.if1.state
  pub if2 : saved.if2 ≡ old.if2.state
  pub added : ChipHistory
  pub looks : LooksAtAll (terms Bus) saved.controller saved.records old.bus.seen added
  pub leaves : new ≡ bus_adds added old

-- after a reset the hosts have the registers of a reset, nothing is loaded, and the three have met; a reset that was refused
-- changes nothing except by its steps
abbrev pub LeavesReset : Result (Unit {0}) AccessError → Places → Places → Type 0
LeavesReset (Ok done) old new = HaveMetAll (hosts_have reset_set reset_set (bus_unloads old)) new
LeavesReset (Err why) old new = new ≡ old

-- the reset is one change of the controller by the bus's port, and one of each object
pub record ResetsAll (terms : PortName → Terms) (set : Set) (code : ℕ) (old new : Places) : Type 0 where
  pub told : Result (Unit {0}) AccessError
  pub code_is : code ≡ code_of_access (Some told)
  pub added : ChipHistory
  pub resets : ResetsChip (terms Bus) (reset_of set.map) set.tries old.bus.seen added told
  pub leaves : LeavesReset told (bus_adds added old) new

abbrev pub PartMeans : (PortName → Terms) → Set → Part → Places → Places → Type 0
PartMeans terms set (at_once if1 if2 bus) old new = MeanAtOnce terms set if1 if2 bus old new
PartMeans terms set meeting old new = HaveMetAll old new
PartMeans terms set (saving text) old new = (met : Places) × HaveMetAll old met × SavesAll terms set text met new
PartMeans terms set (resetting code) old new = (met : Places) × HaveMetAll old met × ResetsAll terms set code met new

abbrev pub PartsMean : (PortName → Terms) → Set → List Part → Places → Places → Type 0
PartsMean terms set [] old new = new ≡ old
PartsMean terms set (part ∷ parts) old new =
    (between : Places) × PartMeans terms set part old between × PartsMean terms set parts between new

-- A chip that was saved begins as one after its reset, with the saved registers of its hosts. The bus's port makes steps until
-- its looks find what was saved, and then the three meet.
pub record BeginsRestored (terms : PortName → Terms) (saved : Saved) (first : Places) : Type 0 where
  pub added : ChipHistory
  pub puts : PutsBack (terms Bus) saved reset_history added (Ok tt)
  pub met : HaveMetAll (bus_adds added (hosts_have saved.if1 saved.if2 (opening (set_of (restored_as saved))))) first

-- the places of the three handles at first
abbrev pub BeginsAt : (PortName → Terms) → Beginning → Places → Type 0
BeginsAt terms (opened_with set) first = first ≡ opening set
BeginsAt terms (restored_as saved) first = BeginsRestored terms saved first

-- all that a port had seen is a part of the history, which has no other events of the port
pub record IsPartOf (port : PortName) (seen history : ChipHistory) : Type 0 where
  pub begins : GoesFrom history seen
  pub own : own_of port history ≡ own_of port seen

-- C gets the records that the history leaves
pub record Shows (profile : Profile) (history : ChipHistory) (out : ShownFinal) : Type 0 where
  pub objects : out.objects ≡ objects_in profile
  pub records : out.records ≡ map c_record (final_records profile (ram_of history))

-- one legal history of a chip holds all that the calls on each handle did, at objects and at the controller, in the order of that
-- handle's calls: each call answers what its place in the history makes it answer, and C gets the records that the history
-- leaves. Every event is that of one of the three ports, so the history has only theirs
pub record FitOneHistory (profile : Profile) (beginning : Beginning) (parts : List Part) (out : ShownFinal) : Type 0 where
  pub memory : Memory
  pub memory_is : IsMemoryOf profile most memory
  pub first : Places
  pub begins : BeginsAt (terms_of same_object memory) beginning first
  pub last : Places
  pub means : PartsMean (terms_of same_object memory) (set_of beginning) parts first last
  pub history : ChipHistory
  pub legal : IsLegal profile (ram_of history)
  pub steps_legal : IsControllerLegal history
  pub if1 : IsPartOf If1 last.if1.seen history
  pub if2 : IsPartOf If2 last.if2.seen history
  pub bus : IsPartOf Bus last.bus.seen history
  pub shows : Shows profile history out

-- whatever C does with a chip from its opening to its end
abbrev pub CallsFitOneHistory : Type 0
CallsFitOneHistory =
    (profile : Profile) (beginning : Beginning) (parts : List Part) (chip last : Chip) (out : ShownFinal)
    → Begins profile beginning chip → PartsDo parts chip last → EndsWith last out
    → FitOneHistory profile beginning parts out
