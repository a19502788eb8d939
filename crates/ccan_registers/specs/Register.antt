-- What a read and a write of a register of the chip come to. Source: C_CAN User's Manual 1.2, section 3 (Programmer's Model);
-- that a read of the Status register of a D_CAN clears it: Texas Instruments AM335x Technical Reference Manual, "Error and Status
-- Register"; what else a D_CAN does differently is in Dcan.antt; what a port that is not the owner of an interface may do there
-- is this project's own.
use Rattle.std.specs.Prelude.{ℕ, ◌≡◌, ◌+◌, ◌*◌, ◌/◌, ◌%◌, ◌^◌, ◌==◌, ◌⊎◌, Bool, true, false, not, ◌&&◌, [], Option, Some, None, Result, Ok, Err, MatchBool, MatchOption}
use Rattle.ccan_object.specs.declared.register.Reg.{Reg}
use Rattle.ccan_object.specs.Interface.{set_register, shown}
use Rattle.ccan_object.specs.Bits.{part}
use Rattle.ccan_object.specs.declared.profile.Profile.{Profile}
use Rattle.ccan_confine.specs.declared.controller.Controller.{Controller}
use Rattle.ccan_confine.specs.declared.controller_change.ControllerChange.{ControllerChange}
use Rattle.ccan_confine.specs.declared.controller_change.ControllerChange.TheVariants as change
use Rattle.ccan_confine.specs.declared.test_register.TestRegister.{TestRegister}
use Rattle.ccan_confine.specs.Bits.{at}
use Rattle.ccan_confine.specs.RegisterWords.{control_in, error_counter_word, flags_in, test_word}
use Rattle.ccan_confine.specs.Controller.{shows_interrupt}
use Rattle.ccan_ram.specs.declared.flag.Flag.{Flag}
use Rattle.ccan_ram.specs.declared.port.PortName.{PortName}
use Rattle.ccan_ram.specs.declared.port.PortName.TheVariants.{If1, If2}
use Rattle.ccan_ram.specs.Port.{same_port}
use Rattle.ccan_ram.specs.Terms.{Terms}
use Rattle.ccan_line.specs.declared.line_answer.LineAnswer.{LineAnswer}
use Rattle.ccan_line.specs.declared.line_answer.LineAnswer.TheVariants as answer
use Rattle.ccan_endless.specs.declared.chip.ControllerStep.TheVariants.{Look}
use Rattle.ccan_endless.specs.declared.controller_changed.ControllerBusy.{ControllerBusy}
use Rattle.ccan_endless.specs.declared.controller_changed.ControllerChanged.{ControllerChanged}
use Rattle.ccan_endless.specs.Chip.{ChipHistory}
use Rattle.ccan_chip.specs.declared.flag_part.FlagPart.{FlagPart}
use Rattle.ccan_chip.specs.declared.interface.Interface.{Interface}
use Rattle.ccan_chip.specs.declared.interface.Interface.TheVariants.{One, Two}
use Rattle.ccan_chip.specs.declared.map.Map.{Map}
use Rattle.ccan_chip.specs.declared.map.Map.TheVariants.{Dcan, Narrow, Wide}
use Rattle.ccan_chip.specs.declared.register.Register.{Register}
use Rattle.ccan_chip.specs.declared.register.Register.TheVariants as register
use Rattle.ccan_chip.specs.FlagPart.{index_of}
use Rattle.ccan_chip.specs.Map.{offset_of}
use Rattle.ccan_chip.specs.Register.{IsIn}
use Rattle.ccan_registers.specs.declared.access_error.AccessError.{AccessError}
use Rattle.ccan_registers.specs.declared.access_error.AccessError.TheVariants.{Busy, OtherInterface, Spent}
use Rattle.ccan_registers.specs.declared.interface_set.InterfaceSet.{InterfaceSet}
use Rattle.ccan_registers.specs.declared.offset_error.OffsetError.{OffsetError}
use Rattle.ccan_registers.specs.declared.offset_error.OffsetError.TheVariants.{Access, NoRegister}
use Rattle.ccan_registers.specs.ChipSteps.{AtController, Changes, Makes, Then}
use Rattle.ccan_registers.specs.Dcan.{NamesNone, Sends, asks_for_reset, control_shown, control_written, is_object_of, is_sending, number_in, status_shown, test_written, upper_shown, upper_written}
use Rattle.ccan_registers.specs.InterfaceSet.{Transferred}
use Rattle.ccan_registers.specs.Objects.{ShowsFlags, ShowsInterrupt}
use Rattle.ccan_registers.specs.Resetting.{ResetsChip}

-- ---- whose a register is

-- the port of an interface
abbrev pub port_of : Interface → PortName
port_of One = If1
port_of Two = If2

-- the interface is the port's
abbrev pub is_own : PortName → Interface → Bool
is_own port interface = same_port port (port_of interface)

-- the register is of another port's interface, and nothing happens; the port's own registers are as they were
pub record IsOthers {Value : Type 0} (own left : InterfaceSet) (added : ChipHistory)
    (told : Result Value AccessError) : Type 0 where
  pub quiet : added ≡ []
  pub left_is : left ≡ own
  pub told_is : told ≡ Err OtherInterface

-- no step is made
pub record IsQuiet {Value : Type 0} (added : ChipHistory) (told : Result Value AccessError) (value : Value) : Type 0 where
  pub quiet : added ≡ []
  pub told_is : told ≡ Ok value

-- ---- registers of the controller

-- one look at the controller, from which this word is read
abbrev pub Shows : Terms → (Controller → ℕ) → ChipHistory → ChipHistory → Result ℕ AccessError → Type 0
Shows terms word seen added told = (c : Controller) × AtController terms.port Look c seen added × (told ≡ Ok (word c))

-- what a read of the Status register is to the controller: C_CAN leaves the flags, D_CAN clears them
abbrev pub read_of : Map → ControllerChange
read_of Narrow = change.ReadStatus
read_of Wide = change.ReadStatus
read_of Dcan = change.ReadAndClearStatus

-- the Status register as the read found it, or the read was given up
abbrev pub status_told : Map → Result ControllerChanged ControllerBusy → Result ℕ AccessError
status_told map (Ok made) = Ok (status_shown map made.before)
status_told map (Err busy) = Err Busy

-- a read of the Status register, which changes the controller
abbrev pub ReadsStatus : Terms → Map → ℕ → ChipHistory → ChipHistory → Result ℕ AccessError → Type 0
ReadsStatus terms map tries seen added told =
    (outcome : Result ControllerChanged ControllerBusy) × Changes terms.port (read_of map) tries seen added outcome
    × (told ≡ status_told map outcome)

-- The interrupt value: a look at the controller, which says whether a status interrupt is shown; and then, if none is, the
-- objects that ask for one in one moment.
pub record InterruptValue (terms : Terms) (seen added : ChipHistory) (found : Controller) (value : ℕ) : Type 0 where
  pub steps : Then (AtController terms.port Look found)
      (λ s a. ShowsInterrupt terms (shows_interrupt found) s a value) seen added

-- the interrupt line is pulled if IE is 1 and the interrupt value is not 0
abbrev pub PullsLine : Terms → ChipHistory → ChipHistory → Bool → Type 0
PullsLine terms seen added pulls =
    (found : Controller) × (value : ℕ) × InterruptValue terms seen added found value
    × (pulls ≡ (found.control.ie && not (value == 0)))

-- ---- a read

-- what a read of a register of the port's own interface answers
abbrev pub ReadsOwn : PortName → Interface → ℕ → InterfaceSet → ChipHistory → Result ℕ AccessError → Type 0
ReadsOwn port interface value own added told =
    MatchBool (is_own port interface) (IsQuiet added told value) (IsOthers own own added told)

-- what Test reads: with Rx, bit 7, as the level of the bus, which is recessive. That no bit of a frame is on the bus when a
-- register is read is (own): a frame has no bits in a history
abbrev pub test_shown : TestRegister → ℕ
test_shown test = at 7 1 + test_word test

abbrev pub Reads : Terms → ℕ → Map → Register → InterfaceSet → ChipHistory → ChipHistory → Result ℕ AccessError → Type 0
Reads terms tries map register.Control own seen added told = Shows terms (λ c. control_shown map c.control) seen added told
Reads terms tries map register.ControlUpper own seen added told =
    Shows terms (λ c. upper_shown map c.control) seen added told
Reads terms tries map register.Status own seen added told = ReadsStatus terms map tries seen added told
Reads terms tries map register.ErrorCounter own seen added told = Shows terms error_counter_word seen added told
Reads terms tries map register.BitTiming own seen added told = Shows terms (λ c. c.timing.register) seen added told
Reads terms tries map register.Interrupt own seen added told =
    (found : Controller) × (value : ℕ) × InterruptValue terms seen added found value × (told ≡ Ok value)
Reads terms tries map register.Test own seen added told = Shows terms (λ c. test_shown c.test) seen added told
Reads terms tries map register.Extension own seen added told = Shows terms (λ c. c.timing.extension) seen added told
Reads terms tries map (register.Request interface) own seen added told = ReadsOwn terms.port interface own.asked own added told
Reads terms tries map (register.Buffer interface reg) own seen added told =
    ReadsOwn terms.port interface (shown reg own.registers) own added told
Reads terms tries map (register.Flags flag place) own seen added told =
    (word : ℕ) × ShowsFlags terms flag seen added word × (told ≡ Ok (part word (16 * index_of place) 16))

-- ---- a write

-- what a transfer answers: it is done, or its change was refused
abbrev pub transfer_told : LineAnswer → Result (Unit {0}) AccessError
transfer_told (answer.Busy object) = Err Busy
transfer_told (answer.Spent object) = Err Spent
transfer_told reply = Ok tt

-- a write of the Command Request register makes the transfer
pub record Requests (terms : Terms) (tries value : ℕ) (own : InterfaceSet) (seen added : ChipHistory)
    (told : Result (Unit {0}) AccessError) (left : InterfaceSet) : Type 0 where
  pub reply : LineAnswer
  pub transferred : Transferred terms tries value own seen added reply left
  pub told_is : told ≡ transfer_told reply

-- a write of another register of the port's own interface sets it
pub record SetsOwn (reg : Reg) (value : ℕ) (own : InterfaceSet) (added : ChipHistory) (told : Result (Unit {0}) AccessError)
    (left : InterfaceSet) : Type 0 where
  pub done : IsQuiet added told tt
  pub left_is : left ≡ record own { registers = set_register reg value own.registers }

-- a write of a register of the controller leaves the interface
pub record WritesController (terms : Terms) (z : ControllerChange) (tries : ℕ) (own : InterfaceSet) (seen added : ChipHistory)
    (told : Result (Unit {0}) AccessError) (left : InterfaceSet) : Type 0 where
  pub makes : Makes terms z tries seen added told
  pub left_is : left ≡ own

-- a register that can only be read
pub record IsReadOnly (own : InterfaceSet) (added : ChipHistory) (told : Result (Unit {0}) AccessError)
    (left : InterfaceSet) : Type 0 where
  pub done : IsQuiet added told tt
  pub left_is : left ≡ own

-- what a write of Status is to the controller: that of a D_CAN can only be read
abbrev pub status_written : Map → ℕ → Option ControllerChange
status_written Narrow value = Some (change.WriteStatus (flags_in value))
status_written Wide value = Some (change.WriteStatus (flags_in value))
status_written Dcan value = None

-- what a write of this word is to the controller, if the register is one that it has and that can be written
abbrev pub change_by : Map → Register → ℕ → Option ControllerChange
change_by map register.Control value = Some (control_written map value)
change_by map register.ControlUpper value = upper_written map value
change_by map register.Status value = status_written map value
change_by map register.BitTiming value = Some (change.WriteBitTiming value)
change_by map register.Test value = Some (change.WriteTest (test_written map value))
change_by map register.Extension value = Some (change.WriteExtension value)
change_by map r value = None

-- a request of a D_CAN whose number is that of an object
abbrev pub RequestsObject : Terms → ℕ → ℕ → InterfaceSet → ChipHistory → ChipHistory → Result (Unit {0}) AccessError
    → InterfaceSet → Type 0
RequestsObject terms tries object own seen added told left =
    MatchBool (is_sending own.registers.command) (Sends terms tries object own seen added told left)
    (Requests terms tries object own seen added told left)

-- a write of the Command Request register of the port's own interface
abbrev pub RequestsBy : Map → Terms → ℕ → ℕ → InterfaceSet → ChipHistory → ChipHistory → Result (Unit {0}) AccessError
    → InterfaceSet → Type 0
RequestsBy Narrow terms tries value own seen added told left = Requests terms tries value own seen added told left
RequestsBy Wide terms tries value own seen added told left = Requests terms tries value own seen added told left
RequestsBy Dcan terms tries value own seen added told left =
    MatchBool (is_object_of terms.profile (number_in value))
    (RequestsObject terms tries (number_in value) own seen added told left)
    (NamesNone own added told left)

-- a write of another register: of an interface, or of one that can only be read
abbrev pub WritesRest : Terms → ℕ → Map → Register → ℕ → InterfaceSet → ChipHistory → ChipHistory
    → Result (Unit {0}) AccessError → InterfaceSet → Type 0
WritesRest terms tries map (register.Request interface) value own seen added told left =
    MatchBool (is_own terms.port interface) (RequestsBy map terms tries value own seen added told left)
    (IsOthers own left added told)
WritesRest terms tries map (register.Buffer interface reg) value own seen added told left =
    MatchBool (is_own terms.port interface) (SetsOwn reg value own added told left) (IsOthers own left added told)
WritesRest terms tries map r value own seen added told left = IsReadOnly own added told left

-- a software reset of a D_CAN, which leaves the interface, since the other one is another port's (own)
pub record ResetsBySoftware (terms : Terms) (tries : ℕ) (own : InterfaceSet) (seen added : ChipHistory)
    (told : Result (Unit {0}) AccessError) (left : InterfaceSet) : Type 0 where
  pub resets : ResetsChip terms change.ResetDcan tries seen added told
  pub left_is : left ≡ own

abbrev pub Writes : Terms → ℕ → Map → Register → ℕ → InterfaceSet → ChipHistory → ChipHistory → Result (Unit {0}) AccessError
    → InterfaceSet → Type 0
Writes terms tries map r value own seen added told left =
    MatchBool (asks_for_reset map r value) (ResetsBySoftware terms tries own seen added told left)
    (MatchOption (change_by map r value) (WritesRest terms tries map r value own seen added told left)
    (λ z. WritesController terms z tries own seen added told left))

-- ---- by offsets

-- what came of the register that begins at an offset; None: none does
abbrev pub at_register : {Value : Type 0} → Result Value OffsetError → Option (Result Value AccessError)
at_register (Ok value) = Some (Ok value)
at_register (Err NoRegister) = None
at_register (Err (Access why)) = Some (Err why)

-- the register that a chip of this profile has at this offset
pub record IsAt (map : Map) (profile : Profile) (offset : ℕ) (r : Register) : Type 0 where
  pub stands : offset_of map r ≡ offset
  pub has : IsIn map profile r

-- a chip of this profile has no register there
abbrev pub HasNone : Map → Profile → ℕ → Type 0
HasNone map profile offset = (r : Register) → IsIn map profile r → offset_of map r ≡ offset → ⊥

-- a read at an offset: of the register that begins there; if none does, nothing happens
abbrev pub ReadsAt : Terms → ℕ → Map → ℕ → InterfaceSet → ChipHistory → ChipHistory → Option (Result ℕ AccessError) → Type 0
ReadsAt terms tries map offset own seen added None = HasNone map terms.profile offset × (added ≡ [])
ReadsAt terms tries map offset own seen added (Some told) =
    (r : Register) × IsAt map terms.profile offset r × Reads terms tries map r own seen added told

-- a write at an offset
abbrev pub WritesAt : Terms → ℕ → Map → ℕ → ℕ → InterfaceSet → ChipHistory → ChipHistory
    → Option (Result (Unit {0}) AccessError) → InterfaceSet → Type 0
WritesAt terms tries map offset value own seen added None left = HasNone map terms.profile offset × (added ≡ []) × (left ≡ own)
WritesAt terms tries map offset value own seen added (Some told) left =
    (r : Register) × IsAt map terms.profile offset r × Writes terms tries map r value own seen added told left

-- ---- 32 bits in one access

-- an access to one half of a word was refused; if no register begins there, none is
abbrev pub is_refused : {Value : Type 0} → Option (Result Value AccessError) → Bool
is_refused (Some (Err why)) = true
is_refused told = false

-- the halves of a word, the lower one first; a half without a register reads 0
abbrev pub joined : Option (Result ℕ AccessError) → Option (Result ℕ AccessError) → Option (Result ℕ AccessError)
joined None None = None
joined None (Some (Ok high)) = Some (Ok (high * 2 ^ 16))
joined None (Some (Err why)) = Some (Err why)
joined (Some (Ok low)) None = Some (Ok low)
joined (Some (Ok low)) (Some (Ok high)) = Some (Ok (high * 2 ^ 16 + low))
joined (Some (Ok low)) (Some (Err why)) = Some (Err why)
joined (Some (Err why)) high = Some (Err why)

-- A read of the halves of a word: of its lower one, and then, unless that was refused, of its upper one.
abbrev pub ReadsHalves : Terms → ℕ → Map → ℕ → InterfaceSet → ChipHistory → ChipHistory → Option (Result ℕ AccessError) → Type 0
ReadsHalves terms tries map offset own seen added told =
    (low : Option (Result ℕ AccessError)) × MatchBool (is_refused low)
    (ReadsAt terms tries map offset own seen added low × (told ≡ low))
    ((high : Option (Result ℕ AccessError)) × Then (λ s a. ReadsAt terms tries map offset own s a low)
    (λ s a. ReadsAt terms tries map (offset + 2) own s a high) seen added × (told ≡ joined low high))

-- both halves of the word at an offset are registers of this flag, of these objects
pub record AreFlags (map : Map) (profile : Profile) (offset : ℕ) (flag : Flag) (low high : FlagPart) : Type 0 where
  pub lower : IsAt map profile offset (register.Flags flag low)
  pub upper : IsAt map profile (offset + 2) (register.Flags flag high)

-- two registers of a flag, which are read as a word: all their objects at one moment
pub record ReadsFlags (terms : Terms) (map : Map) (offset : ℕ) (seen added : ChipHistory)
    (told : Option (Result ℕ AccessError)) : Type 0 where
  pub flag : Flag
  pub low : FlagPart
  pub high : FlagPart
  pub are : AreFlags map terms.profile offset flag low high
  pub word : ℕ
  pub shows : ShowsFlags terms flag seen added word
  pub told_is : told ≡ Some (Ok (part word (16 * index_of high) 16 * 2 ^ 16 + part word (16 * index_of low) 16))

-- the halves of the word at an offset are Bit Timing and BRP Extension: it is the BTR register of a D_CAN
pub record AreTiming (map : Map) (profile : Profile) (offset : ℕ) : Type 0 where
  pub lower : IsAt map profile offset register.BitTiming
  pub upper : IsAt map profile (offset + 2) register.Extension

-- the bit timing, which is read as a word: one look at the controller
pub record ReadsTiming (terms : Terms) (map : Map) (offset : ℕ) (seen added : ChipHistory)
    (told : Option (Result ℕ AccessError)) : Type 0 where
  pub are : AreTiming map terms.profile offset
  pub found : Controller
  pub looks : AtController terms.port Look found seen added
  pub told_is : told ≡ Some (Ok (found.timing.extension * 2 ^ 16 + found.timing.register))

-- the halves of the word at an offset are those of CAN Control, of which only a D_CAN has the upper one
pub record AreControl (map : Map) (profile : Profile) (offset : ℕ) : Type 0 where
  pub lower : IsAt map profile offset register.Control
  pub upper : IsAt map profile (offset + 2) register.ControlUpper

-- CAN Control, which is read as a word: one look at the controller
pub record ReadsControl (terms : Terms) (map : Map) (offset : ℕ) (seen added : ChipHistory)
    (told : Option (Result ℕ AccessError)) : Type 0 where
  pub are : AreControl map terms.profile offset
  pub found : Controller
  pub looks : AtController terms.port Look found seen added
  pub told_is : told ≡ Some (Ok (upper_shown map found.control * 2 ^ 16 + control_shown map found.control))

-- any other word: its halves, one after the other
pub record ReadsApart (terms : Terms) (tries : ℕ) (map : Map) (offset : ℕ) (own : InterfaceSet) (seen added : ChipHistory)
    (told : Option (Result ℕ AccessError)) : Type 0 where
  pub no_flags : (flag : Flag) (low high : FlagPart) → AreFlags map terms.profile offset flag low high → ⊥
  pub no_timing : AreTiming map terms.profile offset → ⊥
  pub no_control : AreControl map terms.profile offset → ⊥
  pub halves : ReadsHalves terms tries map offset own seen added told

-- A read of the word at an offset. An offset that is not a multiple of 4 is not that of a word.
abbrev pub ReadsWord : Terms → ℕ → Map → ℕ → InterfaceSet → ChipHistory → ChipHistory → Option (Result ℕ AccessError) → Type 0
ReadsWord terms tries map offset own seen added told =
    MatchBool (offset % 4 == 0)
    (ReadsFlags terms map offset seen added told ⊎ ReadsTiming terms map offset seen added told
    ⊎ ReadsControl terms map offset seen added told ⊎ ReadsApart terms tries map offset own seen added told)
    ((added ≡ []) × (told ≡ None))

-- how both halves were written, the upper one, which was not refused, before the lower one
abbrev pub both_written : Option (Result (Unit {0}) AccessError) → Option (Result (Unit {0}) AccessError)
    → Option (Result (Unit {0}) AccessError)
both_written high None = high
both_written high (Some low) = Some low

-- A write of the halves of a word: of its upper one, and then, unless that was refused, of its lower one. So the Command Mask
-- register of a D_CAN is written before the Command Request register, which is below it and starts the transfer.
abbrev pub WritesHalves : Terms → ℕ → Map → ℕ → ℕ → InterfaceSet → ChipHistory → ChipHistory
    → Option (Result (Unit {0}) AccessError) → InterfaceSet → Type 0
WritesHalves terms tries map offset value own seen added told left =
    (high : Option (Result (Unit {0}) AccessError)) × MatchBool (is_refused high)
    (WritesAt terms tries map (offset + 2) (value / 2 ^ 16) own seen added high left × (told ≡ high))
    ((low : Option (Result (Unit {0}) AccessError)) × (between : InterfaceSet)
    × Then (λ s a. WritesAt terms tries map (offset + 2) (value / 2 ^ 16) own s a high between)
    (λ s a. WritesAt terms tries map offset (value % 2 ^ 16) between s a low left) seen added × (told ≡ both_written high low))

-- the bit timing, which is written as a word: one change of the controller
pub record WritesTiming (terms : Terms) (tries : ℕ) (map : Map) (offset value : ℕ) (own : InterfaceSet)
    (seen added : ChipHistory) (told : Option (Result (Unit {0}) AccessError)) (left : InterfaceSet) : Type 0 where
  pub are : AreTiming map terms.profile offset
  pub ended : Result (Unit {0}) AccessError
  pub writes :
      WritesController terms (change.WriteTiming (value % 2 ^ 16) (value / 2 ^ 16)) tries own seen added ended left
  pub told_is : told ≡ Some ended

-- a write of CAN Control, both halves of it: one change of the controller, or a software reset if the lower half asks for one
abbrev pub WritesControlWord : Terms → ℕ → Map → ℕ → InterfaceSet → ChipHistory → ChipHistory → Result (Unit {0}) AccessError
    → InterfaceSet → Type 0
WritesControlWord terms tries map value own seen added told left =
    MatchBool (asks_for_reset map register.Control (value % 2 ^ 16)) (ResetsBySoftware terms tries own seen added told left)
    (WritesController terms (change.WriteControl (control_in value)) tries own seen added told left)

-- CAN Control, which is written as a word
pub record WritesControl (terms : Terms) (tries : ℕ) (map : Map) (offset value : ℕ) (own : InterfaceSet)
    (seen added : ChipHistory) (told : Option (Result (Unit {0}) AccessError)) (left : InterfaceSet) : Type 0 where
  pub are : AreControl map terms.profile offset
  pub ended : Result (Unit {0}) AccessError
  pub writes : WritesControlWord terms tries map value own seen added ended left
  pub told_is : told ≡ Some ended

-- any other word: its halves, one after the other
pub record WritesApart (terms : Terms) (tries : ℕ) (map : Map) (offset value : ℕ) (own : InterfaceSet)
    (seen added : ChipHistory) (told : Option (Result (Unit {0}) AccessError)) (left : InterfaceSet) : Type 0 where
  pub no_timing : AreTiming map terms.profile offset → ⊥
  pub no_control : AreControl map terms.profile offset → ⊥
  pub halves : WritesHalves terms tries map offset value own seen added told left

-- A write of the word at an offset. An offset that is not a multiple of 4 is not that of a word.
abbrev pub WritesWord : Terms → ℕ → Map → ℕ → ℕ → InterfaceSet → ChipHistory → ChipHistory
    → Option (Result (Unit {0}) AccessError) → InterfaceSet → Type 0
WritesWord terms tries map offset value own seen added told left =
    MatchBool (offset % 4 == 0)
    (WritesTiming terms tries map offset value own seen added told left
    ⊎ WritesControl terms tries map offset value own seen added told left
    ⊎ WritesApart terms tries map offset value own seen added told left)
    ((added ≡ []) × (told ≡ None) × (left ≡ own))
