-- The calls on the handle of a host, and what each stands for in the history of the chip. Source: this project's own, over the
-- definitions of the lines of a host port, of looks of one moment, and of the registers of the chip.
use Rattle.std.specs.Prelude.{ℕ, ◌≡◌, Bool, false, Option, Some, None, Result, Ok, Err, MatchBool, MatchOption}
use Rattle.ccan_object.specs.declared.profile.Profile.{Profile}
use Rattle.ccan_object.specs.declared.record.Record.{Record}
use Rattle.ccan_object.specs.Interface.{set_register, shown}
use Rattle.ccan_ram.specs.declared.flag.Flag.{Flag}
use Rattle.ccan_ram.specs.Terms.{Terms}
use Rattle.ccan_line.specs.declared.line_answer.LineAnswer.{LineAnswer}
use Rattle.ccan_line.specs.Limits.{most_turns}
use Rattle.ccan_endless.specs.Chip.{ChipHistory}
use Rattle.ccan_endless.specs.Note.{Told}
use Rattle.ccan_chip.specs.declared.map.Map.{Map}
use Rattle.ccan_registers.specs.declared.access_error.AccessError.{AccessError}
use Rattle.ccan_registers.specs.declared.access_error.AccessError.TheVariants as why
use Rattle.ccan_registers.specs.declared.interface_set.InterfaceSet.{InterfaceSet}
use Rattle.ccan_registers.specs.Bytes.{ReadsByte, WritesByte}
use Rattle.ccan_registers.specs.ChipSteps.{ChipGoes}
use Rattle.ccan_registers.specs.Clearing.{ClearsObjects}
use Rattle.ccan_registers.specs.InterfaceSet.{Transferred}
use Rattle.ccan_registers.specs.Objects.{ShowsFlags, ShowsInterrupt, ShowsObject, WaitsFor}
use Rattle.ccan_registers.specs.Register.{PullsLine, ReadsAt, ReadsWord, WritesAt, WritesWord}
use Rattle.ccan_c.specs.declared.held.Held.{Held}
use Rattle.ccan_c.specs.declared.shown_record.ShownRecord.{ShownRecord}
use Rattle.ccan_c.specs.Answer.{code_of}
use Rattle.ccan_c.specs.Call.{IsCall}
use Rattle.ccan_c.specs.Codes.{done, busy, spent, register_range, object_range, flag_range, turns_range, offset_range, other_interface}
use Rattle.ccan_c.specs.Held.{IsOpenAs, WorksAsBefore, port_of, map_of, tries_of}
use Rattle.ccan_c.specs.Host.{register_numbered, flag_numbered, is_object, number_of}
use Rattle.ccan_c.specs.Note.{HeedsNote, Tells}
use Rattle.ccan_c.specs.Record.{c_record}
use Rattle.ccan_c.specs.Settings.{is_from_one_to}
use Rattle.ccan_c.specs.Step.{Rests}

-- a call that was made: what C passed, the code that it got, and then what it got in the place for the result
pub data HostCall : Type 0 where
  set : ℕ → ℕ → ℕ → HostCall
  get : ℕ → ℕ → ℕ → HostCall
  request : ℕ → ℕ → HostCall
  flags : ℕ → ℕ → ℕ → HostCall
  interrupt : ℕ → ℕ → HostCall
  peek : ℕ → ℕ → ShownRecord → HostCall
  until : ℕ → ℕ → ℕ → ℕ → ℕ → HostCall
  read8 : ℕ → ℕ → ℕ → HostCall
  write8 : ℕ → ℕ → ℕ → HostCall
  read16 : ℕ → ℕ → ℕ → HostCall
  write16 : ℕ → ℕ → ℕ → HostCall
  read32 : ℕ → ℕ → ℕ → HostCall
  write32 : ℕ → ℕ → ℕ → HostCall
  line : ℕ → ℕ → HostCall
  clear : ℕ → HostCall
  -- with the note as the call left it
  tell : Option Told → ℕ → HostCall
  -- with the note as the call found it
  heed : Option Told → ℕ → HostCall

-- the code that it got
abbrev pub code_got : HostCall → ℕ
code_got (set number value result) = result
code_got (get number result out) = result
code_got (request number result) = result
code_got (flags number result out) = result
code_got (interrupt result out) = result
code_got (peek object result out) = result
code_got (until object number turns result out) = result
code_got (read8 offset result out) = result
code_got (write8 offset value result) = result
code_got (read16 offset result out) = result
code_got (write16 offset value result) = result
code_got (read32 offset result out) = result
code_got (write32 offset value result) = result
code_got (line result out) = result
code_got (clear result) = result
code_got (tell _ result) = result
code_got (heed _ result) = result

-- ---- registers by their offsets

-- the code of an access to a register, if there is one at the offset
abbrev pub code_of_error : AccessError → ℕ
code_of_error why.OtherInterface = other_interface
code_of_error why.Busy = busy
code_of_error why.Spent = spent

abbrev pub code_of_access : {Value : Type 0} → Option (Result Value AccessError) → ℕ
code_of_access None = offset_range
code_of_access (Some (Ok value)) = done
code_of_access (Some (Err error)) = code_of_error error

-- what was read is what C gets
abbrev pub IsRead : Option (Result ℕ AccessError) → ℕ → Type 0
IsRead (Some (Ok value)) out = out ≡ value
IsRead told out = Unit {0}

-- a read at an offset, with the code and the value that C gets
abbrev pub ReadsAtOffset : Terms → ℕ → Map → ℕ → InterfaceSet → ChipHistory → ChipHistory → ℕ → ℕ → Type 0
ReadsAtOffset terms tries map offset own seen added result out =
    (told : Option (Result ℕ AccessError)) × ReadsAt terms tries map offset own seen added told
    × (result ≡ code_of_access told) × IsRead told out

-- a write at an offset, with the code that C gets
abbrev pub WritesAtOffset : Terms → ℕ → Map → ℕ → ℕ → InterfaceSet → ChipHistory → ChipHistory → ℕ → InterfaceSet → Type 0
WritesAtOffset terms tries map offset value own seen added result left =
    (told : Option (Result (Unit {0}) AccessError)) × WritesAt terms tries map offset value own seen added told left
    × (result ≡ code_of_access told)

-- the same for the byte at an offset
abbrev pub ReadsByteAtOffset : Terms → ℕ → Map → ℕ → InterfaceSet → ChipHistory → ChipHistory → ℕ → ℕ → Type 0
ReadsByteAtOffset terms tries map offset own seen added result out =
    (told : Option (Result ℕ AccessError)) × ReadsByte terms tries map offset own seen added told
    × (result ≡ code_of_access told) × IsRead told out

abbrev pub WritesByteAtOffset : Terms → ℕ → Map → ℕ → ℕ → InterfaceSet → ChipHistory → ChipHistory → ℕ → InterfaceSet → Type 0
WritesByteAtOffset terms tries map offset value own seen added result left =
    (told : Option (Result (Unit {0}) AccessError)) × WritesByte terms tries map offset value own seen added told left
    × (result ≡ code_of_access told)

-- the same for the word of 32 bits at an offset
abbrev pub ReadsWordAtOffset : Terms → ℕ → Map → ℕ → InterfaceSet → ChipHistory → ChipHistory → ℕ → ℕ → Type 0
ReadsWordAtOffset terms tries map offset own seen added result out =
    (told : Option (Result ℕ AccessError)) × ReadsWord terms tries map offset own seen added told
    × (result ≡ code_of_access told) × IsRead told out

abbrev pub WritesWordAtOffset : Terms → ℕ → Map → ℕ → ℕ → InterfaceSet → ChipHistory → ChipHistory → ℕ → InterfaceSet → Type 0
WritesWordAtOffset terms tries map offset value own seen added result left =
    (told : Option (Result (Unit {0}) AccessError)) × WritesWord terms tries map offset value own seen added told left
    × (result ≡ code_of_access told)

-- ---- other calls

-- the transfer that the Command Mask register says
abbrev pub Requests : Terms → ℕ → ℕ → InterfaceSet → ChipHistory → ChipHistory → ℕ → InterfaceSet → Type 0
Requests terms tries number own seen added result left =
    (reply : LineAnswer) × (result ≡ code_of reply) × Transferred terms tries number own seen added reply left

-- one look at an object, whose record C sees
abbrev pub Peeks : Terms → ℕ → InterfaceSet → ChipHistory → ChipHistory → ℕ → ShownRecord → InterfaceSet → Type 0
Peeks terms object own seen added result out left =
    (result ≡ done) × ((found : Record) × (out ≡ c_record found) × ShowsObject terms object seen added found) × (left ≡ own)

-- looks until the flag is shown
abbrev pub Waits : Terms → ℕ → Flag → ℕ → InterfaceSet → ChipHistory → ChipHistory → ℕ → ℕ → InterfaceSet → Type 0
Waits terms object flag turns own seen added result out left =
    (result ≡ done) × ((shown : Bool) × (out ≡ number_of shown) × WaitsFor terms object flag turns seen added shown)
    × (left ≡ own)

-- the first of the numbers of a wait that is out of its range
abbrev pub IsWaitRefused : Profile → ℕ → ℕ → ℕ → ℕ → Type 0
IsWaitRefused profile object number turns code =
    MatchBool (is_object profile object)
    (MatchOption (flag_numbered number) (code ≡ flag_range)
    (λ flag. (is_from_one_to most_turns turns ≡ false) × (code ≡ turns_range)))
    (code ≡ object_range)

-- a flag of all objects
abbrev pub ReadsFlag : Terms → Flag → InterfaceSet → ChipHistory → ChipHistory → ℕ → ℕ → InterfaceSet → Type 0
ReadsFlag terms flag own seen added result out left = (result ≡ done) × ShowsFlags terms flag seen added out × (left ≡ own)

-- the events that the call adds, what C gets, and the interface registers after it
abbrev pub HostCallMeans : Terms → ℕ → Map → HostCall → InterfaceSet → ChipHistory → ChipHistory → InterfaceSet → Type 0
HostCallMeans terms tries map (set number value result) own seen added left =
    MatchOption (register_numbered number) (Rests register_range own left added result)
    (λ register. Rests done (record own { registers = set_register register value own.registers }) left added result)
HostCallMeans terms tries map (get number result out) own seen added left =
    MatchOption (register_numbered number) (Rests register_range own left added result)
    (λ register. Rests done own left added result × (out ≡ shown register own.registers))
HostCallMeans terms tries map (request number result) own seen added left = Requests terms tries number own seen added result left
HostCallMeans terms tries map (flags number result out) own seen added left =
    MatchOption (flag_numbered number) (Rests flag_range own left added result)
    (λ flag. ReadsFlag terms flag own seen added result out left)
HostCallMeans terms tries map (interrupt result out) own seen added left =
    (result ≡ done) × ShowsInterrupt terms false seen added out × (left ≡ own)
HostCallMeans terms tries map (peek object result out) own seen added left =
    MatchBool (is_object terms.profile object) (Peeks terms object own seen added result out left)
    (Rests object_range own left added result)
HostCallMeans terms tries map (until object number turns result out) own seen added left =
    MatchBool (is_object terms.profile object)
    (MatchOption (flag_numbered number) (Rests flag_range own left added result)
    (λ flag. MatchBool (is_from_one_to most_turns turns)
    (Waits terms object flag turns own seen added result out left)
    (Rests turns_range own left added result)))
    (Rests object_range own left added result)
HostCallMeans terms tries map (read8 offset result out) own seen added left =
    ReadsByteAtOffset terms tries map offset own seen added result out × (left ≡ own)
HostCallMeans terms tries map (write8 offset value result) own seen added left =
    WritesByteAtOffset terms tries map offset value own seen added result left
HostCallMeans terms tries map (read16 offset result out) own seen added left =
    ReadsAtOffset terms tries map offset own seen added result out × (left ≡ own)
HostCallMeans terms tries map (write16 offset value result) own seen added left =
    WritesAtOffset terms tries map offset value own seen added result left
HostCallMeans terms tries map (read32 offset result out) own seen added left =
    ReadsWordAtOffset terms tries map offset own seen added result out × (left ≡ own)
HostCallMeans terms tries map (write32 offset value result) own seen added left =
    WritesWordAtOffset terms tries map offset value own seen added result left
HostCallMeans terms tries map (line result out) own seen added left =
    (result ≡ done) × ((pulls : Bool) × (out ≡ number_of pulls) × PullsLine terms seen added pulls) × (left ≡ own)
HostCallMeans terms tries map (clear result) own seen added left =
    ((told : Result (Unit {0}) AccessError) × ClearsObjects terms tries seen added told
    × (result ≡ code_of_access (Some told))) × (left ≡ own)
HostCallMeans terms tries map (tell note result) own seen added left = Tells note own seen added result left
HostCallMeans terms tries map (heed note result) own seen added left = HeedsNote terms note own seen added result left

-- a call on an open handle: what its port had seen goes on by what the call stands for, the interface registers are what it
-- leaves, and all else of the handle stays
pub record HostRuns (call : HostCall) (old new : Held) : Type 0 where
  pub works : WorksAsBefore old new
  pub bus : new.bus ≡ old.bus
  pub goes : ChipGoes (port_of old) (port_of new)
      (λ terms seen added. HostCallMeans terms (tries_of old) (map_of old) call old.own seen added new.own)

-- what the contract of the call says of what the handle stands for before and after it
abbrev pub HostCallDoes : HostCall → Option Held → Option Held → Type 0
HostCallDoes call before after = IsCall before after (code_got call) (λ held. IsOpenAs (HostRuns call held) after)
