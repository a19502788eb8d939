-- What a read and a write of one byte of a register come to. Source: C_CAN User's Manual 1.2, section 3 (Programmer's Model),
-- for the bits of each register; Texas Instruments AM335x Technical Reference Manual, chapter DCAN, "IF1 and IF2 Command
-- Registers" (a transfer starts when the message number, bits 7 to 0, is written) and "CAN Control Register" (SWR, PDR). The rest is
-- (own): a register is little-endian, a read of either byte of Status is a read of Status, and a byte of Bit Timing, and SWR, is
-- written after a look at the controller.
use Rattle.std.specs.Prelude.{ℕ, ◌≡◌, ◌+◌, ◌-◌, ◌%◌, ◌==◌, if◌then◌else◌, Bool, false, [], MatchBool}
use Rattle.std.specs.Prelude.{Option, Some, None, Result, Ok, Err}
use Rattle.ccan_object.specs.Bits.{at, bit, part}
use Rattle.ccan_object.specs.Interface.{shown}
use Rattle.ccan_confine.specs.declared.controller.Controller.{Controller}
use Rattle.ccan_ram.specs.Terms.{Terms}
use Rattle.ccan_endless.specs.declared.chip.ControllerStep.TheVariants.{Look}
use Rattle.ccan_endless.specs.Chip.{ChipHistory}
use Rattle.ccan_chip.specs.declared.map.Map.{Map}
use Rattle.ccan_chip.specs.declared.map.Map.TheVariants.{Dcan, Narrow, Wide}
use Rattle.ccan_chip.specs.declared.register.Register.{Register}
use Rattle.ccan_chip.specs.declared.register.Register.TheVariants as register
use Rattle.ccan_registers.specs.declared.access_error.AccessError.{AccessError}
use Rattle.ccan_registers.specs.declared.byte.Byte.{Byte}
use Rattle.ccan_registers.specs.declared.byte.Byte.TheVariants.{Lower, Upper}
use Rattle.ccan_registers.specs.declared.interface_set.InterfaceSet.{InterfaceSet}
use Rattle.ccan_registers.specs.ChipSteps.{AtController, Then}
use Rattle.ccan_registers.specs.Register.{HasNone, IsAt, IsOthers, IsReadOnly, ReadsAt, ResetsBySoftware, Writes, is_own}

-- ---- bytes of a word

-- the byte that is at an offset
abbrev pub byte_in : ℕ → Byte
byte_in offset = (if offset % 2 == 0 then Lower else Upper)

-- where the register of the byte at an offset begins
abbrev pub start_of : ℕ → ℕ
start_of offset = offset - offset % 2

-- a byte of a word
abbrev pub byte_of : Byte → ℕ → ℕ
byte_of Lower word = part word 0 8
byte_of Upper word = part word 8 8

-- a word with one byte of it set, and the other one as it was
abbrev pub with_byte : Byte → ℕ → ℕ → ℕ
with_byte Lower value word = at 8 (part word 8 8) + value
with_byte Upper value word = at 8 value + part word 0 8

-- ---- a read

-- the byte of the word that a read answered
abbrev pub byte_told : Byte → Option (Result ℕ AccessError) → Option (Result ℕ AccessError)
byte_told byte None = None
byte_told byte (Some (Ok word)) = Some (Ok (byte_of byte word))
byte_told byte (Some (Err why)) = Some (Err why)

-- A read of a byte: a read of its register, by 16 bits.
abbrev pub ReadsByte : Terms → ℕ → Map → ℕ → InterfaceSet → ChipHistory → ChipHistory → Option (Result ℕ AccessError) → Type 0
ReadsByte terms tries map offset own seen added told =
    (word : Option (Result ℕ AccessError)) × ReadsAt terms tries map (start_of offset) own seen added word
    × (told ≡ byte_told (byte_in offset) word)

-- ---- a write

-- a byte of Bit Timing: one look at the controller, and then a write of the register with its other byte as the look showed it.
-- These are two steps: what another port writes between them into the other byte is overwritten
pub record WritesTimingByte (terms : Terms) (tries : ℕ) (map : Map) (byte : Byte) (value : ℕ) (own : InterfaceSet)
    (seen added : ChipHistory) (told : Result (Unit {0}) AccessError) (left : InterfaceSet) : Type 0 where
  pub found : Controller
  pub steps : Then (AtController terms.port Look found)
      (λ s a. Writes terms tries map register.BitTiming (with_byte byte value found.timing.register) own s a told left) seen added

-- SWR of a D_CAN, of which Init is in the other byte: one look at the controller, and then a software reset if it showed Init
pub record ResetsInInit (terms : Terms) (tries : ℕ) (own : InterfaceSet) (seen added : ChipHistory)
    (told : Result (Unit {0}) AccessError) (left : InterfaceSet) : Type 0 where
  pub found : Controller
  pub steps : Then (AtController terms.port Look found)
      (λ s a. MatchBool found.control.init (ResetsBySoftware terms tries own s a told left) (IsReadOnly own a told left))
      seen added

-- the upper byte of Control has SWR, bit 15 of the register; only a D_CAN has this bit
abbrev pub has_reset : Map → ℕ → Bool
has_reset Narrow value = false
has_reset Wide value = false
has_reset Dcan value = bit value 7

-- The lower byte: of a register of the message buffer or the Command Mask, that byte, and the other one stays; of the upper half of
-- Control, nothing, since PDR is in its upper byte; of another register, a write of it with an upper byte of 0, since all its bits
-- that can be written are in the lower one.
abbrev pub WritesLower : Terms → ℕ → Map → Register → ℕ → InterfaceSet → ChipHistory → ChipHistory
    → Result (Unit {0}) AccessError → InterfaceSet → Type 0
WritesLower terms tries map register.ControlUpper value own seen added told left = IsReadOnly own added told left
WritesLower terms tries map register.BitTiming value own seen added told left =
    WritesTimingByte terms tries map Lower value own seen added told left
WritesLower terms tries map (register.Buffer interface reg) value own seen added told left =
    Writes terms tries map (register.Buffer interface reg) (with_byte Lower value (shown reg own.registers)) own seen added told
    left
WritesLower terms tries map r value own seen added told left = Writes terms tries map r value own seen added told left

-- The upper byte. That of a Command Request register starts no transfer.
abbrev pub WritesUpper : Terms → ℕ → Map → Register → ℕ → InterfaceSet → ChipHistory → ChipHistory
    → Result (Unit {0}) AccessError → InterfaceSet → Type 0
WritesUpper terms tries map register.Control value own seen added told left =
    MatchBool (has_reset map value) (ResetsInInit terms tries own seen added told left) (IsReadOnly own added told left)
WritesUpper terms tries map register.ControlUpper value own seen added told left =
    Writes terms tries map register.ControlUpper (with_byte Upper value 0) own seen added told left
WritesUpper terms tries map register.BitTiming value own seen added told left =
    WritesTimingByte terms tries map Upper value own seen added told left
WritesUpper terms tries map (register.Request interface) value own seen added told left =
    MatchBool (is_own terms.port interface) (IsReadOnly own added told left) (IsOthers own left added told)
WritesUpper terms tries map (register.Buffer interface reg) value own seen added told left =
    Writes terms tries map (register.Buffer interface reg) (with_byte Upper value (shown reg own.registers)) own seen added told
    left
WritesUpper terms tries map r value own seen added told left = IsReadOnly own added told left

abbrev pub WritesByteOf : Byte → Terms → ℕ → Map → Register → ℕ → InterfaceSet → ChipHistory → ChipHistory
    → Result (Unit {0}) AccessError → InterfaceSet → Type 0
WritesByteOf Lower terms tries map r value own seen added told left = WritesLower terms tries map r value own seen added told left
WritesByteOf Upper terms tries map r value own seen added told left = WritesUpper terms tries map r value own seen added told left

-- a write of the byte at an offset
abbrev pub WritesByte : Terms → ℕ → Map → ℕ → ℕ → InterfaceSet → ChipHistory → ChipHistory
    → Option (Result (Unit {0}) AccessError) → InterfaceSet → Type 0
WritesByte terms tries map offset value own seen added None left =
    HasNone map terms.profile (start_of offset) × (added ≡ []) × (left ≡ own)
WritesByte terms tries map offset value own seen added (Some told) left =
    (r : Register) × IsAt map terms.profile (start_of offset) r
    × WritesByteOf (byte_in offset) terms tries map r value own seen added told left
