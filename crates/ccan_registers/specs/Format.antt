-- A saved chip as bytes: words of 64 bits, each as its eight bytes, the lowest first. Source: this project's own; what the words
-- of a record and of a controller are is defined with these.
use Rattle.std.specs.Prelude.{ℕ, ◌≡◌, ◌≤◌, ◌<◌, ◌^◌, List, ◌∷◌, ◌++◌, All, length, drop}
use Rattle.std.specs.List.{flat_map}
use Rattle.std.specs.Int.{to_le_bytes, w64}
use Rattle.ccan_object.specs.declared.profile.Profile.{Profile}
use Rattle.ccan_object.specs.declared.record.Record.{Record}
use Rattle.ccan_object.specs.Command.{bits_of}
use Rattle.ccan_object.specs.Packing.{packed}
use Rattle.ccan_object.specs.Profile.{Holds, objects_in}
use Rattle.ccan_object.specs.Record.{IsRecord, zero_record}
use Rattle.ccan_chip.specs.Map.{map_number}
use Rattle.ccan_confine.specs.Controller.{IsController}
use Rattle.ccan_confine.specs.Controller as controller
use Rattle.ccan_ram.specs.Tries.{IsTries}
use Rattle.ccan_line.specs.Limits.{most_nodes}
use Rattle.ccan_registers.specs.declared.interface_set.InterfaceSet.{InterfaceSet}
use Rattle.ccan_registers.specs.declared.saved.chip.Saved.{Saved}

-- ---- what is saved

-- the registers of an interface: Command Request reads the number of an object of the chip
pub record IsInterface (profile : Profile) (set : InterfaceSet) : Type 0 where
  pub asked : Holds profile set.asked
  pub command : bits_of set.registers.command < 2 ^ 8
  pub buffer : IsRecord set.registers.buffer

-- 64 records
pub record AreRecords (records : List Record) : Type 0 where
  pub count : length records ≡ 64
  pub each : All IsRecord records

-- the records of the objects that the chip doesn't have are zero
abbrev pub AreUnused : Profile → List Record → Type 0
AreUnused profile records = All (λ r. r ≡ zero_record) (drop (objects_in profile) records)

-- each number is in its range
pub record IsSaved (saved : Saved) : Type 0 where
  pub tries : IsTries saved.tries
  pub others : saved.others ≤ most_nodes
  pub controller : IsController saved.controller
  pub if1 : IsInterface saved.profile saved.if1
  pub if2 : IsInterface saved.profile saved.if2
  pub records : AreRecords saved.records
  pub unused : AreUnused saved.profile saved.records

-- ---- its words, at 8 bytes each

-- word 0, at byte 0: the text `ccansave`
abbrev pub format_name : ℕ
format_name = 0x657661736e616363

-- word 1, at byte 8: the version of the format
abbrev pub format_version : ℕ
format_version = 2

-- An interface, five words: what Command Request reads, the Command Mask register, and the message buffer as a record of three
-- words. IF1 is at byte 56, IF2 at byte 96.
abbrev pub interface_words : InterfaceSet → List ℕ
interface_words set = set.asked ∷ bits_of set.registers.command ∷ packed set.registers.buffer

-- the seventeen words before the objects: the name, the version, how many objects there are, the layout, the tries, how many
-- other nodes there are, the controller's word, IF1 and IF2
abbrev pub head_words : Saved → List ℕ
head_words saved =
    format_name ∷ format_version ∷ objects_in saved.profile ∷ map_number saved.map ∷ saved.tries ∷ saved.others
    ∷ controller.packed saved.controller ∷ (interface_words saved.if1 ++ interface_words saved.if2)

-- and then three words of each of 64 objects, object k from byte 136 + 24 (k - 1) on
abbrev pub words_of : Saved → List ℕ
words_of saved = head_words saved ++ flat_map packed saved.records

-- each of them has 64 bits
abbrev pub AreWords : List ℕ → Type 0
AreWords words = All (λ word. word < 2 ^ 64) words

-- 209 words are 1672 bytes
abbrev pub format_words : ℕ
format_words = 209

abbrev pub format_length : ℕ
format_length = 1672

abbrev pub bytes_in : List ℕ → List ℕ
bytes_in words = flat_map (to_le_bytes w64) words

-- the text of a saved chip
abbrev pub text_of : Saved → List ℕ
text_of saved = bytes_in (words_of saved)
