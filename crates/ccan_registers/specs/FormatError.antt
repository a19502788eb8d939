-- Why bytes are not a saved chip. Source: this project's own.
use Rattle.std.specs.Prelude.{ℕ, ◌≡◌, ◌≢◌, ◌≤◌, List, length, take, drop}
use Rattle.std.specs.Int.{from_le_bytes, w64}
use Rattle.ccan_registers.specs.declared.saved.format_error.FormatError.{FormatError}
use Rattle.ccan_registers.specs.declared.saved.format_error.FormatError.TheVariants.{Length, Name, Version, Range}
use Rattle.ccan_registers.specs.Format.{format_length, format_name, format_version}

-- it begins with a name and a version
pub record HasHead (text : List ℕ) (version : ℕ) : Type 0 where
  pub long : 16 ≤ length text
  pub name : from_le_bytes w64 (take 8 text) ≡ format_name
  pub version_is : from_le_bytes w64 (take 8 (drop 8 text)) ≡ version

-- what each error says: the name is looked at first, then the version, and then the length
abbrev pub Tells : List ℕ → FormatError → Type 0
Tells text Name = (16 ≤ length text) × (from_le_bytes w64 (take 8 text) ≢ format_name)
Tells text (Version version) = HasHead text version × (version ≢ format_version)
Tells text (Length count) = (count ≡ length text) × (count ≢ format_length)
Tells text (Range field) = HasHead text format_version × (length text ≡ format_length)
