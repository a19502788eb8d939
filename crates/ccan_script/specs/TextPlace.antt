-- Where a byte of a text is: in which line, and in which column of it. Source: this project's own.
use Rattle.std.specs.Prelude.{ℕ, ◌+◌, ◌==◌, Bool, List, not, take}
use Rattle.std.specs.List.{count_by, suffix_len}

-- a line feed, which ends a line
abbrev pub is_line_feed : ℕ → Bool
is_line_feed byte = byte == 10

-- below, this many bytes of the text come before the byte
module _ (text : List ℕ) (offset : ℕ) where
  -- lines count from 1, and each line feed before the byte ends one
  abbrev pub line_of : ℕ
  line_of = count_by is_line_feed (take offset text) + 1

  -- columns count bytes from 1, and begin after the last line feed before the byte
  abbrev pub column_of : ℕ
  column_of = suffix_len (λ byte. not (is_line_feed byte)) (take offset text) + 1
