-- How a remark on a script is printed. Source: this project's own.
use Rattle.std.specs.Prelude.{ℕ, ◌++◌, List, codes, decimal}
use Rattle.ccan_script.specs.TextPlace.{line_of, column_of}

-- `race.json:20:18: `, a label and the words, and a line feed; the place is that of an offset in the file's bytes
abbrev pub told_text : List ℕ → List ℕ → ℕ → List ℕ → List ℕ → List ℕ
told_text file bytes offset label words =
    file ++ (codes ":" ++ (decimal (line_of bytes offset) ++ (codes ":" ++ (decimal (column_of bytes offset)
    ++ (codes ": " ++ (label ++ (words ++ codes "\n")))))))
