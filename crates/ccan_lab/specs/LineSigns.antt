-- The lines that a letter of a word shows, and which of the lines that are sought are among them. Source: this project's own.
use Rattle.std.specs.Prelude.{ℕ, ◌%◌, ◌==◌, Bool, false, List, [], Option, Some, None, get_or, slice_get, if◌then◌else◌}
use Rattle.ccan_language.specs.declared.letter.Letter.{Letter}
use Rattle.ccan_line.specs.declared.line_answer.LineAnswer.TheVariants as answer
use Rattle.ccan_ram.specs.declared.port.PortName.{PortName}
use Rattle.ccan_ram.specs.declared.port.PortName.TheVariants.{If1, If2, Bus}
use Rattle.ccan_line.specs.LineEnd.{unframed}
use Rattle.ccan_outcomes.specs.Letters.{column_of}
use Rattle.ccan_outcomes.specs.declared.words.OutcomeWords.{OutcomeWords}
use Rattle.ccan_lab.specs.Rows.{end_lines, final_rows, has_line}

-- the port whose line the letter at this place is about; in the last column it is about the objects at the end
abbrev pub port_at : ℕ → Option PortName
port_at place =
    if place % 4 == column_of If1 then Some If1 else (if place % 4 == column_of If2 then Some If2
    else (if place % 4 == column_of Bus then Some Bus else None))

-- the printed lines for a line that ended so, or for the objects
abbrev pub lines_told : OutcomeWords → Option PortName → ℕ → List (List ℕ)
lines_told words (Some port) number = end_lines port (get_or words.numbers.answers.keys number (unframed answer.Init))
lines_told words None number = final_rows (get_or words.numbers.memories.keys number [])

-- the printed lines that a letter shows
abbrev pub lines_of_letter : OutcomeWords → Letter → List (List ℕ)
lines_of_letter words letter = lines_told words (port_at letter.place) letter.answer

-- the line that is sought, if it is one, is among those of the letter
abbrev pub is_told : OutcomeWords → Option (List ℕ) → Letter → Bool
is_told words (Some begin) letter = has_line begin (lines_of_letter words letter)
is_told words None letter = false

-- the line of this number, of those that are sought, is among those of the letter
abbrev pub tells_line : OutcomeWords → List (List ℕ) → Letter → ℕ → Bool
tells_line words begins letter sign = is_told words (slice_get begins sign) letter
