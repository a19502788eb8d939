-- The lines of an outcome, each in its place. In the outcomes of one script the same thing is in the same place. Source: this
-- project's own.
use Rattle.std.specs.Prelude.{ℕ, ◌++◌, ◌∷◌, ◌==◌, ◌&&◌, ◌||◌, nat_lt, Bool, true, false, List, [], Option, Some, None, codes, map, take, length, slice_get, unwrap_or, if◌then◌else◌}
use Rattle.std.specs.List.{enumerate_from, flat_map, list_all, list_any}
use Rattle.ccan_object.specs.declared.profile.Profile.TheVariants.{Two}
use Rattle.ccan_object.specs.declared.record.Record.{Record}
use Rattle.ccan_object.specs.Profile.{objects_in}
use Rattle.ccan_accept.specs.Frame.{FrameFields}
use Rattle.ccan_ram.specs.declared.port.PortName.{PortName}
use Rattle.ccan_ram.specs.declared.port.PortName.TheVariants.{If1, If2, Bus}
use Rattle.ccan_line.specs.declared.line_end.LineEnd.{LineEnd}
use Rattle.ccan_script.specs.Print.{final_line, line_text}
use Rattle.ccan_explain.specs.FrameText.{frame_text}
use Rattle.ccan_outcomes.specs.declared.ending.Ending.{Ending}

-- ---- how a line ended, as it is printed

-- the frame that won the bus, in the compact form of can-utils
abbrev pub frame_line : FrameFields → List ℕ
frame_line frame = codes "can0 " ++ (frame_text frame ++ codes "\n")

-- it is below the line of its round, after four spaces
abbrev pub frame_row : Option FrameFields → List ℕ
frame_row None = []
frame_row (Some frame) = codes "    " ++ frame_line frame

-- the line of the answer, and below it the frame that won the bus, if one did and it is reported
abbrev pub row_text : PortName → LineEnd → List ℕ
row_text port end = line_text port end.answer ++ frame_row end.frame

-- the line of the frame, if there is one
abbrev pub frame_lines : Option FrameFields → List (List ℕ)
frame_lines None = []
frame_lines (Some frame) = frame_line frame ∷ []

-- the same as a text, empty if there is none
abbrev pub frame_in : Option FrameFields → List ℕ
frame_in None = []
frame_in (Some frame) = frame_line frame

abbrev pub told_frame : LineEnd → List ℕ
told_frame end = frame_in end.frame

-- the lines of both
abbrev pub end_lines : PortName → LineEnd → List (List ℕ)
end_lines port end = line_text port end.answer ∷ frame_lines end.frame

-- ---- the rows of an outcome

-- the line of an object, empty if the object is all zero
abbrev pub final_row : ℕ → Record → List ℕ
final_row object left = unwrap_or (final_line object left) []

-- a line for each object, as many as a profile may have
unfoldable pub final_rows : List Record → List (List ℕ)
final_rows records = map (λ object. final_row object.0 object.1) (enumerate_from 1 (take (objects_in Two) records))

-- how the lines of IF1 ended, those of IF2, those of the bus, and then the objects
unfoldable pub rows_of : Ending → List (List ℕ)
rows_of ending =
    map (row_text If1) ending.if1 ++ (map (row_text If2) ending.if2 ++ (map (row_text Bus) ending.bus
    ++ final_rows ending.records))

-- all printed lines of an outcome, the frames among them
unfoldable pub lines_of : Ending → List (List ℕ)
lines_of ending =
    flat_map (end_lines If1) ending.if1 ++ (flat_map (end_lines If2) ending.if2 ++ (flat_map (end_lines Bus) ending.bus
    ++ final_rows ending.records))

-- ---- the rows of all outcomes

-- the line in a place, empty if there is none
unfoldable pub line_at : List (List ℕ) → ℕ → List ℕ
line_at rows place = unwrap_or (slice_get rows place) []

-- the rows of an outcome, by its number from 0
unfoldable pub rows_at : List (List (List ℕ)) → ℕ → List (List ℕ)
rows_at all number = unwrap_or (slice_get all number) []

-- `*` in a beginning
abbrev pub star : ℕ
star = 42

-- what is left of a line passes, or what is left of it when bytes are taken off its front
unfoldable pub some_rest : (List ℕ → Bool) → List ℕ → Bool
some_rest passes [] = passes []
some_rest passes (byte ∷ rest) = passes (byte ∷ rest) || some_rest passes rest

-- the line has this byte first, and the rest of it passes
abbrev pub has_first : ℕ → (List ℕ → Bool) → List ℕ → Bool
has_first wanted passes [] = false
has_first wanted passes (byte ∷ rest) = wanted == byte && passes rest

-- the line begins so, byte by byte, where `*` stands for any bytes, or none
unfoldable pub fits : List ℕ → List ℕ → Bool
fits [] line = true
fits (wanted ∷ begin) line = if wanted == star then some_rest (fits begin) line else has_first wanted (fits begin) line

-- the line is printed, and begins so
abbrev pub begins_so : List ℕ → List ℕ → Bool
begins_so begin line = nat_lt 0 (length line) && fits begin line

-- a printed line of the outcome begins so
unfoldable pub has_line : List ℕ → List (List ℕ) → Bool
has_line begin rows = list_any (begins_so begin) rows

-- for each of these the outcome has a printed line that begins so
unfoldable pub has_lines : List (List ℕ) → List (List ℕ) → Bool
has_lines begins rows = list_all (λ begin. has_line begin rows) begins
