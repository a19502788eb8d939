-- The frames of ends, as printed lines.
use Rattle.std.proofs.Common.{ℕ, zero, suc, ◌≡◌, ◌<◌, ◌||◌, Bool, true, false, Global, List, [], ◌∷◌, Option, Some, None, String, get_or, length, map, string_bytes, refl, ap, ◌∙◌, arith}
use Rattle.std.specs.List.{list_any}
use Rattle.ccan_accept.specs.Frame.{FrameFields}
use Rattle.ccan_ram.specs.declared.port.PortName.{PortName}
use Rattle.ccan_line.specs.declared.line_end.LineEnd.{LineEnd}
use Rattle.ccan_script.specs.Print.{line_text}
use Rattle.ccan_lab.specs.Rows.{begins_so, end_lines, frame_in, frame_line, frame_lines, has_line, told_frame}

or_false : (b : Bool) → (b || false) ≡ b
or_false true = refl
or_false false = refl

-- a printed line of an end is its answer, or its frame
pub either_begins : (begin : List ℕ) (port : PortName) (end : LineEnd)
    → has_line begin (end_lines port end)
    ≡ (begins_so begin (line_text port end.answer) || begins_so begin (told_frame end))
unfolding has_line
either_begins begin port end = by end.frame
  where
    by : (frame : Option FrameFields) → list_any (begins_so begin) (line_text port end.answer ∷ frame_lines frame)
        ≡ (begins_so begin (line_text port end.answer) || begins_so begin (frame_in frame))
    by None = refl
    by (Some frame) =
        ap (λ (b : Bool). begins_so begin (line_text port end.answer) || b) (or_false (begins_so begin (frame_line frame)))

-- the text with a number is that of the frame of the end with this number
pub frame_named : (keys : List LineEnd) (frames : List (String Global)) (number : ℕ) (frame : String Global) (none : LineEnd)
    → map string_bytes frames ≡ map told_frame keys → number < length frames → frame ≡ get_or frames number frame
    → string_bytes frame ≡ told_frame (get_or keys number none)
frame_named keys [] number frame none all within is = absurd (omega arith)
frame_named [] (f ∷ fs) number frame none all within is = absurd cc
frame_named (k ∷ ks) (f ∷ fs) zero frame none all within is =
    let first : string_bytes f ≡ told_frame k = cc in
    ap string_bytes is ∙ first
frame_named (k ∷ ks) (f ∷ fs) (suc number) frame none all within is =
    let later : map string_bytes fs ≡ map told_frame ks = cc in
    frame_named ks fs number frame none later (omega arith) is
