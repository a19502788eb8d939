-- What is reported of ends and of outcomes prints their very lines: no printed line shows the record that is left out.
use Rattle.std.proofs.Common.{ℕ, ◌≡◌, Bool, true, List, [], ◌∷◌, ◌++◌, None, map, if◌then◌else◌, refl, sym, ap, ◌∙◌}
use Rattle.std.specs.List.{flat_map}
use Rattle.ccan_bus.specs.declared.answer.RoundAnswer.{RoundAnswer}
use Rattle.ccan_bus.specs.declared.answer.RoundAnswer.TheVariants as round
use Rattle.ccan_line.specs.declared.line_answer.LineAnswer.{LineAnswer}
use Rattle.ccan_line.specs.declared.line_answer.LineAnswer.TheVariants as answer
use Rattle.ccan_line.specs.Script.{ScriptFields}
use Rattle.ccan_ram.specs.declared.port.PortName.{PortName}
use Rattle.ccan_ram.specs.declared.port.PortName.TheVariants.{If1, If2, Bus}
use Rattle.ccan_ram.specs.Port.{port_text}
use Rattle.ccan_line.specs.declared.line_end.LineEnd.{LineEnd}
use Rattle.ccan_line.specs.LineEnd.{answers_of, as_told, told_answer, told_round}
use Rattle.ccan_run.specs.declared.outcome.Outcome.{Outcome}
use Rattle.ccan_script.specs.Print.{answer_text, line_text, round_text}
use Rattle.ccan_outcomes.specs.declared.ending.Ending.{Ending}
use Rattle.ccan_outcomes.specs.Behind.{told_ends}
use Rattle.ccan_outcomes.specs.Ending.{Reports, Shows}
use Rattle.ccan_lab.specs.Rows.{end_lines, final_rows, frame_lines, frame_row, lines_of, row_text, rows_of}
use Rattle.ccan_lab.specs.ToldLines.{PrintsAlike, PrintsItsLine, PrintsItsOutcome}

round_alike : (reply : RoundAnswer) → round_text (told_round reply) ≡ round_text reply
unfolding round_text
round_alike (round.Looped object finished storing) = refl
round_alike other = refl

answer_alike : (reply : LineAnswer) → answer_text (told_answer reply) ≡ answer_text reply
unfolding answer_text
answer_alike (answer.Round reply) = round_alike reply
answer_alike other = refl

line_alike : (port : PortName) (reply : LineAnswer) → line_text port (told_answer reply) ≡ line_text port reply
unfolding line_text
line_alike port reply = ap (λ (text : List ℕ). port_text port ++ text ++ 10 ∷ []) (answer_alike reply)

pub prints_its_line : (frames : Bool) (port : PortName) (end : LineEnd) → PrintsItsLine frames port end
prints_its_line frames port end = record {
  lines =
      ap (λ (line : List ℕ). line ∷ frame_lines (if frames then end.frame else None)) (line_alike port end.answer);
  row = ap (λ (line : List ℕ). line ++ frame_row (if frames then end.frame else None)) (line_alike port end.answer);
}

-- ---- all ends of a port

lines_alike : (port : PortName) (ends : List LineEnd)
    → flat_map (end_lines port) (told_ends true ends) ≡ flat_map (end_lines port) ends
lines_alike port [] = refl
lines_alike port (end ∷ later) =
    λ i. (prints_its_line true port end).lines i ++ lines_alike port later i

rows_alike : (port : PortName) (ends : List LineEnd) → map (row_text port) (told_ends true ends) ≡ map (row_text port) ends
rows_alike port [] = refl
rows_alike port (end ∷ later) = λ i. (prints_its_line true port end).row i ∷ rows_alike port later i

pub prints_alike : (ending : Ending) → PrintsAlike ending
unfolding lines_of rows_of
prints_alike ending = record {
  lines =
      λ i. lines_alike If1 ending.if1 i ++ (lines_alike If2 ending.if2 i ++ (lines_alike Bus ending.bus i
      ++ final_rows ending.records));
  rows =
      λ i. rows_alike If1 ending.if1 i ++ (rows_alike If2 ending.if2 i ++ (rows_alike Bus ending.bus i
      ++ final_rows ending.records));
}

-- ---- an end of the outcome that is reported

-- these answers, each with the frame that is reported
abbrev pub answered : List LineAnswer → List LineEnd → List LineEnd
answered [] ends = []
answered (reply ∷ replies) [] = []
answered (reply ∷ replies) (end ∷ ends) = record { answer = reply; frame = end.frame } ∷ answered replies ends

answers_are : (replies : List LineAnswer) (ends : List LineEnd) → as_told replies ≡ answers_of ends
    → answers_of (answered replies ends) ≡ replies
answers_are [] ends is = refl
answers_are (reply ∷ replies) [] is = absurd cc
answers_are (reply ∷ replies) (end ∷ ends) is =
    let later : as_told replies ≡ answers_of ends = cc in
    ap (λ (l : List LineAnswer). reply ∷ l) (answers_are replies ends later)

lines_are : (port : PortName) (replies : List LineAnswer) (ends : List LineEnd) → as_told replies ≡ answers_of ends
    → flat_map (end_lines port) (answered replies ends) ≡ flat_map (end_lines port) ends
lines_are port [] [] is = refl
lines_are port [] (end ∷ ends) is = absurd cc
lines_are port (reply ∷ replies) [] is = absurd cc
lines_are port (reply ∷ replies) (end ∷ ends) is =
    let first : told_answer reply ≡ end.answer = cc in
    let later : as_told replies ≡ answers_of ends = cc in
    let line : line_text port reply ≡ line_text port end.answer = sym (line_alike port reply) ∙ ap (line_text port) first in
    let rest = lines_are port replies ends later in
    λ i. (line i ∷ frame_lines end.frame) ++ rest i

rows_are : (port : PortName) (replies : List LineAnswer) (ends : List LineEnd) → as_told replies ≡ answers_of ends
    → map (row_text port) (answered replies ends) ≡ map (row_text port) ends
rows_are port [] [] is = refl
rows_are port [] (end ∷ ends) is = absurd cc
rows_are port (reply ∷ replies) [] is = absurd cc
rows_are port (reply ∷ replies) (end ∷ ends) is =
    let first : told_answer reply ≡ end.answer = cc in
    let later : as_told replies ≡ answers_of ends = cc in
    let line : line_text port reply ≡ line_text port end.answer = sym (line_alike port reply) ∙ ap (line_text port) first in
    let rest = rows_are port replies ends later in
    λ i. (line i ++ frame_row end.frame) ∷ rest i

abbrev pub end_reported : Outcome → Ending → Ending
end_reported outcome told =
    record {
      if1 = answered outcome.if1.items told.if1;
      if2 = answered outcome.if2.items told.if2;
      bus = answered outcome.bus.items told.bus;
      records = told.records;
    }

-- it shows the outcome, and has the lines that are reported
pub end_shows : (script : ScriptFields) (told : Ending) (outcome : Outcome) → Reports script told outcome
    → Shows script (end_reported outcome told) outcome
end_shows script told outcome reports = record {
  if1 = sym (answers_are outcome.if1.items told.if1 reports.if1);
  if2 = sym (answers_are outcome.if2.items told.if2 reports.if2);
  bus = sym (answers_are outcome.bus.items told.bus reports.bus);
  profile_is = reports.profile_is;
  last = reports.last;
}

pub end_prints : (script : ScriptFields) (told : Ending) (outcome : Outcome) → Reports script told outcome
    → lines_of (end_reported outcome told) ≡ lines_of told
unfolding lines_of
end_prints script told outcome reports =
    let if1 = lines_are If1 outcome.if1.items told.if1 reports.if1 in
    let if2 = lines_are If2 outcome.if2.items told.if2 reports.if2 in
    let bus = lines_are Bus outcome.bus.items told.bus reports.bus in
    λ i. if1 i ++ (if2 i ++ (bus i ++ final_rows told.records))

end_rows : (script : ScriptFields) (told : Ending) (outcome : Outcome) → Reports script told outcome
    → rows_of (end_reported outcome told) ≡ rows_of told
unfolding rows_of
end_rows script told outcome reports =
    let if1 = rows_are If1 outcome.if1.items told.if1 reports.if1 in
    let if2 = rows_are If2 outcome.if2.items told.if2 reports.if2 in
    let bus = rows_are Bus outcome.bus.items told.bus reports.bus in
    λ i. if1 i ++ (if2 i ++ (bus i ++ final_rows told.records))

pub prints_its_outcome : (script : ScriptFields) (told : Ending) (outcome : Outcome) → Reports script told outcome
    → PrintsItsOutcome script told outcome
prints_its_outcome script told outcome reports = record {
  ending = end_reported outcome told;
  shows = end_shows script told outcome reports;
  lines = sym (end_prints script told outcome reports);
  rows = sym (end_rows script told outcome reports);
}
