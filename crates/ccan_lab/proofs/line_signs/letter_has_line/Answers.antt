use Rattle.std.proofs.Common.{rules, ◌≡◌, ◌∙◌, ◌||◌, Bool, true, false, Option, Some, ap, get_or, sym}
use Rattle.ccan_line.specs.declared.line_answer.LineAnswer.TheVariants.{Init}
use Rattle.ccan_ram.specs.declared.port.PortName.{PortName}
use Rattle.ccan_line.specs.LineEnd.{unframed}
use Rattle.ccan_script.specs.Print.{line_text}
use Rattle.ccan_lab.specs.LineSigns.{lines_told, port_at}
use Rattle.ccan_lab.specs.Rows.{begins_so, has_line, told_frame}
use Rattle.ccan_lab.proofs.FrameLines.{either_begins}
use Rattle.ccan_lab.proofs.line_signs.letter_has_line.Goals as goal

pub returns-then-begins_so : goal.returns-then-begins_so
returns-then-begins_so c =
    let words = c.args.words.now in
    let letter = c.args.letter in
    let port = c.in-Some.port in
    let begin = c.args.begin.now in
    let end = get_or words.numbers.answers.keys letter.answer (unframed Init) in
    let at : port_at letter.place ≡ Some port = search rules in
    let first : begins_so begin (line_text port end.answer) ≡ true = search rules in
    let is : c.begins_so.result ≡ true = search rules in
    is
    ∙ sym (ap (λ (o : Option PortName). has_line begin (lines_told words o letter.answer)) at
    ∙ either_begins begin port end
    ∙ ap (λ (b : Bool). b || begins_so begin (told_frame end)) first)

pub returns-else-begins_so : goal.returns-else-begins_so
returns-else-begins_so c =
    let words = c.args.words.now in
    let letter = c.args.letter in
    let port = c.in-Some.port in
    let begin = c.args.begin.now in
    let end = get_or words.numbers.answers.keys letter.answer (unframed Init) in
    let at : port_at letter.place ≡ Some port = search rules in
    let first : begins_so begin (line_text port end.answer) ≡ false = search rules in
    c.frame_begins.ensures
    ∙ sym (ap (λ (o : Option PortName). has_line begin (lines_told words o letter.answer)) at
    ∙ either_begins begin port end
    ∙ ap (λ (b : Bool). b || begins_so begin (told_frame end)) first)
