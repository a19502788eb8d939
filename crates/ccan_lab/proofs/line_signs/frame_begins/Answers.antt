use Rattle.std.proofs.Common.{rules, ◌≡◌, ◌<◌, ◌∙◌, ap, get_or, length, string_bytes}
use Rattle.ccan_line.specs.declared.line_answer.LineAnswer.TheVariants.{Init}
use Rattle.ccan_line.specs.LineEnd.{unframed}
use Rattle.ccan_lab.specs.Rows.{begins_so}
use Rattle.ccan_lab.proofs.FrameLines.{frame_named}
use Rattle.ccan_lab.proofs.line_signs.frame_begins.Goals as goal

pub returns-in-Some : goal.returns-in-Some
returns-in-Some c =
    let keys = c.args.words.now.numbers.answers.keys in
    let frames = c.args.frames.now in
    let frame = c.in-Some.frame.now in
    let within : c.args.number < length frames = search rules in
    let there : frame ≡ get_or frames c.args.number frame = search rules in
    let so : c.begins_so.result ≡ begins_so c.args.begin.now (string_bytes frame) = search rules in
    so
    ∙ ap (begins_so c.args.begin.now)
    (frame_named keys frames c.args.number frame (unframed Init) c.requires within there)
