use Rattle.std.proofs.Common.{◌<◌, ℕ, Bool, List, length, map, get_or, ap, ◌∙◌, string_bytes, arith}
use Rattle.std.proofs.lemmas.List.FromFn.{get_or-map-range_with_len, length-map-range_with_len}
use Rattle.ccan_lab.specs.Observed.{is_repeat}
use Rattle.ccan_lab.proofs.shown_texts.ShownTexts.is_repeat.Goals as goal

pub index-requires : goal.index-requires
index-requires c =
    let lines = c.args.self.now.lines.items in
    let same = ap (λ (bs : List Bool). length bs) c.args.self.now.are in
    let long = length-map-range_with_len (is_repeat (map string_bytes lines)) 0 (length lines) in
    let within : c.args.number < length lines = c.requires in
    omega (arith, same, long, within)

pub returns : goal.returns
returns c =
    let lines = c.args.self.now.lines.items in
    let number = c.args.number in
    let is : ℕ → Bool = is_repeat (map string_bytes lines) in
    c.index.ensures
    ∙ ap (λ (bs : List Bool). get_or bs number c.index.result.now) c.args.self.now.are
    ∙ get_or-map-range_with_len is 0 (length lines) number number c.index.result.now c.requires (omega arith)
