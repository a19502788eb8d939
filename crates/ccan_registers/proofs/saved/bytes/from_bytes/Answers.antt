use Rattle.std.proofs.Common.{ℕ, ◌≡◌, List, Ok, ap, length, sym, subst, ◌∙◌}
use Rattle.ccan_registers.specs.Format.{format_length, format_version, words_of}
use Rattle.ccan_registers.specs.FormatError.{HasHead}
use Rattle.ccan_registers.proofs.Texts.{head_of, length_text, same_words}
use Rattle.ccan_registers.proofs.saved.bytes.from_bytes.Goals as goal

pub returns-in_err-check_head-clause-only : goal.returns-in_err-check_head-clause-only
returns-in_err-check_head-clause-only c saved is fit text =
    let wrong =
    c.in_err-check_head.ensures.only (subst (λ (l : List ℕ). HasHead l format_version) text (head_of saved is))
    (subst (λ (l : List ℕ). length l ≡ format_length) text (length_text saved is)) in
    absurd cc

pub returns-in-Ok-clause-only : goal.returns-in-Ok-clause-only
returns-in-Ok-clause-only c saved is fit text =
    let told =
    c.in-Ok.ensures.only saved is
    (same_words (words_of saved) c.words_in.result fit c.in-Ok.ensures.fits (text ∙ sym c.words_in.ensures.text)) in
    let same : c.in-Ok.saved ≡ saved = cc in
    ap Ok same

pub returns-in-Err-clause-only : goal.returns-in-Err-clause-only
returns-in-Err-clause-only c saved is fit text =
    let wrong =
    c.in-Err.ensures.only saved is
    (same_words (words_of saved) c.words_in.result fit c.in-Err.ensures.fits (text ∙ sym c.words_in.ensures.text)) in
    absurd cc
