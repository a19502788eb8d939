use Rattle.std.proofs.Common.{◌≡◌, ℕ, List, map, take, string_bytes, Bor}
use Rattle.std.specs.List.{list_any}
use Rattle.std.specs.Str.{bytes_eq}
use Rattle.ccan_lab.specs.Observed.{repeats_in}
use Rattle.ccan_lab.proofs.shown_texts.repeats_of.Given as goal

-- which of the texts so far are repeats; and the set has these texts
abbrev pub invariant-loop-number : goal.invariant-loop-number
invariant-loop-number l =
    (l.repeats.items ≡ repeats_in (map string_bytes l.texts) l.number)
    × ((text : Bor (List ℕ)) → list_any (λ kept. bytes_eq text.now kept.now) l.seen.keys
    ≡ list_any (λ shown. bytes_eq shown text.now) (take l.number (map string_bytes l.texts)))
