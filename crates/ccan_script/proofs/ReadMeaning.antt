-- Bytes that were read mean one thing: what reading answered.
use Rattle.std.proofs.Common.{◌≡◌, ℕ, List, refl, subst, Result, Ok, Err}
use Rattle.ccan_script.specs.declared.script_error.ScriptError.{ScriptError}
use Rattle.ccan_script.specs.declared.script_error.ScriptError.TheVariants.{NotJson, Shape, Range, TooMany, Order, Before, Memory}
use Rattle.ccan_line.specs.Script.{fields_of, ScriptFields}
use Rattle.ccan_script.specs.Reader.{Shows}
use Rattle.ccan_script.specs.Script.{Means}
use Rattle.ccan_script.specs.Laws.{WhatWasReadHasAMeaning}
use Rattle.ccan_script.proofs.OneMeaning.{one_meaning}

one_shown : (bytes : List ℕ) (r s : Result ScriptFields ScriptError) → Shows bytes r → Shows bytes s → r ≡ s
one_shown bytes r s a b =
    let first = a.read in
    let second = b.read in
    let same : a.value ≡ b.value = cc in
    one_meaning b.value r s (subst (λ v. Means v r) same a.means) b.means

pub read_meaning : WhatWasReadHasAMeaning
read_meaning bytes (Ok script) h memory json =
    (Ok (fields_of script), h, λ other also. one_shown bytes other (Ok (fields_of script)) also h)
read_meaning bytes (Err NotJson) h memory json = absurd (json refl)
read_meaning bytes (Err Memory) h memory json = absurd (memory refl)
read_meaning bytes (Err (Shape list index)) h memory json =
    (Err (Shape list index), h, λ other also. one_shown bytes other (Err (Shape list index)) also h)
read_meaning bytes (Err (Range list index)) h memory json =
    (Err (Range list index), h, λ other also. one_shown bytes other (Err (Range list index)) also h)
read_meaning bytes (Err (TooMany list)) h memory json =
    (Err (TooMany list), h, λ other also. one_shown bytes other (Err (TooMany list)) also h)
read_meaning bytes (Err (Order port)) h memory json =
    (Err (Order port), h, λ other also. one_shown bytes other (Err (Order port)) also h)
read_meaning bytes (Err (Before port)) h memory json =
    (Err (Before port), h, λ other also. one_shown bytes other (Err (Before port)) also h)
