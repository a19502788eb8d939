-- The objects that transfers name, object by object.
use Rattle.std.proofs.Common.{ℕ, ◌≡◌, ◌+◌, ◌++◌, ◌∷◌, [], List, Bool, true, false, cond, filter, map, append-nil, sym, ap, ◌∙◌, arith}
use Rattle.std.specs.List.{range_with_len}
use Rattle.std.proofs.lemmas.List.FromFn.{filter_of_map_range_with_len_more}
use Rattle.ccan_line.specs.Script.{ScriptFields}
use Rattle.ccan_lab.specs.Beginnings.{has_transfer_of}

-- those among so many objects
abbrev pub objects_among : ScriptFields → ℕ → List ℕ
objects_among script count = filter (has_transfer_of script) (map (λ index. index + 1) (range_with_len 0 count))

-- and among one more
objects_more : (script : ScriptFields) (count : ℕ) → objects_among script (count + 1)
    ≡ objects_among script count ++ cond (has_transfer_of script (count + 1)) ((count + 1) ∷ []) []
objects_more script count =
    filter_of_map_range_with_len_more (has_transfer_of script) (λ index. index + 1) 0 count count (omega arith)

-- an object that a transfer names is added
pub object_added : (script : ScriptFields) (count object : ℕ) (before after : List ℕ) → object ≡ count + 1
    → has_transfer_of script (count + 1) ≡ true → before ≡ objects_among script count → after ≡ before ++ object ∷ []
    → after ≡ objects_among script (count + 1)
object_added script count object before after here named so_far pushed =
    pushed ∙ ap (λ (objects : List ℕ). objects ++ object ∷ []) so_far
    ∙ ap (λ (n : ℕ). objects_among script count ++ n ∷ []) here
    ∙ sym (objects_more script count
    ∙ ap (λ (b : Bool). objects_among script count ++ cond b ((count + 1) ∷ []) []) named)

-- another is not
pub object_passed : (script : ScriptFields) (count : ℕ) (before after : List ℕ) → has_transfer_of script (count + 1) ≡ false
    → before ≡ objects_among script count → after ≡ before → after ≡ objects_among script (count + 1)
object_passed script count before after unnamed so_far same =
    same ∙ so_far ∙ sym (objects_more script count
    ∙ ap (λ (b : Bool). objects_among script count ++ cond b ((count + 1) ∷ []) []) unnamed
    ∙ append-nil (objects_among script count))
