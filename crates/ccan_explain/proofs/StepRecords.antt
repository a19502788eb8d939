-- The records that a step tells are those that a history leaves.
use Rattle.std.proofs.Common.{ℕ, ◌≡◌, ◌≤◌, ◌<◌, ◌+◌, ◌==◌, ◌&&◌, List, [], ◌∷◌, length, get_or, set, replicate}
use Rattle.std.proofs.Common.{Bool, true, false, cond, inl, inr}
use Rattle.std.proofs.Common.{refl, sym, ap, ap₂, subst, ◌∙◌, arith, Option, Some, None}
use Rattle.std.proofs.lemmas.Bool.{cases_lt, eqb-true}
use Rattle.std.proofs.Math.ListN.{get_or-eq_default}
use Rattle.std.proofs.lemmas.List.{get_or-set_same, get_or-set_other, get_or-replicate}
use mathlib.Core.Logic.{dite}
use native.Mathlib.Decide.{ℕ_discrete}
use Rattle.ccan_object.specs.declared.profile.Profile.{Profile}
use Rattle.ccan_object.specs.declared.record.Record.{Record}
use Rattle.ccan_object.specs.Record.{zero_record}
use Rattle.ccan_object.specs.Profile.{Holds}
use Rattle.ccan_ram.specs.declared.event.Event.{Event}
use Rattle.ccan_ram.specs.Access.{Passes, SeesLegal}
use Rattle.ccan_ram.specs.Array.{Leaves}
use Rattle.ccan_ram.specs.History.{record_at, is_change, IsLegal}
use Rattle.ccan_ram.proofs.Booleans.{both_hold, passed, when}
use Rattle.ccan_ram.proofs.FinalRecords.{most_objects}
use Rattle.ccan_confine.specs.declared.node_state.NodeState.TheVariants as node
use Rattle.ccan_confine.specs.Counters.{Levels, is_off, passive_limit, reaches, state_of}
use Rattle.ccan_explain.specs.Step.{at_number, touched_of}

-- what a legal history leaves at a number that is no object's
record_at-no_object : (profile : Profile) (seen : List Event) (object : ℕ) → IsLegal profile seen → (Holds profile object → ⊥)
    → record_at object seen ≡ zero_record
record_at-no_object profile [] object legal none = refl
record_at-no_object profile (event ∷ earlier) object legal none =
    let rest = record_at-no_object profile earlier object legal.1 none in
    elim (when (is_change event && event.object == object)) as (λ _. record_at object (event ∷ earlier) ≡ zero_record) [
      | inl made ↦
          let named = eqb-true event.object object (both_hold (is_change event) (event.object == object) made).1 in
          absurd (none (subst (Holds profile) named legal.0.held))
      | inr other ↦ passed _ event.after (record_at object earlier) other ∙ rest
    ]

-- where a memory has no such object, it leaves zero
pub leaves_none : (memory : Passes) (object : ℕ) → SeesLegal memory → (Holds memory.terms.profile object → ⊥)
    → Leaves memory object zero_record
leaves_none memory object legal none seen was = sym (record_at-no_object memory.terms.profile seen object (legal seen was) none)

-- no memory has an object of this number
pub no_object : (profile : Profile) → Holds profile 0 → ⊥
no_object profile held = let least = held.least in absurd (omega arith)

pub beyond : (profile : Profile) (object : ℕ) → 64 < object → Holds profile object → ⊥
beyond profile object more held =
    let most = most_objects profile in let greatest = held.greatest in absurd (omega arith)

-- the records below a number are those that are left
abbrev pub LeavesBelow : Passes → ℕ → List Record → Type 0
LeavesBelow memory number records = (object : ℕ) → object < number → Leaves memory object (at_number records object)

module _ (memory : Passes) (legal : SeesLegal memory) where
  pub leaves_first : (count : ℕ) → 0 < count → (records : List Record) → records ≡ replicate count zero_record
      → LeavesBelow memory 1 records
  leaves_first count some records is object below =
      let here : object ≡ 0 = omega arith in
      let blank : at_number records object ≡ zero_record =
      ap₂ (λ (r : List Record) (o : ℕ). get_or r o zero_record) is here ∙ get_or-replicate count 0 zero_record zero_record some in
      subst (λ r. Leaves memory object r) (sym blank)
      (leaves_none memory object legal (λ held. no_object memory.terms.profile (subst (Holds memory.terms.profile) here held)))

  -- and one more
  pub leaves_more : (number : ℕ) (old new : List Record) (here : Record) → number < length old → new ≡ set old number here
      → Leaves memory number here → LeavesBelow memory number old → LeavesBelow memory (number + 1) new
  leaves_more number old new here within is left below object less =
      subst (λ r. Leaves memory object (at_number r object)) (sym is)
      (dite (ℕ_discrete object number)
      (λ e.
      let same : at_number (set old number here) object ≡ here =
      ap (λ (o : ℕ). get_or (set old number here) o zero_record) e ∙ get_or-set_same old number here zero_record within in
      subst (λ r. Leaves memory object r) (sym same) (subst (λ o. Leaves memory o here) (sym e) left))
      (λ n.
      let same : at_number (set old number here) object ≡ at_number old object =
      get_or-set_other old number object here zero_record n in
      subst (λ r. Leaves memory object r) (sym same) (below object (omega arith))))

  -- so are all, where each number that an object may have is among them
  pub leaves_all : (number : ℕ) (records : List Record) → 65 ≤ number → length records ≡ 65
      → LeavesBelow memory number records → (object : ℕ) → Leaves memory object (at_number records object)
  leaves_all number records all count below object =
      elim (cases_lt object 65) [
        | inl less ↦ below object (omega arith)
        | inr more ↦
            let past : at_number records object ≡ zero_record = get_or-eq_default records zero_record (omega arith) in
            subst (λ r. Leaves memory object r) (sym past)
            (leaves_none memory object legal (beyond memory.terms.profile object (omega arith)))
      ]

-- an object's records by what a memory left before and after are those of the history
pub touched_same : (before after before' after' : ℕ → Record) (object : Option ℕ)
    → ((o : ℕ) → before o ≡ before' o) → ((o : ℕ) → after o ≡ after' o)
    → touched_of before after object ≡ touched_of before' after' object
touched_same before after before' after' None b a = refl
touched_same before after before' after' (Some o) b a =
    ap₂ (λ x y. Some (record { object = o; before = x; after = y })) (b o) (a o)

-- ---- which nodes are bus off

off : (b p : Bool) → node.Off ≡ cond b node.Off (cond p node.Passive node.Active) → true ≡ b
off true p is = refl
off false true is = absurd cc
off false false is = absurd cc

passive : (b p : Bool) → node.Passive ≡ cond b node.Off (cond p node.Passive node.Active) → false ≡ b
passive true p is = absurd cc
passive false p is = refl

active : (b p : Bool) → node.Active ≡ cond b node.Off (cond p node.Passive node.Active) → false ≡ b
active true p is = absurd cc
active false p is = refl

pub off_where : (levels : Levels) → node.Off ≡ state_of levels → true ≡ is_off levels
off_where levels is = off (is_off levels) (reaches passive_limit levels) is

pub passive_where : (levels : Levels) → node.Passive ≡ state_of levels → false ≡ is_off levels
passive_where levels is = passive (is_off levels) (reaches passive_limit levels) is

pub active_where : (levels : Levels) → node.Active ≡ state_of levels → false ≡ is_off levels
active_where levels is = active (is_off levels) (reaches passive_limit levels) is

-- one node more
pub offs_more : (f : ℕ → Bool) (node : ℕ) (old new : List Bool) (is : Bool) → node < length old → new ≡ set old node is
    → is ≡ f node → ((k : ℕ) → k < node → get_or old k false ≡ f k) → (k : ℕ) → k < node + 1 → get_or new k false ≡ f k
offs_more f node old new is within made here below k less =
    ap (λ (bs : List Bool). get_or bs k false) made
    ∙ dite (ℕ_discrete k node)
    (λ e. ap (λ (i : ℕ). get_or (set old node is) i false) e ∙ get_or-set_same old node is false within ∙ here ∙ ap f (sym e))
    (λ n. get_or-set_other old node k is false n ∙ below k (omega arith))
