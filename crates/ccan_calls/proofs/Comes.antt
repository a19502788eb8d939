-- What a call comes to by its process.
use Rattle.std.proofs.Common.{ℕ, ◌≡◌, ◌↔◌, Bool, true, false, Option, Some, None, [], refl, ap, subst, if◌then◌else◌}
use Rattle.std.specs.Prelude.{MatchBool, MatchOption}
use Rattle.std.specs.Option.{option_map_or}
use Rattle.ccan_ram.specs.Terms.{Terms}
use Rattle.ccan_process.specs.Process.{Ended}
use Rattle.ccan_endless.specs.Chip.{ChipHistory}
use Rattle.ccan_c.specs.Step.{Rests}
use Rattle.ccan_calls.specs.Answer.{Answer, CallEnd, CallProcess, IsAnswered, IsIn, Nothing, Place, end_of, refuses}
use Rattle.ccan_calls.specs.Laws.{ComesTo}
use Rattle.ccan_calls.specs.Process.{Process, ending}
use Rattle.ccan_calls.specs.Runs.{Runs}
use Rattle.ccan_calls.proofs.Processes.{ends_so}

module _ {State : Type 0} where
  -- an end of a call, by its parts
  pair : (answer told : Answer) (left kept : State) → answer ≡ told → left ≡ kept
      → ◌≡◌ {A = CallEnd State} (answer, left) (told, kept)
  pair answer told left kept one other = λ i. (one i, other i)

  answer_is : (x y : CallEnd State) → x ≡ y → x.0 ≡ y.0
  answer_is x y is = ap (λ (end : CallEnd State). end.0) is

  left_is : (x y : CallEnd State) → x ≡ y → x.1 ≡ y.1
  left_is x y is = ap (λ (end : CallEnd State). end.1) is

module _ {State : Type 0} (terms : Terms) (tries code : ℕ) (place : Place) (left : State) (seen added : ChipHistory) where
  abbrev pub Comes : CallProcess State → Type 0
  Comes process = ComesTo terms tries code place process seen added left

  -- the call got this code and this result, and this is left
  abbrev pub Got : CallEnd State → Type 0
  Got end = (code ≡ end.0.code) × IsIn end.0.given place × (left ≡ end.1)

  -- no step
  pub ended : (end : CallEnd State) → (added ≡ []) × Got end ↔ Comes (Ended end)
  ended end = (
    λ h.
        let (none, got) = h in (
          end.0,
          record { code_is = got.0; given_is = got.1 },
          (none, pair end.0 end.0 left end.1 refl got.2),
        ),
    λ h.
        let (answer, got, on) = h in
        let told = subst (IsAnswered code place) (answer_is (answer, left) end on.1) got in
        (on.0, (told.code_is, told.given_is, left_is (answer, left) end on.1)),
  )

  pub rests : (refusal : ℕ) (kept : State) → Rests refusal kept left added code ↔ Comes (refuses refusal kept)
  rests refusal kept =
      let end = ended (end_of refusal Nothing kept) in (
        λ h. end.0 (h.quiet, (h.code_is, tt, h.leaves)),
        λ h. let e = end.1 h in record { code_is = e.1.0; quiet = e.0; leaves = e.1.2 },
      )

  -- what a process comes to, and the end of the call by it
  pub ends_by : {A : Type 0} (process : Process A) (end : A → CallEnd State)
      → ((result : A) × Runs terms tries process seen added result × Got (end result)) ↔ Comes (ending process end)
  ends_by process end = (
    λ h.
        let (result, on, got) = h in
        let told = end result in (
          told.0,
          record { code_is = got.0; given_is = got.1 },
          (ends_so terms tries end process seen added (told.0, left)).1
              (result, on, pair told.0 told.0 left told.1 refl got.2),
        ),
    λ h.
        let (answer, got, on) = h in
        let (result, runs, is) = (ends_so terms tries end process seen added (answer, left)).0 on in
        let told = subst (IsAnswered code place) (answer_is (answer, left) (end result) is) got in
        (result, runs, (told.code_is, told.given_is, left_is (answer, left) (end result) is)),
  )

  -- the same of a process that is what it should be
  pub ends_with : {A : Type 0} (what : A → Type 0) (process : Process A) (end : A → CallEnd State)
      → ((result : A) → what result ↔ Runs terms tries process seen added result)
      → ((result : A) × what result × Got (end result)) ↔ Comes (ending process end)
  ends_with what process end same =
      let all = ends_by process end in (
        λ h. let (result, so, got) = h in all.0 (result, (same result).0 so, got),
        λ h. let (result, on, got) = all.1 h in (result, (same result).1 on, got),
      )

  -- by a case
  pub chosen : (b : Bool) (P Q : Type 0) (one other : CallProcess State) → P ↔ Comes one → Q ↔ Comes other
      → MatchBool b P Q ↔ Comes (if b then one else other)
  chosen true P Q one other p q = p
  chosen false P Q one other p q = q

  pub picked : {X : Type 0} (o : Option X) (P : Type 0) (Q : X → Type 0) (none : CallProcess State) (some : X → CallProcess State)
      → P ↔ Comes none → ((x : X) → Q x ↔ Comes (some x)) → MatchOption o P Q ↔ Comes (option_map_or some o none)
  picked None P Q none some p q = p
  picked (Some x) P Q none some p q = q x
