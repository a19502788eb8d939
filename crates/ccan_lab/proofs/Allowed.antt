-- Whether the ports can come to an end with some lines, by a list of all ends, and for the script whose waits look once.
use Rattle.std.proofs.Common.{ℕ, ◌≡◌, ◌-◌, ◌&&◌, arith, zero, suc, Bool, true, false, cond, List, [], ◌∷◌, ◌++◌, Option, Some, None, length, map, option_map, replicate, refl, sym, ap, ◌∙◌, inl, inr}
use Rattle.std.specs.List.{Contains, position_or_len}
use Rattle.std.proofs.lemmas.Bool.{lt-ltb}
use Rattle.ccan_language.proofs.Borne.{place_is, place_of}
use Rattle.ccan_language.proofs.Grown.{first_in, later_in}
use Rattle.ccan_line.specs.Script.{ScriptFields}
use Rattle.ccan_object.specs.declared.profile.Profile.{Profile}
use Rattle.ccan_object.specs.declared.profile.Profile.TheVariants.{Two}
use Rattle.ccan_object.specs.Profile.{objects_in}
use Rattle.ccan_object.specs.Record.{zero_record}
use Rattle.ccan_run.specs.declared.outcome.Outcome.{Outcome}
use Rattle.ccan_outcomes.specs.declared.ending.Ending.{Ending}
use Rattle.ccan_outcomes.specs.Ending.{AreAllEnds, AreOfRuns, AreOutcomes, IsOfEnd, Reports}
use Rattle.ccan_outcomes.specs.Waits.{HaveSameEnds, HaveSameOutcomes}
use Rattle.ccan_lab.specs.declared.asked.Asked.{Asked}
use Rattle.ccan_lab.specs.declared.asked.Asked.TheVariants.{Summary, All, Json, Can, Never, Observed, AllObserved}
use Rattle.ccan_lab.specs.declared.history_form.HistoryForm.{HistoryForm}
use Rattle.ccan_lab.specs.Answer.{first_with}
use Rattle.ccan_lab.specs.Apart.{MissesOne, SaysOneApart}
use Rattle.ccan_lab.specs.Answered.{CanHave, EndsAsAsked, IsOneIf, status_if}
use Rattle.ccan_lab.specs.Counting.{TellsCount}
use Rattle.ccan_lab.specs.Rows.{has_line, has_lines, lines_of}
use Rattle.ccan_lab.specs.Words.{AnswersLine}
use Rattle.ccan_lab.proofs.Fitting.{and_right}
use Rattle.ccan_lab.proofs.Taken.{found_within, it_alone}

-- ---- by a list of all ends

-- what is found first passes
found_passes : (p : List (List ℕ) → Bool) (endings : List Ending) (number : ℕ) → place_of p (map lines_of endings) ≡ Some number
    → (ending : Ending) × Contains endings ending × (p (lines_of ending) ≡ true)
found_passes p [] number is = absurd cc
found_passes p (e ∷ es) number is = by (p (lines_of e)) refl (found_passes p es)
  where
    by : (b : Bool) → p (lines_of e) ≡ b
        → ((k : ℕ) → place_of p (map lines_of es) ≡ Some k → (ending : Ending) × Contains es ending × (p (lines_of ending) ≡ true))
        → (ending : Ending) × Contains (e ∷ es) ending × (p (lines_of ending) ≡ true)
    by true passes behind = (e, first_in e es, passes)
    by false fails behind = later (place_of p (map lines_of es)) refl
        (sym (ap (λ (b : Bool). cond b (Some 0) (option_map suc (place_of p (map lines_of es)))) fails) ∙ is)
      where
        later : (o : Option ℕ) → place_of p (map lines_of es) ≡ o → option_map suc o ≡ Some number
            → (ending : Ending) × Contains (e ∷ es) ending × (p (lines_of ending) ≡ true)
        later (Some k) at same = let it = behind k at in (it.0, later_in e es it.0 it.1, it.2)
        later None at same = absurd cc

-- none can come if none of the list has them
none_can : (frames : Bool) (script : ScriptFields) (endings : List Ending) (begins : List (List ℕ))
    → AreAllEnds frames script endings → first_with begins endings ≡ None → CanHave frames script begins → ⊥
none_can frames script endings begins are none (told, of, has) =
    let inside = (are told).1 of in
    let place = position_or_len (has_lines begins) (map lines_of endings) in
    let within = found_within lines_of (has_lines begins) endings inside.0 told inside.1 inside.2 has in
    let found : first_with begins endings ≡ Some place =
    ap (λ (b : Bool). cond b (Some place) None) (lt-ltb place (length (map lines_of endings)) within) in
    absurd cc

-- one can come if one of the list has them
one_can : (frames : Bool) (script : ScriptFields) (endings : List Ending) (begins : List (List ℕ)) (number : ℕ)
    → AreAllEnds frames script endings → first_with begins endings ≡ Some number → CanHave frames script begins
one_can frames script endings begins number are is =
    let found = found_passes (has_lines begins) endings number
    (sym (place_is (has_lines begins) (map lines_of endings)) ∙ is) in
    (found.0, (are found.0).0 found.1, found.2)

-- ---- by how each line may end

-- what has all lines has each of them
each_of_all : (begins : List (List ℕ)) (rows : List (List ℕ)) (begin : List ℕ) → Contains begins begin
    → has_lines begins rows ≡ true → has_line begin rows ≡ true
unfolding has_lines
each_of_all [] rows begin (k, low, at) has = absurd (omega (arith, low))
each_of_all (first ∷ rest) rows begin (zero, low, at) has =
    ap (λ (b : List ℕ). has_line b rows) (sym at) ∙ and_left (has_line first rows) (has_lines rest rows) has
  where
    and_left : (a b : Bool) → (a && b) ≡ true → a ≡ true
    and_left true b both = refl
    and_left false b both = both
each_of_all (first ∷ rest) rows begin (suc k, low, at) has =
    each_of_all rest rows begin (k, omega (arith, low), at) (and_right (has_line first rows) (has_lines rest rows) has)

-- none can come if none has one of the lines
none_apart : (frames : Bool) (script : ScriptFields) (begins : List (List ℕ)) → MissesOne (IsOfEnd frames script) begins
    → CanHave frames script begins → ⊥
none_apart frames script begins (begin, asked, none) (told, of, has) =
    none (told, of, each_of_all begins (lines_of told) begin asked has)

-- one can come if one has the line, which is alone
one_apart : (frames : Bool) (script : ScriptFields) (most : ℕ) (begins : List (List ℕ)) (text : List ℕ)
    → SaysOneApart (IsOfEnd frames script) most begins text → CanHave frames script begins
one_apart frames script most begins text says =
    let (told, of, has) = says.has in
    (told, of, ap (λ (lines : List (List ℕ)). has_lines lines (lines_of told)) says.alone ∙ it_alone says.begin (lines_of told) has)

-- ---- the status

module _ (frames : Bool) (form : HistoryForm) (script : ScriptFields) (eq : Ending → Ending → Bool) (most : ℕ)
    (begins : List (List ℕ)) (text : List ℕ) (holds : Bool) (status : ℕ) (is : status ≡ status_if holds) where
  -- the status of an answer to --can
  pub can_ends : AnswersLine frames form script eq most begins false text holds → IsOneIf (CanHave frames script begins) 0 6 status
  can_ends (inl (inl (none, so))) =
      inr (none_can frames script none.outcomes begins none.ends none.says.none, is ∙ ap status_if so)
  can_ends (inl (inr (found, so))) =
      inl (one_can frames script found.outcomes begins found.says.0 found.ends found.says.1, is ∙ ap status_if so)
  can_ends (inr (inl (none, so))) = inr (none_apart frames script begins none.says.misses, is ∙ ap status_if so)
  can_ends (inr (inr (one, so))) = inl (one_apart frames script most begins text one.says, is ∙ ap status_if so)

  -- the status of an answer to --never
  pub never_ends : AnswersLine frames form script eq most begins true text holds → IsOneIf (CanHave frames script begins) 6 0 status
  never_ends (inl (inl (none, so))) =
      inr (none_can frames script none.outcomes begins none.ends none.says.none, is ∙ ap status_if so)
  never_ends (inl (inr (found, so))) =
      inl (one_can frames script found.outcomes begins found.says.0 found.ends found.says.1, is ∙ ap status_if so)
  never_ends (inr (inl (none, so))) = inr (none_apart frames script begins none.says.misses, is ∙ ap status_if so)
  never_ends (inr (inr (one, so))) = inl (one_apart frames script most begins text one.says, is ∙ ap status_if so)

-- ---- of the script whose waits look once

module _ (script searched : ScriptFields) (same : HaveSameEnds script searched) (frames : Bool) where
  -- what tells an end of the one tells an end of the other
  end_there : (told : Ending) → IsOfEnd frames searched told → IsOfEnd frames script told
  end_there told (ending, can, is) = (ending, (same ending).1 can, is)

  end_back : (told : Ending) → IsOfEnd frames script told → IsOfEnd frames searched told
  end_back told (ending, can, is) = (ending, (same ending).0 can, is)

  one_if : (begins : List (List ℕ)) (one other status : ℕ) → IsOneIf (CanHave frames searched begins) one other status
      → IsOneIf (CanHave frames script begins) one other status
  one_if begins one other status (inl ((told, of, has), is)) = inl ((told, end_there told of, has), is)
  one_if begins one other status (inr (none, is)) =
      inr (λ can. none (can.0, end_back can.0 can.1, can.2), is)

  -- so the status is that of both
  pub ends_so : (asked : Asked) (begins : List (List ℕ)) (status : ℕ) → EndsAsAsked asked frames searched begins status
      → EndsAsAsked asked frames script begins status
  ends_so Can begins status ends = one_if begins 0 6 status ends
  ends_so Never begins status ends = one_if begins 6 0 status ends
  ends_so Summary begins status ends = ends
  ends_so All begins status ends = ends
  ends_so Json begins status ends = ends
  ends_so (Observed names) begins status ends = ends
  ends_so (AllObserved names) begins status ends = ends

  -- and so is the list of all ends
  all_ends : (endings : List Ending) → AreAllEnds frames searched endings → AreAllEnds frames script endings
  all_ends endings are told = (λ inside. end_there told ((are told).0 inside), λ of. (are told).1 (end_back told of))

-- what is reported of an outcome is by the profile
reports_by : (one other : ScriptFields) → one.profile ≡ other.profile → (told : Ending) (outcome : Outcome)
    → Reports one told outcome → Reports other told outcome
reports_by one other profile told outcome reports = record {
  if1 = reports.if1;
  if2 = reports.if2;
  bus = reports.bus;
  profile_is = reports.profile_is ∙ profile;
  last = reports.last
      ∙ ap (λ (p : Profile). told.records ++ replicate (objects_in Two - objects_in p) zero_record) profile;
}

module _ (script searched : ScriptFields) (profile : searched.profile ≡ script.profile) (same : HaveSameOutcomes script searched)
  where
    are_outcomes : (endings : List Ending) → AreOutcomes searched endings → AreOutcomes script endings
    are_outcomes endings are outcome = (
      λ is. let listed = (are outcome).0 (is.0, (same is.0).0 is.1, is.2) in
          (listed.0, listed.1, reports_by searched script profile listed.0 outcome listed.2),
      λ listed. let is = (are outcome).1
          (listed.0, listed.1, reports_by script searched (sym profile) listed.0 outcome listed.2) in
          (is.0, (same is.0).1 is.1, is.2),
    )

    are_of_runs : (endings : List Ending) → AreOfRuns searched endings → AreOfRuns script endings
    are_of_runs endings runs told inside =
        let of = runs told inside in
        (of.0, (same of.0).1 of.1, reports_by searched script profile told of.0 of.2)

    -- and so is the number of outcomes
    pub counts_so : HaveSameEnds script searched → (frames : Bool) (eq : Ending → Ending → Bool) (text : List ℕ)
        → TellsCount frames searched eq text → TellsCount frames script eq text
    counts_so ends frames eq text (number, count, is) = (
      number,
      record {
        outcomes = count.outcomes;
        ends = all_ends script searched ends frames count.outcomes count.ends;
        are = are_outcomes count.outcomes count.are;
        runs = are_of_runs count.outcomes count.runs;
        once = count.once;
        number_is = count.number_is;
      },
      is,
    )
