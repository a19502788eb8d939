-- What is written of a list, and why it isn't.
use Rattle.std.proofs.Common.{ℕ, ◌≡◌, ◌++◌, Bool, List, [], Option, inl, inr, length, append_assoc, subst}
use Rattle.std.proofs.KnownBytes.{Appends-nil, Appends-trans}
use Rattle.std.specs.Io.KnownBytes.{Appends}
use Rattle.std.specs.List.{IsDistinct}
use Rattle.ccan_line.specs.Script.{ScriptFields}
use Rattle.ccan_outcomes.specs.contracts.all_ports.AllPortsPartialEq.TheImpl.{ghosts as ports_are}
use Rattle.ccan_outcomes.specs.contracts.ending.EndingPartialEq.TheImpl.{ghosts as ending_is}
use Rattle.ccan_outcomes.specs.declared.ending.Ending.{Ending}
use Rattle.ccan_outcomes.specs.Ending.{AreAllEnds, AreOfRuns, AreOutcomes}
use Rattle.ccan_lab.specs.declared.asked.Asked.{Asked}
use Rattle.ccan_lab.specs.declared.asked.Asked.TheVariants.{Summary, All, Json, Can, Never, Observed, AllObserved}
use Rattle.ccan_lab.specs.declared.lab_error.LabError.{LabError}
use Rattle.ccan_lab.specs.declared.lab_error.LabError.TheVariants as fault
use Rattle.ccan_lab.specs.declared.list_end.ListEnd.{ListEnd}
use Rattle.ccan_lab.specs.declared.list_end.ListEnd.TheVariants.{Whole, GivenUp}
use Rattle.ccan_lab.specs.declared.outcomes.OutcomesQuestion.{OutcomesQuestion}
use Rattle.ccan_lab.specs.Answered.{IsAnswered, RefusesBy}
use Rattle.ccan_lab.specs.EachFile.{FilePart, IsPartOf}
use Rattle.ccan_lab.specs.EachList.{IsListPart, IsPartBy, ListsAsked}
use Rattle.ccan_lab.specs.Outcomes.{AnswersTo, IsNotOfAll, IsOfAll}
use Rattle.ccan_lab.specs.Words.{HasNoWords}
use Rattle.ccan_lab.specs.Written.{IsUnwritten, IsWritten}

-- nothing is written yet
pub nothing_written : (IsReason : LabError → Type 0) (old : Option (List ℕ)) (why : LabError) → IsReason why
    → IsUnwritten IsReason old old why
nothing_written IsReason old why is = inr (is, Appends-nil old)

-- a reason for it that follows
pub unwritten_for : (IsReason Follows : LabError → Type 0) → ((why : LabError) → IsReason why → Follows why)
    → (old new : Option (List ℕ)) (why : LabError) → IsUnwritten IsReason old new why → IsUnwritten Follows old new why
unwritten_for IsReason Follows follows old new why (inl failed) = inl failed
unwritten_for IsReason Follows follows old new why (inr unwritten) = inr (follows why unwritten.0, unwritten.1)

-- a list below its first lines
pub written_below : (above head : List ℕ) (IsListTo IsWholeTo : ℕ → List ℕ → Type 0) (IsReason : LabError → Type 0) (all : ℕ)
    → ((count : ℕ) (text : List ℕ) → IsListTo count text → IsWholeTo count (head ++ text))
    → (end : ListEnd) (old between new : Option (List ℕ)) → Appends old between (above ++ head)
    → IsWritten [] IsListTo IsReason all end between new → IsWritten above IsWholeTo IsReason all end old new
written_below above head IsListTo IsWholeTo IsReason all whole end old between new first later = record {
  count = later.count;
  within = later.within;
  text = head ++ later.text;
  is_list = whole later.count later.text later.is_list;
  written = subst (Appends old new) (append_assoc above head later.text)
      (Appends-trans old between new (above ++ head) later.text first later.written);
  ends = later.ends;
}

-- a list as what follows from it
pub written_as : (above : List ℕ) (IsListTo Follows : ℕ → List ℕ → Type 0) (IsReason : LabError → Type 0) (all : ℕ)
    → ((count : ℕ) (text : List ℕ) → IsListTo count text → Follows count text) → (end : ListEnd) (old new : Option (List ℕ))
    → IsWritten above IsListTo IsReason all end old new → IsWritten above Follows IsReason all end old new
written_as above IsListTo Follows IsReason all follows end old new list = record {
  count = list.count;
  within = list.within;
  text = list.text;
  is_list = follows list.count list.text list.is_list;
  written = list.written;
  ends = list.ends;
}

module _ (question : OutcomesQuestion) (script : ScriptFields) where
  -- why there are no words is why there is no list
  pub refuses_list : (asked : Asked) → IsOfAll asked → (why : LabError)
      → HasNoWords question.frames script ports_are.eq question.most why → RefusesBy asked question script why
  refuses_list Summary of why none = absurd of
  refuses_list All of why none = none
  refuses_list Json of why none = absurd of
  refuses_list Can of why none = absurd of
  refuses_list Never of why none = absurd of
  refuses_list (Observed names) of why none = absurd of
  refuses_list (AllObserved names) of why none = none

  -- a list of all outcomes up to some is what is asked, or its beginning
  pub lists_asked : (frames : Bool) → frames ≡ question.frames → (outcomes : List Ending)
      → AreAllEnds question.frames script outcomes → AreOutcomes script outcomes → AreOfRuns script outcomes
      → IsDistinct ending_is.eq outcomes → (end : ListEnd) (old new : Option (List ℕ)) (above : List ℕ)
      → (list : IsWritten above (AnswersTo frames question.form script outcomes question.asked)
      (λ why. why ≡ fault.Memory) (length outcomes) end old new)
      → ListsAsked question script end list.text
  lists_asked frames same outcomes ends are runs once Whole old new above list = record {
    outcomes = outcomes;
    ends = ends;
    are = are;
    runs = runs;
    once = once;
    text_is = subst (λ (count : ℕ). AnswersTo question.frames question.form script outcomes question.asked
        count list.text) list.ends
        (subst (λ (it : Bool). AnswersTo it question.form script outcomes question.asked list.count list.text) same list.is_list);
  }
  lists_asked frames same outcomes ends are runs once (GivenUp why) old new above list = (
    record {
      outcomes = outcomes;
      ends = ends;
      are = are;
      runs = runs;
      once = once;
      count = list.count;
      within = list.within;
      behind = list.ends.1;
      text_is = subst (λ (it : Bool). AnswersTo it question.form script outcomes question.asked list.count list.text) same
          list.is_list;
    },
    list.ends.0,
  )

-- what is printed of a file, by what is asked
module _ (question : OutcomesQuestion) (shown : Bool) where
  pub list_part : (asked : Asked) → IsOfAll asked → (name : List ℕ) (one : FilePart) → IsListPart question shown name one
      → IsPartBy asked question shown name one
  list_part Summary of name one is = absurd of
  list_part All of name one is = is
  list_part Json of name one is = absurd of
  list_part Can of name one is = absurd of
  list_part Never of name one is = absurd of
  list_part (Observed names) of name one is = absurd of
  list_part (AllObserved names) of name one is = is

  pub whole_part : (asked : Asked) → IsNotOfAll asked → (name : List ℕ) (one : FilePart)
      → IsPartOf (IsAnswered question) shown name one → IsPartBy asked question shown name one
  whole_part Summary of name one is = is
  whole_part All of name one is = absurd of
  whole_part Json of name one is = is
  whole_part Can of name one is = is
  whole_part Never of name one is = is
  whole_part (Observed names) of name one is = is
  whole_part (AllObserved names) of name one is = absurd of
