-- That a fault is the first one of some bytes, and told with its path, from how it was found.
use Rattle.std.proofs.Common.{◌≡◌, ◌∙◌, ℕ, List, ◌++◌, Option, Some, None, Result, String, codes, decimal}
use Rattle.std.proofs.Common.{subst, sym, ap, refl, string_bytes}
use Rattle.std.specs.Prelude.{IfOk, IsTrue, IsUtf8, nat_eq, slice_get}
use Rattle.std.specs.declared.alloc.Global.{Global}
use Rattle.std.specs.List.{starts_with}
use Rattle.std.proofs.lemmas.Bool.Decides.{Decides-eqb}
use Rattle.std.proofs.lemmas.Slice.Eq.{starts_is}
use Rattle.serde_json.specs.Data.{Data}
use Rattle.serde_json.specs.Read.{read}
use Rattle.ccan_script.specs.declared.script_error.ScriptError.{ScriptError}
use Rattle.serde_json.specs.Find.{get}
use Rattle.ccan_script.specs.declared.list_name.ListName.{ListName}
use Rattle.ccan_script.specs.Json.{lines_in}
use Rattle.ccan_script.specs.ListName.{list_text}
use Rattle.ccan_script.specs.declared.check.line_path.LinePath.{LinePath}
use Rattle.ccan_script.specs.LinePath.{path_text}
use Rattle.ccan_script.specs.declared.check.report.Fault.{Fault}
use Rattle.ccan_script.specs.ScriptCheck.{IsFirstTold, IsToldAs}
use Rattle.ccan_script.specs.ScriptCheck.{context_of, fault_path, line_path, place_in}

some_inj : (a b : Data) → Some a ≡ Some b → a ≡ b
some_inj a b h = cc

module _ (bytes : List ℕ) (error : ScriptError) where
  pub first_of_value : (path : List ℕ) (d : Data) (o : Option Fault) → read bytes ≡ Some d → path ≡ fault_path d error
      → IsToldAs error path o → IsFirstTold bytes error o
  first_of_value path d None is at told = absurd told
  first_of_value path d (Some fault) is at told = (
    told.0,
    λ e utf8 reads.
        let same : path ≡ fault_path e fault.error =
        at ∙ ap (λ x. fault_path x error) (some_inj d e (sym is ∙ reads)) ∙ ap (λ x. fault_path e x) (sym told.0) in
        subst (λ p. IsTrue (starts_with nat_eq (string_bytes fault.remark.text) p)) same told.1,
  )

  pub first_of_text : (path : List ℕ) (o : Option Fault) → (IsUtf8 bytes → read bytes ≡ None) → IsToldAs error path o
      → IsFirstTold bytes error o
  first_of_text path None none told = absurd told
  first_of_text path (Some fault) none told =
      (told.0, λ e utf8 reads. let never : Some e ≡ None = sym reads ∙ none utf8 in cc)

-- ---- how it is told

pub starts_with-append : (p rest : List ℕ) → IsTrue (starts_with nat_eq (p ++ rest) p)
starts_with-append p rest = (starts_is {E = nat_eq} Decides-eqb (p ++ rest) p _ refl).1 rest refl

-- ---- the path of a line

module _ (E : Type 0) (d : Data) (list : ListName) (index : ℕ) (name : List ℕ) (is : name ≡ list_text list)
    (r : Result (String Global) E) where
  line_there : (o : Option Data) → o ≡ slice_get (lines_in (get name d)) index
      → slice_get (lines_in (get (list_text list) d)) index ≡ o
  line_there o at = ap (λ n. slice_get (lines_in (get n d)) index) (sym is) ∙ sym at

  pub path_of_list : None ≡ slice_get (lines_in (get name d)) index → IfOk r (λ text. string_bytes text ≡ name)
      → IfOk r (λ text. string_bytes text ≡ line_path d list index)
  path_of_list at told =
      let none = line_there None at in
      let same : name ≡ line_path d list index = rw none is in
      subst (λ p. IfOk r (λ text. string_bytes text ≡ p)) same told

  pub path_of_line : (line : Data) (path : List ℕ) (place : LinePath) → Some line ≡ slice_get (lines_in (get name d)) index
      → path ≡ name ++ (codes "[" ++ (decimal index ++ codes "]")) → place ≡ place_in list (context_of d) line
      → IfOk r (λ text. string_bytes text ≡ path_text path place)
      → IfOk r (λ text. string_bytes text ≡ line_path d list index)
  path_of_line line path place at begins stands told =
      let there = line_there (Some line) at in
      let begin : path ≡ list_text list ++ (codes "[" ++ (decimal index ++ codes "]")) =
      begins ∙ ap (λ n. n ++ (codes "[" ++ (decimal index ++ codes "]"))) is in
      let same : path_text path place ≡ line_path d list index =
      rw there (ap (λ p. path_text p place) begin
      ∙ ap (λ p. path_text (list_text list ++ (codes "[" ++ (decimal index ++ codes "]"))) p) stands) in
      subst (λ p. IfOk r (λ text. string_bytes text ≡ p)) same told
