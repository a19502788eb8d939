-- One file more is asked about.
use Rattle.std.proofs.Common.{◌≡◌, ◌∙◌, ◌++◌, ℕ, Bool, Bor, List, [], ◌∷◌, Option, ap, refl, sym, subst, append-nil, length, map}
use Rattle.std.proofs.KnownBytes.{Appends-trans}
use Rattle.std.proofs.lemmas.List.{map-append}
use Rattle.std.proofs.lemmas.List.Concat.{flat_map-append}
use Rattle.std.proofs.lemmas.List.Sums.{fold-append}
use Rattle.std.specs.Prelude.{Result}
use Rattle.std.specs.List.{AllZip, flat_map}
use Rattle.std.specs.Io.KnownBytes.{Appends}
use Rattle.ccan_lab.specs.declared.each_file.FileAnswer.{FileAnswer}
use Rattle.ccan_lab.specs.declared.lab_error.LabError.{LabError}
use Rattle.ccan_lab.specs.EachFile.{AreAnswered, FilePart, IsPartOf, has_headings, part, status_of, worse, worst_of}

module _ (IsPart : List ℕ → FilePart → Type 0) (name : List ℕ) (last : FilePart) where
  each_more : (names : List (List ℕ)) (parts : List FilePart) → AllZip IsPart names parts → IsPart name last
      → AllZip IsPart (names ++ name ∷ []) (parts ++ last ∷ [])
  each_more [] [] each is = (is, tt)
  each_more [] (p ∷ ps) each is = absurd each
  each_more (n ∷ ns) [] each is = absurd each
  each_more (n ∷ ns) (p ∷ ps) each is = (each.0, each_more ns ps each.1 is)

  texts_more : (parts : List FilePart) → flat_map (λ (one : FilePart). one.text) parts ++ last.text
      ≡ flat_map (λ (one : FilePart). one.text) (parts ++ last ∷ [])
  texts_more parts =
      sym (flat_map-append (λ (one : FilePart). one.text) parts (last ∷ [])
      ∙ ap (λ (t : List ℕ). flat_map (λ (one : FilePart). one.text) parts ++ t) (append-nil last.text))

  worst_more : (parts : List FilePart)
      → worse (worst_of (map (λ (one : FilePart). one.status) parts)) last.status
      ≡ worst_of (map (λ (one : FilePart). one.status) (parts ++ last ∷ []))
  worst_more parts =
      sym (fold-append worse 0 (map (λ (one : FilePart). one.status) parts) (last.status ∷ []))
      ∙ ap worst_of (sym (map-append (λ (one : FilePart). one.status) parts (last ∷ [])))

  -- its part is written and counted behind the others
  pub answered_more : (names : List (List ℕ)) (old between new : Option (List ℕ)) (worst status : ℕ)
      → AreAnswered IsPart names old between worst → IsPart name last → Appends between new last.text
      → status ≡ worse worst last.status → AreAnswered IsPart (names ++ name ∷ []) old new status
  answered_more names old between new worst status before is written counted = record {
    parts = before.parts ++ last ∷ [];
    each = each_more names before.parts before.each is;
    printed = subst (Appends old new) (texts_more before.parts)
        (Appends-trans old between new _ _ before.printed written);
    worst = counted ∙ ap (λ (n : ℕ). worse n last.status) before.worst ∙ worst_more before.parts;
  }

module _ (IsPart Follows : List ℕ → FilePart → Type 0)
    (follows : (name : List ℕ) (one : FilePart) → IsPart name one → Follows name one) where
  each_follows : (names : List (List ℕ)) (parts : List FilePart) → AllZip IsPart names parts → AllZip Follows names parts
  each_follows [] [] each = tt
  each_follows [] (p ∷ ps) each = absurd each
  each_follows (n ∷ ns) [] each = absurd each
  each_follows (n ∷ ns) (p ∷ ps) each = (follows n p each.0, each_follows ns ps each.1)

  -- the parts of files are also what follows from it
  pub answered_for : (names : List (List ℕ)) (old new : Option (List ℕ)) (status : ℕ) → AreAnswered IsPart names old new status
      → AreAnswered Follows names old new status
  answered_for names old new status are = record {
    parts = are.parts;
    each = each_follows names are.parts are.each;
    printed = are.printed;
    worst = are.worst;
  }

module _ (Answers : List ℕ → Result FileAnswer LabError → Type 0) (shown : Bool) (name : List ℕ)
    (answered : Result FileAnswer LabError) where
  -- it is answered whole
  pub answered_whole : (names : List (List ℕ)) (old between new : Option (List ℕ)) (worst one_status status : ℕ)
      → AreAnswered (IsPartOf Answers shown) names old between worst → Answers name answered
      → Appends between new (part shown name answered) → one_status ≡ status_of answered → status ≡ worse worst one_status
      → AreAnswered (IsPartOf Answers shown) (names ++ name ∷ []) old new status
  answered_whole names old between new worst one_status status before answers written one_is is =
      let last : FilePart = record { text = part shown name answered; status = status_of answered } in
      answered_more (IsPartOf Answers shown) name last names old between new worst status before (answered, answers, refl, refl)
      written (is ∙ ap (worse worst) one_is)

module _ (Answers Others : List ℕ → Result FileAnswer LabError → Type 0)
    (weaker : (name : List ℕ) (answered : Result FileAnswer LabError) → Answers name answered → Others name answered) where
  part_weaker : (shown : Bool) (name : List ℕ) (one : FilePart) → IsPartOf Answers shown name one → IsPartOf Others shown name one
  part_weaker shown name one is = (is.0, weaker name is.0 is.1, is.2, is.3)

  -- files that were asked about so were asked about as this follows from it
  pub answered_so : (named also : Bool) → named ≡ also → (files others : List (Bor (List ℕ))) → files ≡ others
      → (old new : Option (List ℕ)) (status : ℕ)
      → AreAnswered (IsPartOf Answers (has_headings named (length files))) (map (λ file. file.now) files) old new status
      → AreAnswered (IsPartOf Others (has_headings also (length others))) (map (λ file. file.now) others) old new status
  answered_so named also headed files others same old new status are =
      subst (λ (it : Bool). AreAnswered (IsPartOf Others (has_headings it (length others))) (map (λ file. file.now) others)
      old new status) headed
      (subst (λ (l : List (Bor (List ℕ))). AreAnswered (IsPartOf Others (has_headings named (length l)))
      (map (λ file. file.now) l) old new status) same
      (answered_for (IsPartOf Answers (has_headings named (length files))) (IsPartOf Others (has_headings named (length files)))
      (part_weaker (has_headings named (length files))) (map (λ file. file.now) files) old new status are))
