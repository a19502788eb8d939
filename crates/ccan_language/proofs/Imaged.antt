-- The images of the words of a graph are what is said from its states.
use Rattle.std.proofs.Common.{ℕ, zero, suc, ◌<◌, ◌≡◌, true, false, List, [], ◌∷◌, length, slice_get, Some, Contains, refl, sym, ap, subst, ◌∙◌, arith, ◌⊎◌, inl, inr}
use Rattle.std.proofs.lemmas.Option.{slice_get_within}
use Rattle.std.proofs.lemmas.List.Elements.{Contains-push_cases}
use Rattle.ccan_language.specs.declared.images.Images.{Images}
use Rattle.ccan_language.specs.declared.letter.Letter.{Letter}
use Rattle.ccan_language.specs.declared.node.Node.{Node}
use Rattle.ccan_language.specs.declared.node.Node.TheVariants.{Nothing, End, Fork}
use Rattle.ccan_language.specs.declared.states.State.{State}
use Rattle.ccan_language.specs.declared.states.Step.{Step}
use Rattle.ccan_language.specs.Images.{AreStatesOf, HaveImages, IsStateOf, image_of, word_image}
use Rattle.ccan_language.specs.States.{HaveWordsOfStates, IsSaid, StepsLeadBack}
use Rattle.ccan_language.specs.Words.{AreNormal, IsWordFrom, with_letters}
use Rattle.ccan_language.proofs.Grown.{same_some}

-- no step stands among none
none_stands : {A : Type 0} (xs : List A) (x : A) → xs ≡ [] → Contains xs x → ⊥
none_stands xs x none is = let h : Contains [] x = subst (λ (l : List _). Contains l x) none is in omega (arith, h.1)

-- of two steps it is one or the other
one_of_two : {A : Type 0} (xs : List A) (a b x : A) → xs ≡ a ∷ b ∷ [] → Contains xs x → (a ≡ x) ⊎ (b ≡ x)
one_of_two xs a b x two is =
    elim (Contains-push_cases (a ∷ []) b x (subst (λ (l : List _). Contains l x) two is)) as (λ _. (a ≡ x) ⊎ (b ≡ x)) [
      | inl first ↦ elim (Contains-push_cases [] a x first) as (λ _. (a ≡ x) ⊎ (b ≡ x)) [
        | inl none ↦ absurd (omega (arith, none.1))
        | inr same ↦ inl same
      ]
      | inr same ↦ inr same
    ]

first_stands : {A : Type 0} (xs : List A) (a b : A) → xs ≡ a ∷ b ∷ [] → Contains xs a
first_stands xs a b two = subst (λ (l : List _). Contains l a) (sym two) (0, omega arith, refl)

second_stands : {A : Type 0} (xs : List A) (a b : A) → xs ≡ a ∷ b ∷ [] → Contains xs b
second_stands xs a b two = subst (λ (l : List _). Contains l b) (sym two) (1, omega arith, refl)

-- an element stands at each place of a list
element_at : {A : Type 0} (xs : List A) (index : ℕ) → index < length xs → (x : A) × (slice_get xs index ≡ Some x)
element_at [] index low = absurd (omega (arith, low))
element_at (x ∷ xs) zero low = (x, refl)
element_at (x ∷ xs) (suc index) low = element_at xs index (omega (arith, low))

module _ (nodes : List Node) (images : Images) (count : ℕ) (states : List State) (normal : AreNormal nodes)
    (are : AreStatesOf nodes images count states) where
  -- what a step is of a state, by its node
  below : (index : ℕ) (node : Node) (state : State) (step : Step) → slice_get nodes index ≡ Some node
      → IsStateOf images node state → Contains state.steps.items step → step.to < index
  below index Nothing state step at is listed = absurd (none_stands state.steps.items step is.1 listed)
  below index End state step at is listed = absurd (none_stands state.steps.items step is.1 listed)
  below index (Fork edge) state step at is listed =
      let of = is.1 in
      let back = normal.back index edge at in
      elim (one_of_two state.steps.items of.by_edge of.by_others step of.steps_are listed) as (λ _. step.to < index) [
        | inl first ↦ subst (λ (n : ℕ). n < index) (sym of.edge_to ∙ ap (λ (s : Step). s.to) first) back.0
        | inr second ↦ subst (λ (n : ℕ). n < index) (sym of.others_to ∙ ap (λ (s : Step). s.to) second) back.1
      ]

  pub lead_back : StepsLeadBack states
  lead_back index state step at listed =
      let found = are.are index state at in below index found.0 state step found.1 found.2 listed

  -- ---- what is said is an image

  abbrev Source : ℕ → List Letter → Type 0
  Source index word = (source : List Letter) × IsWordFrom nodes index source × (word ≡ word_image images source)

  source_of_end : (index : ℕ) (node : Node) (state : State) (word : List Letter) → slice_get nodes index ≡ Some node
      → IsStateOf images node state → state.ends ≡ true → word ≡ [] → Source index word
  source_of_end index Nothing state word at is ends none = let no : true ≡ false = sym ends ∙ is.0 in absurd cc
  source_of_end index End state word at is ends none = ([], IsWordFrom.Ends at refl, none)
  source_of_end index (Fork edge) state word at is ends none = let no : true ≡ false = sym ends ∙ is.0 in absurd cc

  source_of_step : (index : ℕ) (node : Node) (state : State) (step : Step) (shorter word : List Letter)
      → slice_get nodes index ≡ Some node → IsStateOf images node state → Contains state.steps.items step
      → Source step.to shorter → word ≡ with_letters step.letters.items shorter → Source index word
  source_of_step index Nothing state step shorter word at is listed later said =
      absurd (none_stands state.steps.items step is.1 listed)
  source_of_step index End state step shorter word at is listed later said =
      absurd (none_stands state.steps.items step is.1 listed)
  source_of_step index (Fork edge) state step shorter word at is listed later said =
      let of = is.1 in
      elim (one_of_two state.steps.items of.by_edge of.by_others step of.steps_are listed) as (λ _. Source index word) [
        | inl first ↦
            let to : step.to ≡ edge.to = ap (λ (s : Step). s.to) (sym first) ∙ of.edge_to in
            let letters : step.letters.items ≡ image_of images edge.letter =
            ap (λ (s : Step). s.letters.items) (sym first) ∙ of.letters_are in (
              edge.letter ∷ later.0,
              IsWordFrom.GoesOn edge at later.0 (subst (λ (n : ℕ). IsWordFrom nodes n later.0) to later.1) refl,
              said ∙ (ap (λ (l : List Letter). with_letters l shorter) letters
                  ∙ ap (λ (w : List Letter). with_letters (image_of images edge.letter) w) later.2),
            )
        | inr second ↦
            let to : step.to ≡ edge.others = ap (λ (s : Step). s.to) (sym second) ∙ of.others_to in
            let letters : step.letters.items ≡ [] =
            ap (λ (s : Step). s.letters.items) (sym second) ∙ of.no_letters in (
              later.0,
              IsWordFrom.IsOther edge at (subst (λ (n : ℕ). IsWordFrom nodes n later.0) to later.1),
              said ∙ (ap (λ (l : List Letter). with_letters l shorter) letters ∙ later.2),
            )
      ]

  source_of : (more index : ℕ) (word : List Letter) → IsSaid states more index word → Source index word
  source_of zero index word said =
      let found = are.are index said.0 said.1 in
      source_of_end index found.0 said.0 word found.1 found.2 said.2 said.3
  source_of (suc more) index word said =
      let found = are.are index said.0 said.1 in
      source_of_step index found.0 said.0 said.2 said.4 word found.1 found.2 said.3
      (source_of more said.2.to said.4 said.5) said.6

  -- ---- and each image is said

  abbrev Said : ℕ → List Letter → Type 0
  Said index word = (more : ℕ) × IsSaid states more index word

  state_at : (index : ℕ) (node : Node) → slice_get nodes index ≡ Some node → index < count
      → (state : State) × (slice_get states index ≡ Some state) × IsStateOf images node state
  state_at index node at low =
      let many = are.as_many in
      let there = element_at states index (omega (arith, many, low)) in
      let found = are.are index there.0 there.1 in
      let same : found.0 ≡ node = same_some found.0 node (sym found.1 ∙ at) in
      (there.0, there.1, subst (λ (n : Node). IsStateOf images n there.0) same found.2)

  said : (index : ℕ) (source : List Letter) → IsWordFrom nodes index source → index < count
      → Said index (word_image images source)
  said index source (IsWordFrom.Ends at none) low =
      let state = state_at index End at low in
      (0, (state.0, state.1, state.2.0, ap (word_image images) none))
  said index source (IsWordFrom.GoesOn edge at later is begins) low =
      let state = state_at index (Fork edge) at low in
      let of = state.2.1 in
      let back = normal.back index edge at in
      let on = said edge.to later is (omega (arith, low, back.0)) in (
        suc on.0,
        (
          state.0,
          state.1,
          of.by_edge,
          first_stands state.0.steps.items of.by_edge of.by_others of.steps_are,
          word_image images later,
          subst (λ (n : ℕ). IsSaid states on.0 n (word_image images later)) (sym of.edge_to) on.1,
          ap (word_image images) begins
              ∙ ap (λ (l : List Letter). with_letters l (word_image images later)) (sym of.letters_are),
        ),
      )
  said index source (IsWordFrom.IsOther edge at is) low =
      let state = state_at index (Fork edge) at low in
      let of = state.2.1 in
      let back = normal.back index edge at in
      let on = said edge.others source is (omega (arith, low, back.1)) in (
        suc on.0,
        (
          state.0,
          state.1,
          of.by_others,
          second_stands state.0.steps.items of.by_edge of.by_others of.steps_are,
          word_image images source,
          subst (λ (n : ℕ). IsSaid states on.0 n (word_image images source)) (sym of.others_to) on.1,
          ap (λ (l : List Letter). with_letters l (word_image images source)) (sym of.no_letters),
        ),
      )

  -- so the words of what is said are the images
  pub have_images : (into : List Node) (made : List ℕ) → HaveWordsOfStates into states made (length states)
      → HaveImages nodes images into made count
  have_images into made has = record {
    as_many = has.as_many ∙ are.as_many;
    within = has.within;
    right = λ index node word at is.
        let found = has.right index node word at is in source_of found.0 index word found.1;
    complete = λ index node source at is.
        let low = slice_get_within made index node at in
        let many = has.as_many in
        let all = are.as_many in
        let found = said index source is (omega (arith, low, many, all)) in
        has.complete index node found.0 (word_image images source) at found.1;
  }
