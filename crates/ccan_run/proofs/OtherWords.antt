-- Which words the command line refuses: what clap makes of a word that is not written out, by how it begins.
use Rattle.std.proofs.Common.{◌≡◌, ◌≢◌, ℕ, List, [], ◌∷◌, ◌||◌, ◌&&◌, ◌==◌, Bool, true, false, not, cond, zero, suc, length}
use Rattle.std.proofs.Common.{Option, Some, None, refl, sym, ap, ap₂, subst, codes}
use Rattle.std.specs.Prelude.{fold, slice_get}
use Rattle.std.specs.List.{list_any}
use Rattle.std.specs.Option.{option_map_or}
use Rattle.std.specs.Str.{bytes_eq, chars}
use Rattle.std.proofs.lemmas.Bool.{false_from_ne_true}
use Rattle.std.proofs.lemmas.Slice.Eq.{bytes_eq-Decides}
use Rattle.clap.specs.Lexer.{long_of, short_of}
use Rattle.clap.specs.Words.{Rule, Shape, Text, same_text}
use Rattle.clap.specs.Kinds.{Kinds, or_else}
use Rattle.clap.specs.Simple.{built, filled, help_rule}
use Rattle.clap.specs.Faults.{bundle_fault, bundle_step_fault, flag_word_fault, flags_fault, level_fault, long_fault}
use Rattle.clap.specs.Faults.{settle_fault, short_fault, turn_fault, walk_fault, word_fault}
use Rattle.clap.specs.Walk.{Held, Outcome, Walk, after_flag, arg_by_long, arg_by_short, bundle_met, bundle_step, idle}
use Rattle.clap.specs.Walk.{long_or_other, nothing_held, plain, short_or_plain, value, walk, walk_from, walked, word_met}
use Rattle.clap.specs.declared.error.kind.ErrorKind.{ErrorKind}
use Rattle.clap.specs.declared.error.kind.ErrorKind.TheVariants.{DisplayHelp, InvalidValue}
use Rattle.ccan_run.specs.RunMode.{AreModes, Names, ccan}
use Rattle.ccan_run.specs.CommandLine.{AreOther, OtherWordsAreRefused, without_options_end}
use Rattle.ccan_run.proofs.CommandWords.{modes_take}

-- two steps pass only where each does
first_passes : (a b : Kinds) → or_else a b ≡ [] → a ≡ []
first_passes [] b none = refl
first_passes (k ∷ ks) b none = none

second_passes : (a b : Kinds) → or_else a b ≡ [] → b ≡ []
second_passes [] b none = none
second_passes (k ∷ ks) b none = cc

help_asked : (before : Kinds) → or_else before (DisplayHelp ∷ []) ≡ [] → ⊥
help_asked [] none = cc
help_asked (k ∷ ks) none = cc

-- a level that passes has passed its words, and what is held at their end
level_parts : (s : Shape) (h : Held) (words : List Text) (has_subcommand : Bool) (below : Kinds)
    → level_fault s [] h words has_subcommand below ≡ []
    → (walk_fault s [] (walk_from h) words ≡ [])
    × (settle_fault s.rules s.args_override_self (walk s.rules [] h words).held ≡ [])
level_parts s h words has_subcommand below none = (
  first_passes _ _ none,
  first_passes _ _ (second_passes below _ (second_passes (walk_fault s [] (walk_from h) words) _ none)),
)

-- what is held once the words so far have passed
abbrev held : Option (Text × List Text) → Held
held pending = record { rows = []; pending = pending; skip = 0 }

abbrev held_mode : Text → Held
held_mode word = held (Some (codes "mode", word ∷ []))

-- between two words, with the positional that is next, and whether a `--` was met
abbrev between : Held → ℕ → Bool → Walk
between h position trailing =
    record { held = h; waiting = idle; position = position; is_trailing = trailing; stopped = None }

abbrev at_start : Bool → Walk
at_start = between nothing_held 1

abbrev after_first : Text → Bool → Walk
after_first word = between (held_mode word) 2

-- the word is a `--` that ends the options
abbrev ends_options : Bool → Text → Bool
ends_options trailing word = not trailing && bytes_eq word (codes "--")

-- the words that count, where a `--` may have been met
abbrev counted : Bool → List Text → List Text
counted true words = words
counted false words = without_options_end words

is_accepted : (test : Bool) (k : ErrorKind) → cond test [] (k ∷ []) ≡ [] → test ≡ true
is_accepted true k none = refl
is_accepted false k none = cc

differs : (name word : Text) → word ≢ name → bytes_eq name word ≡ false
differs name word other = false_from_ne_true _ (λ is. other (sym ((bytes_eq-Decides name word).0 is)))

module _ (names : Names) where
  -- the command as it is built has two rules: the word of the mode, and the flag of the help
  abbrev shape : Shape
  shape = (built (ccan names)).top

  abbrev rules : List Rule
  rules = shape.rules

  abbrev help_if : Bool → Option Rule
  help_if test = cond (test || false) (Some (filled help_rule)) None

  -- ---- flags

  help_refused : (given : Option Text) (h : Held) → long_fault rules false (help_if true) given h ≡ [] → ⊥
  unfolding ccan
  help_refused None h none = help_asked _ none
  help_refused (Some v) h none = cc

  -- a flag is that of the help, or unknown
  long_refused : (name : Text) (given : Option Text) (h : Held)
      → long_fault rules false (arg_by_long rules name) given h ≡ [] → ⊥
  unfolding ccan
  long_refused name given h = elim (bytes_eq (codes "help") name)
      as (λ test. long_fault rules false (help_if test) given h ≡ [] → ⊥)
      [ true ↦ help_refused given h | false ↦ λ none. cc ]

  short_refused : (x : ℕ) (rest : Text) (h : Held) (next : Held → Kinds)
      → short_fault rules false (arg_by_short rules x) rest h next ≡ [] → ⊥
  unfolding ccan
  short_refused x rest h next = elim (104 == x)
      as (λ test. short_fault rules false (help_if test) rest h next ≡ [] → ⊥)
      [ true ↦ λ none. help_asked _ (first_passes _ _ none) | false ↦ λ none. cc ]

  -- so a bundle that passes has no flag
  no_flags : (k : ℕ) (flags : Text) (h : Held) → flags_fault rules false k flags 0 h ≡ []
      → bundle_met rules k flags 0 plain h ≡ (h, plain)
  unfolding flags_fault bundle_met
  no_flags zero flags h none = refl
  no_flags (suc k) flags h none = (elim (slice_get (chars flags) 0)
      as (λ first. bundle_step_fault rules false first flags 0 h (flags_fault rules false k) ≡ []
      → bundle_step rules first flags 0 plain h (bundle_met rules k) ≡ (h, plain))
      [ None ↦ λ passes. refl | Some x ↦ λ passes. absurd (short_refused x _ h _ passes) ]) none

  short_is_value : (word : Text) (p : Option (Text × List Text))
      → option_map_or (λ flags. bundle_fault rules false flags (held p)) (short_of word) [] ≡ []
      → short_or_plain rules idle word (short_of word) (held p) ≡ (held p, value)
  short_is_value word p = elim (short_of word)
      as (λ short. option_map_or (λ flags. bundle_fault rules false flags (held p)) short [] ≡ []
      → short_or_plain rules idle word short (held p) ≡ (held p, value)) [
        | None ↦ λ none. refl
        | Some flags ↦ λ none.
            ap (λ (met : Held × Outcome). after_flag rules idle word met.0 met.1) (no_flags (length flags) flags (held p) none)
      ]

  flag_is_value : (word : Text) (p : Option (Text × List Text)) → flag_word_fault rules false (long_of word) word (held p) ≡ []
      → long_or_other rules idle word (long_of word) (held p) ≡ (held p, value)
  flag_is_value word p = elim (long_of word)
      as (λ long. flag_word_fault rules false long word (held p) ≡ []
      → long_or_other rules idle word long (held p) ≡ (held p, value))
      [ None ↦ short_is_value word p | Some q ↦ λ none. absurd (long_refused q.0 q.1 (held p) none) ]

  -- ---- one word

  -- a word that passes is a value, unless it ends the options
  word_is_value : (word : Text) (p : Option (Text × List Text)) (position : ℕ) (trailing : Bool)
      → ends_options trailing word ≡ false → turn_fault shape [] (between (held p) position trailing) word ≡ []
      → word_met rules [] trailing idle position word (held p) ≡ (held p, value)
  unfolding ccan
  word_is_value word p position true here none = refl
  word_is_value word p position false here none =
      let passes : word_fault shape [] false idle word (held p) ≡ [] = first_passes _ _ none in
      rw here (flag_is_value word p (rw here at passes))

  first_walked : (word : Text) (trailing : Bool) → ends_options trailing word ≡ false
      → turn_fault shape [] (at_start trailing) word ≡ [] → walked rules [] (at_start trailing) word ≡ after_first word trailing
  unfolding ccan walked
  first_walked word true here none = refl
  first_walked word false here none = rw (word_is_value word None 1 false here none) refl

  dashes_walked : (word : Text) (h : Held) (position : ℕ) → bytes_eq word (codes "--") ≡ true
      → walked rules [] (between h position false) word ≡ between h position true
  unfolding ccan walked
  dashes_walked word h position is = rw is refl

  -- the only positional takes one word
  second_refused : (first word : Text) (trailing : Bool) → ends_options trailing word ≡ false
      → turn_fault shape [] (after_first first trailing) word ≡ [] → ⊥
  unfolding ccan
  second_refused first word trailing here none =
      let passes = second_passes (word_fault shape [] trailing idle word (held_mode first)) _ none in
      let stray = rw (word_is_value word _ 2 trailing here none) at passes in cc

  -- and that word has to be the name of a mode
  abbrev IsMode : Text → Type 0
  IsMode word = settle_fault rules false (held_mode word) ≡ []

  other_refused : AreModes names → (word : Text) → word ≢ codes "run" → word ≢ codes "threads" → IsMode word → ⊥
  unfolding ccan
  other_refused modes word run threads none =
      let takes : list_any (λ n. same_text false n.now word) names.now ≡ true =
      is_accepted _ InvalidValue (first_passes _ _ none) in
      let named = rw (modes_take names word modes) at takes in
      let bad = rw (differs (codes "run") word run, differs (codes "threads") word threads) at named in cc

  -- ---- the words

  -- the words pass from here on, and so does what is held at their end
  record Pass (w : Walk) (words : List Text) : Type 0 where
    walks : walk_fault shape [] w words ≡ []
    settles : settle_fault rules false (fold (walked rules []) w words).held ≡ []

  turn_passes : (w : Walk) (word : Text) (words : List Text) → Pass w (word ∷ words) → turn_fault shape [] w word ≡ []
  unfolding walk_fault
  turn_passes w word words p = first_passes _ _ p.walks

  rest_passes : (w after : Walk) (word : Text) (words : List Text) → walked rules [] w word ≡ after
      → Pass w (word ∷ words) → Pass after words
  unfolding walk_fault
  rest_passes w after word words is p = subst (λ to. Pass to words) is (record {
    walks = second_passes (turn_fault shape [] w word) _ p.walks;
    settles = p.settles;
  })

  -- no word that counts passes after the first, and the first is the name of a mode
  one_passes : (word : Text) (trailing : Bool) (words : List Text) → Pass (after_first word trailing) words
      → (counted trailing words ≡ []) × IsMode word
  one_passes word true [] p = (refl, p.settles)
  one_passes word false [] p = (refl, p.settles)
  one_passes word true (next ∷ words) p = absurd (second_refused word next true refl (turn_passes _ next words p))
  one_passes word false (next ∷ words) p = by_test (one_passes word true words) _ refl
    where
      by_test : (Pass (after_first word true) words → (words ≡ []) × IsMode word)
          → (test : Bool) → bytes_eq next (codes "--") ≡ test
          → (without_options_end (next ∷ words) ≡ []) × IsMode word
      by_test then false is = absurd (second_refused word next false is (turn_passes _ next words p))
      by_test then true is = let one = then (rest_passes _ _ next words (dashes_walked next _ 2 is) p) in (rw is one.0, one.1)

  first_refused : AreModes names → (word : Text) (trailing : Bool) (words : List Text) → ends_options trailing word ≡ false
      → Pass (at_start trailing) (word ∷ words) → AreOther (word ∷ counted trailing words) → ⊥
  first_refused modes word trailing words here p other =
      let walks = first_walked word trailing here (turn_passes _ word words p) in
      let one = one_passes word trailing words (rest_passes _ _ word words walks p) in
      let alone = λ (name : Text) (is : word ≡ name). ap₂ (λ w ws. w ∷ ws) is one.0 in
      other_refused modes word (λ is. other.not_run (alone _ is)) (λ is. other.not_threads (alone _ is)) one.1

  others_refused : AreModes names → (trailing : Bool) (words : List Text) → Pass (at_start trailing) words
      → AreOther (counted trailing words) → ⊥
  others_refused modes true [] p other = other.some refl
  others_refused modes false [] p other = other.some refl
  others_refused modes true (word ∷ words) p other = first_refused modes word true words refl p other
  others_refused modes false (word ∷ words) p other = by_test (others_refused modes true words) _ refl
    where
      by_test : (Pass (at_start true) words → AreOther words → ⊥) → (test : Bool) → bytes_eq word (codes "--") ≡ test → ⊥
      by_test then false is = first_refused modes word false words is p (rw is at other)
      by_test then true is = then (rest_passes _ _ word words (dashes_walked word _ 1 is) p) (rw is at other)

pub other_words : OtherWordsAreRefused
unfolding ccan
other_words words other program mode h =
    let parts = level_parts (shape h.names) nothing_held words _ _ h.taken in
    others_refused h.names h.modes false words (record { walks = parts.0; settles = parts.1 }) other
