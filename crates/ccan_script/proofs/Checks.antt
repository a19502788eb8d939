-- What is found at members and frames, of a value as the program has it and of the data that it shows.
use Rattle.std.proofs.Common.{◌≡◌, ◌∙◌, ℕ, List, [], ◌∷◌, Bool, true, false, Option, Some, None, ◌+◌, ◌<◌, ◌≤◌, ◌&&◌}
use Rattle.std.proofs.Common.{cond, not}
use Rattle.std.proofs.Common.{inl, inr, codes, map, length, drop, get_or, add-one, arith}
use Rattle.std.proofs.Common.{is_some, unwrap_or, refl, ap, sym, suc, option_and_then, option_map}
use Rattle.std.specs.List.{list_all, position, prefix_len, slice_get}
use Rattle.std.specs.Option.{option_map_or, option_or}
use Rattle.std.proofs.Math.Seq.{drop-cons}
use Rattle.std.proofs.lemmas.List.{drop_all}
use Rattle.std.proofs.lemmas.Option.{slice_get_cases, slice_get-map}
use Rattle.serde_json.specs.Data.{Data, Members, no_members, member}
use Rattle.ccan_object.specs.declared.register.Reg.{Reg}
use Rattle.serde_json.specs.Find.{get}
use Rattle.serde_json.specs.View.{view}
use Rattle.serde_json.specs.declared.value.Value.{Value}
use Rattle.ccan_script.specs.Json.{has_only, lines_in, word_in}
use Rattle.ccan_script.specs.FrameLine.{frame_fault}
use Rattle.ccan_script.specs.LineFault.{shape_then_range}
use Rattle.ccan_script.specs.Member.{frame_numbers, frame_row, is_needed, kind_of, name_of, text_of, texts_of}
use Rattle.ccan_script.specs.Members.{has_member, has_members, is_in_its_range, is_of_kind, members_fault}
use Rattle.ccan_script.specs.RegisterSet.{register_named, setting, settings}
use Rattle.ccan_script.specs.Round.{frames_in}
use Rattle.ccan_script.specs.declared.line_context.LineContext.{LineContext}
use Rattle.ccan_script.specs.declared.member_name.MemberName.TheVariants.{Send, Set}
use Rattle.ccan_script.specs.declared.member.Member.{Member}
use Rattle.ccan_script.specs.declared.check.line_path.Part.{Part}
use Rattle.ccan_script.specs.declared.check.line_path.Part.TheVariants as part
use Rattle.ccan_script.specs.FirstFault.{first_found, in_line, part_at, part_found, range_found, register_found}
use Rattle.ccan_script.specs.FirstFault.{registers_found, round_place, shape_found, unless}

-- ---- the first member at which something is found

-- d is any member, which stands for one past the end
module _ (check : Member → Option Part) (ms : List Member) (i : ℕ) (d : Member) where
  at_member : i < length ms
      → first_found check (drop i ms) ≡ option_or (check (get_or ms i d)) (first_found check (drop (i + 1) ms))
  at_member lt =
      ap (first_found check) (drop-cons ms i d lt)
      ∙ ap (λ (n : ℕ). option_or (check (get_or ms i d)) (first_found check (drop n ms))) (sym (add-one i))

  pub member_found : (at : Part) → i < length ms → first_found check ms ≡ first_found check (drop i ms)
      → Some at ≡ check (get_or ms i d) → Some at ≡ first_found check ms
  member_found at lt inv here =
      sym (inv ∙ at_member lt ∙ ap (λ (o : Option Part). option_or o (first_found check (drop (i + 1) ms))) (sym here))

  pub member_passed : i < length ms → first_found check ms ≡ first_found check (drop i ms)
      → None ≡ check (get_or ms i d) → first_found check ms ≡ first_found check (drop (i + 1) ms)
  member_passed lt inv here =
      inv ∙ at_member lt ∙ ap (λ (o : Option Part). option_or o (first_found check (drop (i + 1) ms))) (sym here)

pub all_passed : (check : Member → Option Part) (ms : List Member) (i : ℕ) → length ms ≤ i
    → first_found check ms ≡ first_found check (drop i ms) → None ≡ first_found check ms
all_passed check ms i past inv = sym (inv ∙ ap (first_found check) (drop_all i ms past))

-- ---- something is found exactly when the table of members refuses it

unless_found : (b : Bool) (at : Part) → is_some (unless b at) ≡ not b
unless_found true at = refl
unless_found false at = refl

or_found : (o p : Option Part) (a b : Bool) → is_some o ≡ not a → is_some p ≡ not b → is_some (option_or o p) ≡ not (a && b)
or_found (Some x) p true b h k = cc
or_found (Some x) p false b h k = refl
or_found None p true b h k = k
or_found None p false b h k = cc

all_found : (check : Member → Option Part) (holds : Member → Bool) → ((m : Member) → is_some (check m) ≡ not (holds m))
    → (ms : List Member) → is_some (first_found check ms) ≡ not (list_all holds ms)
all_found check holds each [] = refl
all_found check holds each (m ∷ ms) =
    or_found (check m) (first_found check ms) (holds m) (list_all holds ms) (each m) (all_found check holds each ms)

-- of a register and its text
register_refused : (n : List ℕ) (v : Data) → is_some (register_found n v) ≡ not (is_some (setting n v))
unfolding setting
register_refused n v = named (register_named n)
  where
    told : (register : Reg) (word : Option ℕ)
        → is_some (unless (is_some word) (part.Register register))
        ≡ not (is_some {T = Reg × ℕ} (option_map (λ w. (register, w)) word))
    told register None = refl
    told register (Some w) = refl

    named : (o : Option Reg)
        → is_some (option_map_or (λ r. unless (is_some (word_in v)) (part.Register r)) o (Some (part.Member Set)))
        ≡ not (is_some {T = Reg × ℕ} (option_and_then (λ r. option_map (λ w. (r, w)) (word_in v)) o))
    named None = refl
    named (Some register) = told register (word_in v)

pub registers_refused : (set : Members) → is_some (registers_found set) ≡ not (is_some (settings set))
registers_refused no_members = refl
registers_refused (member n v set) =
    or_found (register_found n v) (registers_found set) (is_some (setting n v)) (is_some (settings set)) (register_refused n v)
    (registers_refused set)
    ∙ ap not (both (setting n v) (settings set))
  where
    both : (o : Option (Reg × ℕ)) (p : Option (List (Reg × ℕ)))
        → (is_some o && is_some p) ≡ is_some (option_and_then (λ first. option_map (λ rest. first ∷ rest) p) o)
    both None p = refl
    both (Some first) None = refl
    both (Some first) (Some rest) = refl

in_turn : (names shapes ranges : Bool) → not (names && (shapes && ranges)) ≡ is_some (shape_then_range (names && shapes) ranges)
in_turn true true true = refl
in_turn true true false = refl
in_turn true false ranges = refl
in_turn false shapes ranges = refl

module _ (context : LineContext) (d : Data) where
  member_refused : (m : Member) → is_some (shape_found d m) ≡ not (has_member d m)
  unfolding shape_found has_member
  member_refused m = go (get (text_of m) d)
    where
      go : (o : Option Data)
          → is_some (option_map_or (λ v. unless (is_of_kind (kind_of m) v) (part_at m v)) o
          (unless (not (is_needed m)) part.Whole))
          ≡ not (option_map_or (is_of_kind (kind_of m)) o (not (is_needed m)))
      go None = unless_found (not (is_needed m)) part.Whole
      go (Some v) = unless_found (is_of_kind (kind_of m) v) (part_at m v)

  range_refused : (m : Member) → is_some (range_found context d m) ≡ not (is_in_its_range context d m)
  unfolding range_found
  range_refused m = unless_found (is_in_its_range context d m) (part.Member (name_of m))

  pub found_refused : (row numbers : List Member)
      → is_some (part_found context row numbers d) ≡ is_some (members_fault context row numbers d)
  unfolding part_found members_fault has_members
  found_refused row numbers =
      or_found _ _ _ _ (unless_found (has_only (texts_of row) d) part.Whole)
      (or_found _ _ _ _ (all_found (shape_found d) (has_member d) member_refused row)
      (all_found (range_found context d) (is_in_its_range context d) range_refused numbers))
      ∙ in_turn (has_only (texts_of row) d) (list_all (has_member d) row) (list_all (is_in_its_range context d) numbers)

-- ---- values

pub none_past : (vs : List Value) (i : ℕ) → length vs ≤ i → slice_get vs i ≡ None
none_past vs i past = elim (slice_get_cases vs i).1 [ inl at ↦ absurd (omega arith) | inr h ↦ h.1 ]

-- ---- frames

prefix_len-map : (p : Data → Bool) (vs : List Value) → prefix_len p (map view vs) ≡ prefix_len (λ v. p (view v)) vs
prefix_len-map p [] = refl
prefix_len-map p (v ∷ vs) = ap (λ (n : ℕ). cond (p (view v)) (1 + n) 0) (prefix_len-map p vs)

length-map_view : (vs : List Value) → length (map view vs) ≡ length vs
length-map_view [] = refl
length-map_view (v ∷ vs) = ap suc (length-map_view vs)

position-map : (p : Data → Bool) (vs : List Value) → position p (map view vs) ≡ position (λ v. p (view v)) vs
position-map p vs = rw (prefix_len-map (λ d. not (p d)) vs, length-map_view vs) refl

pub as_frames : (d : Data) (vs : List Value) → map view vs ≡ lines_in (get (codes "send") d) → map view vs ≡ frames_in d
unfolding frames_in
as_frames d vs h = h

module _ (context : LineContext) (d : Data) (vs : List Value) (are : map view vs ≡ frames_in d) where
  -- the first frame of the round at fault is that of the values
  same_first : position (λ f. is_some (frame_fault context.nodes f)) (frames_in d)
      ≡ position (λ v. is_some (frame_fault context.nodes (view v))) vs
  same_first = ap (position (λ f. is_some (frame_fault context.nodes f))) (sym are)
      ∙ position-map (λ f. is_some (frame_fault context.nodes f)) vs

  pub no_frame : position (λ v. is_some (frame_fault context.nodes (view v))) vs ≡ None
      → in_line (part.Member Send) ≡ round_place context d
  unfolding round_place
  no_frame none = let here = same_first ∙ none in rw here refl

  frame_is : (i : ℕ) (o : Option Value) → slice_get vs i ≡ o → slice_get (frames_in d) i ≡ option_map view o
  frame_is i o is = ap (λ ds. slice_get ds i) (sym are) ∙ slice_get-map view vs i ∙ ap (option_map view) is

  pub frame_there : (i : ℕ) (v : Value) → position (λ v. is_some (frame_fault context.nodes (view v))) vs ≡ Some i
      → slice_get vs i ≡ Some v
      → record { frame = Some i; part = unwrap_or (part_found context frame_row frame_numbers (view v)) part.Whole }
      ≡ round_place context d
  unfolding round_place
  frame_there i v first is = let here = same_first ∙ first in let it = frame_is i (Some v) is in rw (here, it) refl

  pub frame_gone : (i : ℕ) → position (λ v. is_some (frame_fault context.nodes (view v))) vs ≡ Some i → slice_get vs i ≡ None
      → record { frame = Some i; part = part.Whole } ≡ round_place context d
  unfolding round_place
  frame_gone i first is = let here = same_first ∙ first in let it = frame_is i None is in rw (here, it) refl
