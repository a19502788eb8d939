-- The faults of lines are those of their rows in the table of members.
use Rattle.std.proofs.Common.{◌≡◌, ◌≢◌, ◌∙◌, ℕ, Bool, true, false, ◌&&◌, ◌||◌, List, [], ◌∷◌, Option, Some, None}
use Rattle.std.proofs.Common.{◌<◌, ◌≤◌, ◌-◌, ◌^◌, ◌==◌, nat_le, nat_lt, codes, is_some, refl, ap, ap₂, sym}
use Rattle.std.proofs.Common.{arith, le-leb, pow_pos}
use Rattle.std.specs.List.{list_all}
use Rattle.std.specs.Option.{option_map_or}
use Rattle.std.specs.Str.{bytes_eq}
use Rattle.std.proofs.lemmas.Bool.{and_parts, leb-true}
use Rattle.std.proofs.lemmas.Bool.Decides.{nat_tests}
use Rattle.serde_json.specs.Data.{Data, Members}
use Rattle.serde_json.specs.Find.{as_object, get}
use Rattle.ccan_accept.specs.Frame.{identifier_bits}
use Rattle.ccan_script.specs.declared.bus_op.BusOp.{BusOp}
use Rattle.ccan_script.specs.declared.bus_op.BusOp.TheVariants as bus
use Rattle.ccan_script.specs.declared.host_op.HostOp.{HostOp}
use Rattle.ccan_script.specs.declared.host_op.HostOp.TheVariants as host
use Rattle.ccan_script.specs.declared.line_context.LineContext.{LineContext}
use Rattle.ccan_script.specs.declared.line_fault.LineFault.{LineFault}
use Rattle.ccan_script.specs.declared.member_name.MemberName.{MemberName}
use Rattle.ccan_script.specs.declared.member_name.MemberName.TheVariants as name
use Rattle.ccan_script.specs.declared.member.Kind.TheVariants as kind
use Rattle.ccan_script.specs.declared.member.Member.{Member}
use Rattle.ccan_script.specs.declared.member.Member.TheVariants.{Needed}
use Rattle.ccan_script.specs.declared.member.Range.{Range}
use Rattle.ccan_script.specs.BusLine.{bus_fault_by, is_control, members_fault_by}
use Rattle.ccan_script.specs.FaultName.{fault_in}
use Rattle.ccan_script.specs.FlagLine.{asks_flag}
use Rattle.ccan_script.specs.FlagName.{flag_in}
use Rattle.ccan_script.specs.FrameLine.{FrameWords, data_in, frame_fault, frame_members, has_its_length}
use Rattle.ccan_script.specs.FrameLine.{is_frame, is_in_range, words_of}
use Rattle.ccan_script.specs.HostLine.{host_fault_by, is_transfer, is_until, request_in, settings_of}
use Rattle.ccan_script.specs.Json.{has_number, has_only, is_among, is_bare, names_in, whole_in}
use Rattle.ccan_script.specs.LineFault.{first_fault, range_check, shape_check, shape_then_range}
use Rattle.ccan_script.specs.Laws.{GoByTable}
use Rattle.ccan_script.specs.Member.{bus_row, flag_member, frame_numbers, frame_row, host_row, operation_member, texts_of}
use Rattle.ccan_script.specs.MemberName.{name_text}
use Rattle.ccan_script.specs.Members.{has_member, has_members, is_in_its_range, members_fault, range_of}
use Rattle.ccan_script.specs.Round.{are_distinct, can_send, frames_fault, frames_in, is_round, round_fault, senders_of}
use Rattle.ccan_script.proofs.MemberKinds.{bus_named, host_named}
use Rattle.ccan_script.proofs.MemberKinds.{has_data, has_fault, has_number_or_zero, has_send, same_number}
use Rattle.ccan_script.proofs.MemberKinds.{four_behind, one_behind, shape_alone, three_behind, two_behind}
use Rattle.ccan_script.proofs.MemberKinds.{has_flag, has_number_named, has_operation, has_request, has_set}

-- ---- plain tests

and_true : (b : Bool) → (b && true) ≡ b
and_true true = refl
and_true false = refl

or_other : (a b c : Bool) → (a || (b || (c || false))) ≡ (a || (c || (b || false)))
or_other true b c = refl
or_other false true true = refl
or_other false true false = refl
or_other false false true = refl
or_other false false false = refl

-- the last two names may stand in either order
other_order : (a b c : List ℕ) (d : Data) → has_only (a ∷ b ∷ c ∷ []) d ≡ has_only (a ∷ c ∷ b ∷ []) d
unfolding has_only
other_order a b c d = go (as_object d)
  where
    each : (ns : List (List ℕ)) → list_all (is_among (a ∷ b ∷ c ∷ [])) ns ≡ list_all (is_among (a ∷ c ∷ b ∷ [])) ns
    each [] = refl
    each (n ∷ ns) = ap₂ ◌&&◌ (or_other (bytes_eq a n) (bytes_eq b n) (bytes_eq c n)) (each ns)

    go : (o : Option Members) → option_map_or (λ ms. list_all (is_among (a ∷ b ∷ c ∷ [])) (names_in ms)) o false
        ≡ option_map_or (λ ms. list_all (is_among (a ∷ c ∷ b ∷ [])) (names_in ms)) o false
    go None = refl
    go (Some ms) = each (names_in ms)

-- a number that has passed its check is in its range
pub within : (shape : Bool) (least greatest n : ℕ) → shape_then_range shape (nat_le least n && nat_le n greatest) ≡ None
    → (least ≤ n) × (n ≤ greatest)
within shape least greatest n passed =
    let both = and_parts (nat_le least n) (nat_le n greatest) (go shape _ passed) in
    (leb-true least n both.0, leb-true n greatest both.1)
  where
    go : (shape range : Bool) → shape_then_range shape range ≡ None → range ≡ true
    go true true h = refl
    go true false h = cc
    go false range h = cc

-- ---- the ranges of a frame

regroup : (a b c d e f : Bool) → ((a && b) && (c && (d && (e && (f && true))))) ≡ (a && b && c && d && e && f)
regroup false b c d e f = refl
regroup true false c d e f = refl
regroup true true false d e f = refl
regroup true true true false e f = refl
regroup true true true true false f = refl
regroup true true true true true true = refl
regroup true true true true true false = refl

at_least_zero : (n : ℕ) → nat_le 0 n ≡ true
at_least_zero n = le-leb 0 n (omega arith)

one_less : (n m : ℕ) → 0 < m → nat_le n (m - 1) ≡ nat_lt n m
one_less n m some = grind (arith, nat_tests)

ranges : (nodes : ℕ) (w : FrameWords)
    → ((nat_le 1 w.node && nat_le w.node nodes) && ((nat_le 0 w.xtd && nat_le w.xtd 1)
    && ((nat_le 0 w.rtr && nat_le w.rtr 1)
    && ((nat_le 0 w.id && nat_le w.id (2 ^ identifier_bits (w.xtd == 1) - 1))
    && ((nat_le 0 w.dlc && nat_le w.dlc 15) && true)))))
    ≡ is_in_range nodes w
ranges nodes w =
    rw (
      at_least_zero w.xtd,
      at_least_zero w.rtr,
      at_least_zero w.id,
      at_least_zero w.dlc,
      one_less w.id (2 ^ identifier_bits (w.xtd == 1)) (pow_pos (identifier_bits (w.xtd == 1))),
    )
    (regroup (nat_le 1 w.node) (nat_le w.node nodes) (nat_le w.xtd 1) (nat_le w.rtr 1)
    (nat_lt w.id (2 ^ identifier_bits (w.xtd == 1))) (nat_le w.dlc 15))

-- ---- lines

module _ (context : LineContext) (d : Data) (here : is_some (get (codes "op") d) ≡ true) where
  op_there : has_member d operation_member ≡ true
  op_there = has_operation d here

  -- ---- shapes

  -- the members besides the operation decide, once the names are known
  named : (row : List Member) (b : Bool) → list_all (has_member d) row ≡ b
      → has_members row d ≡ (has_only (texts_of row) d && b)
  unfolding has_members
  named row b is = ap (λ t. has_only (texts_of row) d && t) is

  bare_row : has_members (operation_member ∷ []) d ≡ is_bare d
  bare_row = named (operation_member ∷ []) true (one_behind _ op_there) ∙ and_true (is_bare d)

  flag_row : has_members (operation_member ∷ flag_member ∷ []) d ≡ asks_flag d
  unfolding asks_flag
  flag_row = named (operation_member ∷ flag_member ∷ []) (is_some (flag_in d)) (two_behind _ _ _ op_there (has_flag d))

  number_row : (n : MemberName) (r : Range) → has_members (operation_member ∷ Needed n (kind.Number r) ∷ []) d
      ≡ has_number (name_text n) d
  unfolding has_number
  number_row n r =
      named (operation_member ∷ Needed n (kind.Number r) ∷ []) (is_some (whole_in (name_text n) d))
      (two_behind _ _ _ op_there (has_number_named d n r))

  control_row : has_members (bus_row bus.Control) d ≡ is_control d
  unfolding is_control
  control_row =
      named (bus_row bus.Control) (is_some (whole_in (codes "sie") d) && is_some (whole_in (codes "eie") d))
      (three_behind _ _ _ _ _ op_there (has_number_named d name.Sie _) (has_number_named d name.Eie _))

  transfer_row : has_members (host_row host.Transfer) d ≡ is_transfer d
  unfolding is_transfer
  transfer_row =
      named (host_row host.Transfer) (is_some (request_in d) && is_some (settings_of d))
      (three_behind _ _ _ _ _ op_there (has_request d) (has_set d))

  until_row : has_members (host_row host.Until) d ≡ is_until d
  unfolding is_until
  until_row =
      named (host_row host.Until)
      (is_some (whole_in (codes "object") d) && (is_some (flag_in d) && is_some (whole_in (codes "turns") d)))
      (four_behind _ _ _ _ _ _ _ op_there (has_number_named d name.Object _) (has_flag d) (has_number_named d name.Turns _))

  -- ---- faults

  bare : members_fault context (operation_member ∷ []) (operation_member ∷ []) d ≡ shape_check (is_bare d)
  unfolding members_fault is_in_its_range
  bare = shape_alone (has_members (operation_member ∷ []) d) ∙ ap shape_check bare_row

  flag : members_fault context (operation_member ∷ flag_member ∷ []) (operation_member ∷ flag_member ∷ []) d
      ≡ shape_check (asks_flag d)
  unfolding members_fault is_in_its_range
  flag = shape_alone (has_members (operation_member ∷ flag_member ∷ []) d) ∙ ap shape_check flag_row

  pub host_by_row : (op : HostOp) → members_fault context (host_row op) (host_row op) d
      ≡ host_fault_by context.profile (Some op) d
  unfolding members_fault host_fault_by is_in_its_range range_of
  host_by_row host.Transfer = shape_alone (has_members (host_row host.Transfer) d) ∙ ap shape_check transfer_row
  host_by_row host.Until = ap₂ shape_then_range until_row (ap₂ ◌&&◌ refl (and_true _))
  host_by_row host.Interrupt = bare
  host_by_row host.Flags = flag

  -- a round's row is in another order than its definition
  round_row : has_members (bus_row bus.Round) d ≡ is_round d
  unfolding is_round
  round_row =
      named (bus_row bus.Round) (is_some (fault_in d) && can_send d)
      (three_behind _ _ _ _ _ op_there (has_fault d) (has_send d))
      ∙ ap (λ t. t && (is_some (fault_in d) && can_send d)) (other_order (codes "op") (codes "fault") (codes "send") d)

  pub bus_by_row : (op : BusOp) → members_fault context (bus_row op) (bus_row op) d ≡ members_fault_by context.nodes op d
  unfolding members_fault members_fault_by bus_fault_by is_in_its_range range_of
  bus_by_row bus.Round = shape_alone (has_members (bus_row bus.Round) d) ∙ ap shape_check round_row
  bus_by_row bus.Control = ap₂ shape_then_range control_row (ap₂ ◌&&◌ refl (and_true _))
  bus_by_row bus.Flags = flag
  bus_by_row bus.Counters = ap₂ shape_then_range (number_row name.Node _) (and_true _)
  bus_by_row bus.Recessive = ap₂ shape_then_range (number_row name.Groups _) (and_true _)
  bus_by_row bus.LoopBack = ap₂ shape_then_range (number_row name.On _) (and_true _)
  -- each other operation has no more members
  bus_by_row other = bare

-- ---- frames

module _ (context : LineContext) (d : Data) where
  frame_shape : has_members frame_row d ≡ is_frame d
  unfolding has_members is_frame
  frame_shape =
      ap (λ t. has_only frame_members d && t)
      (ap₂ ◌&&◌ (has_number_named d name.Node _) (ap₂ ◌&&◌ (has_number_named d name.Id _)
      (ap₂ ◌&&◌ (has_number_or_zero d name.Xtd _) (ap₂ ◌&&◌ (has_number_or_zero d name.Rtr _)
      (ap₂ ◌&&◌ (has_number_or_zero d name.Dlc _) (ap (λ t. t && true) (has_data d) ∙ and_true (is_some (data_in d))))))))

  frame_ranges : list_all (is_in_its_range context d) frame_numbers ≡ is_in_range context.nodes (words_of d)
  unfolding is_in_its_range range_of
  frame_ranges =
      rw (same_number (codes "xtd") d, same_number (codes "rtr") d, same_number (codes "dlc") d)
      (ranges context.nodes (words_of d))

  pub frame_by_row : members_fault context frame_row frame_numbers d
      ≡ shape_then_range (is_frame d) (is_in_range context.nodes (words_of d))
  unfolding members_fault
  frame_by_row = ap₂ shape_then_range frame_shape frame_ranges

  after_members : (e : LineFault) (shape range length_is : Bool) → shape_then_range shape range ≡ Some e
      → first_fault (shape_check shape ∷ range_check range ∷ shape_check length_is ∷ []) ≡ Some e
  after_members e true true length_is h = cc
  after_members e true false length_is h = h
  after_members e false range length_is h = h

  length_left : (shape range length_is : Bool) → shape_then_range shape range ≡ None
      → (first_fault (shape_check shape ∷ range_check range ∷ shape_check length_is ∷ []) ≡ shape_check length_is)
      × (range ≡ true)
  length_left true true true h = (refl, refl)
  length_left true true false h = (refl, refl)
  length_left true false length_is h = cc
  length_left false range length_is h = cc

  pub frame_refused : (e : LineFault) → members_fault context frame_row frame_numbers d ≡ Some e
      → frame_fault context.nodes d ≡ Some e
  unfolding frame_fault
  frame_refused e h = after_members e _ _ _ (sym frame_by_row ∙ h)

  -- what is left is the length of the data
  pub frame_passed : members_fault context frame_row frame_numbers d ≡ None
      → (frame_fault context.nodes d ≡ shape_check (has_its_length (words_of d)))
      × (is_in_range context.nodes (words_of d) ≡ true)
  unfolding frame_fault
  frame_passed h = length_left _ _ _ (sym frame_by_row ∙ h)

-- ---- rounds

pub round_refused : (nodes : ℕ) (op : BusOp) (d : Data) (e : LineFault) → members_fault_by nodes op d ≡ Some e
    → bus_fault_by nodes (Some op) d ≡ Some e
unfolding members_fault_by bus_fault_by round_fault
round_refused nodes bus.Round d e h = go (is_round d) h
  where
    go : (b : Bool) → shape_check b ≡ Some e
        → first_fault (shape_check b ∷ frames_fault nodes (frames_in d)
        ∷ shape_check (are_distinct (senders_of (frames_in d))) ∷ []) ≡ Some e
    go true h = cc
    go false h = h
round_refused nodes op d e h = h

-- ---- the law

not_round : (nodes : ℕ) (op : BusOp) (d : Data) → op ≢ bus.Round → bus_fault_by nodes (Some op) d ≡ members_fault_by nodes op d
unfolding members_fault_by
not_round nodes bus.Round d other = absurd (other refl)
not_round nodes op d other = refl

pub go_by_table : GoByTable
unfolding members_fault_by
go_by_table = record {
  host = λ context op d is.
      ap (λ o. host_fault_by context.profile o d) is ∙ sym (host_by_row context d (host_named d op is) op);
  bus = λ context op d is other.
      ap (λ o. bus_fault_by context.nodes o d) is ∙ not_round context.nodes op d other
      ∙ sym (bus_by_row context d (bus_named d op is) op);
  round = λ context d is. sym (bus_by_row context d (bus_named d bus.Round is) bus.Round);
  frame = λ context d. sym (frame_by_row context d);
}
