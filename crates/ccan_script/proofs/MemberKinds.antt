-- What a row of the table of members says of a value is what the definition of its line says.
use Rattle.std.proofs.Common.{◌≡◌, ◌∙◌, ℕ, Bool, true, false, ◌&&◌, List, [], Option, Some, None}
use Rattle.std.proofs.Common.{codes, is_some, option_and_then, unwrap_or, length, nat_le, refl, ap, ap₂, cond}
use Rattle.std.specs.Option.{option_map_or}
use Rattle.serde_json.specs.Data.{Data, Items}
use Rattle.serde_json.specs.Find.{as_array, as_str, get}
use Rattle.ccan_bus.specs.declared.round_line.Fault.TheVariants.{Quiet}
use Rattle.ccan_line.specs.Limits.{most_frames}
use Rattle.ccan_script.specs.declared.bus_op.BusOp.{BusOp}
use Rattle.ccan_script.specs.declared.host_op.HostOp.{HostOp}
use Rattle.ccan_script.specs.declared.member_name.MemberName.{MemberName}
use Rattle.ccan_script.specs.declared.member_name.MemberName.TheVariants as name
use Rattle.ccan_script.specs.declared.member.Kind.TheVariants as kind
use Rattle.ccan_script.specs.declared.member.Range.{Range}
use Rattle.ccan_script.specs.declared.member.Member.TheVariants.{Needed, Optional}
use Rattle.ccan_script.specs.BusOp.{bus_op, bus_op_named}
use Rattle.ccan_script.specs.HostOp.{host_op, host_op_named}
use Rattle.ccan_script.specs.FaultName.{fault_in, fault_named}
use Rattle.ccan_script.specs.FlagName.{flag_in, flag_named}
use Rattle.ccan_script.specs.FrameLine.{data_in, is_data_text}
use Rattle.ccan_script.specs.HostLine.{request_in, settings_of}
use Rattle.ccan_script.specs.Json.{can_be_list, lines_in, list_of, number_in, whole, whole_in, whole_or_zero, word_in}
use Rattle.ccan_script.specs.LineFault.{shape_check, shape_then_range}
use Rattle.ccan_script.specs.Member.{flag_member, operation_member}
use Rattle.ccan_script.specs.MemberName.{name_text}
use Rattle.ccan_script.specs.Members.{are_few, has_member, is_of_kind}
use Rattle.ccan_script.specs.RegisterSet.{settings_in}
use Rattle.ccan_script.specs.Round.{can_send, frames_in}

-- ---- tests in turn

and_true : (b : Bool) → (b && true) ≡ b
and_true true = refl
and_true false = refl

-- the first of them holds, and so does what comes behind the last
pub one_behind : (x : Bool) → x ≡ true → (x && true) ≡ true
one_behind x is = ap (λ b. b && true) is

pub two_behind : (x y a : Bool) → x ≡ true → y ≡ a → (x && (y && true)) ≡ a
two_behind x y a first second = ap₂ ◌&&◌ first (ap (λ b. b && true) second ∙ and_true a)

pub three_behind : (x y z a b : Bool) → x ≡ true → y ≡ a → z ≡ b → (x && (y && (z && true))) ≡ (a && b)
three_behind x y z a b first second third = ap₂ ◌&&◌ first (ap₂ ◌&&◌ second (ap (λ t. t && true) third ∙ and_true b))

pub four_behind : (w x y z a b c : Bool) → w ≡ true → x ≡ a → y ≡ b → z ≡ c
    → (w && (x && (y && (z && true)))) ≡ (a && (b && c))
four_behind w x y z a b c first second third fourth =
    ap₂ ◌&&◌ first (ap₂ ◌&&◌ second (ap₂ ◌&&◌ third (ap (λ t. t && true) fourth ∙ and_true c)))

-- a shape alone
pub shape_alone : (b : Bool) → shape_then_range b true ≡ shape_check b
shape_alone true = refl
shape_alone false = refl

-- ---- members

needed : {A : Type 0} (f : Data → Option A) (o : Option Data)
    → option_map_or (λ v. is_some (f v)) o false ≡ is_some (option_and_then f o)
needed f None = refl
needed f (Some v) = refl

optional : {A : Type 0} (f : Data → Option A) (default : A) (o : Option Data)
    → option_map_or (λ v. is_some (f v)) o true ≡ is_some (option_map_or f o (Some default))
optional f default None = refl
optional f default (Some v) = refl

module _ (d : Data) where
  pub has_operation : is_some (get (codes "op") d) ≡ true → has_member d operation_member ≡ true
  unfolding has_member is_of_kind
  has_operation here = go (get (codes "op") d) here
    where
      go : (o : Option Data) → is_some o ≡ true → option_map_or (λ v. true) o false ≡ true
      go None here = here
      go (Some v) here = refl

  pub has_number_named : (n : MemberName) (r : Range)
      → has_member d (Needed n (kind.Number r)) ≡ is_some (whole_in (name_text n) d)
  unfolding has_member is_of_kind whole_in
  has_number_named n r = needed whole (get (name_text n) d)

  pub has_number_or_zero : (n : MemberName) (r : Range)
      → has_member d (Optional n (kind.Number r)) ≡ is_some (whole_or_zero (name_text n) d)
  unfolding has_member is_of_kind whole_or_zero
  has_number_or_zero n r = optional whole 0 (get (name_text n) d)

  pub has_flag : has_member d flag_member ≡ is_some (flag_in d)
  unfolding has_member is_of_kind flag_in
  has_flag = go (get (codes "flag") d)
    where
      go : (o : Option Data) → option_map_or (λ v. is_some (option_and_then flag_named (as_str v))) o false
          ≡ is_some (option_and_then flag_named (option_and_then as_str o))
      go None = refl
      go (Some v) = refl

  pub has_request : has_member d (Needed name.Request kind.Digits) ≡ is_some (request_in d)
  unfolding has_member is_of_kind request_in
  has_request = needed word_in (get (codes "request") d)

  pub has_set : has_member d (Optional name.Set kind.Registers) ≡ is_some (settings_of d)
  unfolding has_member is_of_kind settings_of
  has_set = optional settings_in [] (get (codes "set") d)

  pub has_fault : has_member d (Optional name.Fault kind.FaultName) ≡ is_some (fault_in d)
  unfolding has_member is_of_kind fault_in
  has_fault = optional (λ member. option_and_then fault_named (as_str member)) Quiet (get (codes "fault") d)

  pub has_send : has_member d (Optional name.Send kind.Frames) ≡ can_send d
  unfolding has_member is_of_kind can_send can_be_list frames_in lines_in
  has_send = go (get (codes "send") d)
    where
      list : (a : Option Items) → option_map_or (λ items. nat_le (length (list_of items)) most_frames) a false
          ≡ (is_some a && nat_le (length (option_map_or list_of a [])) most_frames)
      list None = refl
      list (Some items) = refl

      go : (o : Option Data) → option_map_or are_few o true ≡ (can_be_list o && nat_le (length (lines_in o)) most_frames)
      go None = refl
      go (Some v) = list (as_array v)

  pub has_data : has_member d (Optional name.Data kind.Data) ≡ is_some (data_in d)
  unfolding has_member is_of_kind data_in
  has_data = go (get (codes "data") d)
    where
      bit : (b : Bool) (text : List ℕ) → b ≡ is_some (cond b (Some text) None)
      bit true text = refl
      bit false text = refl

      text_of : (t : Option (List ℕ)) → option_map_or is_data_text t false
          ≡ is_some (option_and_then (λ text. cond (is_data_text text) (Some text) None) t)
      text_of None = refl
      text_of (Some text) = bit (is_data_text text) text

      go : (o : Option Data) → option_map_or (λ v. option_map_or is_data_text (as_str v) false) o true
          ≡ is_some (option_map_or
          (λ member. option_and_then (λ text. cond (is_data_text text) (Some text) None) (as_str member)) o (Some []))
      go None = refl
      go (Some v) = text_of (as_str v)

  -- ---- operations

  pub host_named : (op : HostOp) → host_op d ≡ Some op → is_some (get (codes "op") d) ≡ true
  unfolding host_op
  host_named op is = go (get (codes "op") d) is
    where
      go : (o : Option Data) → option_and_then host_op_named (option_and_then as_str o) ≡ Some op → is_some o ≡ true
      go None is = cc
      go (Some v) is = refl

  pub bus_named : (op : BusOp) → bus_op d ≡ Some op → is_some (get (codes "op") d) ≡ true
  unfolding bus_op
  bus_named op is = go (get (codes "op") d) is
    where
      go : (o : Option Data) → option_and_then bus_op_named (option_and_then as_str o) ≡ Some op → is_some o ≡ true
      go None is = cc
      go (Some v) is = refl

-- ---- numbers

-- the number of a member that may be left out
pub same_number : (n : List ℕ) (d : Data) → number_in n d ≡ unwrap_or (whole_or_zero n d) 0
unfolding whole_in whole_or_zero
same_number n d = go (get n d)
  where
    go : (o : Option Data) → unwrap_or (option_and_then whole o) 0 ≡ unwrap_or (option_map_or whole o (Some 0)) 0
    go None = refl
    go (Some v) = refl
