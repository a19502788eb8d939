-- A value means one thing: its faults are at different places, and one place is the least; and what it says is one script.
use Rattle.std.proofs.Common.{◌≡◌, ℕ, List, Option, Some, None, Result, Ok, Err, length, codes, refl, ap, sym, ◌∙◌, arith}
use Rattle.std.proofs.lemmas.Cmp.{nat_list_cmp_total}
use Rattle.std.proofs.lemmas.Map.Text.{is_eq-slice_cmp}
use Rattle.std.proofs.lemmas.Slice.Eq.{bytes_eq-Decides}
use Rattle.std.specs.Cmp.Lexicographic.{slice_cmp}
use Rattle.std.specs.Ordering.{is_eq, nat_cmp, ordering_reverse}
use Rattle.std.specs.declared.cmp.Ordering.{Ordering}
use Rattle.std.specs.declared.cmp.Ordering.TheVariants.{Less, Equal, Greater}
use Rattle.serde_json.specs.Data.{Data}
use Rattle.serde_json.specs.Find.{get}
use Rattle.ccan_ram.specs.declared.port.PortName.{PortName}
use Rattle.ccan_ram.specs.declared.port.PortName.TheVariants as port
use Rattle.ccan_ram.specs.Port.{port_index}
use Rattle.ccan_script.specs.declared.script_error.ScriptError.{ScriptError}
use Rattle.ccan_line.specs.declared.host_line.HostLine.{HostLine}
use Rattle.ccan_script.specs.HostLine.{HostSays}
use Rattle.ccan_script.specs.BusLine.{BusSays}
use Rattle.ccan_script.specs.Order.{OrderPlace, names, number_in_order, order_by, share}
use Rattle.ccan_script.specs.Places.{IsFaultless, IsFirst}
use Rattle.ccan_script.specs.ListPlace.{ListPlace, count, line, list, number_in_list}
use Rattle.ccan_line.specs.Port.{count_of}
use Rattle.ccan_line.specs.Script.{ScriptFields}
use Rattle.ccan_script.specs.Script.{MeansAmong, Place, Says, fault_among, known_members, number_of}
use Rattle.ccan_script.specs.Script.{bus, if1, if2, members, nodes, order, profile, quota, tries}
use Rattle.ccan_script.specs.Laws.{HasOneMeaning}
use Rattle.ccan_script.proofs.Lines.{lines_once}
use Rattle.ccan_script.proofs.OneBusLine.{bus_once}

-- ---- places

pub same_list_place : (p q : ListPlace) → number_in_list p ≡ number_in_list q → p ≡ q
same_list_place list list h = refl
same_list_place count count h = refl
same_list_place (line i) (line j) h = cc
same_list_place p q h = cc

pub same_port_number : (p q : PortName) → port_index p ≡ port_index q → p ≡ q
same_port_number port.If1 port.If1 h = refl
same_port_number port.If2 port.If2 h = refl
same_port_number port.Bus port.Bus h = refl
same_port_number p q h = absurd (omega arith)

pub same_order_place : (p q : OrderPlace) → number_in_order p ≡ number_in_order q → p ≡ q
same_order_place (names p) (names q) h = ap names (same_list_place p q cc)
same_order_place (share n) (share m) h = ap share (same_port_number n m cc)
same_order_place p q h = cc

-- the last case is that of two different parts
pub same_place : (p q : Place) → number_of p ≡ number_of q → p ≡ q
same_place members members h = refl
same_place profile profile h = refl
same_place quota quota h = refl
same_place tries tries h = refl
same_place nodes nodes h = refl
same_place (if1 p) (if1 q) h = ap if1 (same_list_place p q cc)
same_place (if2 p) (if2 q) h = ap if2 (same_list_place p q cc)
same_place (bus p) (bus q) h = ap bus (same_list_place p q cc)
same_place (order p) (order q) h = ap order (same_order_place p q cc)
same_place p q h = cc

-- ---- faults

same_number : (a b : List ℕ) → slice_cmp nat_cmp a b ≡ Equal → a ≡ b
same_number a b h = (bytes_eq-Decides a b).0 (sym (is_eq-slice_cmp a b) ∙ ap is_eq h)

-- a place has no fault and a fault
differ : (e : ScriptError) (o : Option ScriptError) → o ≡ None → o ≡ Some e → ⊥
differ e o a b = cc

-- places of different numbers have at most one first fault
module _ {P : Type 0} (number : P → List ℕ) (fault : P → Option ScriptError) where
  module _ (same : (p q : P) → number p ≡ number q → p ≡ q) (e f : ScriptError) (p : IsFirst number fault e)
      (q : IsFirst number fault f) where
    one_fault : (o : Ordering) → slice_cmp nat_cmp (number p.place) (number q.place) ≡ o → e ≡ f
    one_fault Less h = absurd (differ e (fault p.place) (q.first p.place h) p.is)
    one_fault Equal h =
        joined (fault p.place) (fault q.place) (ap fault (same p.place q.place (same_number _ _ h))) p.is q.is
      where
        joined : (a b : Option ScriptError) → a ≡ b → a ≡ Some e → b ≡ Some f → e ≡ f
        joined a b x y z = cc
    one_fault Greater h =
        let before : slice_cmp nat_cmp (number q.place) (number p.place) ≡ Less =
        nat_list_cmp_total.antisymm (number q.place) (number p.place) ∙ ap ordering_reverse h in
        absurd (differ f (fault q.place) (p.first q.place before) q.is)

    pub one_first : e ≡ f
    one_first = one_fault _ refl

  pub no_first : (e : ScriptError) → IsFaultless number fault → IsFirst number fault e → ⊥
  no_first e none p = differ e (fault p.place) (none p.place) p.is

-- ---- scripts

host_once : (d : Data) (l m : HostLine) → HostSays d l → HostSays d m → l ≡ m
host_once d l m h k = h ∙ sym k

same_script : (a b : ScriptFields) → a.profile ≡ b.profile → a.quota ≡ b.quota → a.tries ≡ b.tries → a.nodes ≡ b.nodes
    → a.if1 ≡ b.if1 → a.if2 ≡ b.if2 → a.bus ≡ b.bus → a.order ≡ b.order → a ≡ b
same_script a b profile_is quota_is tries_is nodes_are if1_are if2_are bus_are order_is = λ i. record {
  profile = profile_is i;
  quota = quota_is i;
  tries = tries_is i;
  nodes = nodes_are i;
  if1 = if1_are i;
  if2 = if2_are i;
  bus = bus_are i;
  order = order_is i;
}

same_counts : (a b : ScriptFields) → a.if1 ≡ b.if1 → a.if2 ≡ b.if2 → a.bus ≡ b.bus → (name : PortName)
    → count_of a name ≡ count_of b name
same_counts a b if1_are if2_are bus_are port.If1 = ap length if1_are
same_counts a b if1_are if2_are bus_are port.If2 = ap length if2_are
same_counts a b if1_are if2_are bus_are port.Bus = ap length bus_are

pub one_script : (d : Data) (a b : ScriptFields) → Says d a → Says d b → a ≡ b
one_script d a b h k =
    let if1_are = lines_once HostSays (host_once) _ a.if1 b.if1 h.if1_lines k.if1_lines in
    let if2_are = lines_once HostSays (host_once) _ a.if2 b.if2 h.if2_lines k.if2_lines in
    let bus_are = lines_once BusSays bus_once _ a.bus b.bus h.bus_lines k.bus_lines in
    let counts : (name : PortName) → count_of a name ≡ count_of b name = same_counts a b if1_are if2_are bus_are in
    same_script a b (h.profile_is ∙ sym k.profile_is) (h.quota_is ∙ sym k.quota_is) (h.tries_is ∙ sym k.tries_is)
    (h.nodes_are ∙ sym k.nodes_are)
    if1_are if2_are bus_are
    (h.order_is ∙ (λ i. order_by (λ name. counts name i) (get (codes "order") d)) ∙ sym k.order_is)

module _ (known : List (List ℕ)) where
  pub one_among : (d : Data) (r s : Result ScriptFields ScriptError) → MeansAmong known d r → MeansAmong known d s → r ≡ s
  one_among d (Ok m) (Ok n) h k = ap Ok (one_script d m n h.1 k.1)
  one_among d (Ok m) (Err f) h k = absurd (no_first number_of (fault_among known d) f h.0 k)
  one_among d (Err e) (Ok n) h k = absurd (no_first number_of (fault_among known d) e k.0 h)
  one_among d (Err e) (Err f) h k = ap Err (one_first number_of (fault_among known d) same_place e f h k)

pub one_meaning : HasOneMeaning
one_meaning = one_among known_members
