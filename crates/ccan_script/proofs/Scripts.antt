-- A script from its parts.
use Rattle.std.proofs.Common.{◌≡◌, ◌+◌, ℕ, List, Option, Result, Ok, Err, codes, length, ap, sym, subst, ◌∙◌}
use Rattle.std.specs.Result.{IsErrAnd}
use Rattle.serde_json.specs.Data.{Data}
use Rattle.serde_json.specs.Find.{get}
use Rattle.ccan_object.specs.declared.profile.Profile.{Profile}
use Rattle.ccan_ram.specs.declared.port.PortName.{PortName}
use Rattle.ccan_ram.specs.declared.port.PortName.TheVariants as port
use Rattle.ccan_ram.specs.Port.{most_quota, port_index}
use Rattle.ccan_ram.specs.Tries.{most_tries}
use Rattle.ccan_line.specs.declared.script.Script.{Script}
use Rattle.ccan_script.specs.declared.script_error.ScriptError.{ScriptError}
use Rattle.ccan_line.specs.declared.per_port.PerPort.{PerPort}
use Rattle.ccan_line.specs.declared.host_line.HostLine.{HostLine}
use Rattle.ccan_line.specs.declared.bus_line.BusLine.{BusLine}
use Rattle.ccan_script.specs.Json.{lines_in}
use Rattle.ccan_script.specs.Lines.{AreLines}
use Rattle.ccan_script.specs.HostLine.{HostSays}
use Rattle.ccan_script.specs.BusLine.{BusSays}
use Rattle.ccan_script.specs.LineCounts.{count_of}
use Rattle.ccan_line.specs.Limits.{default_nodes, default_profile, default_quota, default_tries, most_nodes, most_profile}
use Rattle.ccan_script.specs.Order.{number_in_order, order_by, order_fault}
use Rattle.ccan_script.specs.Places.{IsFaultless, IsFirst}
use Rattle.ccan_script.specs.ListPlace.{number_in_list}
use Rattle.ccan_script.specs.Reader.{ReadsNumber, ReadsOrder, ReadsAmong, UnlessMemory}
use Rattle.ccan_script.specs.Script.{fault_among, lines_of_port, nodes_of, number_of, profile_numbered, profile_of}
use Rattle.ccan_script.proofs.Lines.{lines_length}
use Rattle.ccan_script.proofs.Parts.{HasGoodNames, IsFirstFault, PassedBefore, lines_fault}
use Rattle.ccan_script.proofs.Parts.{bad_lines, bad_order, before_lines, good_lines, no_fault}
use Rattle.ccan_script.proofs.Unless.{unless_weaker}

-- ---- refusals

-- a refusal of a part is the script's, where it is passed on
pub told : (known : List (List ℕ)) (d : Data) (r : Result Script ScriptError) (e : ScriptError) → IsErrAnd r (λ y. y ≡ e)
    → UnlessMemory e (IsFirstFault known d e) → ReadsAmong known d r
told known d (Ok script) e passed_on h = absurd passed_on
told known d (Err y) e passed_on h = rw passed_on h

-- ---- the names and the numbers

-- they have no fault, and the profile and the nodes are those that the value says
pub record NumbersRead (known : List (List ℕ)) (d : Data) (p : Profile) (n : ℕ) : Type 0 where
  pub passed : PassedBefore known d 5
  pub same_profile : p ≡ profile_of d
  pub same_nodes : n ≡ nodes_of d

module _ (known : List (List ℕ)) (d : Data) (number quota tries n : ℕ) where
  pub numbers_read : HasGoodNames known d
      → ReadsNumber 1 most_profile default_profile (get (codes "profile") d) (Ok number)
      → ReadsNumber 1 most_quota default_quota (get (codes "quota") d) (Ok quota)
      → ReadsNumber 1 most_tries default_tries (get (codes "tries") d) (Ok tries)
      → ReadsNumber 0 most_nodes default_nodes (get (codes "nodes") d) (Ok n)
      → (p : Profile) → p ≡ profile_numbered number → NumbersRead known d p n
  numbers_read names of_profile of_quota of_tries of_nodes p is = record {
    passed = before_lines known d names of_profile.0 of_quota.0 of_tries.0 of_nodes.0;
    same_profile = is ∙ ap profile_numbered of_profile.1;
    same_nodes = of_nodes.1;
  }

-- ---- the lists

-- the counts are those of these lists
abbrev pub AreCounts : PerPort ℕ → List HostLine → List HostLine → List BusLine → Type 0
AreCounts counts if1 if2 bus = counts ≡ record { if1 = length if1; if2 = length if2; bus = length bus }

-- no part before the order has a fault, and the ports have these lines, which are counted
pub record ListsRead (known : List (List ℕ)) (d : Data) (if1 if2 : List HostLine) (bus : List BusLine)
    (counts : PerPort ℕ) : Type 0 where
  pub passed : PassedBefore known d 8
  pub if1_lines : AreLines HostSays (lines_in (get (codes "if1") d)) if1
  pub if2_lines : AreLines HostSays (lines_in (get (codes "if2") d)) if2
  pub bus_lines : AreLines BusSays (lines_in (get (codes "bus") d)) bus
  pub counted : AreCounts counts if1 if2 bus

module _ (known : List (List ℕ)) (d : Data) (p : Profile) (n : ℕ) (numbers : NumbersRead known d p n) where
  -- the lines of a port are read without fault
  abbrev pub HasGoodLines : PortName → Type 0
  HasGoodLines name = IsFaultless number_in_list (lines_fault d name p n)

  -- or with this one, unless memory ran out
  abbrev pub HasBadLine : PortName → ScriptError → Type 0
  HasBadLine name e = UnlessMemory e (IsFirst number_in_list (lines_fault d name p n) e)

  bad_port : (name : PortName) → PassedBefore known d (5 + port_index name) → (e : ScriptError) → HasBadLine name e
      → UnlessMemory e (IsFirstFault known d e)
  bad_port name passed e h = unless_weaker e (bad_lines known d p n numbers.same_profile numbers.same_nodes name passed e) h

  good_port : (name : PortName) → PassedBefore known d (5 + port_index name) → HasGoodLines name
      → PassedBefore known d (6 + port_index name)
  good_port = good_lines known d p n numbers.same_profile numbers.same_nodes

  pub bad_if1 : (e : ScriptError) → HasBadLine port.If1 e → UnlessMemory e (IsFirstFault known d e)
  bad_if1 = bad_port port.If1 numbers.passed

  module _ (if1_ok : HasGoodLines port.If1) where
    before_if2 : PassedBefore known d 6
    before_if2 = good_port port.If1 numbers.passed if1_ok

    pub bad_if2 : (e : ScriptError) → HasBadLine port.If2 e → UnlessMemory e (IsFirstFault known d e)
    bad_if2 = bad_port port.If2 before_if2

    module _ (if2_ok : HasGoodLines port.If2) where
      before_bus : PassedBefore known d 7
      before_bus = good_port port.If2 before_if2 if2_ok

      pub bad_bus : (e : ScriptError) → HasBadLine port.Bus e → UnlessMemory e (IsFirstFault known d e)
      bad_bus = bad_port port.Bus before_bus

  -- the lists are counted under other names
  pub lists_read : (if1 if2 : List HostLine) (bus : List BusLine)
      → HasGoodLines port.If1 × AreLines HostSays (lines_in (get (codes "if1") d)) if1
      → HasGoodLines port.If2 × AreLines HostSays (lines_in (get (codes "if2") d)) if2
      → HasGoodLines port.Bus × AreLines BusSays (lines_in (get (codes "bus") d)) bus
      → (counts : PerPort ℕ) (ls ms : List HostLine) (ns : List BusLine) → AreCounts counts ls ms ns
      → ls ≡ if1 → ms ≡ if2 → ns ≡ bus → ListsRead known d if1 if2 bus counts
  lists_read if1 if2 bus of_if1 of_if2 of_bus counts ls ms ns are l m n = record {
    passed = good_port port.Bus (before_bus of_if1.0 of_if2.0) of_bus.0;
    if1_lines = of_if1.1;
    if2_lines = of_if2.1;
    bus_lines = of_bus.1;
    counted = are ∙ (λ i. record { if1 = length (l i); if2 = length (m i); bus = length (n i) });
  }

-- ---- the order

module _ (known : List (List ℕ)) (d : Data) (if1 if2 : List HostLine) (bus : List BusLine) (counts : PerPort ℕ)
    (lists : ListsRead known d if1 if2 bus counts) where
  same : (name : PortName) → count_of counts name ≡ lines_of_port d name
  same port.If1 = ap (λ c. c.if1) lists.counted ∙ lines_length HostSays _ if1 lists.if1_lines
  same port.If2 = ap (λ c. c.if2) lists.counted ∙ lines_length HostSays _ if2 lists.if2_lines
  same port.Bus = ap (λ c. c.bus) lists.counted ∙ lines_length BusSays _ bus lists.bus_lines

  same_counts : count_of counts ≡ lines_of_port d
  same_counts = λ i name. same name i

  pub bad_order_of : (e : ScriptError) → ReadsOrder (count_of counts) (get (codes "order") d) (Err e)
      → UnlessMemory e (IsFirstFault known d e)
  bad_order_of e h = unless_weaker e (λ at. bad_order known d lists.passed e (subst (λ (lines : PortName → ℕ).
      IsFirst number_in_order (order_fault lines (get (codes "order") d)) e) same_counts at)) h

  pub no_fault_of : IsFaultless number_in_order (order_fault (count_of counts) (get (codes "order") d))
      → IsFaultless number_of (fault_among known d)
  no_fault_of h = no_fault known d lists.passed (subst (λ (lines : PortName → ℕ).
      IsFaultless number_in_order (order_fault lines (get (codes "order") d))) same_counts h)

  -- the order is that of the script's own lines
  pub order_of : (lines : PortName → ℕ) → lines port.If1 ≡ length if1 → lines port.If2 ≡ length if2
      → lines port.Bus ≡ length bus → (o : Option Data) (order : List PortName) → order ≡ order_by (count_of counts) o
      → order ≡ order_by lines o
  order_of lines l1 l2 l3 o order h = h ∙ ap (λ (ls : PortName → ℕ). order_by ls o) (λ i name. go name i)
    where
      go : (name : PortName) → count_of counts name ≡ lines name
      go port.If1 = ap (λ c. c.if1) lists.counted ∙ sym l1
      go port.If2 = ap (λ c. c.if2) lists.counted ∙ sym l2
      go port.Bus = ap (λ c. c.bus) lists.counted ∙ sym l3
