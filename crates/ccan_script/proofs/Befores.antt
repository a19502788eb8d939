-- The ports of which lines run before a race: what is wrong with their names, and how often each is named.
use Rattle.std.proofs.Common.{◌≡◌, ◌<◌, ◌≤◌, ◌∙◌, ℕ, Bool, List, true, false, Option, Some, None, Result, Ok, Err, ap, arith, if◌then◌else◌, nat_le, refl, sym}
use Rattle.std.proofs.lemmas.Bool.Decides.{nat_tests}
use Rattle.std.specs.Result.{result_err}
use Rattle.serde_json.specs.Data.{Data}
use Rattle.ccan_ram.specs.declared.port.PortName.{PortName}
use Rattle.ccan_ram.specs.declared.port.PortName.TheVariants as port
use Rattle.ccan_ram.specs.Port.{port_index}
use Rattle.ccan_line.specs.Limits.{most_names}
use Rattle.ccan_line.specs.Order.{times}
use Rattle.ccan_line.specs.Port.{count_of}
use Rattle.ccan_line.specs.Script.{ScriptFields}
use Rattle.ccan_script.specs.declared.list_name.ListName.TheVariants as list_name
use Rattle.ccan_script.specs.declared.script_error.ScriptError.{ScriptError}
use Rattle.ccan_script.specs.declared.script_error.ScriptError.TheVariants as error
use Rattle.ccan_script.specs.Before.{ChecksShares, before_fault, share_fault}
use Rattle.ccan_script.specs.ListPlace.{list_fault, number_in_list}
use Rattle.ccan_script.specs.Order.{OrderPlace, named_ports, names, number_in_order, share}
use Rattle.ccan_script.specs.OrderName.{port_fault}
use Rattle.ccan_script.specs.Places.{IsFaultless, IsFirst, Precedes}
use Rattle.ccan_script.specs.Race.{NamesFew}
use Rattle.ccan_script.proofs.Orders.{share_before}

pub names_few : (script : ScriptFields) (ports : List PortName) → ((name : PortName) → times name ports ≤ count_of script name)
    → NamesFew script ports
names_few script ports few = record { if1 = few port.If1; if2 = few port.If2; bus = few port.Bus }

-- ---- how often each port is named

-- what is checked of one port with so many lines
abbrev share_check : List PortName → PortName → ℕ → Option ScriptError
share_check ports name count = if nat_le (times name ports) count then None else Some (error.Before name)

module _ (ports : List PortName) (name : PortName) (count : ℕ) where
  few_named : None ≡ share_check ports name count → times name ports ≤ count
  few_named ok = by (nat_le (times name ports) count) refl
    where
      by : (b : Bool) → nat_le (times name ports) count ≡ b → times name ports ≤ count
      by true e = grind (arith, nat_tests)
      by false e = let no : None ≡ Some (error.Before name) = ok ∙ (λ i. if e i then None else Some (error.Before name)) in cc

  many_named : (e : ScriptError) → Some e ≡ share_check ports name count → (e ≡ error.Before name) × (count < times name ports)
  many_named e bad = by (nat_le (times name ports) count) refl
    where
      by : (b : Bool) → nat_le (times name ports) count ≡ b → (e ≡ error.Before name) × (count < times name ports)
      by true is = let no : Some e ≡ None = bad ∙ (λ i. if is i then None else Some (error.Before name)) in cc
      by false is =
          let same : Some e ≡ Some (error.Before name) = bad ∙ (λ i. if is i then None else Some (error.Before name)) in
          (cc, grind (arith, nat_tests))

-- the bus is checked behind the hosts
module _ (lines : PortName → ℕ) (ports : List PortName) (one two three : ℕ) (are_one : one ≡ lines port.If1)
    (are_two : two ≡ lines port.If2) (are_three : three ≡ lines port.Bus) where
  few_hosts : None ≡ share_check ports port.If1 one → None ≡ share_check ports port.If2 two
      → (name : PortName) → port_index name < port_index port.Bus → times name ports ≤ lines name
  few_hosts first second port.If1 host = let few = few_named ports port.If1 one first in omega (arith, few, are_one)
  few_hosts first second port.If2 host = let few = few_named ports port.If2 two second in omega (arith, few, are_two)
  few_hosts first second port.Bus host = absurd (omega (arith, host))

  pub checks_bus : (r : Result (Unit {0}) ScriptError) → None ≡ share_check ports port.If1 one
      → None ≡ share_check ports port.If2 two → result_err r ≡ share_check ports port.Bus three → ChecksShares lines ports r
  checks_bus (Ok done) first second is = go
    where
      go : (name : PortName) → times name ports ≤ lines name
      go port.If1 = few_hosts first second port.If1 (omega arith)
      go port.If2 = few_hosts first second port.If2 (omega arith)
      go port.Bus = let few = few_named ports port.Bus three is in omega (arith, few, are_three)
  checks_bus (Err e) first second is =
      let bad = many_named ports port.Bus three e is in
      let more = bad.1 in
      (port.Bus, bad.0, omega (arith, more, are_three), few_hosts first second)

-- ---- faults

module _ (lines : PortName → ℕ) (o : Option Data) where
  -- names that are at fault
  pub bad_names_before : (e : ScriptError) → IsFirst number_in_list (list_fault list_name.Before most_names port_fault o) e
      → IsFirst number_in_order (before_fault lines o) e
  bad_names_before e h = record { place = names h.place; is = h.is; first = go }
    where
      go : (q : OrderPlace) → Precedes (number_in_order q) (number_in_order (names h.place)) → before_fault lines o q ≡ None
      go (names p) earlier = h.first p earlier
      go (share m) earlier = cc

  module _ (ports : List PortName) (is : ports ≡ named_ports o)
      (names_ok : IsFaultless number_in_list (list_fault list_name.Before most_names port_fault o)) where
    met : (name : PortName) → times name ports ≤ lines name → share_fault lines o name ≡ None
    unfolding share_fault
    met name h =
        let few : nat_le (times name ports) (lines name) ≡ true = grind (arith, nat_tests) in
        rw (sym is, few) refl

    missed : (name : PortName) → lines name < times name ports → share_fault lines o name ≡ Some (error.Before name)
    unfolding share_fault
    missed name h =
        let many : nat_le (times name ports) (lines name) ≡ false = grind (arith, nat_tests) in
        rw (sym is, many) refl

    -- a port that is named too often
    pub bad_share_of : (e : ScriptError) → ChecksShares lines ports (Err e) → IsFirst number_in_order (before_fault lines o) e
    bad_share_of e h = record { place = share h.0; is = missed h.0 h.2 ∙ ap Some (sym h.1); first = go }
      where
        go : (q : OrderPlace) → Precedes (number_in_order q) (number_in_order (share h.0)) → before_fault lines o q ≡ None
        go (names p) earlier = names_ok p
        go (share m) earlier = met m (h.3 m (share_before m h.0 earlier))

    pub no_share_fault : ((name : PortName) → times name ports ≤ lines name)
        → IsFaultless number_in_order (before_fault lines o)
    no_share_fault all (names p) = names_ok p
    no_share_fault all (share name) = met name (all name)
