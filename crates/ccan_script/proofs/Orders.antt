-- What is wrong with an order, and how often the default order names each port.
use Rattle.std.proofs.Common.{◌≡◌, ◌≢◌, ◌<◌, ◌+◌, ◌*◌, ◌++◌, ℕ, List, [], ◌∷◌, Option, Some, None, Result, Ok, Err, Vec}
use Rattle.std.proofs.Common.{IfOk, MatchResult, cond, map, replicate, sum_by, refl, ap, sym, ◌∙◌, arith, eq-eqb, ne_eqb}
use Rattle.std.proofs.lemmas.Bool.Decides.{nat_tests}
use Rattle.std.proofs.lemmas.List.Folds.{sum_by-replicate}
use Rattle.std.proofs.lemmas.List.Sums.{sum_by-append}
use Rattle.std.specs.declared.alloc.Global.{Global}
use Rattle.std.specs.Ordering.{nat_cmp, ordering_then}
use Rattle.std.specs.declared.cmp.Ordering.{Ordering}
use Rattle.std.specs.declared.cmp.Ordering.TheVariants.{Less, Equal, Greater}
use Rattle.serde_json.specs.Data.{Data}
use Rattle.ccan_ram.specs.declared.port.PortName.{PortName}
use Rattle.ccan_ram.specs.declared.port.PortName.TheVariants.{If1, If2, Bus}
use Rattle.ccan_ram.specs.Port.{port_index, same_port}
use Rattle.ccan_script.specs.declared.list_name.ListName.TheVariants as list_name
use Rattle.ccan_script.specs.declared.script_error.ScriptError.{ScriptError}
use Rattle.ccan_script.specs.declared.script_error.ScriptError.TheVariants as error
use Rattle.ccan_line.specs.Limits.{most_names}
use Rattle.ccan_script.specs.Json.{lines_in}
use Rattle.ccan_script.specs.Lines.{AreLines}
use Rattle.ccan_script.specs.OrderName.{NameSays, port_fault, port_of}
use Rattle.ccan_script.specs.Places.{IsFaultless, IsFirst, Precedes}
use Rattle.ccan_script.specs.ListPlace.{list_fault, number_in_list}
use Rattle.ccan_script.specs.Order.{ChecksTimes, OrderPlace, default_order, named_ports, names, number_in_order}
use Rattle.ccan_line.specs.Order.{times}
use Rattle.ccan_script.specs.Order.{order_by, order_fault, share, times_fault}
use Rattle.ccan_script.specs.Reader.{ReadsOrder, UnlessMemory}
use Rattle.ccan_script.proofs.ListFaults.{no_list}

-- the ports that lines name are those of their values
ports_are : (values : List Data) (ports : List PortName) → AreLines NameSays values ports → ports ≡ map port_of values
ports_are [] [] h = refl
ports_are [] (p ∷ ps) h = absurd h
ports_are (v ∷ vs) [] h = absurd h
ports_are (v ∷ vs) (p ∷ ps) h = λ i. h.0 i ∷ ports_are vs ps h.1 i

pub named_are : (o : Option Data) (ports : List PortName) → AreLines NameSays (lines_in o) ports → ports ≡ named_ports o
named_are o ports h = ports_are (lines_in o) ports h

nat_less : (a b : ℕ) (o : Ordering) → nat_cmp a b ≡ o → ordering_then o Equal ≡ Less → a < b
nat_less a b Less is h = grind (arith, nat_tests)
nat_less a b Equal is h = cc
nat_less a b Greater is h = cc

pub share_before : (m n : PortName) → Precedes (number_in_order (share m)) (number_in_order (share n)) → port_index m < port_index n
share_before m n h = nat_less (port_index m) (port_index n) (nat_cmp (port_index m) (port_index n)) refl h

module _ (lines : PortName → ℕ) where
  module _ (d : Data) (order : List PortName) (is : order ≡ named_ports (Some d)) where
    met : (name : PortName) → times name order ≡ lines name → times_fault lines (Some d) name ≡ None
    unfolding times_fault
    met name h = rw (eq-eqb (times name (named_ports (Some d))) (lines name) (ap (times name) (sym is) ∙ h)) refl

    missed : (name : PortName) → times name order ≢ lines name → times_fault lines (Some d) name ≡ Some (error.Order name)
    unfolding times_fault
    missed name h = rw (ne_eqb (times name (named_ports (Some d))) (lines name) (λ e. h (ap (times name) is ∙ e))) refl

    module _ (names_ok : IsFaultless number_in_list (list_fault list_name.Order most_names port_fault (Some d))) where
      pub bad_share : (name : PortName) → times name order ≢ lines name
          → ((earlier : PortName) → port_index earlier < port_index name → times earlier order ≡ lines earlier)
          → IsFirst number_in_order (order_fault lines (Some d)) (error.Order name)
      bad_share name bad passed = record { place = share name; is = missed name bad; first = go }
        where
          go : (q : OrderPlace) → Precedes (number_in_order q) (number_in_order (share name))
              → order_fault lines (Some d) q ≡ None
          go (names p) before = names_ok p
          go (share m) before = met m (passed m (share_before m name before))

      pub no_share : ((name : PortName) → times name order ≡ lines name)
          → IsFaultless number_in_order (order_fault lines (Some d))
      no_share all (names p) = names_ok p
      no_share all (share name) = met name (all name)

  -- names that are at fault
  pub bad_names : (o : Option Data) (e : ScriptError)
      → IsFirst number_in_list (list_fault list_name.Order most_names port_fault o) e
      → IsFirst number_in_order (order_fault lines o) e
  bad_names o e h = record { place = names h.place; is = h.is; first = go }
    where
      go : (q : OrderPlace) → Precedes (number_in_order q) (number_in_order (names h.place)) → order_fault lines o q ≡ None
      go (names p) before = h.first p before
      go (share m) before = cc

  -- no order is faultless
  pub no_order : IsFaultless number_in_order (order_fault lines None)
  unfolding times_fault
  no_order (names p) = no_list list_name.Order most_names port_fault p
  no_order (share name) = refl

  pub default_is : order_by lines None ≡ default_order lines
  unfolding order_by
  default_is = refl

  pub named_is : (d : Data) → order_by lines (Some d) ≡ named_ports (Some d)
  unfolding order_by
  named_is d = refl

  pub default_times : (name : PortName) → times name (default_order lines) ≡ lines name
  default_times name =
      let f : PortName → ℕ = λ p. cond (same_port name p) 1 0 in
      sum_by-append f (replicate (lines If1) If1) (replicate (lines If2) If2 ++ replicate (lines Bus) Bus)
      ∙ ap (λ n. sum_by f (replicate (lines If1) If1) + n)
      (sum_by-append f (replicate (lines If2) If2) (replicate (lines Bus) Bus))
      ∙ (λ i. sum_by-replicate f (lines If1) If1 i
      + (sum_by-replicate f (lines If2) If2 i + sum_by-replicate f (lines Bus) Bus i))
      ∙ go name
    where
      go : (name : PortName) → lines If1 * cond (same_port name If1) 1 0
          + (lines If2 * cond (same_port name If2) 1 0 + lines Bus * cond (same_port name Bus) 1 0) ≡ lines name
      go If1 = omega arith
      go If2 = omega arith
      go Bus = omega arith

  -- the default order is read, unless memory ran out
  pub read_default : (r : Result (Vec PortName Global) ScriptError) → MatchResult r (λ order. order.items ≡ default_order lines)
      (λ e. e ≡ error.Memory)
      → ReadsOrder lines None r
  read_default (Ok order) h = (no_order, h ∙ sym default_is)
  read_default (Err e) h = rw h tt

  pub share_default : (r : Result (Vec PortName Global) ScriptError) → MatchResult r (λ order. order.items ≡ default_order lines)
      (λ e. e ≡ error.Memory)
      → IfOk r (λ order. (name : PortName) → times name order.items ≡ lines name)
  share_default (Ok order) h = λ name. ap (times name) h ∙ default_times name
  share_default (Err e) h = tt

  -- how often the order names the ports is wrong
  pub bad_check : (d : Data) (order : List PortName) → order ≡ named_ports (Some d)
      → IsFaultless number_in_list (list_fault list_name.Order most_names port_fault (Some d))
      → (e : ScriptError) → ChecksTimes lines order (Err e)
      → UnlessMemory e (IsFirst number_in_order (order_fault lines (Some d)) e)
  bad_check d order is names_ok error.NotJson h = absurd h
  bad_check d order is names_ok (error.Shape l i) h = absurd h
  bad_check d order is names_ok (error.Range l i) h = absurd h
  bad_check d order is names_ok (error.TooMany l) h = absurd h
  bad_check d order is names_ok (error.Order name) h = bad_share d order is names_ok name h.0 h.1
  bad_check d order is names_ok (error.Before name) h = absurd h
  bad_check d order is names_ok error.Memory h = tt
