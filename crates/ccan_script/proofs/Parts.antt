-- The fault of least place of a script, from those of its parts in turn.
use Rattle.std.proofs.Common.{◌≡◌, ◌+◌, ◌∙◌, ℕ, List, [], ◌∷◌, true, false, None, Some, Option, refl, sym, codes}
use Rattle.serde_json.specs.Data.{Data}
use Rattle.serde_json.specs.Find.{get}
use Rattle.ccan_object.specs.declared.profile.Profile.{Profile}
use Rattle.ccan_ram.specs.declared.port.PortName.{PortName}
use Rattle.ccan_ram.specs.declared.port.PortName.TheVariants as port
use Rattle.ccan_ram.specs.Port.{most_quota, port_index}
use Rattle.ccan_ram.specs.Tries.{most_tries}
use Rattle.ccan_script.specs.declared.list_name.ListName.TheVariants.{Top, If1, If2, Bus}
use Rattle.ccan_script.specs.declared.script_error.ScriptError.{ScriptError}
use Rattle.ccan_script.specs.declared.script_error.ScriptError.TheVariants.{Shape}
use Rattle.ccan_line.specs.Limits.{most_lines, most_nodes, most_profile}
use Rattle.ccan_script.specs.Json.{has_only}
use Rattle.ccan_script.specs.HostLine.{host_fault}
use Rattle.ccan_script.specs.BusLine.{bus_fault}
use Rattle.ccan_script.specs.Order.{OrderPlace, number_in_order, order_fault, share}
use Rattle.ccan_script.specs.Places.{IsFaultless, IsFirst, Precedes}
use Rattle.ccan_script.specs.ListPlace.{ListPlace, list, list_fault, number_in_list}
use Rattle.ccan_script.specs.Script.{Place, fault_among, lines_of_port, nodes_of}
use Rattle.ccan_script.specs.Script.{number_fault, number_of, profile_of}
use Rattle.ccan_script.specs.Script.{bus, if1, if2, members, nodes, order, profile, quota, tries}

module _ (d : Data) where
  -- the fault of a number that is a member of this name
  abbrev member_fault : ℕ → ℕ → List ℕ → Option ScriptError
  member_fault least greatest name = number_fault least greatest (get name d)

  -- the faults of a port's lines, where the script has this profile and so many nodes
  abbrev pub lines_fault : PortName → Profile → ℕ → ListPlace → Option ScriptError
  lines_fault port.If1 p n = list_fault If1 most_lines (host_fault p) (get (codes "if1") d)
  lines_fault port.If2 p n = list_fault If2 most_lines (host_fault p) (get (codes "if2") d)
  lines_fault port.Bus p n = list_fault Bus most_lines (bus_fault n) (get (codes "bus") d)

  abbrev the_order_fault : OrderPlace → Option ScriptError
  the_order_fault = order_fault (lines_of_port d) (get (codes "order") d)

module _ (known : List (List ℕ)) (d : Data) where
  abbrev pub HasGoodNames : Type 0
  HasGoodNames = has_only known d ≡ true

  -- a fault of the script
  abbrev pub IsFirstFault : ScriptError → Type 0
  IsFirstFault e = IsFirst number_of (fault_among known d) e

  -- the parts before the one of this number have no fault; a proof of it goes from part to part
  abbrev pub PassedBefore : ℕ → Type 0
  PassedBefore part = (q : Place) → Precedes (number_of q) (part ∷ []) → fault_among known d q ≡ None

  -- ---- the names and the numbers

  pub bad_members : has_only known d ≡ false → IsFirstFault (Shape Top 0)
  unfolding fault_among
  bad_members h = record { place = members; is = rw h refl; first = go }
    where
      go : PassedBefore 0
      go members before = cc
      go q before = cc

  module _ (names : HasGoodNames) where
    before_profile : PassedBefore 1
    unfolding fault_among
    before_profile members before = rw names refl
    before_profile q before = cc

    pub bad_profile : (e : ScriptError) → member_fault d 1 most_profile (codes "profile") ≡ Some e → IsFirstFault e
    unfolding fault_among
    bad_profile e h = record { place = profile; is = h; first = before_profile }

    module _ (profile_ok : member_fault d 1 most_profile (codes "profile") ≡ None) where
      before_quota : PassedBefore 2
      unfolding fault_among
      before_quota profile before = profile_ok
      before_quota q before = before_profile q cc

      pub bad_quota : (e : ScriptError) → member_fault d 1 most_quota (codes "quota") ≡ Some e → IsFirstFault e
      unfolding fault_among
      bad_quota e h = record { place = quota; is = h; first = before_quota }

      module _ (quota_ok : member_fault d 1 most_quota (codes "quota") ≡ None) where
        before_tries : PassedBefore 3
        unfolding fault_among
        before_tries quota before = quota_ok
        before_tries q before = before_quota q cc

        pub bad_tries : (e : ScriptError) → member_fault d 1 most_tries (codes "tries") ≡ Some e → IsFirstFault e
        unfolding fault_among
        bad_tries e h = record { place = tries; is = h; first = before_tries }

        module _ (tries_ok : member_fault d 1 most_tries (codes "tries") ≡ None) where
          before_nodes : PassedBefore 4
          unfolding fault_among
          before_nodes tries before = tries_ok
          before_nodes q before = before_tries q cc

          pub bad_nodes : (e : ScriptError) → member_fault d 0 most_nodes (codes "nodes") ≡ Some e → IsFirstFault e
          unfolding fault_among
          bad_nodes e h = record { place = nodes; is = h; first = before_nodes }

          pub before_lines : member_fault d 0 most_nodes (codes "nodes") ≡ None → PassedBefore 5
          unfolding fault_among
          before_lines nodes_ok nodes before = nodes_ok
          before_lines nodes_ok (if1 list) before = cc
          before_lines nodes_ok q before = before_nodes q cc

  -- ---- the lines of a port

  -- the place of a check of its lines
  place_of : PortName → ListPlace → Place
  place_of port.If1 place = if1 place
  place_of port.If2 place = if2 place
  place_of port.Bus place = bus place

  module _ (p : Profile) (n : ℕ) (same_profile : p ≡ profile_of d) (same_nodes : n ≡ nodes_of d) where
    -- the fault of the place, whatever the profile and the nodes are called
    lines_fault_at : (name : PortName) (place : ListPlace)
        → lines_fault d name p n place ≡ fault_among known d (place_of name place)
    unfolding fault_among place_of
    lines_fault_at port.If1 place = rw same_profile refl
    lines_fault_at port.If2 place = rw same_profile refl
    lines_fault_at port.Bus place = rw same_nodes refl

    pub bad_lines : (name : PortName) → PassedBefore (5 + port_index name) → (e : ScriptError)
        → IsFirst number_in_list (lines_fault d name p n) e → IsFirstFault e
    unfolding place_of
    bad_lines name passed e h =
        record { place = place_of name h.place; is = rw (sym (lines_fault_at name h.place)) h.is; first = go name passed h }
      where
        go : (name : PortName) → PassedBefore (5 + port_index name) → (h : IsFirst number_in_list (lines_fault d name p n) e)
            → (q : Place) → Precedes (number_of q) (number_of (place_of name h.place)) → fault_among known d q ≡ None
        go port.If1 passed h (if1 r) before = rw (sym (lines_fault_at port.If1 r)) (h.first r before)
        go port.If2 passed h (if2 r) before = rw (sym (lines_fault_at port.If2 r)) (h.first r before)
        go port.Bus passed h (bus r) before = rw (sym (lines_fault_at port.Bus r)) (h.first r before)
        go port.If1 passed h q before = passed q cc
        go port.If2 passed h q before = passed q cc
        go port.Bus passed h q before = passed q cc

    pub good_lines : (name : PortName) → PassedBefore (5 + port_index name)
        → IsFaultless number_in_list (lines_fault d name p n) → PassedBefore (6 + port_index name)
    unfolding place_of
    good_lines port.If1 passed h (if1 r) before = sym (lines_fault_at port.If1 r) ∙ h r
    good_lines port.If2 passed h (if2 r) before = sym (lines_fault_at port.If2 r) ∙ h r
    good_lines port.Bus passed h (bus r) before = sym (lines_fault_at port.Bus r) ∙ h r
    good_lines port.If1 passed h (if2 list) before = cc
    good_lines port.If2 passed h (bus list) before = cc
    good_lines port.Bus passed h (order (share name)) before = cc
    good_lines port.If1 passed h q before = passed q cc
    good_lines port.If2 passed h q before = passed q cc
    good_lines port.Bus passed h q before = passed q cc

  -- ---- the order

  module _ (passed : PassedBefore 8) where
    pub bad_order : (e : ScriptError) → IsFirst number_in_order (the_order_fault d) e → IsFirstFault e
    unfolding fault_among
    bad_order e h = record { place = order h.place; is = h.is; first = go }
      where
        go : (q : Place) → Precedes (number_of q) (number_of (order h.place)) → fault_among known d q ≡ None
        go (order r) before = h.first r before
        go q before = passed q cc

    pub no_fault : IsFaultless number_in_order (the_order_fault d) → IsFaultless number_of (fault_among known d)
    unfolding fault_among
    no_fault order_ok (order r) = order_ok r
    no_fault order_ok q = passed q refl
