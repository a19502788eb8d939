-- How C gets what is on a bus. Source: this project's own, over the definitions of what is on a bus.
use Rattle.std.specs.Prelude.{ℕ, ◌≡◌, List, MatchBool, length, map, nat_le}
use Rattle.std.specs.List.{list_all}
use Rattle.ccan_wire.specs.declared.wire.Wire.{Wire}
use Rattle.ccan_wire.specs.Member.{member_at}
use Rattle.ccan_wire.specs.Wire.{Carries, Continues}
use Rattle.ccan_c.specs.declared.shown_member.ShownMember.{ShownMember}
use Rattle.ccan_c.specs.declared.shown_wire.ShownWire.{ShownWire}
use Rattle.ccan_c.specs.Codes.{done, member_range, members_range, wire_range}
use Rattle.ccan_c.specs.Wire.{IsShownWire, is_member, is_wire, member_in, most_members, wire_in}

-- the members are not too many, and each is one; else this code is answered
abbrev pub AreMembers : List ShownMember → ℕ → Type 0 → Type 0
AreMembers members result what =
    MatchBool (nat_le (length members) most_members)
    (MatchBool (list_all is_member members) what (result ≡ member_range))
    (result ≡ members_range)

-- C gets what the members put on the bus
pub record IsDecided (members : List ShownMember) (result : ℕ) (out : ShownWire) : Type 0 where
  pub code_is : result ≡ done
  pub on : Wire
  pub carries : Carries (member_at (map member_in members)) on
  pub shows : IsShownWire on out

abbrev pub Decides : List ShownMember → ℕ → ShownWire → Type 0
Decides members result out = AreMembers members result (IsDecided members result out)

-- C gets how what was decided at the start ends
pub record IsDecidedAgain (start : ShownWire) (members : List ShownMember) (result : ℕ) (out : ShownWire) : Type 0 where
  pub code_is : result ≡ done
  pub on : Wire
  pub continues : Continues (wire_in start) (member_at (map member_in members)) on
  pub shows : IsShownWire on out

abbrev pub DecidesAgain : ShownWire → List ShownMember → ℕ → ShownWire → Type 0
DecidesAgain start members result out =
    MatchBool (is_wire start) (AreMembers members result (IsDecidedAgain start members result out)) (result ≡ wire_range)
