-- Nodes without a chip, as C writes them. Source: this project's own, over the definitions of a plain node.
use Rattle.std.specs.Prelude.{ℕ, ◌≡◌, ◌≤◌, ◌<◌, ◌+◌, ◌&&◌, Bool, true, false, MatchBool, None, nat_le, nat_lt}
use Rattle.ccan_confine.specs.Counters.{Counts, are_node_counts, groups_to_return, is_recovering, most_rec, new_counts}
use Rattle.ccan_line.specs.Limits.{most_groups}
use Rattle.ccan_station.specs.declared.plain.Plain.{Plain}
use Rattle.ccan_station.specs.Plain.{plain_after, plain_member}
use Rattle.ccan_wire.specs.Event.{event_of}
use Rattle.ccan_c.specs.declared.shown_frame.ShownFrame.{ShownFrame}
use Rattle.ccan_c.specs.declared.shown_member.ShownMember.{ShownMember}
use Rattle.ccan_c.specs.declared.shown_node.ShownNode.{ShownNode}
use Rattle.ccan_c.specs.declared.shown_wire.ShownWire.{ShownWire}
use Rattle.ccan_c.specs.Codes.{counters_range, done, frame_range, groups_range, member_range, place_range, wire_range}
use Rattle.ccan_c.specs.Finished.{event_number}
use Rattle.ccan_c.specs.Settings.{is_from_one_to}
use Rattle.ccan_c.specs.Wire.{c_member, is_member, is_offer, is_wire, member_in, most_members, offered, wire_in}

-- its counters are some that a node can have
abbrev pub is_node : ShownNode → Bool
is_node shown = nat_le shown.rec most_rec && are_node_counts shown.tec shown.groups

abbrev pub counts_of : ShownNode → Counts
counts_of shown =
    record {
      host = false;
      levels = record { tec = shown.tec; rec = shown.rec };
      init_cleared = false;
      groups = shown.groups;
    }

abbrev pub plain_in : ShownNode → Plain
plain_in shown = record { counters = counts_of shown }

abbrev pub c_node : Counts → ShownNode
c_node counts = record { tec = counts.levels.tec; rec = counts.levels.rec; groups = counts.groups }

-- a frame that a node offers, or none
abbrev pub offer_of : ℕ → ShownFrame → ShownMember
offer_of sends frame = record { role = 0; fault = 0; sends = sends; frame = frame }

-- the start of a frame, for a node
abbrev pub NodeBegins : ShownNode → ℕ → ShownFrame → ℕ → ShownMember → Type 0
NodeBegins node sends frame result out =
    MatchBool (is_node node)
    (MatchBool (is_offer (offer_of sends frame))
    ((result ≡ done) × (out ≡ c_member (plain_member (plain_in node) (offered (offer_of sends frame)) None)))
    (result ≡ frame_range))
    (result ≡ counters_range)

-- its end: the node's counters after its event, and which event that is
pub record NodeEnds (old : ShownNode) (on : ShownWire) (place : ℕ) (member : ShownMember) (result : ℕ) (new : ShownNode)
    (event : ℕ) : Type 0 where
  pub code_is : result ≡ done
  pub counted : new ≡ c_node (plain_after (plain_in old) (wire_in on) place (member_in member)).counters
  pub event_is : event ≡ event_number (event_of (wire_in on) place (member_in member))

abbrev pub NodeFinishes : ShownNode → ShownWire → ℕ → ShownMember → ℕ → ShownNode → ℕ → Type 0
NodeFinishes old on place member result new event =
    MatchBool (is_node old)
    (MatchBool (is_wire on)
    (MatchBool (nat_lt place most_members)
    (MatchBool (is_member member) (NodeEnds old on place member result new event) (result ≡ member_range))
    (result ≡ place_range))
    (result ≡ wire_range))
    (result ≡ counters_range)

-- groups of recessive bits count for a node that is bus off, and the last of 128 brings it back
pub record HearsGroups (groups : ℕ) (old new : Counts) : Type 0 where
  pub ignored : is_recovering old ≡ false → new ≡ old
  pub counted : is_recovering old ≡ true → old.groups + groups < groups_to_return
      → new ≡ record old { groups = old.groups + groups }
  pub back : is_recovering old ≡ true → groups_to_return ≤ old.groups + groups → new ≡ new_counts false

pub record NodeRecovers (old : ShownNode) (groups result : ℕ) (new : ShownNode) : Type 0 where
  pub code_is : result ≡ done
  pub after : Counts
  pub hears : HearsGroups groups (counts_of old) after
  pub shows : new ≡ c_node after

abbrev pub NodeHears : ShownNode → ℕ → ℕ → ShownNode → Type 0
NodeHears old groups result new =
    MatchBool (is_node old)
    (MatchBool (is_from_one_to most_groups groups) (NodeRecovers old groups result new) (result ≡ groups_range))
    (result ≡ counters_range)
