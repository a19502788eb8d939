use Rattle.std.proofs.Common.{◌≡◌, map, take, length, true}
use Rattle.std.specs.List.{list_all}
use Rattle.ccan_c.specs.Wire.{is_member, member_in}
use Rattle.ccan_c.proofs.shown_member.read_members.Given as goal

-- the members so far are read
abbrev pub invariant-loop-place : goal.invariant-loop-place
invariant-loop-place l =
    record {
      count : length l.members ≡ 32;
      good : list_all is_member (take l.place l.shown) ≡ true;
      read : take l.place l.members ≡ map member_in (take l.place l.shown);
    }
