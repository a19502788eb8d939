use Rattle.std.proofs.Common.{◌≡◌, ◌==◌, map, take, length}
use Rattle.ccan_c.proofs.shown_wire.places_of.Given as goal

-- the places so far are told
abbrev pub invariant-loop-place : goal.invariant-loop-place
invariant-loop-place l =
    record {
      count : length l.places ≡ 32;
      told : take l.place l.places ≡ map (λ n. n == l.number) (take l.place l.part);
    }
