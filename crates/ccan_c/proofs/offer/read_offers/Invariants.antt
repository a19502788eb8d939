use Rattle.std.proofs.Common.{◌≡◌, map, take, true}
use Rattle.std.specs.List.{list_all}
use Rattle.arrayvec.specs.ArrayVec.{array_vec_len}
use Rattle.ccan_c.specs.Round.{is_frame, sending_of}
use Rattle.ccan_c.proofs.offer.read_offers.Given as goal

-- the frames so far are read
abbrev pub invariant-loop-offer : goal.invariant-loop-offer
invariant-loop-offer l =
    record {
      count : array_vec_len l.sends ≡ l.offer-index;
      frames : list_all is_frame (take l.offer-index l.offers) ≡ true;
      read : l.sends.items ≡ map sending_of (take l.offer-index l.offers);
    }
