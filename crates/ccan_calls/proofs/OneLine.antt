-- What other nodes offer for a round is one line.
use Rattle.std.proofs.Common.{ℕ, ◌≡◌, ◌≤◌, List, refl, arith}
use mathlib.Core.HLevel.{is_prop→PathP}
use Rattle.ccan_accept.specs.declared.frame.Frame.{Frame}
use Rattle.ccan_bus.specs.declared.round_line.RoundLine.{RoundLine}
use Rattle.ccan_bus.specs.RoundLine.{AreSenders}
use Rattle.ccan_line.specs.BusLine.{AreSenders-prop}
use Rattle.ccan_line.specs.Limits.{most_nodes}
use Rattle.ccan_calls.specs.Laws.{OffersAreOneLine}
use Rattle.ccan_calls.proofs.Senders.{senders_so}

-- senders among some nodes are senders among more
among_more : (nodes : ℕ) (sends : List (ℕ × Frame)) → nodes ≤ most_nodes → AreSenders nodes sends → AreSenders most_nodes sends
among_more nodes sends few are = record {
  others = λ k d less.
      let (low, high) = are.others k d less in
      (low, omega (arith, high, few));
  once = are.once;
}

-- that each node sends once has one proof
same_line : (a b : RoundLine) → a.send.items ≡ b.send.items → a.fault ≡ b.fault → a ≡ b
same_line a b sends fault = λ i. record {
  send = record { items = sends i };
  fault = fault i;
  senders = is_prop→PathP (λ j. AreSenders 8 (sends j)) (λ j. AreSenders-prop 8 (sends j)) a.senders b.senders i;
}

pub one_line : OffersAreOneLine
one_line nodes sends fault few are =
    let line : RoundLine = record {
      send = record { items = sends };
      fault = fault;
      senders = among_more nodes sends few ((senders_so nodes sends).0 are);
    } in (
      line,
      record { frames = refl; fault_is = refl },
      λ other is. same_line other line is.frames is.fault_is,
    )
