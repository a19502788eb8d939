-- A value says one line of the bus. Rounds are equal where their frames and faults are: that each node sends once is a
-- proposition.
use Rattle.std.proofs.Common.{◌≡◌, Option, Some, None, ap, sym, ◌∙◌}
use mathlib.Core.HLevel.{is_prop→PathP}
use Rattle.serde_json.specs.Data.{Data}
use Rattle.ccan_bus.specs.declared.round_line.RoundLine.{RoundLine}
use Rattle.ccan_bus.specs.RoundLine.{AreSenders}
use Rattle.ccan_script.specs.declared.bus_op.BusOp.{BusOp}
use Rattle.ccan_script.specs.declared.bus_op.BusOp.TheVariants as op
use Rattle.ccan_line.specs.declared.bus_line.BusLine.{BusLine}
use Rattle.ccan_line.specs.declared.bus_line.BusLine.TheVariants.{Round}
use Rattle.ccan_script.specs.BusOp.{bus_op}
use Rattle.ccan_line.specs.BusLine.{AreSenders-prop}
use Rattle.ccan_script.specs.BusLine.{BusSays, BusSaysBy}

same_round : (a b : RoundLine) → a.send.items ≡ b.send.items → a.fault ≡ b.fault → a ≡ b
same_round a b sends fault = λ i. record {
  send = record { items = sends i };
  fault = fault i;
  senders = is_prop→PathP (λ j. AreSenders 8 (sends j)) (λ j. AreSenders-prop 8 (sends j)) a.senders b.senders i;
}

bus_once_by : (o : Option BusOp) (d : Data) (l m : BusLine) → BusSaysBy o d l → BusSaysBy o d m → l ≡ m
unfolding BusSaysBy
bus_once_by None d l m h k = absurd h
bus_once_by (Some op.Round) d l m (a, is, says) (b, is', says') =
    is ∙ ap Round (same_round a b (says.sends ∙ sym says'.sends) (says.fault ∙ sym says'.fault)) ∙ sym is'
-- each other operation determines its line
bus_once_by (Some other) d l m h k = h ∙ sym k

pub bus_once : (d : Data) (l m : BusLine) → BusSays d l → BusSays d m → l ≡ m
bus_once d l m h k = bus_once_by (bus_op d) d l m h k
