-- What the order leads to is what is shown of its run.
use Rattle.std.proofs.Common.{◌≡◌, List, length, refl}
use Rattle.ccan_ram.specs.declared.port.PortName.{PortName}
use Rattle.ccan_ram.specs.declared.port.PortName.TheVariants.{If1, If2, Bus}
use Rattle.ccan_line.specs.declared.script.Script.{Script}
use Rattle.ccan_line.specs.Order.{times}
use Rattle.ccan_line.specs.Script.{fields_of as said_by}
use Rattle.ccan_outcomes.specs.RaceScript.{fields_of}
use Rattle.ccan_script.specs.declared.race_script.RaceScript.{RaceScript}
use Rattle.ccan_explain.specs.Told.{IsOrderOf}
use Rattle.ccan_lab.specs.Replay.{ending_after}
use Rattle.ccan_lab.proofs.replay.ending_in.Goals as goal

order_of : (script : Script) (order : List PortName) → times If1 order ≡ length script.if1.items
    → times If2 order ≡ length script.if2.items → times Bus order ≡ length script.bus.items → IsOrderOf (said_by script) order
order_of script order if1 if2 bus If1 = if1
order_of script order if1 if2 bus If2 = if2
order_of script order if1 if2 bus Bus = bus

-- an order of a script is one of its race
of_race : (race : RaceScript) (order : List PortName) → IsOrderOf (said_by race.script) order → IsOrderOf (fields_of race) order
of_race race order is If1 = is If1
of_race race order is If2 = is If2
of_race race order is Bus = is Bus

pub tell_in-requires : goal.tell_in-requires
tell_in-requires c =
    let names = c.if-not-is_order.ensures in
    record { order = order_of c.args.race.now.script c.args.order.now (names.if1 refl) (names.if2 refl) (names.bus refl) }

pub returns : goal.returns
returns c =
    let names = c.if-not-is_order.ensures in
    let script = fields_of c.args.race.now in
    let ran = c.in_ok-told.ensures.ran in
    let shown = c.in_ok-ending_of.ensures in
    let steps = c.in_ok-told.told.steps.items in
    let after : c.in_ok-ending_of.field-0 ≡ ending_after c.args.frames script ran.history steps =
    λ i. record { if1 = shown.if1 i; if2 = shown.if2 i; bus = shown.bus i; records = shown.records ran.history ran.seen i } in
    record {
      is_order = of_race c.args.race.now c.args.order.now
          (order_of c.args.race.now.script c.args.order.now (names.if1 refl) (names.if2 refl) (names.bus refl));
      history = ran.history;
      steps = steps;
      runs = ran.runs;
      tell = ran.tell;
      ends = after;
    }
