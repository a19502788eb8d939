use Rattle.std.proofs.Common.{List, Option, Vec, IfSome, subst, sym}
use Rattle.std.specs.declared.alloc.Global.{Global}
use Rattle.ccan_line.specs.Script.{fields_of as said_by}
use Rattle.ccan_ram.specs.declared.port.PortName.{PortName}
use Rattle.ccan_ram.specs.declared.port.PortName.TheVariants.{If1, If2, Bus}
use Rattle.ccan_script.specs.declared.race_script.RaceScript.{RaceScript}
use Rattle.ccan_outcomes.specs.RaceScript.{fields_of}
use Rattle.ccan_explain.specs.Told.{IsOrderOf}
use Rattle.ccan_lab.specs.Replay.{Replays}
use Rattle.ccan_lab.proofs.paging.outcome_pages.ordered_of.Goals as goal

-- an order of a race is one of its script
of_script : (race : RaceScript) (order : List PortName) → IsOrderOf (fields_of race) order → IsOrderOf (said_by race.script) order
of_script race order is If1 = is If1
of_script race order is If2 = is If2
of_script race order is Bus = is Bus

pub ordered_steps-requires : goal.ordered_steps-requires
ordered_steps-requires c =
    let race = c.args.race.now in
    let replays =
    subst (λ (found : Option (Vec PortName Global)).
    IfSome found (λ order. Replays c.args.frames (fields_of race) c.args.ending.now order.items))
    c.in-Some.is c.in_ok-order.ensures in
    subst (λ (order : List PortName). IsOrderOf (said_by race.script) order) (sym c.as_slice.ensures.value)
    (of_script race c.in-Some.order.items replays.is_order)
