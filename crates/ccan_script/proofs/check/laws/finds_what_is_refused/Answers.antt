use Rattle.std.proofs.Common.{◌∙◌, ap, is_some, sym}
use Rattle.ccan_script.specs.declared.bus_op.BusOp.TheVariants.{Round}
use Rattle.ccan_script.specs.Member.{bus_row, frame_numbers, frame_row, host_row}
use Rattle.ccan_script.proofs.Checks.{found_refused, registers_refused}
use Rattle.ccan_script.proofs.check.laws.finds_what_is_refused.Goals as goal

pub returns : goal.returns
returns c =
    let table = c.lines_go_by_the_table.ensures in
    record {
      host = λ context op d is.
          found_refused context d (host_row op) (host_row op) ∙ ap is_some (sym (table.host context op d is));
      bus = λ context op d is other.
          found_refused context d (bus_row op) (bus_row op) ∙ ap is_some (sym (table.bus context op d is other));
      round = λ context d is.
          found_refused context d (bus_row Round) (bus_row Round) ∙ ap is_some (sym (table.round context d is));
      frame = λ context d. found_refused context d frame_row frame_numbers ∙ ap is_some (sym (table.frame context d));
      registers = registers_refused;
    }
