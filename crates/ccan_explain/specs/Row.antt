-- What a row of a run's picture has of its step. Source: this project's own.
use Rattle.std.specs.Prelude.{Option, option_and_then, option_map}
use Rattle.ccan_accept.specs.declared.frame.Frame.{Frame}
use Rattle.ccan_ram.specs.declared.port.PortName.{PortName}
use Rattle.ccan_explain.specs.declared.draw.picture.Row.{Row}
use Rattle.ccan_explain.specs.declared.step.Step.{Step}
use Rattle.ccan_explain.specs.Contest.{winner_in}

-- the frame that won the bus, by the report of a round
abbrev pub frame_told : Step → Option Frame
frame_told step = option_map (λ won. won.1) (option_and_then winner_in step.report)

-- the lane and the frame of a row, and of the row that a step has
abbrev pub lane_of : Row → PortName × Option Frame
lane_of row = (row.port, row.frame)

abbrev pub lane_told : Step → PortName × Option Frame
lane_told step = (step.port, frame_told step)
