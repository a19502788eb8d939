use Rattle.std.proofs.Common.{◌≡◌, map, take}
use Rattle.ccan_explain.specs.Row.{lane_of, lane_told}
use Rattle.ccan_explain.proofs.draw.run_picture.rows_of.Given as goal

-- the lanes and the frames of the steps so far
abbrev pub invariant-loop-step : goal.invariant-loop-step
invariant-loop-step l = map lane_of l.rows.items ≡ map lane_told (take l.step-index l.steps)
