use Rattle.std.proofs.Common.{◌≡◌, ◌≤◌, take, length, vec_len, vec_capacity}
use Rattle.std.specs.Prelude.{All}
use Rattle.ccan_ram.specs.Access.{Goes}
use Rattle.ccan_line.specs.Side.{GoesOn}
use Rattle.ccan_line.specs.Gate.{LetsRun}
use Rattle.ccan_line.specs.Lines.{LinesMean}
use Rattle.ccan_line.proofs.side.run_lines.Given as goal

-- the lines so far have run, and all can run
abbrev pub invariant-loop-line : goal.invariant-loop-line
invariant-loop-line g l =
    let passes = g.A.Access.passes in
    record {
      count : vec_len l.log ≡ l.line-index;
      room : length l.lines ≤ vec_capacity l.log;
      taken : All (g.S.Side.takes (passes l.fn.access).terms.profile l.side) l.lines;
      runs : Goes (passes l.fn.access) (passes l.access)
          (λ terms seen added. GoesOn g.S.Side.led_to l.fn.side l.side
          (λ state left. LinesMean (g.S.Side.means terms l.tries)
          (take l.line-index l.lines) state seen added l.log.items left));
      asked : LetsRun g.G.Gate.enters l.port l.log.items l.line-index l.fn.gate l.gate;
    }
