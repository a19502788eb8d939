-- The bus was asked for a thread only where IF2 has one; where either has none, nothing is answered well.
use Rattle.std.proofs.Common.{rules}
use Rattle.ccan_run.proofs.threads.join_all.Goals as goal
use Rattle.ccan_run.proofs.threads.join_all.Goals.{in-Ok, in-Err}

pub returns-clause-ok : goal.returns-clause-ok
returns-clause-ok g c =
    record {
      if1 = search rules;
      if2 =
          search rules;
      bus = elim c.match-if2.branch [ in-Ok w ↦ search rules | in-Err w ↦ search rules ];
    }
