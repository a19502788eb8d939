use Rattle.std.proofs.Common.{refl}
use Rattle.ccan_c.proofs.WorksAlike.{works_alike}
use Rattle.ccan_c.proofs.held.Held.write_word.Goals as goal

pub returns-clause-steps : goal.returns-clause-steps
returns-clause-steps c =
    let settings = c.write_word.ensures.settings in
    record {
      works = works_alike _ _ settings refl;
      bus = refl;
      station = refl;
      goes = c.write_word.ensures.goes;
    }
