use Rattle.std.proofs.Common.{refl}
use Rattle.ccan_c.proofs.WorksAlike.{works_alike}
use Rattle.ccan_c.proofs.held.Held.read_word.Goals as goal

pub returns : goal.returns
returns c =
    let settings = c.read_word.ensures.settings in
    record {
      kept = record { works = works_alike _ _ settings refl; own = refl; bus = refl; station = refl };
      goes = c.read_word.ensures.goes;
    }
