use Rattle.std.proofs.Common.{refl}
use Rattle.ccan_c.proofs.WorksAlike.{works_alike}
use Rattle.ccan_c.proofs.held.Held.request.Goals as goal

pub returns : goal.returns
returns c =
    let settings = c.request.ensures.settings in
    record {
      works = works_alike _ _ settings refl;
      bus = refl;
      station = refl;
      goes = c.request.ensures.goes;
    }
