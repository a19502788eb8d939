use Rattle.std.proofs.Common.{refl}
use Rattle.ccan_language.specs.Hashing.{start}
use Rattle.ccan_language.proofs.hashing.IndexHasherDefault.default.Goals as goal

pub returns : goal.returns
unfolding start
returns c = refl
