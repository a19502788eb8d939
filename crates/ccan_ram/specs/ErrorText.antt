-- The texts of errors. Source: this project's own.
use Rattle.std.specs.Prelude.{ℕ, List, codes}
use Rattle.ccan_ram.specs.declared.draft.CommitError.{CommitError}
use Rattle.ccan_ram.specs.declared.draft.CommitError.TheVariants.{Lost, Spent}
use Rattle.ccan_ram.specs.declared.open_error.OpenError.{OpenError}
use Rattle.ccan_ram.specs.declared.open_error.OpenError.TheVariants.{QuotaRange, Memory}

abbrev pub commit_error_text : CommitError → List ℕ
commit_error_text (Lost now) = codes "lost to a change that contends"
commit_error_text Spent = codes "the port has made as many changes as it may"

abbrev pub open_error_text : OpenError → List ℕ
open_error_text QuotaRange = codes "the quota is out of range"
open_error_text Memory = codes "out of memory"
