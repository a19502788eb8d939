-- The text of a refused scan. Source: this project's own.
use Rattle.std.specs.Prelude.{ℕ, List, ◌++◌, codes, decimal}
use Rattle.ccan_ram.specs.declared.change.Refused.{Refused}
use Rattle.ccan_ram.specs.declared.change.Refused.TheVariants.{Busy, Spent}
use Rattle.ccan_handler.specs.declared.scan.ScanRefused.{ScanRefused}

abbrev pub reason_text : Refused → List ℕ
reason_text (Busy tries now) = codes "each of " ++ decimal tries ++ codes " tries was lost"
reason_text Spent = codes "the port has made all its changes"

abbrev pub scan_refused_text : ScanRefused → List ℕ
scan_refused_text refused = codes "object " ++ decimal refused.at ++ codes ": " ++ reason_text refused.why
