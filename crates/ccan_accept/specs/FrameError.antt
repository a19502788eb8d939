-- The texts of why there is no frame. Source: this project's own.
use Rattle.std.specs.Prelude.{ℕ, List, codes}
use Rattle.ccan_accept.specs.declared.frame_error.FrameError.{FrameError}
use Rattle.ccan_accept.specs.declared.frame_error.FrameError.TheVariants.{IdRange, DlcRange}

abbrev pub error_text : FrameError → List ℕ
error_text IdRange = codes "identifier out of range"
error_text DlcRange = codes "data length code above 15"
