-- How C gets the length of a frame. Source: this project's own, over the definition of the bits of a frame on the bus.
use Rattle.std.specs.Prelude.{ℕ, ◌≡◌, MatchBool, length}
use Rattle.ccan_time.specs.FrameBits.{bits_on_bus}
use Rattle.ccan_c.specs.declared.shown_frame.ShownFrame.{ShownFrame}
use Rattle.ccan_c.specs.Codes.{done, frame_range}
use Rattle.ccan_c.specs.Wire.{frame_in, is_shown_frame}

-- the number of its bits, if it is a frame
abbrev pub HasBits : ShownFrame → ℕ → ℕ → Type 0
HasBits shown result out =
    MatchBool (is_shown_frame shown) ((result ≡ done) × (out ≡ length (bits_on_bus (frame_in shown)))) (result ≡ frame_range)
