-- What a call from C comes to, on whichever handle. Source: this project's own.
use Rattle.std.specs.Prelude.{ℕ, ◌≡◌, Option, Some, None}
use Rattle.ccan_c.specs.declared.held.Held.{Held}
use Rattle.ccan_c.specs.Codes.{closed}

-- a call on a closed handle is refused, and the handle stays closed; on an open one, this comes of it
abbrev pub IsCall : Option Held → Option Held → ℕ → (Held → Type 0) → Type 0
IsCall None after result what = (result ≡ closed) × (after ≡ None)
IsCall (Some held) after result what = what held
