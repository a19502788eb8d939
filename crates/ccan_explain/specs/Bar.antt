-- The bars of a flag, by whether it is set after each row. Source: this project's own.
use Rattle.std.specs.Prelude.{ℕ, ◌≡◌, ◌≤◌, ◌<◌, ◌-◌, ◌==◌, ◌||◌, List, Bool, true, false, not, ◌&&◌, length, slice_get, unwrap_or}
use Rattle.ccan_explain.specs.declared.draw.bar.Bar.{Bar}

-- whether the flag is set after a row; after the last it is not
abbrev pub is_set : List Bool → ℕ → Bool
is_set shown row = unwrap_or (slice_get shown row) false

-- whether a row sets the flag, which is not set before the first
abbrev pub begins : List Bool → ℕ → Bool
begins shown row = is_set shown row && (row == 0 || not (is_set shown (row - 1)))

-- the flag stays set from one row up to another, which clears it, or is after the last
pub record EndsAt (shown : List Bool) (from to : ℕ) : Type 0 where
  pub stays : (row : ℕ) → from ≤ row → row < to → is_set shown row ≡ true
  pub clears : is_set shown to ≡ false
  pub within : to ≤ length shown

-- a row sets the flag, and the bar ends where it is cleared
pub record IsBar (shown : List Bool) (row : ℕ) (bar : Bar) : Type 0 where
  pub from : bar.from ≡ row
  pub sets : begins shown row ≡ true
  pub ends : EndsAt shown bar.from bar.to
