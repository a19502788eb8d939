-- How often a change may be tried. Source: this project's own.
use Rattle.std.specs.Prelude.{ℕ, ◌≤◌}

abbrev pub most_tries : ℕ
most_tries = 1000

pub record IsTries (tries : ℕ) : Type 0 where
  pub least : 1 ≤ tries
  pub greatest : tries ≤ most_tries
