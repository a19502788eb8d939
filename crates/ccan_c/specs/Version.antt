-- The version of the library. Source: this project's own.
use Rattle.std.specs.Prelude.{ℕ, ◌+◌, ◌*◌}

-- 0.5.0: ten thousand times the first number, a hundred times the second, and the third
abbrev pub version : ℕ
version = 0 * 10000 + 5 * 100 + 0
