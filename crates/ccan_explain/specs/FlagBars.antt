-- All bars of a picture, by its columns. Source: this project's own.
use Rattle.std.specs.Prelude.{ℕ, ◌≡◌, List, Bool, All, length, map, filter, slice_get, Option, Some, None}
use Rattle.std.specs.List.{range_with_len, enumerate_from, flat_map}
use Rattle.ccan_ram.specs.declared.flag.Flag.{Flag}
use Rattle.ccan_explain.specs.declared.draw.column.Column.{Column}
use Rattle.ccan_explain.specs.declared.draw.flag_bars.FlagBar.{FlagBar}
use Rattle.ccan_explain.specs.Bar.{EndsAt, begins}

-- the rows that set a flag, by whether it is set after each row; each is there once
abbrev pub rows_setting : List Bool → List ℕ
rows_setting shown = filter (begins shown) (range_with_len 0 (length shown))

-- where a bar begins: the place of its column, its flag, and the row that set it
abbrev pub start_of : FlagBar → ℕ × Flag × ℕ
start_of drawn = (drawn.place, drawn.flag, drawn.bar.from)

-- where the bars of a column begin: in each row that sets its flag
abbrev pub starts_in : ℕ × Column → List (ℕ × Flag × ℕ)
starts_in placed = map (λ row. (placed.0, placed.1.flag, row)) (rows_setting placed.1.shown.items)

-- where the bars of all columns begin
abbrev pub starts_of : List Column → List (ℕ × Flag × ℕ)
starts_of columns = flat_map starts_in (enumerate_from 0 columns)

-- the flag of a column, if there is one, stays set along a bar, which ends where the flag is cleared
abbrev pub EndsIn : Option Column → FlagBar → Type 0
EndsIn None drawn = ⊥
EndsIn (Some column) drawn = EndsAt column.shown.items drawn.bar.from drawn.bar.to

abbrev pub AllEndIn : List Column → List FlagBar → Type 0
AllEndIn columns bars = All (λ drawn. EndsIn (slice_get columns drawn.place) drawn) bars

-- each row of each column that sets its flag has one bar of that flag, and there is no other bar; each ends as its column has it
pub record AreBarsOf (columns : List Column) (bars : List FlagBar) : Type 0 where
  pub starts : map start_of bars ≡ starts_of columns
  pub ends : AllEndIn columns bars
