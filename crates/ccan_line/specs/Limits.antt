-- The limits of a script, and what holds if it doesn't give a number. The most changes of a port and the most tries of a
-- change are those of every memory, in ccan_ram. Source: this project's own.
use Rattle.std.specs.Prelude.{ℕ}

-- lines of one list
abbrev pub most_lines : ℕ
most_lines = 2000

-- names in the order of the ports
abbrev pub most_names : ℕ
most_names = 6000

-- the number of a profile
abbrev pub most_profile : ℕ
most_profile = 2

abbrev pub default_profile : ℕ
default_profile = 1

-- changes of a port
abbrev pub default_quota : ℕ
default_quota = 64

-- tries of a change
abbrev pub default_tries : ℕ
default_tries = 100

-- nodes on the bus besides the controller
abbrev pub most_nodes : ℕ
most_nodes = 8

abbrev pub default_nodes : ℕ
default_nodes = 0

-- looks of a wait
abbrev pub most_turns : ℕ
most_turns = 1000000

-- groups of eleven recessive bits in one line
abbrev pub most_groups : ℕ
most_groups = 10000

-- frames of one round
abbrev pub most_frames : ℕ
most_frames = 8
