-- What a seat knows of the ports that it holds. Source: this project's own.
use Rattle.std.specs.Prelude.{ℕ, take, [], ◌∷◌, ◌++◌, Option, Some, None}
use Rattle.ccan_ram.specs.declared.by_port.ByPort.{ByPort}
use Rattle.ccan_ram.specs.History.{History}
use Rattle.ccan_ram.specs.ByPort.{held_as, each_as}
use Rattle.ccan_words.specs.declared.view.PortView.{PortView}

-- what a seat knows for each port that it holds
abbrev pub View : Type 0
View = ByPort PortView

-- what has been seen for a port, if the seat holds it
abbrev pub seen_in : Option PortView → History
seen_in None = []
seen_in (Some x) = x.seen

-- all of a history is seen for a port
abbrev pub see : History → PortView → PortView
see h x = record { seen = h; note = x.note; quota = x.quota }

abbrev pub see_held : History → Option PortView → Option PortView
see_held h = held_as (see h)

-- and for all ports of a seat
abbrev pub see_all : History → View → View
see_all h = each_as (see h)

-- the port's note keeps its first words and takes one more
abbrev pub note_at : ℕ → ℕ → PortView → PortView
note_at j word x = record { seen = x.seen; note = take j x.note ++ word ∷ []; quota = x.quota }

-- a port that has seen nothing and written nothing
abbrev pub start : ℕ → PortView
start quota = record { seen = []; note = []; quota = quota }

-- the view of the first seat
abbrev pub all_ports : ℕ → View
all_ports quota = record { if1 = Some (start quota); if2 = Some (start quota); bus = Some (start quota) }
