-- What a port knows. Source: this project's own.
use Rattle.std.specs.Prelude.{◌≡◌, ℕ, ◌≤◌, List, ◌∷◌}
use Rattle.atomic_table.specs.Seated.{TableId}
use Rattle.ccan_object.specs.declared.profile.Profile.{Profile}
use Rattle.ccan_ram.specs.declared.port.PortName.{PortName}
use Rattle.ccan_ram.specs.History.{changes_by}
use Rattle.ccan_ram.specs.SharedRam.{Memory, Pass}
use Rattle.ccan_words.specs.declared.view.PortView.{PortView}
use Rattle.ccan_ram.specs.ByPort.{holding}
use Rattle.ccan_words.specs.View.{seen_in, View}
use Rattle.ccan_ram.specs.Sound.{IsSound}
use Rattle.ccan_words.specs.Plays.{Knows}
use Rattle.ccan_words.specs.Version.{IsSeatOf}

-- the numbers that name a table of words
abbrev pub numbers_of : TableId → List ℕ
numbers_of z = z.words ∷ z.slots ∷ z.views_name ∷ z.atom ∷ z.block ∷ z.offset ∷ z.slot_names

-- the memory in a table of words
abbrev pub memory_in : TableId → Profile → ℕ → Memory
memory_in table profile quota = record { profile = profile; quota = quota; name = numbers_of table }

-- the port of this name of the memory in a table, by the view of its seat
abbrev pub pass_of : TableId → Profile → ℕ → PortName → View → Pass
pass_of table profile quota name v =
    record { memory = memory_in table profile quota; port = name; seen = seen_in (holding name v) }

-- the seat holds only this port, which has made this many changes of its quota
pub record IsPort (me : Knows) (profile : Profile) (name : PortName) (used quota : ℕ) : Type 0 where
  pub held : PortView
  pub view : IsSeatOf name held me
  pub made : used ≡ changes_by name held.seen
  pub most : held.quota ≡ quota
  pub sound : IsSound profile quota held.seen
  pub room : used ≤ quota
  pub few : quota ≤ 4096
