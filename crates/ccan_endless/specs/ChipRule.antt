-- The rule of a chip's words: there is one history of the whole chip. The message RAM's part of it keeps the rule of the objects'
-- words (`Rule`), and the controller's word holds the controller that the history leaves. Source: this project's own.
use Rattle.std.specs.Prelude.{◌≡◌, ◌≢◌, ℕ, [], ◌∷◌, map, slice_index, Option, Some, None}
use mathlib.Core.Option.{some}
use lib.ListN.{get_elem?}
use Rattle.atomic_table.specs.Table.{State, Me}
use Rattle.ccan_object.specs.declared.profile.Profile.{Profile}
use Rattle.ccan_confine.specs.declared.controller.Controller.{Controller}
use Rattle.ccan_confine.specs.declared.controller_change.ControllerChange.{ControllerChange}
use Rattle.ccan_confine.specs.Controller.{packed, IsController, controller_after}
use Rattle.ccan_ram.specs.declared.port.PortName.{PortName}
use Rattle.ccan_ram.specs.declared.by_port.ByPort.{ByPort}
use Rattle.ccan_ram.specs.ByPort.{holding, each_as, with_held, only, together, nothing}
use Rattle.ccan_endless.specs.declared.view.PortView.{PortView}
use Rattle.ccan_endless.specs.declared.view.ChipView.{ChipView}
use Rattle.ccan_endless.specs.declared.chip.ChipEvent.TheVariants.{OfController}
use Rattle.ccan_endless.specs.declared.chip.ControllerStep.TheVariants.{Look, Make}
use Rattle.ccan_endless.specs.View.{View, see_all, all_ports}
use Rattle.ccan_endless.specs.Plays.{Knows, GoesOn}
use Rattle.ccan_endless.specs.Layout.{controller_cell}
use Rattle.ccan_endless.specs.Rule.{Keeps}
use Rattle.ccan_endless.specs.Chip.{ChipHistory, ram_of, controller_at, steps_of, IsControllerLegal, GoesFrom}
use Rattle.ccan_endless.specs.Chip.{MayMake, step_at}
use Rattle.ccan_endless.specs.ChipPort.{whole_in}

-- a seat's view of a chip, besides the slots that it holds: these memories have none
abbrev pub ChipKnows : Type 0
ChipKnows = Me (Unit {0}) ChipView

-- the part of it that is of the message RAM
abbrev pub ram_knows : ChipKnows → Knows
ram_knows m = (m.0.ram, m.1)

abbrev pub ram_view : ChipView → View
ram_view v = v.ram

abbrev pub ram_state : {S : Type 0} → State S ChipView → State S View
ram_state s = record { words = s.words; homes = s.homes; views = map ram_view s.views }

-- all of a history of the chip is seen for each port
abbrev pub chip_see : ChipHistory → ByPort ChipHistory → ByPort ChipHistory
chip_see h v = each_as (λ old. h) v

-- what has been seen of the message RAM for a port is the message RAM's part of what has been seen of the chip
abbrev pub Agree : Option PortView → Option ChipHistory → Type 0
Agree None None = Unit {0}
Agree None (Some h) = ⊥
Agree (Some x) None = ⊥
Agree (Some x) (Some h) = x.seen ≡ ram_of h

-- what a port has seen is a beginning of the history, and has all of the port's steps at the controller
pub record IsBeginning (log : ChipHistory) (p : PortName) (h : ChipHistory) : Type 0 where
  pub part : GoesFrom log h
  pub own : steps_of p log ≡ steps_of p h

module _ (profile : Profile) where
  -- the rule
  pub record ChipKeeps {S : Type 0} (s : State S ChipView) : Type 0 where
    pub log : ChipHistory
    -- the message RAM's part keeps the rule of the objects' words
    pub ram : Keeps profile (ram_state s)
    pub same : ram.log ≡ ram_of log
    -- the controller's steps are legal, and its word holds what they left
    pub legal : IsControllerLegal log
    pub word : slice_index s.words controller_cell ≡ packed (controller_at log)
    pub agree : (i : ℕ) (p : PortName) (v : ChipView) → get_elem? s.views i ≡ some v → Agree (holding p v.ram) (holding p v.chip)
    pub seats : (i : ℕ) (p : PortName) (v : ChipView) (h : ChipHistory) → get_elem? s.views i ≡ some v
        → holding p v.chip ≡ Some h → IsBeginning log p h
    -- the `told` of a seat is a beginning of the history
    pub told : (i : ℕ) (v : ChipView) → get_elem? s.views i ≡ some v → GoesFrom log v.told

-- what each port of a seat has seen is all of this history
abbrev pub SawAll : ChipHistory → ChipKnows → ChipKnows → Type 0
SawAll log m n = n ≡ (record { ram = see_all (ram_of log) m.0.ram; chip = chip_see log m.0.chip; told = m.0.told }, m.1)

-- the history goes on from what was seen for the port, with no step of the port at the controller
pub record ChipGoesOn (p : PortName) (h log : ChipHistory) : Type 0 where
  pub part : GoesFrom log h
  pub own : steps_of p log ≡ steps_of p h
  pub legal : IsControllerLegal log

-- the history, with the controller that it left
pub record FindsController (profile : Profile) (log : ChipHistory) (m : ChipKnows) (found : ℕ) : Type 0 where
  pub found_is : found ≡ packed (controller_at log)
  pub is : IsController (controller_at log)
  pub ram : (p : PortName) (x : PortView) → holding p m.0.ram ≡ Some x → GoesOn profile p x (ram_of log)
  pub goes_on : (p : PortName) (h : ChipHistory) → holding p m.0.chip ≡ Some h → ChipGoesOn p h log
  pub told : GoesFrom log m.0.told

-- a look at the controller: it is the last event of a history that was seen
pub record LooksController (profile : Profile) (p : PortName) (m : ChipKnows) (found : ℕ) (n : ChipKnows) : Type 0 where
  pub log : ChipHistory
  pub finds : FindsController profile log m found
  pub view : SawAll (OfController (step_at p Look (controller_at log)) ∷ log) m n
  pub legal : IsControllerLegal (OfController (step_at p Look (controller_at log)) ∷ log)

-- such a history was seen, without an event
pub record SeesController (profile : Profile) (m : ChipKnows) (found : ℕ) (n : ChipKnows) : Type 0 where
  pub log : ChipHistory
  pub finds : FindsController profile log m found
  pub view : SawAll log m n

-- what a change of the controller requires: it was computed from this controller, and the port may make it
pub record IsSetting (p : PortName) (change : ControllerChange) (before : Controller) : Type 0 where
  pub may : MayMake p change
  pub is_before : IsController before
  pub is_after : IsController (controller_after change before)

-- the word still held that controller, and the change was made, as the last event of a history that was seen; or such a
-- history was seen, without it
pub record SetsController (profile : Profile) (p : PortName) (change : ControllerChange) (before : Controller) (m : ChipKnows)
    (found : ℕ) (n : ChipKnows) : Type 0 where
  pub log : ChipHistory
  pub finds : FindsController profile log m found
  pub done : found ≡ packed before → (before ≡ controller_at log)
      × SawAll (OfController (step_at p (Make change) before) ∷ log) m n
      × IsControllerLegal (OfController (step_at p (Make change) before) ∷ log)
  pub lost : found ≢ packed before → SawAll log m n

-- a seat is cut in two: the second has one port, and the `told` of the first is what that port has seen
abbrev pub chip_without : PortName → ChipView → ChipView
chip_without p v =
    record { ram = with_held p None v.ram; chip = with_held p None v.chip; told = whole_in (holding p v.chip) }

abbrev pub chip_only : PortName → ChipView → ChipView
chip_only p v = record { ram = only p (holding p v.ram); chip = only p (holding p v.chip); told = [] }

-- a seat takes the ports of another, and its `told`
abbrev pub chip_together : ChipView → ChipView → ChipView
chip_together v w = record { ram = together v.ram w.ram; chip = together v.chip w.chip; told = w.told }

abbrev pub chip_nothing : ChipView
chip_nothing = record { ram = nothing; chip = nothing; told = [] }

-- each port has seen this of the chip
abbrev pub all_seen : ChipHistory → ByPort ChipHistory
all_seen h = record { if1 = Some h; if2 = Some h; bus = Some h }

-- the view of the first seat
abbrev pub chip_all_ports : ℕ → ChipView
chip_all_ports quota = record { ram = all_ports quota; chip = all_seen []; told = [] }
