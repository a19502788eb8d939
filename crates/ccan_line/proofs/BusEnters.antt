-- How the bus's lines begin: one with a load by its scan, the interrupt value by the Status register.
use Rattle.std.proofs.Common.{ℕ, ◌≡◌, ◌+◌, ◌-◌, Bool, true, false, None, Option, refl, sym, ap, ◌∙◌, arith}
use Rattle.ccan_object.specs.declared.profile.Profile.{Profile}
use Rattle.ccan_object.specs.declared.record.Record.{Record}
use Rattle.ccan_object.specs.Profile.{objects_in}
use Rattle.ccan_ram.specs.declared.flag.Flag.TheVariants.{IntPnd}
use Rattle.ccan_bus.specs.Past.{BusPast, is_on}
use Rattle.ccan_process.specs.Process.{Ended}
use Rattle.ccan_line.specs.declared.bus_line.BusLine.{BusLine}
use Rattle.ccan_line.specs.declared.bus_line.BusLine.TheVariants as line
use Rattle.ccan_line.specs.declared.bus_point.Aim.TheVariants.{Start}
use Rattle.ccan_line.specs.declared.line_answer.LineAnswer.TheVariants as answer
use Rattle.ccan_line.specs.BusEngine.{IsLoadLine, asks_from, load_on, scans_from}
use Rattle.ccan_line.specs.LineEnd.{unframed}
use Rattle.ccan_line.specs.LineProcess.{until_shown, number_found, bus_process, bus_interrupt, load_next, loads}
use Rattle.ccan_line.proofs.BusKinds.{by_load}
use Rattle.ccan_line.proofs.Courses.{from_first}

module _ (profile : Profile) where
  -- a line that begins with a load, where nothing is loaded and the controller is on
  pub starts : (line : BusLine) (past : BusPast) → IsLoadLine line → past.loaded ≡ None → is_on past 0 ≡ true
      → bus_process profile line past ≡ scans_from profile line past Start 1
  starts of past is empty on =
      loads_first of past is
      ∙ ap (λ (l : Option (ℕ × Record)). loads profile past l (load_on profile of)) empty
      ∙ ap (λ (b : Bool). load_next profile past b (load_on profile of)) on
      ∙ sym (from_first profile of past Start)
    where
      loads_first : (of : BusLine) (past : BusPast) → IsLoadLine of
          → bus_process profile of past ≡ loads profile past past.loaded (load_on profile of)
      loads_first of past is =
          by_load (λ l. bus_process profile l past ≡ loads profile past past.loaded (load_on profile l)) refl (λ round. refl) of is

  -- the interrupt value, by whether the status interrupt is pending
  pub asks_status : (past : BusPast) (pending : Bool) → pending ≡ true
      → bus_interrupt profile past pending ≡ Ended (unframed (answer.Interrupt 0x8000), past)
  asks_status past pending is = ap (bus_interrupt profile past) is

  pub asks_objects : (past : BusPast) (pending : Bool) → pending ≡ false
      → bus_interrupt profile past pending ≡ asks_from profile line.Interrupt past 0 0
  asks_objects past pending is =
      let whole : objects_in profile ≡ objects_in profile - 0 = omega arith in
      ap (bus_interrupt profile past) is
      ∙ ap (λ (n : ℕ). until_shown (λ before. before + 1) IntPnd n 0
      (λ found. Ended (unframed (answer.Interrupt (number_found found)), past))) whole
