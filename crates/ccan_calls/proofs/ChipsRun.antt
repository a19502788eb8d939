-- What the bus's port does when a chip is reset or saved is a process.
use Rattle.std.proofs.Common.{ℕ, ◌↔◌, ◌≤◌, ◌+◌, List, [], ◌∷◌, ◌++◌, length, take, refl, sym, ap, subst}
use Rattle.std.proofs.lemmas.List.{length-take-le}
use Rattle.ccan_object.specs.declared.record.Record.{Record}
use Rattle.ccan_object.specs.Profile.{objects_in}
use Rattle.ccan_confine.specs.declared.controller.Controller.{Controller}
use Rattle.ccan_ram.specs.Terms.{Terms}
use Rattle.ccan_endless.specs.declared.chip.ControllerStep.TheVariants.{Look}
use Rattle.ccan_endless.specs.Chip.{ChipHistory}
use Rattle.ccan_registers.specs.ChipSteps.{AtController}
use Rattle.ccan_registers.specs.Objects.{ShowsObject}
use Rattle.ccan_registers.specs.Looks.{LooksAtAll, LooksThrough}
use Rattle.ccan_calls.specs.ChipProcess.{ChipFound, found_with, looks_at_all, looks_through, record_first}
use Rattle.ccan_calls.specs.Laws.{ResetsAreProcesses, SavesAreProcesses}
use Rattle.ccan_calls.specs.Runs.{Runs}
use Rattle.ccan_calls.proofs.Parting.{same_first, same_rest}
use Rattle.ccan_calls.proofs.Processes.{ends_so}
use Rattle.ccan_calls.proofs.WritesRun.{resets_chip}

pub resets : ResetsAreProcesses
resets terms tries reset seen added told = resets_chip terms tries seen added told reset

module _ (terms : Terms) (tries : ℕ) where
  -- as many looks as there are records
  through : (object : ℕ) (records : List Record) (seen added : ChipHistory)
      → LooksThrough terms object records seen added
      ↔ Runs terms tries (looks_through (length records) object) seen added records
  through object [] seen added = (λ none. (none, refl), λ h. h.0)
  through object (r ∷ records) seen added = (
    λ steps. (
      r,
      record {
        earlier = steps.earlier;
        later = steps.later;
        whole = steps.whole;
        begins = steps.begins;
        ends = (ends_so terms tries (record_first r) (looks_through (length records) (object + 1)) (steps.earlier ++ seen)
            steps.later (r ∷ records)).1
            (records, (through (object + 1) records (steps.earlier ++ seen) steps.later).0 steps.ends, refl);
      },
    ),
    λ h.
        let (shown, steps) = h in
        let (others, runs, is) = (ends_so terms tries (record_first shown) (looks_through (length records) (object + 1))
        (steps.earlier ++ seen) steps.later (r ∷ records)).0 steps.ends in
        record {
          earlier = steps.earlier;
          later = steps.later;
          whole = steps.whole;
          begins = subst (λ s. ShowsObject terms object seen steps.earlier s) (sym (same_first r shown records others is))
              steps.begins;
          ends = (through (object + 1) records (steps.earlier ++ seen) steps.later).1
              (subst (λ rs. Runs terms tries (looks_through (length records) (object + 1)) (steps.earlier ++ seen) steps.later rs)
              (sym (same_rest r shown records others is)) runs);
        },
  )

  module _ (n : ℕ) (records : List Record) (few : n ≤ length records) where
    through_all : (seen added : ChipHistory) → LooksThrough terms 1 (take n records) seen added
        ↔ Runs terms tries (looks_through n 1) seen added (take n records)
    through_all seen added =
        subst (λ k. LooksThrough terms 1 (take n records) seen added
        ↔ Runs terms tries (looks_through k 1) seen added (take n records))
        (length-take-le n records few) (through 1 (take n records) seen added)

module _ (terms : Terms) (tries : ℕ) (found : Controller) (records : List Record) (seen added : ChipHistory)
    (few : objects_in terms.profile ≤ length records) where
  abbrev n : ℕ
  n = objects_in terms.profile

  abbrev shown : List Record
  shown = take n records

  looks_so : LooksAtAll terms found records seen added
      ↔ Runs terms tries (looks_at_all terms.profile) seen added (found, shown)
  looks_so = (
    λ steps. (
      found,
      record {
        earlier = steps.earlier;
        later = steps.later;
        whole = steps.whole;
        begins = steps.begins;
        ends = (ends_so terms tries (found_with found) (looks_through n 1) (steps.earlier ++ seen) steps.later (found, shown)).1
            (shown, (through_all terms tries n records few (steps.earlier ++ seen) steps.later).0 steps.ends, refl);
      },
    ),
    λ h.
        let (first, steps) = h in
        let (others, runs, is) = (ends_so terms tries (found_with first) (looks_through n 1) (steps.earlier ++ seen) steps.later
        (found, shown)).0 steps.ends in
        record {
          earlier = steps.earlier;
          later = steps.later;
          whole = steps.whole;
          begins = subst (λ c. AtController terms.port Look c seen steps.earlier) (sym (ap (λ (e : ChipFound). e.0) is))
              steps.begins;
          ends = (through_all terms tries n records few (steps.earlier ++ seen) steps.later).1
              (subst (λ rs. Runs terms tries (looks_through n 1) (steps.earlier ++ seen) steps.later rs)
              (sym (ap (λ (e : ChipFound). e.1) is)) runs);
        },
  )

pub saves : SavesAreProcesses
saves terms tries found records seen added few = looks_so terms tries found records seen added few
