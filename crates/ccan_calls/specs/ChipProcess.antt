-- What the bus's port does when a chip is saved, once its ports have met, as a process. When it is reset, that is `resets`. Source:
-- this project's own, after what looks at a whole chip come to.
use Rattle.std.specs.Prelude.{ℕ, zero, suc, ◌+◌, List, [], ◌∷◌}
use Rattle.ccan_object.specs.declared.profile.Profile.{Profile}
use Rattle.ccan_object.specs.declared.record.Record.{Record}
use Rattle.ccan_object.specs.Profile.{objects_in}
use Rattle.ccan_confine.specs.declared.controller.Controller.{Controller}
use Rattle.ccan_process.specs.Process.{Does, Ended}
use Rattle.ccan_calls.specs.Process.{Looks, LooksAtController, Process, ending}

abbrev pub record_first : Record → List Record → List Record
record_first shown records = shown ∷ records

-- one look at each of this many objects from this one on, one after another, and the records that they show
abbrev pub looks_through : ℕ → ℕ → Process (List Record)
looks_through zero object = Ended []
looks_through (suc more) object = Does (Looks object) (λ shown. ending (looks_through more (object + 1)) (record_first shown))

-- the controller that was found, and the records of all objects
abbrev pub ChipFound : Type 0
ChipFound = Controller × List Record

abbrev pub found_with : Controller → List Record → ChipFound
found_with found records = (found, records)

abbrev pub looks_at_all : Profile → Process ChipFound
looks_at_all profile = Does LooksAtController (λ found. ending (looks_through (objects_in profile) 1) (found_with found))
