use Rattle.std.proofs.Common.{◌≡◌, ◌++◌, drop}
use Rattle.ccan_page.specs.Data.{later_objects}
use Rattle.ccan_page.proofs.step_data.push_later_objects.Given as goal

-- the objects so far, and those to come
abbrev pub invariant-loop-object : goal.invariant-loop-object
invariant-loop-object l =
    l.data ++ later_objects (drop l.object-index l.objects) ≡ l.initial.data ++ later_objects l.objects
