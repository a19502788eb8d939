use Rattle.std.proofs.Common.{◌≡◌, List, ◌++◌, Some, length}
use Rattle.serde_json.specs.View.{members_view}
use Rattle.serde_json.proofs.Views.{Entry}
use Rattle.ccan_script.specs.RegisterSet.{settings}
use Rattle.ccan_script.proofs.register_set.settings.Given as goal

-- the members so far have been read
abbrev pub invariant-loop-name : goal.invariant-loop-name
invariant-loop-name l =
    (done : List Entry) × (l.members.entries ≡ done ++ l.name-iterator)
    × (settings (members_view done) ≡ Some l.set.items) × (length l.set.items ≡ length done)
