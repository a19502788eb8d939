-- Acceptance filtering as a process: the objects are visited from the first one on, and the first that accepts the frame stores it.
-- Source: this project's own, after what a scan for the store of a frame comes to (C_CAN User's Manual 1.2, section 4.2).
use Rattle.std.specs.Prelude.{ℕ, zero, suc, if◌then◌else◌}
use Rattle.ccan_object.specs.declared.profile.Profile.{Profile}
use Rattle.ccan_object.specs.declared.record.Record.{Record}
use Rattle.ccan_object.specs.Profile.{objects_in}
use Rattle.ccan_accept.specs.declared.frame.Frame.{Frame}
use Rattle.ccan_accept.specs.Accept.{accepts}
use Rattle.ccan_ram.specs.declared.change.Change.TheVariants.{Store}
use Rattle.ccan_process.specs.Act.{Attempted, GaveUp, Made, Unfit, WasSpent}
use Rattle.ccan_process.specs.Process.{Does, Ended, followed_by}
use Rattle.ccan_calls.specs.Process.{Attempts, Looks, Process}

-- how it ends: no object accepts the frame; or the store at one was made, given up, or refused since no change was left
pub data Filtered : Type 0 where
  NoneAccepts : Filtered
  StoredAt : (object : ℕ) → (after : Record) → Filtered
  GaveUpAt : (object : ℕ) → Filtered
  SpentAt : (object : ℕ) → Filtered

-- an object that no longer accepts the frame is passed over
abbrev pub store_end : ℕ → Attempted → Filtered
store_end object (Made before after) = StoredAt object after
store_end object (Unfit now) = NoneAccepts
store_end object GaveUp = GaveUpAt object
store_end object WasSpent = SpentAt object

-- a visit of one object: a look, and if it accepts the frame, an attempt to store it there
abbrev pub visits : Frame → ℕ → Process Filtered
visits frame object =
    Does (Looks object) (λ shown. if accepts shown frame
    then Does (Attempts object (Store frame)) (λ end. Ended (store_end object end))
    else Ended NoneAccepts)

-- what comes next, unless an object stored the frame or refused to
abbrev pub unless_stored : Filtered → Process Filtered → Process Filtered
unless_stored NoneAccepts next = next
unless_stored (StoredAt object after) next = Ended (StoredAt object after)
unless_stored (GaveUpAt object) next = Ended (GaveUpAt object)
unless_stored (SpentAt object) next = Ended (SpentAt object)

-- this many objects from this one on
abbrev pub store_each : Frame → ℕ → ℕ → Process Filtered
store_each frame zero object = Ended NoneAccepts
store_each frame (suc more) object =
    followed_by (visits frame object) (λ end. unless_stored end (store_each frame more (suc object)))

abbrev pub store_first : Profile → Frame → Process Filtered
store_first profile frame = store_each frame (objects_in profile) 1
