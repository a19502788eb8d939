-- The end of a shared memory. Source: this project's own.
use Rattle.std.specs.Prelude.{◌≡◌, ◌-◌, List, ◌++◌, replicate}
use Rattle.ccan_object.specs.declared.profile.Profile.{Profile}
use Rattle.ccan_object.specs.declared.profile.Profile.TheVariants.{Two}
use Rattle.ccan_object.specs.declared.record.Record.{Record}
use Rattle.ccan_object.specs.Profile.{objects_in}
use Rattle.ccan_object.specs.Record.{zero_record}
use Rattle.ccan_ram.specs.declared.ending.Final.{Final}
use Rattle.ccan_ram.specs.declared.event.Event.{Event}
use Rattle.ccan_ram.specs.History.{IsLegal, BeginsWith, leaves, events_of}
use Rattle.ccan_ram.specs.SharedRam.{Pass}

-- the records that the history leaves, and zero records for the objects that the profile does not have
abbrev pub final_records : Profile → List Event → List Record
final_records profile history = leaves profile history ++ replicate (objects_in Two - objects_in profile) zero_record

-- what the port has seen is a part of the whole history, which has no other events of the port
pub record IsPart (pass : Pass) (history : List Event) : Type 0 where
  pub begins : BeginsWith history pass.seen
  pub own : events_of pass.port history ≡ events_of pass.port pass.seen

-- one legal history of which each port has seen a part. Since every event is one of the three ports', it has only their
-- events; and the records are those that it leaves
pub record Ends (if1 if2 bus : Pass) (final : Final) : Type 0 where
  pub profile_is : final.profile ≡ if1.memory.profile
  pub history : List Event
  pub legal : IsLegal final.profile history
  pub part_if1 : IsPart if1 history
  pub part_if2 : IsPart if2 history
  pub part_bus : IsPart bus history
  pub left : final.records ≡ final_records final.profile history
