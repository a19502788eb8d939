-- Ports of a shared memory: what is known of one, and of two that meet. Source: this project's own.
use Rattle.std.specs.Prelude.{ℕ, ◌≡◌, ◌≤◌, Bool, false, List, []}
use Rattle.ccan_object.specs.declared.profile.Profile.{Profile}
use Rattle.ccan_ram.specs.declared.port.PortName.{PortName}
use Rattle.ccan_ram.specs.declared.event.Event.{Event}
use Rattle.ccan_ram.specs.History.{IsLegal, BeginsWith, events_of, changes_by}
use Rattle.ccan_ram.specs.Terms.{Terms}
use Rattle.ccan_ram.specs.Access.{Passes}

-- a shared memory: how many objects it has, how many changes each of its ports may make, and the numbers that name it
pub record Memory : Type 0 where
  pub profile : Profile
  pub quota : ℕ
  pub name : List ℕ

-- a port of a memory, and all that it has seen
pub record Pass : Type 0 where
  pub memory : Memory
  pub port : PortName
  pub seen : List Event

-- the port of a memory that was just opened has seen nothing
abbrev pub opened : Memory → PortName → Pass
opened memory port = record { memory = memory; port = port; seen = [] }

-- a memory of this profile, whose ports may make this many changes each
pub record IsMemoryOf (profile : Profile) (quota : ℕ) (memory : Memory) : Type 0 where
  pub profile_is : memory.profile ≡ profile
  pub quota_is : memory.quota ≡ quota

-- a legal history in which no port makes more changes than its quota
pub record IsWithin (memory : Memory) (history : List Event) : Type 0 where
  pub legal : IsLegal memory.profile history
  pub within : (port : PortName) → changes_by port history ≤ memory.quota

-- what the port has seen is such a history
abbrev pub CanSee : Pass → Type 0
CanSee pass = IsWithin pass.memory pass.seen

-- what a port of the memory works under: others act during its calls
abbrev pub terms_of : (ℕ → ℕ → Bool) → Memory → PortName → Terms
terms_of contends memory port =
    record {
      memory = memory.name;
      profile = memory.profile;
      port = port;
      quota = memory.quota;
      contends = contends;
      alone = false;
    }

-- the port has seen exactly this
abbrev pub passes_of : (ℕ → ℕ → Bool) → Pass → Passes
passes_of contends pass =
    record {
      terms = terms_of contends pass.memory pass.port;
      has_seen = λ seen. (seen ≡ pass.seen) × IsWithin pass.memory seen;
    }

-- ---- two ports that meet

-- the same port of the same memory
pub record IsSamePort (old new : Pass) : Type 0 where
  pub memory : new.memory ≡ old.memory
  pub port : new.port ≡ old.port

-- the history goes on from all that either port had seen, and has no other event of either
pub record IsShared (a b : Pass) (history : List Event) : Type 0 where
  pub begins_a : BeginsWith history a.seen
  pub begins_b : BeginsWith history b.seen
  pub own_a : events_of a.port history ≡ events_of a.port a.seen
  pub own_b : events_of b.port history ≡ events_of b.port b.seen

-- each port has then seen at least what either had seen, both of them parts of one history, and neither made an event
pub record Meets (a b new_a new_b : Pass) : Type 0 where
  pub same_a : IsSamePort a new_a
  pub same_b : IsSamePort b new_b
  pub history : List Event
  pub legal : IsWithin a.memory history
  pub part_a : BeginsWith history new_a.seen
  pub part_b : BeginsWith history new_b.seen
  pub shared_a : IsShared a b new_a.seen
  pub shared_b : IsShared a b new_b.seen
