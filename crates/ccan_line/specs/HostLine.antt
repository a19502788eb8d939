-- The numbers of a host port's lines are in their ranges. Source: this project's own.
use Rattle.std.specs.Prelude.{ℕ, ◌≤◌}
use Rattle.std.specs.Coded.{le_prop, ×_prop, Unit-prop}
use Rattle.ccan_object.specs.declared.profile.Profile.{Profile}
use Rattle.ccan_object.specs.Profile.{Holds}
use Rattle.ccan_line.specs.declared.host_line.HostLine.{HostLine}
use Rattle.ccan_line.specs.declared.host_line.HostLine.TheVariants.{Transfer, Until, Interrupt, Flags}
use Rattle.ccan_line.specs.Limits.{most_turns}

-- the turns of a wait
pub record AreTurns (turns : ℕ) : Type 0 where
  pub least : 1 ≤ turns
  pub greatest : turns ≤ most_turns

-- the object that a line names is one of the profile, and its numbers are in their ranges
abbrev pub HostFits : Profile → HostLine → Type 0
HostFits profile (Until object flag turns) = Holds profile object × AreTurns turns
HostFits profile line = Unit {0}

Holds-prop : (profile : Profile) (object : ℕ) → IsProp (Holds profile object)
Holds-prop profile object a b = λ i. record { least = le_prop a.least b.least i; greatest = le_prop a.greatest b.greatest i }

AreTurns-prop : (turns : ℕ) → IsProp (AreTurns turns)
AreTurns-prop turns a b = λ i. record { least = le_prop a.least b.least i; greatest = le_prop a.greatest b.greatest i }

-- there is one proof of it
pub HostFits-prop : (profile : Profile) (line : HostLine) → IsProp (HostFits profile line)
HostFits-prop profile (Transfer request set) = Unit-prop
HostFits-prop profile (Until object flag turns) = ×_prop (Holds-prop profile object) (AreTurns-prop turns)
HostFits-prop profile Interrupt = Unit-prop
HostFits-prop profile (Flags flag) = Unit-prop
