-- The bus and its memory keep their profile.
use Rattle.std.proofs.Common.{ℕ, ◌≡◌, List, sym, ap, ◌∙◌, Some}
use Rattle.ccan_object.specs.declared.profile.Profile.{Profile}
use Rattle.ccan_object.specs.Profile.{Holds}
use Rattle.ccan_object.specs.declared.record.Record.{Record}
use Rattle.ccan_ram.specs.declared.event.Event.{Event}
use Rattle.ccan_ram.specs.Terms.{Terms}
use Rattle.ccan_ram.specs.Access.{Passes}
use Rattle.ccan_bus.specs.declared.bus.Bus.{Bus}
use Rattle.ccan_bus.specs.Past.{BusPast}
use Rattle.ccan_bus.specs.Bus.{GoesOnWith, IsSameBus}

-- what is loaded is an object of the profile
pub held_by : (bus : Bus) (object : ℕ) (started : Record) → bus.loaded ≡ Some (object, started) → (profile : Profile)
    → profile ≡ bus.profile → Holds profile object
held_by bus object started is profile same = rw same (bus.held (object, started) is)

pub same_twice : {a b c : Bus} → IsSameBus a b → IsSameBus b c → IsSameBus a c
same_twice f g = record { profile = g.profile ∙ f.profile; others = g.others ∙ f.others; choice = g.choice ∙ f.choice }

pub still_same : {what : Terms → List Event → List Event → BusPast → BusPast → Type 0} (x y : Passes) (a b : Bus)
    → GoesOnWith x y a b what → IsSameBus a b
    → x.terms.profile ≡ a.profile → y.terms.profile ≡ b.profile
still_same x y a b goes same is = ap (λ (t : Terms). t.profile) goes.same ∙ (is ∙ sym same.profile)
