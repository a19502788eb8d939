-- Scans, one object after another.
use Rattle.std.proofs.Common.{ℕ, suc, Bool, false, ◌&&◌, ap, Err, ◌≡◌, ◌≤◌, ◌+◌, ◌-◌, true, List, ◌++◌, refl, sym, subst, ◌∙◌, arith, Result, Ok, Some, None}
use Rattle.ccan_object.specs.declared.record.Record.{Record}
use Rattle.ccan_ram.specs.declared.change.Change.{Change}
use Rattle.ccan_ram.specs.declared.change.Change.TheVariants.{Start}
use Rattle.ccan_ram.specs.declared.sending.Sending.TheVariants.{UntilSent}
use Rattle.ccan_ram.specs.declared.change.Changed.{Changed}
use Rattle.ccan_ram.specs.declared.change.Changed.TheVariants.{Done}
use Rattle.ccan_ram.specs.declared.change.Refused.{Refused}
use Rattle.ccan_ram.specs.declared.event.Event.{Event}
use Rattle.ccan_ram.specs.Change.{fits}
use Rattle.ccan_ram.specs.Terms.{Terms}
use Rattle.ccan_ram.specs.Attempt.{IsLook, Attempt}
use Rattle.ccan_ram.specs.Access.{Passes, Goes}
use Rattle.ccan_object.specs.declared.profile.Profile.{Profile}
use Rattle.ccan_object.specs.Profile.{objects_in, Holds}
use Rattle.ccan_ram.proofs.Calls.{Goes-then, Goes-weaker}
use Rattle.ccan_handler.specs.declared.scan.Stored.{Stored}
use Rattle.ccan_ram.specs.Answer.{FewTries}
use Rattle.ccan_handler.specs.Scan.{IsTried, IsPassed, PassesOver, StopsAt, Visit, Scans, IsMade, IsStarted, IsRefusal}

-- a look and an attempt
pub tried : {x y z : Passes} (object : ℕ) (change : Change) (tries : ℕ) (shown : Record) (outcome : Result Changed Refused)
    → Goes x y (λ terms seen added. IsLook terms object shown added) → fits change shown ≡ true
    → Goes y z (λ terms seen added. Attempt terms object change tries seen added outcome)
    → Goes x z (λ terms seen added. IsTried terms object change tries seen added outcome)
tried object change tries shown outcome look fit attempt =
    Goes-then look attempt (λ seen xs ys p q. record {
      shown = shown;
      looked = xs;
      tried = ys;
      whole = refl;
      look = p;
      fit =
          fit;
      attempt = q;
    })

-- one more object is passed over
pub passed_more : {x y z : Passes} (change : Change) (tries from number object : ℕ) → from ≤ number → object ≡ number
    → Goes x y (λ terms seen added. PassesOver terms from (number - from) change tries seen added)
    → Goes y z (λ terms seen added. IsPassed terms object change tries seen added)
    → Goes x z (λ terms seen added. PassesOver terms from (number + 1 - from) change tries seen added)
passed_more {x} change tries from number object below is passes pass =
    let one_more : number + 1 - from ≡ suc (number - from) = omega arith in
    let there : object ≡ from + (number - from) = omega arith in
    rw one_more (Goes-then passes pass
    (λ seen xs ys p q. (ys, xs, refl, subst (λ n. IsPassed x.terms n change tries (xs ++ seen) ys) there q, p)))

-- an object at which a scan stops
pub stops : (terms : Terms) (change : Change) (tries from number object : ℕ) (seen xs ys : List Event)
    (outcome : Result Changed Refused)
    → from ≤ number → object ≡ number → Holds terms.profile object → PassesOver terms from (number - from) change tries seen xs
    → IsTried terms object change tries (xs ++ seen) ys outcome → StopsAt terms from object change tries seen (ys ++ xs) outcome
stops terms change tries from number object seen xs ys outcome below is held passes try =
    record {
      in_turn = omega arith;
      held = held;
      passed = xs;
      last = ys;
      whole = refl;
      passes =
          subst (λ n. PassesOver terms from (n - from) change tries seen xs) (sym is) passes;
      try = try;
    }

-- a scan that ends where the change was made
pub found_at : {x y z : Passes} (change : Change) (tries from number object : ℕ) (found : Stored) → from ≤ number
    → object ≡ number
    → Holds x.terms.profile object
    → Goes x y (λ terms seen added. PassesOver terms from (number - from) change tries seen added)
    → Goes y z (λ terms seen added. Visit terms object change tries seen added (Ok (Some found)))
    → Goes x z (λ terms seen added. Scans terms change from tries seen added (Ok (Some found)))
found_at {x} change tries from number object found below is held passes visit =
    Goes-then passes visit (λ seen xs ys p q. (
      q.1,
      stops x.terms change tries from number found.object seen xs ys _ below (q.0 ∙ is)
          (subst (λ k. Holds x.terms.profile k) (sym q.0) held) p
          (subst (λ k. IsTried x.terms k change tries (xs ++ seen) ys (Ok (Done found.before found.after q.1))) (sym q.0) q.2),
    ))

-- a scan that passes over all objects
pub ends : {x y : Passes} (change : Change) (tries from number : ℕ) → number ≡ objects_in x.terms.profile + 1
    → Goes x y (λ terms seen added. PassesOver terms from (number - from) change tries seen added)
    → Goes x y (λ terms seen added. Scans terms change from tries seen added (Ok None))
ends {x} change tries from number all passes =
    Goes-weaker passes (λ seen added here after p. subst (λ n. PassesOver x.terms from (n - from) change tries seen added) all p)

-- ---- what the answers tell

-- an object whose turn it is
pub held_in_turn : (profile : Profile) (from number object last : ℕ) → 1 ≤ from → from ≤ number → object ≡ number
    → last ≡ objects_in profile → number ≤ last → Holds profile object
held_in_turn profile from number object last some below is all within = record { least = omega arith; greatest = omega arith }

-- what a call finds in the terms after another one
pub held_later : {x y : Passes} {what : Terms → List Event → List Event → Type 0} (object : ℕ) → Goes x y what
    → Holds x.terms.profile object → Holds y.terms.profile object
held_later object goes held = subst (λ (t : Terms). Holds t.profile object) (sym goes.same) held

pub few_earlier : {x y : Passes} {what : Terms → List Event → List Event → Type 0} (tries : ℕ) (why : Refused) → Goes x y what
    → FewTries y.terms.quota tries (Err why) → FewTries x.terms.quota tries (Err why)
few_earlier tries why goes few = subst (λ (t : Terms). FewTries t.quota tries (Err why)) goes.same few

module _ {x y : Passes} {what : Terms → List Event → List Event
    → Type 0} (goes : Goes x y what) (change : Change) (from number object : ℕ) (below : from ≤ number)
    (is : object ≡ number) where
  pub made_in_turn : (found : Stored) → IsMade y.terms change object found × (found.object ≡ object)
      → IsMade x.terms change from found
  made_in_turn found (made, at) =
      record {
        in_turn = omega arith;
        held = subst (λ (t : Terms). Holds t.profile found.object) goes.same made.held;
        fit =
            made.fit;
        left = made.left;
      }

  pub refused_in_turn : (tries : ℕ) (why : Refused) → IsRefusal y.terms change object tries (record { at = object; why = why })
      → IsRefusal x.terms change from tries (record { at = object; why = why })
  refused_in_turn tries why refused =
      record {
        in_turn = omega arith;
        held = subst (λ (t : Terms). Holds t.profile object) goes.same refused.held;
        told =
            refused.told;
        few = few_earlier tries why goes refused.few;
      }

pub both : (a b : Bool) → (a && b) ≡ true → (a ≡ true) × (b ≡ true)
both true b h = (refl, h)
both false b h = absurd cc

-- a start that was made
pub started_there : (terms : Terms) (from : ℕ) (found : Stored) → IsMade terms Start from found
    → IsStarted terms UntilSent from (found.object, found.after)
started_there terms from found made =
    let ready = both found.before.valid found.before.txrqst made.fit in
    record {
      in_turn = made.in_turn;
      held = made.held;
      valid = ap (λ (r : Record). r.valid) made.left ∙ ready.0;
      marks = (ap (λ (r : Record). r.txrqst) made.left ∙ ready.1, ap (λ (r : Record). r.newdat) made.left);
    }
