-- The ways in which a load ends.
use Rattle.std.proofs.Common.{ℕ, ◌≡◌, List, true, false, refl, sym, subst, ◌∙◌, inl, inr, Some, None, Ok, Err}
use Rattle.ccan_object.specs.declared.record.Record.{Record}
use Rattle.ccan_ram.specs.declared.change.Refused.{Refused}
use Rattle.ccan_ram.specs.declared.change.Refused.TheVariants.{Busy, Spent}
use Rattle.ccan_ram.specs.declared.event.Event.{Event}
use Rattle.ccan_ram.specs.Terms.{Terms}
use Rattle.ccan_ram.specs.Access.{Passes, Goes}
use Rattle.ccan_ram.proofs.Calls.{Goes-none, Goes-weaker}
use Rattle.ccan_handler.specs.declared.scan.ScanRefused.{ScanRefused}
use Rattle.ccan_handler.specs.Moment.{Chosen}
use Rattle.ccan_bus.specs.declared.bus.Bus.{Bus}
use Rattle.ccan_bus.specs.declared.answer.LoadAnswer.{LoadAnswer}
use Rattle.ccan_bus.specs.declared.answer.LoadAnswer.TheVariants as load
use Rattle.ccan_bus.specs.Past.{BusPast}
use Rattle.ccan_bus.specs.Bus.{LedTo, GoesOn, is_on_now}
use Rattle.ccan_bus.specs.Choice.{Chooses}
use Rattle.ccan_bus.specs.Load.{IsLoadChoice, Loads, refusal_of_load}
use Rattle.ccan_bus.proofs.Pasts.{on_same, GoesOn-none, KeepsAll, LedTo-loaded}

module _ (tries : ℕ) (bus : Bus) where
  pub held : {x : Passes} (object : ℕ) (started : Record) → bus.loaded ≡ Some (object, started)
      → Goes x x (λ terms seen added. GoesOn bus bus (λ past after. Loads terms tries seen added past after (load.Held object)))
  held object started is =
      Goes-none (λ seen here. GoesOn-none bus _
      (λ past led. record { started = started; held = sym led.loaded ∙ is; quiet = refl; same = refl }))

  module _ (empty : bus.loaded ≡ None) where
    pub off : {x : Passes} → is_on_now bus 0 ≡ false
        → Goes x x (λ terms seen added. GoesOn bus bus (λ past after. Loads terms tries seen added past after load.Nothing))
    off is =
        Goes-none (λ seen here. GoesOn-none bus _
        (λ past led. inl (record {
          empty = sym led.loaded ∙ empty;
          off = on_same past bus led 0 ∙ is;
          quiet = refl;
          same = refl;
        })))

    module _ (on : is_on_now bus 0 ≡ true) where
      -- the choice is the one that its past makes
      chosen : (terms : Terms) (seen added : List Event) (past : BusPast) (answer : Chosen) → LedTo past bus
          → Chooses bus.choice terms tries seen added answer → IsLoadChoice terms tries seen added past answer
      chosen terms seen added past answer led c =
          record {
            empty = sym led.loaded ∙ empty;
            on = on_same past bus led 0 ∙ on;
            chooses = subst (λ choice. Chooses choice terms tries seen added answer) led.choice c;
          }

      pub none : {x y : Passes} → Goes x y (λ terms seen added. Chooses bus.choice terms tries seen added (Ok None))
          → Goes x y (λ terms seen added. GoesOn bus bus (λ past after. Loads terms tries seen added past after load.Nothing))
      none {x} scan =
          Goes-weaker scan (λ seen added here after s. GoesOn-none bus _ (λ past led.
          inr (record { choice = chosen x.terms seen added past (Ok None) led s; same = refl })))

      pub loaded : {x y : Passes} (new : Bus) (object : ℕ) (started : Record) (reply : LoadAnswer)
          → reply ≡ load.Loaded object started → KeepsAll bus new → new.loaded ≡ Some (object, started)
          → Goes x y (λ terms seen added. Chooses bus.choice terms tries seen added (Ok (Some (object, started))))
          → Goes x y (λ terms seen added. GoesOn bus new (λ past after. Loads terms tries seen added past after reply))
      loaded {x} {y} new object started reply told keeps is scan =
          subst (λ r. Goes x y (λ terms seen added. GoesOn bus new (λ past after. Loads terms tries seen added past
          after r))) (sym told) (Goes-weaker scan (λ seen added here after s. record {
            each = λ past led. (
              record past { loaded = Some (object, started) },
              LedTo-loaded past bus new _ keeps is led,
              record { choice = chosen x.terms seen added past (Ok (Some (object, started))) led s; now_loaded = refl },
            );
          }))

      by_why : (why : Refused) → {x y : Passes} (at : ℕ)
          → Goes x y (λ terms seen added. Chooses bus.choice terms tries seen added (Err (record { at = at; why = why })))
          → Goes x y (λ terms seen added. GoesOn bus bus
          (λ past after. Loads terms tries seen added past after (refusal_of_load at why)))
      by_why (Busy told now) {x} at scan =
          Goes-weaker scan (λ seen added here after s. GoesOn-none bus _ (λ past led.
          (told, now, record { choice = chosen x.terms seen added past _ led s; same = refl })))
      by_why Spent {x} at scan =
          Goes-weaker scan (λ seen added here after s. GoesOn-none bus _ (λ past led.
          record { choice = chosen x.terms seen added past _ led s; same = refl }))

      pub refused : {x y : Passes} (why : ScanRefused) (reply : LoadAnswer) → reply ≡ refusal_of_load why.at why.why
          → Goes x y (λ terms seen added. Chooses bus.choice terms tries seen added (Err why))
          → Goes x y (λ terms seen added. GoesOn bus bus (λ past after. Loads terms tries seen added past after reply))
      refused {x} {y} why reply told scan =
          subst (λ r. Goes x y (λ terms seen added. GoesOn bus bus (λ past after. Loads terms tries seen added past
          after r))) (sym told) (by_why why.why why.at scan)
