-- A caller whom nobody disturbed is answered as by a one-thread memory, whoever else uses the memory.
use Rattle.std.proofs.Common.{ℕ, zero, suc, ◌≡◌, ◌≤◌, false, true, List, [], ◌∷◌, ◌++◌, refl, ap, subst, ◌∙◌, arith, Ok, Err}
use Rattle.std.specs.Prelude.{Result}
use Rattle.ccan_ram.specs.declared.change.Change.{Change}
use Rattle.ccan_ram.specs.declared.change.Changed.{Changed}
use Rattle.ccan_ram.specs.declared.change.Changed.TheVariants.{Done, NotNow}
use Rattle.ccan_ram.specs.declared.change.Refused.{Refused}
use Rattle.ccan_ram.specs.declared.change.Refused.TheVariants.{Busy, Spent}
use Rattle.ccan_ram.specs.declared.event.Event.{Event}
use Rattle.ccan_ram.specs.History.{NobodyElse}
use Rattle.ccan_ram.specs.Terms.{Terms}
use Rattle.ccan_ram.specs.Attempt.{look_at, AreOthers, EndsIn, LostTries, Attempt}
use Rattle.ccan_ram.specs.Laws.{as_one_thread, UndisturbedLooksAreOneThread, UndisturbedAttemptsAreOneThread}
use Rattle.ccan_ram.proofs.Histories.{nobody, undisturbed_parts, none_undisturbed}

module _ (terms : Terms) where
  -- others who have no event among these are nobody
  none_of : (others : List Event) → NobodyElse terms.port others → AreOthers terms others → others ≡ []
  none_of others alone foreign = none_undisturbed terms.port others alone foreign.not_own

  ends : (added : List Event) (event : Event) → NobodyElse terms.port added → EndsIn terms added event
      → EndsIn (as_one_thread terms) added event
  ends added event alone (others, foreign, whole) =
      let parts = undisturbed_parts terms.port (event ∷ []) others (subst (λ es. NobodyElse terms.port es) whole alone) in
      let none = none_of others parts.1 foreign in
      ([], nobody (as_one_thread terms), whole ∙ ap (λ es. event ∷ es) none)

  module _ (object : ℕ) (change : Change) where
    -- no try is lost
    none_lost : (n : ℕ) (added : List Event) → NobodyElse terms.port added → LostTries terms object change n added
        → (n ≡ 0) × (added ≡ [])
    none_lost zero added alone lost = (refl, lost)
    none_lost (suc n) added alone (last, earlier, whole, try, lost) =
        let all = undisturbed_parts terms.port last earlier (subst (λ es. NobodyElse terms.port es) whole alone) in
        let parts = undisturbed_parts terms.port try.others try.looked (subst (λ es. NobodyElse terms.port es) try.whole all.0) in
        let none = none_of try.others parts.0 try.foreign in
        absurd (let e : false ≡ true = rw none at try.contended in cc)

    pub undisturbed : (tries : ℕ) (seen added : List Event) (outcome : Result Changed Refused) → 1 ≤ tries
        → NobodyElse terms.port added
        → Attempt terms object change tries seen added outcome
        → Attempt (as_one_thread terms) object change tries seen added outcome
    undisturbed tries seen added (Err Spent) some alone spent = spent
    undisturbed tries seen added (Err (Busy told now)) some alone busy =
        absurd (let none = none_lost tries added alone busy.lose in omega (arith, none.0))
    undisturbed tries seen added (Ok (NotNow shown)) some alone h =
        let parts = undisturbed_parts terms.port h.looked h.lost (subst (λ es. NobodyElse terms.port es) h.whole alone) in
        let none = none_lost h.times h.lost parts.1 h.lose in
        record {
          room = h.room;
          lost = [];
          looked = h.looked;
          times = 0;
          within = some;
          whole = h.whole ∙ ap (λ es. h.looked ++ es) none.1;
          lose = refl;
          look = ends h.looked (look_at terms.port object shown) parts.0 h.look;
          unfit = h.unfit;
        }
    undisturbed tries seen added (Ok (Done before after number)) some alone h =
        let parts = undisturbed_parts terms.port h.made (h.looked ++ h.lost)
        (subst (λ es. NobodyElse terms.port es) h.whole alone) in
        let rest = undisturbed_parts terms.port h.looked h.lost parts.1 in
        let none = none_lost h.times h.lost rest.1 h.lose in
        record {
          room = h.room;
          lost = [];
          looked = h.looked;
          made = h.made;
          times = 0;
          within = some;
          whole = h.whole ∙ ap (λ es. h.made ++ (h.looked ++ es)) none.1;
          lose = refl;
          look = ends h.looked _ rest.0 h.look;
          fit = h.fit;
          make = ends h.made _ parts.0 h.make;
          left = h.left;
          numbered = h.numbered;
        }

pub looks_undisturbed : UndisturbedLooksAreOneThread
looks_undisturbed terms object shown added alone look = ends terms added (look_at terms.port object shown) alone look

pub attempts_undisturbed : UndisturbedAttemptsAreOneThread
attempts_undisturbed terms object change tries seen added outcome some alone attempt =
    undisturbed terms object change tries seen added outcome some alone attempt
