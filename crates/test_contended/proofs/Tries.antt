-- The tries of a change, one after another, in what the port may have seen.
use Rattle.std.proofs.Common.{ℕ, ◌≡◌, ◌≤◌, ◌<◌, ◌+◌, true, List, [], ◌∷◌, ◌++◌, refl, sym, ap, subst, ◌∙◌, arith, add-one, append_assoc, Option, Result, Ok, Err}
use Rattle.ccan_object.specs.declared.record.Record.{Record}
use Rattle.ccan_object.specs.declared.profile.Profile.{Profile}
use Rattle.ccan_ram.specs.declared.change.Change.{Change}
use Rattle.ccan_ram.specs.declared.change.Changed.{Changed}
use Rattle.ccan_ram.specs.declared.change.Changed.TheVariants.{Done, NotNow}
use Rattle.ccan_ram.specs.declared.change.Refused.{Refused}
use Rattle.ccan_ram.specs.declared.change.Refused.TheVariants.{Busy, Spent}
use Rattle.ccan_ram.specs.declared.event.Event.{Event}
use Rattle.ccan_ram.specs.Change.{fits}
use Rattle.ccan_ram.specs.Port.{change_number}
use Rattle.ccan_ram.specs.History.{changes_by, last_number}
use Rattle.ccan_ram.specs.Terms.{Terms}
use Rattle.ccan_ram.specs.Attempt.{look_at, change_at, AreOthers, LostTries, HasRoom, Attempt}
use Rattle.ccan_ram.specs.Access.{Passes, Goes}
use Rattle.ccan_ram.proofs.Calls.{Goes-then, Goes-none, Goes-weaker}
use Rattle.ccan_ram.proofs.Histories.{changes_by-append, changes_by-foreign, nobody}
use Rattle.ccan_handler.proofs.Own.{lost}
use Rattle.test_contended.specs.declared.transfer.Transfer.{Transfer}
use Rattle.test_contended.specs.Transfer.{transferred}
use Rattle.test_contended.specs.Contended.{contended, TheyAct, Exchanges, Host, gone_on, IsNext, HasNext, AreLostTo, MayRest, ActsBefore, transfers_in, Course}

-- the other host does nothing where it has no next transfer, whatever comes of the try
pub rests : (theirs : Host) (object : ℕ) (outcome : Result Changed Refused) → ¬ HasNext theirs → MayRest theirs object outcome
rests theirs object (Ok (Done before after number)) none = none
rests theirs object (Ok (NotNow shown)) none = λ next is. absurd (none (next, is))
rests theirs object (Err why) none = tt

module _ (theirs : Host) (object : ℕ) (change : Change) where
  -- so many tries were lost, each to the other host's next transfer, the last to a change of this number
  pub record SoFar (n last : ℕ) (terms : Terms) (seen added : List Event) : Type 0 where
    pub room : HasRoom terms seen
    pub lose : LostTries terms object change n added
    pub told : 0 < n → last ≡ last_number terms.contends object (added ++ seen)
    pub lose_to : AreLostTo theirs object change n terms added

  -- what a call adds that has this outcome, in which the other host has made so many transfers at the end
  abbrev pub Whole : Result Changed Refused → ℕ → ℕ → Terms → List Event → List Event → Type 0
  Whole outcome tries made terms seen added =
      Attempt terms object change tries seen added outcome × Course theirs object change tries outcome made terms seen added

  -- before the first try
  pub no_try : (profile : Profile) (quota made used last : ℕ) (x : Passes) → used < quota
      → Goes (contended profile quota x made used) (contended profile quota x made used)
      (λ terms seen added. SoFar 0 last terms seen added)
  no_try profile quota made used last x room =
      Goes-none
      (λ seen h. record { room = omega (arith, h.own); lose = refl; told = λ some. absurd (omega arith); lose_to = refl })

  -- the port has no room
  pub spent : (profile : Profile) (quota made used tries : ℕ) (x : Passes) → used ≡ quota
      → Goes (contended profile quota x made used) (contended profile quota x made used)
      (λ terms seen added. Whole (Err Spent) tries theirs.made terms seen added)
  spent profile quota made used tries x all = Goes-none (λ seen h. ((h.own ∙ all, refl), (refl, refl)))

  -- two parts of what was added
  record Parts (first second : Terms → List Event → List Event → Type 0) (terms : Terms) (seen added : List Event) : Type 0 where
    earlier : List Event
    later : List Event
    whole : added ≡ later ++ earlier
    one : first terms seen earlier
    two : second terms (earlier ++ seen) later

  parts : {x y z : Passes} {first second : Terms → List Event → List Event → Type 0} → Goes x y first → Goes y z second
      → Goes x z (λ terms seen added. Parts first second terms seen added)
  parts f g = Goes-then f g (λ seen xs ys p q. record { earlier = xs; later = ys; whole = refl; one = p; two = q })

  -- one more try is lost, to the next transfer
  pub lost_more : {x y z w : Passes} (n last now : ℕ) (shown : Record) (next : Transfer)
      → Goes x y (λ terms seen added. SoFar n last terms seen added)
      → Goes y z (λ terms seen added. added ≡ look_at terms.port object shown ∷ []) → fits change shown ≡ true
      → IsNext (gone_on theirs n) next → next.object ≡ object
      → Goes z w (λ terms seen added. TheyAct next now terms seen added)
      → Goes x w (λ terms seen added. SoFar (n + 1) now terms seen added)
  lost_more {x} n last now shown next so_far look fit stands there act =
      Goes-then (parts so_far look)
      act (λ seen added zs p t.
      let all : zs ++ added ≡ (zs ++ p.later) ++ p.earlier = ap (λ es. zs ++ es) p.whole
      ∙ sym (append_assoc zs p.later p.earlier) in
      record {
        room = p.one.room;
        lose = rw add-one (
          zs ++ p.later,
          p.earlier,
          all,
          record {
            shown = shown;
            looked = p.later;
            others = zs;
            whole = refl;
            look = ([], nobody x.terms, p.two);
            fit = fit;
            foreign = t.foreign;
            contended = rw there at t.contended;
          },
          p.one.lose,
        );
        told = λ some. (rw there at t.last) ∙ ap (last_number x.terms.contends object) (sym (append_assoc zs added seen));
        lose_to = rw add-one (
          zs ++ p.later,
          p.earlier,
          all,
          record {
            shown = shown;
            fit = fit;
            next = next;
            stands = stands;
            there = there;
            found = t.found;
            whole = ap (λ es. es ++ p.later) t.made ∙ ap (λ es. transferred next t.found ++ es) p.two;
          },
          p.one.lose_to,
        );
      })

  -- what the other host does before a try that is not lost
  abbrev pub Before : ℕ → Result Changed Refused → Option Transfer → Terms → List Event → Type 0
  Before n outcome elsewhere terms added = AreOthers terms added × ActsBefore (gone_on theirs n) object outcome elsewhere added

  -- the change is made, or found unfit, in a try that is not lost
  pub exchanged : {x y z w : Passes} (n last tries made : ℕ) (outcome : Result Changed Refused) (elsewhere : Option Transfer)
      → n < tries → made ≡ theirs.made + n + transfers_in elsewhere
      → Goes x y (λ terms seen added. SoFar n last terms seen added)
      → Goes y z (λ terms seen added. Before n outcome elsewhere terms added)
      → Goes z w (λ terms seen added. Exchanges terms object change outcome seen added)
      → Goes x w (λ terms seen added. Whole outcome tries made terms seen added)
  exchanged {x} n last tries made outcome elsewhere within count so_far others exchange =
      Goes-then (parts so_far others) exchange
      (λ seen added zs p e. (
        by_outcome outcome seen added zs p.earlier p.later p.whole p.one p.two.0 e,
        in_course outcome seen added zs p.earlier p.later p.whole p.one p.two.1 e,
      )) where
        by_outcome : (outcome : Result Changed Refused) (seen added zs xs ys : List Event) → added ≡ ys ++ xs
            → SoFar n last x.terms seen xs → AreOthers x.terms ys
            → Exchanges x.terms object change outcome (added ++ seen) zs
            → Attempt x.terms object change tries seen (zs ++ added) outcome
        by_outcome (Ok (Done before after number)) seen added zs xs ys whole s f e =
            let port = x.terms.port in
            let mine = lost x.terms (λ k. k ≡ object) object refl change n xs s.lose in
            let counted : changes_by port (added ++ seen) ≡ changes_by port seen =
            omega (
              arith,
              changes_by-append port added seen,
              ap (changes_by port) whole,
              changes_by-append port ys xs,
              changes_by-foreign
                  port ys f.not_own,
              mine.changed,
            ) in
            let event = change_at port object change before in
            let look = look_at port object before in
            rw e.0 (record {
              room = s.room;
              lost = xs;
              looked = look ∷ ys;
              made = event ∷ [];
              times = n;
              within = within;
              whole = ap (λ es. event ∷ look ∷ es) whole;
              lose = s.lose;
              look = (ys, f, refl);
              fit = e.1;
              make = ([], nobody x.terms, refl);
              left = e.2;
              numbered = e.3 ∙ ap (λ k. change_number port (k + 1)) counted;
            })
        by_outcome (Ok (NotNow shown)) seen added zs xs ys whole s f e =
            let look = look_at x.terms.port object shown in
            rw e.0 (record {
              room = s.room;
              lost = xs;
              looked = look ∷ ys;
              times = n;
              within = within;
              whole = ap (λ es. look ∷ es) whole;
              lose = s.lose;
              look = (ys, f, refl);
              unfit = e.1;
            })
        by_outcome (Err why) seen added zs xs ys whole s f e = absurd e

        in_course : (outcome : Result Changed Refused) (seen added zs xs ys : List Event) → added ≡ ys ++ xs
            → SoFar n last x.terms seen xs → ActsBefore (gone_on theirs n) object outcome elsewhere ys
            → Exchanges x.terms object change outcome (added ++ seen) zs
            → Course theirs object change tries outcome made x.terms seen (zs ++ added)
        in_course (Ok changed) seen added zs xs ys whole s acts e =
            record {
              times = n;
              within = within;
              lost = xs;
              others = ys;
              own = zs;
              whole = ap (λ es. zs ++ es) whole;
              lose = s.lose_to;
              elsewhere = elsewhere;
              acts = acts;
              exchange = subst (λ es. Exchanges x.terms object change (Ok changed) (es ++ seen) zs) whole e;
              count = count;
            }
        in_course (Err why) seen added zs xs ys whole s acts e = absurd e

  -- all tries are lost
  pub all_lost : {x y : Passes} (n now tries made : ℕ) → n ≡ tries → 1 ≤ tries → made ≡ theirs.made + n
      → Goes x y (λ terms seen added. SoFar n now terms seen added)
      → Goes x y (λ terms seen added. Whole (Err (Busy tries now)) tries made terms seen added)
  all_lost {x} n now tries made all some count so_far =
      Goes-weaker so_far (λ seen added here after s. (
        record {
          room = s.room;
          lose = subst (λ k. LostTries x.terms object change k added) all s.lose;
          all = refl;
          last = s.told (omega arith);
        },
        (
          subst (λ k. AreLostTo theirs object change k x.terms added) all s.lose_to,
          subst (λ k. made ≡ theirs.made + k) all count,
        ),
      ))
