-- Tries of a change, by drafts that are committed.
use Rattle.std.proofs.Common.{ℕ, zero, suc, ◌≡◌, ◌<◌, ◌+◌, Bool, true, false, List, [], ◌∷◌, ◌++◌, refl, sym, ap, subst, ◌∙◌}
use Rattle.std.proofs.Common.{arith, add-one, append_assoc, Ok}
use Rattle.std.proofs.lemmas.List.{append-nil}
use Rattle.ccan_object.specs.declared.record.Record.{Record}
use Rattle.ccan_ram.specs.declared.change.Change.{Change}
use Rattle.ccan_ram.specs.declared.change.Changed.{Changed}
use Rattle.ccan_ram.specs.declared.change.Changed.TheVariants.{Done, NotNow}
use Rattle.ccan_ram.specs.declared.draft.Draft.{Draft}
use Rattle.ccan_ram.specs.declared.event.Event.{Event}
use Rattle.ccan_ram.specs.Port.{change_number}
use Rattle.ccan_ram.specs.Change.{fits, changed}
use Rattle.ccan_ram.specs.History.{changes_by, last_number}
use Rattle.ccan_ram.specs.Terms.{Terms}
use Rattle.ccan_ram.specs.Attempt.{look_at, change_at, EndsIn, IsLook, SomeContends, LostTries, HasRoom, IsSpent, Attempt}
use Rattle.ccan_ram.specs.Access.{Passes, Goes}
use Rattle.ccan_ram.specs.SharedRam.{Pass, passes_of}
use Rattle.ccan_ram.specs.Draft.{LooksFor, Commits, CommitsLost}
use Rattle.ccan_ram.specs.Answer.{Tells}
use Rattle.ccan_ram.specs.Draft.{CommitTells}
use Rattle.ccan_ram.proofs.Calls.{Goes-then, Goes-none}
use Rattle.ccan_ram.proofs.Histories.{changes_by-append, changes_by-foreign}

-- a look is no change
changes_by-look : (terms : Terms) (object : ℕ) (shown : Record) (added : List Event) → IsLook terms object shown added
    → changes_by terms.port added ≡ 0
changes_by-look terms object shown added (others, alone, whole) =
    ap (changes_by terms.port) whole ∙ changes_by-foreign terms.port others alone.not_own

-- lost tries are no changes
pub changes_by-lost : (terms : Terms) (object : ℕ) (change : Change) (n : ℕ) (added : List Event)
    → LostTries terms object change n added → changes_by terms.port added ≡ 0
changes_by-lost terms object change zero added h = ap (changes_by terms.port) h
changes_by-lost terms object change (suc n) added (last, earlier, whole, try, lose) =
    let port = terms.port in
    let first = changes_by-lost terms object change n earlier lose in
    let looked = changes_by-look terms object try.shown try.looked try.look in
    let others = changes_by-foreign port try.others try.foreign.not_own in
    ap (changes_by port) whole ∙ (changes_by-append port last earlier
    ∙ omega (arith, ap (changes_by port) try.whole, changes_by-append port try.others try.looked))

module _ (object : ℕ) (change : Change) where
  -- so many tries were lost, the last to a change of this number
  pub record SoFar (n last : ℕ) (terms : Terms) (seen added : List Event) : Type 0 where
    pub room : HasRoom terms seen
    pub lose : LostTries terms object change n added
    pub told : 0 < n → last ≡ last_number terms.contends object (added ++ seen)

  -- before the first try
  pub no_try : (contends : ℕ → ℕ → Bool) (pass : Pass) (last : ℕ) → (changes_by pass.port pass.seen ≡ pass.memory.quota → ⊥)
      → Goes (passes_of contends pass) (passes_of contends pass) (λ terms seen added. SoFar 0 last terms seen added)
  no_try contends pass last unspent =
      Goes-none (λ seen here.
      let kept = here.1.within pass.port in
      let differs = subst (λ (zs : List Event). changes_by pass.port zs ≡ pass.memory.quota → ⊥) (sym here.0) unspent in
      record { room = omega arith; lose = refl; told = λ some. absurd (omega arith) })

  module _ {x y z : Passes} (n last : ℕ) (draft : Draft) (is : draft.object ≡ object)
      (so_far : Goes x y (λ terms seen added. SoFar n last terms seen added))
      (look : Goes y z (λ terms seen added. LooksFor terms draft seen added)) where
    -- the tries so far, and a look after them
    pub record Looked (terms : Terms) (seen added : List Event) : Type 0 where
      pub lost : List Event
      pub looked : List Event
      pub whole : added ≡ looked ++ lost
      pub room : HasRoom terms seen
      pub lose : LostTries terms object change n lost
      pub look_is : IsLook terms object draft.held looked
      pub for : LooksFor terms draft (lost ++ seen) looked
      pub counted : changes_by terms.port (added ++ seen) ≡ changes_by terms.port seen

    looked_next : Goes x z (λ terms seen added. Looked terms seen added)
    looked_next =
        Goes-then so_far look (λ seen xs ys s l.
        let here : IsLook x.terms object draft.held ys =
        (l.others, l.alone, l.whole ∙ ap (λ k. look_at x.terms.port k draft.held ∷ l.others) is) in
        record {
          lost = xs;
          looked = ys;
          whole = refl;
          room = s.room;
          lose = s.lose;
          look_is = here;
          for = l;
          counted =
              (let port = x.terms.port in
              omega (
                arith,
                changes_by-append port (ys ++ xs) seen,
                changes_by-append port ys xs,
                changes_by-lost x.terms object change n xs s.lose,
                changes_by-look x.terms object draft.held ys here,
              ));
        })

    -- a commit that is lost
    pub lost_more : {w : Passes} (now : ℕ) → Goes z w (λ terms seen added. CommitsLost terms draft change seen added now)
        → Goes x w (λ terms seen added. SoFar (n + 1) now terms seen added)
    lost_more now commit =
        Goes-then looked_next commit (λ seen xs ys l m.
        let t = x.terms in
        let all = ap (λ zs. zs ++ seen) l.whole ∙ append_assoc l.looked l.lost seen in
        let place = ap (λ zs. zs ++ (l.lost ++ seen)) l.for.whole in
        let after = m.contended [] (l.for.others ++ (l.lost ++ seen))
        (record { whole = all ∙ place; numbered = l.for.numbered }) in
        let there = subst (λ k. SomeContends t k ys) is (subst (λ zs. SomeContends t draft.object zs) (append-nil ys) after) in
        record {
          room = l.room;
          lose = rw add-one (
            ys ++ l.looked,
            l.lost,
            ap (λ zs. ys ++ zs) l.whole ∙ sym (append_assoc ys l.looked l.lost),
            record {
              shown = draft.held;
              looked = l.looked;
              others = ys;
              whole = refl;
              look = l.look_is;
              fit = m.fit;
              foreign =
                  m.alone;
              contended = there;
            },
            l.lose,
          );
          told =
              λ some. m.last ∙ (ap (λ k. last_number t.contends k (ys ++ (xs ++ seen))) is
              ∙ ap (last_number t.contends object) (sym (append_assoc ys xs seen)));
        })

    -- the port is not spent by looks
    pub unspent : {w : Passes} → Goes z w (λ terms seen added. IsSpent terms seen added)
        → Goes x w (λ terms seen added. IsSpent terms seen added)
    unspent commit =
        Goes-then looked_next commit (λ seen xs ys l m. absurd (omega (arith, l.counted, l.room, m.0)))

    -- a try that is not lost
    pub committed : {w : Passes} (tries : ℕ) (outcome : Changed) → n < tries
        → Goes z w (λ terms seen added. Commits terms draft change seen added (Ok outcome))
        → Goes x w (λ terms seen added. Attempt terms object change tries seen added (Ok outcome))
    committed tries (Done before after number) within commit =
        Goes-then looked_next commit (λ seen xs ys l m.
        let port = x.terms.port in
        record {
          room = l.room;
          lost = l.lost;
          looked = l.looked;
          made = ys;
          times = n;
          within = within;
          whole = ap (λ zs. ys ++ zs) l.whole;
          lose = l.lose;
          look = subst (λ r. IsLook x.terms object r l.looked) (sym m.found) l.look_is;
          fit = subst (λ r. fits change r ≡ true) (sym m.found) m.fit;
          make = subst (λ r. EndsIn x.terms ys (change_at port object change r)) (sym m.found)
              (subst (λ k. EndsIn x.terms ys (change_at port k change draft.held)) is m.make);
          left = m.left ∙ ap (changed change) (sym m.found);
          numbered = m.numbered ∙ ap (λ k. change_number port (k + 1)) l.counted;
        })
    committed tries (NotNow shown) within commit =
        Goes-then looked_next commit (λ seen xs ys l m. record {
          room = l.room;
          lost = l.lost;
          looked = l.looked;
          times = n;
          within = within;
          whole = ap (λ zs. zs ++ xs) m.none ∙ l.whole;
          lose = l.lose;
          look = subst (λ r. IsLook x.terms object r l.looked) (sym m.found) l.look_is;
          unfit = subst (λ r. fits change r ≡ false) (sym m.found) m.unfit;
        })

-- what a commit tells is what an attempt tells
pub told : (draft : Draft) (change : Change) (tries : ℕ) (answer : Changed) → CommitTells draft change (Ok answer)
    → Tells change tries (Ok answer)
told draft change tries (Done before after number) h =
    (subst (λ r. fits change r ≡ true) (sym h.1) h.0, h.2 ∙ ap (changed change) (sym h.1))
told draft change tries (NotNow shown) h = subst (λ r. fits change r ≡ false) (sym h.1) h.0
