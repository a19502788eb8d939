-- The port's own events in a scan.
use Rattle.std.proofs.Common.{ℕ, zero, suc, ◌≡◌, ◌≢◌, ◌≤◌, ◌<◌, ◌+◌, ◌-◌, ◌*◌, ◌==◌, Bool, true, false, cond, List, [], ◌∷◌, ◌++◌, refl, sym, ap, subst, ◌∙◌, inl, inr, arith, append_assoc, Ok, Err, Result}
use Rattle.std.specs.List.{All}
use Rattle.std.proofs.Math.Nat.{mul-le-mul_left}
use Rattle.std.proofs.lemmas.Bool.Decides.{nat_tests}
use Rattle.std.proofs.lemmas.List.Elements.{All-nil, All-cons, All-append}
use Rattle.ccan_object.specs.declared.record.Record.{Record}
use Rattle.ccan_object.specs.Profile.{objects_in}
use Rattle.ccan_ram.specs.declared.port.PortName.{PortName}
use Rattle.ccan_ram.specs.declared.port.PortName.TheVariants.{If1, If2, Bus}
use Rattle.ccan_ram.specs.declared.change.Change.{Change}
use Rattle.ccan_ram.specs.declared.change.Changed.{Changed}
use Rattle.ccan_ram.specs.declared.change.Changed.TheVariants.{Done, NotNow}
use Rattle.ccan_ram.specs.declared.change.Refused.{Refused}
use Rattle.ccan_ram.specs.declared.change.Refused.TheVariants.{Busy, Spent}
use Rattle.ccan_ram.specs.declared.event.Event.{Event}
use Rattle.ccan_ram.specs.Port.{same_port}
use Rattle.ccan_ram.specs.Change.{fits}
use Rattle.ccan_ram.specs.History.{is_change, events_of, changes_by}
use Rattle.ccan_ram.specs.Terms.{Terms}
use Rattle.ccan_ram.specs.Attempt.{look_at, change_at, EndsIn, IsLook, LostTries, Attempt}
use Rattle.ccan_ram.proofs.Histories.{events_of-append, events_of-EndsIn, changes_by-append, changes_by-foreign}
use Rattle.ccan_handler.specs.Scan.{IsTried, IsPassed, PassesOver, StopsAt, Scan, ScanEnd, Nowhere, MadeAt, RefusedAt}
use Rattle.ccan_handler.specs.Laws.{ShowsAt, NothingFoundLooksEverywhere, looks_in, changes_of, ScansAreBounded, ScansLeaveOutWhatIsBefore}

pub its_own : (port : PortName) → same_port port port ≡ true
its_own If1 = refl
its_own If2 = refl
its_own Bus = refl

looks_more : (test : Bool) (n a b : ℕ) → n ≡ a + b → cond test n (n + 1) ≡ cond test a (a + 1) + b
looks_more true n a b h = h
looks_more false n a b h = omega arith

looks_in-append : (xs ys : List Event) → looks_in (xs ++ ys) ≡ looks_in xs + looks_in ys
looks_in-append [] ys = omega arith
looks_in-append (event ∷ xs) ys = looks_more (is_change event) _ _ _ (looks_in-append xs ys)

-- the port's own events: at most so many looks and just so many changes, all at objects of which this holds
pub record Own (terms : Terms) (among : ℕ → Type 0) (looks changes : ℕ) (added : List Event) : Type 0 where
  pub looked : looks_in (events_of terms.port added) ≤ looks
  pub changed : changes_by terms.port added ≡ changes
  pub each : All (λ (event : Event). among event.object) (events_of terms.port added)

-- how many changes an attempt makes
abbrev pub made_by : Result Changed Refused → ℕ
made_by (Ok (Done before after number)) = 1
made_by (Ok (NotNow shown)) = 0
made_by (Err why) = 0

module _ (terms : Terms) (among : ℕ → Type 0) where
  abbrev holds : Event → Type 0
  holds event = among event.object

  -- in two parts
  pub Own-append : (a b m n : ℕ) (ys xs added : List Event) → added ≡ ys ++ xs → Own terms among a m ys → Own terms among b n xs
      → Own terms among (a + b) (m + n) added
  Own-append a b m n ys xs added whole own_ys own_xs =
      let port = terms.port in
      let parts = ap (events_of port) whole ∙ events_of-append port ys xs in
      record {
        looked = omega (
          arith,
          ap looks_in parts,
          looks_in-append (events_of port ys) (events_of port xs),
          own_ys.looked,
          own_xs.looked,
        );
        changed = omega (arith, ap (changes_by port) whole, changes_by-append port ys xs, own_ys.changed, own_xs.changed);
        each = rw parts (All-append holds (events_of port ys) (events_of port xs) own_ys.each own_xs.each);
      }

  pub Own-less : (a b m : ℕ) (added : List Event) → a ≤ b → Own terms among a m added → Own terms among b m added
  Own-less a b m added less own = record { looked = omega (arith, own.looked); changed = own.changed; each = own.each }

  pub Own-none : (added : List Event) → added ≡ [] → Own terms among 0 0 added
  Own-none added none = rw none (record { looked = omega arith; changed = refl; each = All-nil holds })

  -- others, and then one look or one change
  one_look : (object : ℕ) (shown : Record) (added : List Event) → among object → IsLook terms object shown added
      → Own terms among 1 0 added
  one_look object shown added here (others, foreign, whole) =
      let port = terms.port in
      let own = events_of-EndsIn terms added (look_at port object shown) (its_own port) (others, foreign, whole) in
      record {
        looked = rw own (omega arith);
        changed = ap (changes_by port) whole ∙ changes_by-foreign port others foreign.not_own;
        each = rw own (All-cons holds (look_at port object shown) [] here (All-nil holds));
      }

  one_change : (object : ℕ) (change : Change) (before : Record) (added : List Event) → among object
      → EndsIn terms added (change_at terms.port object change before) → Own terms among 0 1 added
  one_change object change before added here (others, foreign, whole) =
      let port = terms.port in
      let own = events_of-EndsIn terms added (change_at port object change before) (its_own port) (others, foreign, whole) in
      let counted : changes_by port (change_at port object change before ∷ others) ≡ changes_by port others + 1 =
      rw (its_own port) refl in
      record {
        looked = rw own (omega arith);
        changed = ap (changes_by port) whole ∙ (counted ∙ ap (λ n. n + 1) (changes_by-foreign port others foreign.not_own));
        each = rw own (All-cons holds (change_at port object change before) [] here (All-nil holds));
      }

  foreign_only : (added : List Event) → events_of terms.port added ≡ [] → Own terms among 0 0 added
  foreign_only added none =
      record {
        looked = rw none (omega arith);
        changed = changes_by-foreign terms.port added none;
        each = rw none (All-nil holds);
      }

  module _ (object : ℕ) (here : among object) (change : Change) where
    pub lost : (n : ℕ) (added : List Event) → LostTries terms object change n added → Own terms among n 0 added
    lost zero added none = Own-none added none
    lost (suc n) added (last, earlier, whole, try, lose) =
        let looked = one_look object try.shown try.looked here try.look in
        let tried = Own-append 0 1 0 0 try.others try.looked last try.whole (foreign_only try.others try.foreign.not_own)
        looked in
        Own-less _ _ _ _ (omega arith) (Own-append 1 n 0 0 last earlier added whole tried (lost n earlier lose))

    attempted : (tries : ℕ) (seen added : List Event) (outcome : Result Changed Refused)
        → Attempt terms object change tries seen added outcome
        → Own terms among tries (made_by outcome) added
    attempted tries seen added (Ok (Done before after number)) a =
        let looked = Own-append 1 a.times 0 0 a.looked a.lost _ refl (one_look object before a.looked here a.look)
        (lost a.times a.lost a.lose) in
        Own-less _ _ _ _ (omega (arith, a.within))
        (Own-append 0 (1 + a.times) 1 0 a.made (a.looked ++ a.lost) added a.whole
        (one_change object change before a.made here a.make) looked)
    attempted tries seen added (Ok (NotNow shown)) a =
        Own-less _ _ _ _ (omega (arith, a.within))
        (Own-append 1 a.times 0 0 a.looked a.lost added a.whole (one_look object shown a.looked here a.look)
        (lost a.times a.lost a.lose))
    attempted tries seen added (Err (Busy told now)) a = lost tries added a.lose
    attempted tries seen added (Err Spent) a = Own-less _ _ _ _ (omega arith) (Own-none added a.1)

    tried : (tries : ℕ) (seen added : List Event) (outcome : Result Changed Refused)
        → IsTried terms object change tries seen added outcome
        → Own terms among (tries + 1) (made_by outcome) added
    tried tries seen added outcome t =
        let own = Own-append tries 1 (made_by outcome) 0 t.tried t.looked added t.whole
        (attempted tries (t.looked ++ seen) t.tried outcome t.attempt) (one_look object t.shown t.looked here t.look) in
        record { looked = own.looked; changed = omega (arith, own.changed); each = own.each }

    passed : (tries : ℕ) (seen added : List Event) → IsPassed terms object change tries seen added
        → Own terms among (tries + 1) 0 added
    passed tries seen added (inl (shown, unfit, look)) = Own-less _ _ _ _ (omega arith) (one_look object shown added here look)
    passed tries seen added (inr (shown, try)) = tried tries seen added (Ok (NotNow shown)) try

-- rows of as many looks
row_more : (n t : ℕ) → t + n * t ≡ (n + 1) * t
row_more n t = grind arith

rows_within : (d n t : ℕ) → d < n → t + d * t ≤ n * t
rows_within d n t less =
    let less' : d + 1 ≤ n = omega arith in
    let all : t * (d + 1) ≤ t * n = mul-le-mul_left t less' in
    grind (arith, row_more d t, all)

-- a scan from an object on
module _ (terms : Terms) (change : Change) (tries from : ℕ) where
  abbrev in_reach : ℕ → Type 0
  in_reach object = from ≤ object

  passes : (n : ℕ) (seen added : List Event) → PassesOver terms from n change tries seen added
      → Own terms in_reach (n * (tries + 1)) 0 added
  passes zero seen added none = Own-less terms in_reach 0 (0 * (tries + 1)) 0 added (omega arith)
      (Own-none terms in_reach added none)
  passes (suc n) seen added (last, earlier, whole, pass, before) =
      let own = Own-append terms in_reach (tries + 1) (n * (tries + 1)) 0 0 last earlier added whole
      (passed terms in_reach (from + n) (omega arith) change tries (earlier ++ seen) last pass) (passes n seen earlier before) in
      Own-less terms in_reach _ (suc n * (tries + 1)) 0 added (rows_within n (suc n) (tries + 1) (omega arith)) own

  stops : (object : ℕ) (seen added : List Event) (outcome : Result Changed Refused)
      → StopsAt terms from object change tries seen added outcome
      → Own terms in_reach ((objects_in terms.profile + 1 - from) * (tries + 1)) (made_by outcome) added
  stops object seen added outcome s =
      let own = Own-append terms in_reach (tries + 1) ((object - from) * (tries + 1)) (made_by outcome) 0 s.last
      s.passed added s.whole
      (tried terms in_reach object s.in_turn change tries (s.passed ++ seen) s.last outcome s.try)
      (passes (object - from) seen s.passed s.passes) in
      let within : object - from < objects_in terms.profile + 1 - from = omega (arith, s.in_turn, s.held.greatest) in
      let less = rows_within (object - from) (objects_in terms.profile + 1 - from) (tries + 1) within in
      record { looked = omega (arith, own.looked, less); changed = omega (arith, own.changed); each = own.each }

  scans : (seen added : List Event) (end : ScanEnd) → Scan terms change from tries seen added end
      → Own terms in_reach ((objects_in terms.profile + 1 - from) * (tries + 1)) (changes_of end) added
  scans seen added Nowhere s = passes (objects_in terms.profile + 1 - from) seen added s
  scans seen added (MadeAt object before after number) s = stops object seen added (Ok (Done before after number)) s
  scans seen added (RefusedAt object why) s = stops object seen added (Err why) s

pub bounds_law : ScansAreBounded
bounds_law terms change tries from seen added end scan = let own =
    scans terms change tries from seen added end scan in (own.looked, own.changed)

pub before_law : ScansLeaveOutWhatIsBefore
before_law terms change tries from seen added end scan = (scans terms change tries from seen added end scan).each

-- ---- a scan that finds nothing

module _ (terms : Terms) (object : ℕ) (what : Record → Type 0) where
  shows_last : (ys xs added : List Event) → added ≡ ys ++ xs → ShowsAt terms object what ys → ShowsAt terms object what added
  shows_last ys xs added whole s =
      let port = terms.port in
      record {
        shown = s.shown;
        later = s.later;
        earlier = s.earlier ++ events_of port xs;
        own = ap (events_of port) whole
            ∙ (events_of-append port ys xs
            ∙ (ap (λ es. es ++ events_of port xs) s.own
            ∙ append_assoc s.later (look_at port object s.shown ∷ s.earlier) (events_of port xs)));
        so = s.so;
      }

  shows_earlier : (ys xs added : List Event) → added ≡ ys ++ xs → ShowsAt terms object what xs → ShowsAt terms object what added
  shows_earlier ys xs added whole s =
      let port = terms.port in
      record {
        shown = s.shown;
        later = events_of port ys ++ s.later;
        earlier = s.earlier;
        own = ap (events_of port) whole
            ∙ (events_of-append port ys xs
            ∙ (ap (λ es. events_of port ys ++ es) s.own
            ∙ sym (append_assoc (events_of port ys) s.later (look_at port object s.shown ∷ s.earlier))));
        so = s.so;
      }

  shows_look : (shown : Record) (added : List Event) → what shown → IsLook terms object shown added
      → ShowsAt terms object what added
  shows_look shown added so look =
      record {
        shown = shown;
        later = [];
        earlier = [];
        own =
            events_of-EndsIn terms added (look_at terms.port object shown) (its_own terms.port) look;
        so = so;
      }

-- what is passed over
module _ (terms : Terms) (change : Change) (tries object : ℕ) where
  abbrev unfit : Record → Type 0
  unfit shown = fits change shown ≡ false

  unfit_shown : (seen added : List Event) → IsPassed terms object change tries seen added → ShowsAt terms object unfit added
  unfit_shown seen added (inl (shown, un, look)) = shows_look terms object unfit shown added un look
  unfit_shown seen added (inr (shown, t)) =
      let a = t.attempt in
      shows_last terms object unfit t.tried t.looked added t.whole
      (shows_last terms object unfit a.looked a.lost t.tried a.whole
      (shows_look terms object unfit shown a.looked a.unfit a.look))

  pub passed_shown : (from n : ℕ) (seen added : List Event) → PassesOver terms from n change tries seen added → from ≤ object
      → object < from + n
      → ShowsAt terms object unfit added
  passed_shown from zero seen added passes low high = absurd (omega arith)
  passed_shown from (suc n) seen added (last, earlier, whole, pass, before) low high =
      by_place (object == from + n) refl (passed_shown from n seen earlier before low) where
        by_place : (test : Bool) → (object == from + n) ≡ test → (object < from + n → ShowsAt terms object unfit earlier)
            → ShowsAt terms object unfit added
        by_place true is less =
            let here : from + n ≡ object = grind (arith, nat_tests) in
            shows_last terms object unfit last earlier added whole
            (unfit_shown (earlier ++ seen) last (subst (λ k. IsPassed terms k change tries (earlier ++ seen) last) here pass))
        by_place false is less =
            let other : object ≢ from + n = grind (arith, nat_tests) in
            shows_earlier terms object unfit last earlier added whole (less (omega arith))

pub everywhere_law : NothingFoundLooksEverywhere
everywhere_law terms change tries from object seen added scan low high =
    passed_shown terms change tries object from (objects_in terms.profile + 1 - from) seen added scan low (omega arith)
