-- The calls of a plain memory, of one port and of the other, as the bus port sees them.
use Rattle.std.proofs.Common.{ℕ, zero, suc, ◌≡◌, ◌≤◌, ◌<◌, ◌+◌, ◌==◌, Bool, true, false, cond, List, [], ◌∷◌, ◌++◌, refl, ap, subst, ◌∙◌, arith, eq-eqb, Result, Ok, Err}
use Rattle.ccan_object.specs.declared.record.Record.{Record}
use Rattle.ccan_object.specs.declared.profile.Profile.{Profile}
use Rattle.ccan_object.specs.declared.command.CommandMask.{CommandMask}
use Rattle.ccan_ram.specs.declared.port.PortName.TheVariants.{If1, Bus}
use Rattle.ccan_ram.specs.declared.change.Change.{Change}
use Rattle.ccan_ram.specs.declared.change.Change.TheVariants.{Write, Clear}
use Rattle.ccan_ram.specs.declared.change.Changed.{Changed}
use Rattle.ccan_ram.specs.declared.change.Changed.TheVariants.{Done, NotNow}
use Rattle.ccan_ram.specs.declared.change.Refused.{Refused}
use Rattle.ccan_ram.specs.declared.change.Refused.TheVariants.{Busy, Spent}
use Rattle.ccan_ram.specs.declared.event.Event.{Event}
use Rattle.ccan_ram.specs.declared.handler_registers.HandlerRegisters.{HandlerRegisters}
use Rattle.ccan_ram.specs.Change.{fits}
use Rattle.ccan_ram.specs.Terms.{Terms, one_thread_terms}
use Rattle.ccan_ram.specs.Attempt.{look_at, change_at, EndsIn, IsLook, LostTries, HasRoom, Attempt}
use Rattle.ccan_ram.specs.Access.{Passes, Goes, AddsLook}
use Rattle.ccan_ram.specs.Array.{SameSeen}
use Rattle.ccan_object.specs.Profile.{objects_in}
use Rattle.ccan_ram.specs.Picture.{pictured, IsPicture, AddsPicture}
use Rattle.ccan_ram.proofs.Pictures.{pictured_changes, alone_added, alone_shown, plain_picture}
use Rattle.ccan_ram.proofs.Calls.{Goes-weaker}
use Rattle.ccan_ram.proofs.Histories.{nobody}
use Rattle.ccan_object.specs.Command.{is_write}
use Rattle.test_contended.specs.declared.transfer.Transfer.{Transfer}
use Rattle.test_contended.specs.Transfer.{change_of}
use Rattle.test_contended.specs.Contended.{contended_terms, contended, Counted, TheyAct, AddsTheirs, AddsLookAlone, Exchanges, changes_of, number_of, Host, host, gone_on, IsNext}

-- ---- calls of a plain memory

module _ (terms : Terms) (alone : terms.alone ≡ true) (object : ℕ) (change : Change) where
  lone : (added : List Event) (event : Event) → EndsIn terms added event → added ≡ event ∷ []
  lone added event (others, foreign, whole) = whole ∙ ap (λ es. event ∷ es) (foreign.none_alone alone)

  none_lost : (n : ℕ) (added : List Event) → LostTries terms object change n added → n ≡ 0
  none_lost zero added h = refl
  none_lost (suc n) added (last, earlier, whole, try, lose) =
      let nobody_acts = try.foreign.none_alone alone in
      absurd (let e : false ≡ true = rw nobody_acts at try.contended in cc)

  nothing_lost : (n : ℕ) (added : List Event) → n ≡ 0 → LostTries terms object change n added → added ≡ []
  nothing_lost zero added is h = h
  nothing_lost (suc n) added is h = absurd (omega arith)

  -- an attempt of a port that has room
  one_try : (tries : ℕ) (seen added : List Event) (outcome : Result Changed Refused) → 1 ≤ tries → HasRoom terms seen
      → Attempt terms object change tries seen added outcome → Exchanges terms object change outcome seen added
  one_try tries seen added (Ok (Done before after number)) some room a =
      let none = nothing_lost a.times a.lost (none_lost a.times a.lost a.lose) a.lose in
      let looked = lone a.looked (look_at terms.port object before) a.look in
      let made = lone a.made (change_at terms.port object change before) a.make in
      (a.whole ∙ rw (none, looked, made) refl, a.fit, a.left, a.numbered)
  one_try tries seen added (Ok (NotNow shown)) some room a =
      let none = nothing_lost a.times a.lost (none_lost a.times a.lost a.lose) a.lose in
      let looked = lone a.looked (look_at terms.port object shown) a.look in
      (a.whole ∙ rw (none, looked) refl, a.unfit)
  one_try tries seen added (Err (Busy told now)) some room a = let none = none_lost tries added a.lose in omega arith
  one_try tries seen added (Err Spent) some room a = omega (arith, a.0)

-- ---- the same calls, as the bus port sees them

module _ (profile : Profile) (quota made used : ℕ) where
  after_look : {y : Passes} (x : Passes) (object : ℕ) (shown : Record) (seen : List Event) → Counted x made used seen
      → y.has_seen (look_at Bus object shown ∷ seen)
      → Counted y made used (look_at Bus object shown ∷ seen)
  after_look x object shown seen h here = record { seen_below = here; theirs = h.theirs; own = h.own }

  -- a look
  pub looks : {x y : Passes} (object : ℕ) (shown : Record) → x.terms ≡ one_thread_terms profile Bus quota
      → Goes x y (λ terms seen added. IsLook terms object shown added)
      → AddsLookAlone (contended profile quota x made used) (contended profile quota y made used) object shown
  looks {x} {y} object shown is look =
      record {
        same = refl;
        each = λ seen h.
            let a = look.each seen h.seen_below in
            let all = lone (one_thread_terms profile Bus quota) refl object (Clear (record { 0 = 0 })) a.0
            (look_at Bus object shown)
            (subst (λ t. IsLook t object shown a.0) is a.2) in
            let here = subst (λ (es : List Event). y.has_seen (es ++ seen)) all a.1 in (
              look_at Bus object shown ∷ [],
              after_look {y = y} x object shown seen h here,
              refl,
            );
      }

  -- which is one look
  pub as_look : {x y : Passes} (object : ℕ) (shown : Record)
      → AddsLookAlone (contended profile quota x made used) (contended profile quota y made used) object shown
      → AddsLook (contended profile quota x made used) (contended profile quota y made used) object shown
  as_look object shown alone =
      Goes-weaker alone (λ seen added here after is. ([], nobody (contended_terms profile quota), is))

  -- a picture
  pub pictures : {x y : Passes} (shown : HandlerRegisters) → x.terms ≡ one_thread_terms profile Bus quota → AddsPicture x y shown
      → Goes (contended profile quota x made used) (contended profile quota y made used)
      (λ terms seen added. IsPicture terms shown seen added × (added ≡ pictured terms.port (objects_in terms.profile) seen))
  pictures {x} {y} shown is picture =
      record {
        same = refl;
        each = λ seen h.
            let a = picture.each seen h.seen_below in
            let p = subst (λ t. IsPicture t shown seen a.0) is a.2 in
            let n = objects_in profile in
            let all : a.0 ≡ pictured Bus n seen = alone_added (one_thread_terms profile Bus quota) refl shown seen a.0 p in
            let here = subst (λ (es : List Event). y.has_seen (es ++ seen)) all a.1 in (
              pictured Bus n seen,
              record {
                seen_below = here;
                theirs = pictured_changes Bus If1 n seen seen ∙ h.theirs;
                own = pictured_changes Bus Bus n seen seen ∙ h.own;
              },
              (
                plain_picture (contended_terms profile quota) shown seen
                    (alone_shown (one_thread_terms profile Bus quota) refl shown seen a.0 p),
                refl,
              ),
            );
      }

  -- a change that nobody disturbs
  pub exchanges : {x y : Passes} (object : ℕ) (change : Change) (tries : ℕ) (outcome : Result Changed Refused)
      → 1 ≤ tries → used < quota
      → x.terms ≡ one_thread_terms profile Bus quota
      → Goes x y (λ terms seen added. Attempt terms object change tries seen added outcome)
      → Goes (contended profile quota x made used) (contended profile quota y made (used + changes_of outcome))
      (λ terms seen added. Exchanges terms object change outcome seen added)
  exchanges {x} {y} object change tries outcome some room is attempt =
      record {
        same = refl;
        each = λ seen h.
            let a = attempt.each seen h.seen_below in
            let e = one_try (one_thread_terms profile Bus quota) refl object change tries seen a.0 outcome some
            (omega (arith, h.own))
            (subst (λ t. Attempt t object change tries seen a.0 outcome) is a.2) in
            (a.0, counted outcome seen a.0 h a.1 e, as_port outcome seen a.0 e);
      } where
        counted : (outcome : Result Changed Refused) (seen added : List Event) → Counted x made used seen
            → y.has_seen (added ++ seen)
            → Exchanges (one_thread_terms profile Bus quota) object change outcome seen added
            → Counted y made (used + changes_of outcome) (added ++ seen)
        counted (Ok (Done before after number)) seen added h here e =
            rw e.0 (record { seen_below = rw e.0 at here; theirs = h.theirs; own = omega (arith, h.own) })
        counted (Ok (NotNow shown)) seen added h here e =
            rw e.0 (record { seen_below = rw e.0 at here; theirs = h.theirs; own = omega (arith, h.own) })
        counted (Err why) seen added h here e = absurd e

        as_port : (outcome : Result Changed Refused) (seen added : List Event)
            → Exchanges (one_thread_terms profile Bus quota) object change outcome seen added
            → Exchanges (contended_terms profile quota) object change outcome seen added
        as_port (Ok (Done before after number)) seen added e = e
        as_port (Ok (NotNow shown)) seen added e = e
        as_port (Err why) seen added e = absurd e

-- a transfer of the other host always fits
pub transfer_fits : (write : Bool) (command : CommandMask) (buffer r : Record)
    → fits (cond write (Write command buffer) (Clear command)) r ≡ true
transfer_fits true command buffer r = refl
transfer_fits false command buffer r = refl

-- a transfer of the other host
pub they_act : {x y z w : Passes} (transfer : Transfer) (tries : ℕ) (outcome : Result Changed Refused) → 1 ≤ tries
    → Goes y z (λ terms seen added. Attempt terms transfer.object (change_of transfer) tries seen added outcome)
    → y.terms ≡ one_thread_terms x.terms.profile If1 x.terms.quota → SameSeen x y → SameSeen z w
    → (made used : ℕ) → made < x.terms.quota
    → Goes (contended x.terms.profile x.terms.quota x made used) (contended x.terms.profile x.terms.quota w (made + 1) used)
    (λ terms seen added. TheyAct transfer (number_of outcome) terms seen added)
they_act {x} {y} {z} {w} transfer tries outcome some attempt if1 begins ends made used room =
    record {
      same = refl;
      each = λ seen h.
          let a = attempt.each seen ((begins seen).0 h.seen_below) in
          let theirs = one_thread_terms x.terms.profile If1 x.terms.quota in
          let e = one_try theirs refl transfer.object (change_of transfer) tries seen a.0 outcome some (omega (arith, h.theirs))
          (subst (λ t. Attempt t transfer.object (change_of transfer) tries seen a.0 outcome) if1 a.2) in
          (a.0, counted outcome seen a.0 h ((ends (a.0 ++ seen)).0 a.1) e, acts outcome seen a.0 e);
    } where
      always : (r : Record) → fits (change_of transfer) r ≡ true
      always r = transfer_fits (is_write transfer.command) transfer.command transfer.buffer r

      counted : (outcome : Result Changed Refused) (seen added : List Event) → Counted x made used seen
          → w.has_seen (added ++ seen)
          → Exchanges (one_thread_terms x.terms.profile If1 x.terms.quota) transfer.object (change_of transfer) outcome seen added
          → Counted w (made + 1) used (added ++ seen)
      counted (Ok (Done before after number)) seen added h here e =
          rw e.0 (record { seen_below = rw e.0 at here; theirs = omega (arith, h.theirs); own = h.own })
      counted (Ok (NotNow shown)) seen added h here e = absurd (let no_more = always shown in let unfit = e.1 in cc)
      counted (Err why) seen added h here e = absurd e

      acts : (outcome : Result Changed Refused) (seen added : List Event)
          → Exchanges (one_thread_terms x.terms.profile If1 x.terms.quota) transfer.object (change_of transfer) outcome seen added
          → TheyAct transfer (number_of outcome) (contended_terms x.terms.profile x.terms.quota) seen added
      acts (Ok (Done before after number)) seen added e =
          let itself : (transfer.object == transfer.object) ≡ true = eq-eqb transfer.object transfer.object refl in
          rw e.0 (record {
            found = before;
            made = refl;
            foreign = record { not_own = refl; none_alone = λ alone. absurd cc };
            contended = rw itself refl;
            last = rw itself e.3;
          })
      acts (Ok (NotNow shown)) seen added e = absurd (let no_more = always shown in let unfit = e.1 in cc)
      acts (Err why) seen added e = absurd e

-- ---- the caller's own values, which stay

module _ {what : Terms → List Event → List Event → Type 0} (profile profile' : Profile)
    (quota quota' made used used' : ℕ) (x y : Passes)
    (same_profile : profile' ≡ profile) (same_quota : quota' ≡ quota) (same_used : used' ≡ used) where
  pub begins_same : Goes (contended profile' quota' x made used') y what → Goes (contended profile quota x made used) y what
  begins_same goes = rw (← same_profile, ← same_quota, ← same_used) goes

  pub ends_same : Goes y (contended profile quota x made used) what → Goes y (contended profile' quota' x made used') what
  ends_same goes = rw (same_profile, same_quota, same_used) goes

pub bus_same : (terms : Terms) (profile profile' : Profile) (quota quota' : ℕ) → profile' ≡ profile → quota' ≡ quota
    → terms ≡ one_thread_terms profile' Bus quota' → terms ≡ one_thread_terms profile Bus quota
bus_same terms profile profile' quota quota' same_profile same_quota is = is ∙ rw (same_profile, same_quota) refl

pub acts_for : (old new : Passes) (profile : Profile) (quota made used : ℕ) (transfer : Transfer) (number : ℕ)
    → old.terms ≡ one_thread_terms profile Bus quota
    → AddsTheirs old new transfer number → made < quota
    → Goes (contended profile quota old made used) (contended profile quota new (made + 1) used)
    (λ terms seen added. TheyAct transfer number terms seen added)
acts_for old new profile quota made used transfer number bus acts room =
    let same_profile : old.terms.profile ≡ profile = ap (λ (t : Terms). t.profile) bus in
    let same_quota : old.terms.quota ≡ quota = ap (λ (t : Terms). t.quota) bus in
    let what : Terms → List Event → List Event → Type 0 = λ terms seen added. TheyAct transfer number terms seen added in
    subst (λ (p : Profile). Goes (contended p quota old made used) (contended p quota new (made + 1) used) what) same_profile
    (subst (λ (q : ℕ). Goes (contended old.terms.profile q old made used)
    (contended old.terms.profile q new (made + 1) used) what)
    same_quota (acts made used (omega (arith, same_quota, room))))

-- ---- the other host, before and after so many transfers

pub host_same : (profile profile' : Profile) (quota quota' : ℕ) (list list' : List Transfer) (made made' n : ℕ)
    → profile' ≡ profile → quota' ≡ quota → list' ≡ list → made' ≡ made + n
    → host profile' quota' list' made' ≡ gone_on (host profile quota list made) n
host_same profile profile' quota quota' list list' made made' n same_profile same_quota same_list went =
    rw (same_profile, same_quota, same_list, went) refl

-- there is one next transfer
pub one_next : (theirs : Host) (a b : Transfer) → IsNext theirs a → IsNext theirs b → a ≡ b
one_next theirs a b is_a is_b =
    let x = is_a.stands in
    let y = is_b.stands in
    cc
