-- A commit at a port, as the port's memory promises it.
use Rattle.std.proofs.Common.{◌≡◌, ◌≢◌, ℕ, ◌+◌, ◌<◌, ◌≤◌, Bool, true, [], ◌∷◌, ◌++◌}
use Rattle.std.proofs.Common.{append_assoc, sym, refl, ap, ◌∙◌, subst, arith, Some, Ok, Err}
use Rattle.ccan_ram.specs.declared.port.PortName.{PortName}
use Rattle.ccan_ram.specs.declared.change.Change.{Change}
use Rattle.ccan_ram.specs.declared.change.Changed.{Changed}
use Rattle.ccan_ram.specs.declared.change.Changed.TheVariants.{Done}
use Rattle.ccan_ram.specs.declared.draft.Draft.{Draft}
use Rattle.ccan_ram.specs.declared.draft.CommitError.TheVariants.{Lost}
use Rattle.ccan_ram.specs.declared.event.Event.{Event}
use Rattle.ccan_ram.specs.Port.{same_port, change_number}
use Rattle.ccan_ram.specs.Change.{fits, changed}
use Rattle.ccan_ram.specs.History.{changes_by, next_number, IsLegal, History}
use Rattle.ccan_ram.specs.Attempt.{look_at}
use Rattle.ccan_ram.specs.SharedRam.{Pass, IsSamePort}
use Rattle.ccan_ram.specs.Draft.{AddsCommit, IsDrawn}
use Rattle.ccan_ram.specs.Ending.{IsPart}
use Rattle.ccan_ram.proofs.Histories.{IsLegal-older, changes_by-append}
use Rattle.ccan_ram.proofs.Steps.{done_goes, lost_goes}
use Rattle.ccan_words.specs.declared.view.PortView.{PortView}
use Rattle.ccan_words.specs.declared.version.Version.{Version}
use Rattle.ccan_words.specs.declared.port.Port.TheInside.{Inside}
use Rattle.ccan_ram.specs.ByPort.{holding}
use Rattle.ccan_words.specs.View.{see}
use Rattle.ccan_words.specs.Layout.{Form, IsNumber}
use Rattle.ccan_words.specs.Plays.{GoesOn, Makes, change_of}
use Rattle.ccan_words.specs.Version.{IsReady, IsSeatOf, Publishes, version_of, with_note}
use Rattle.ccan_ram.proofs.Booleans.{chosen}
use Rattle.ccan_ram.proofs.Ports.{same_own}
use Rattle.ccan_ram.proofs.Counting.{changes_by_own}
use Rattle.ccan_words.proofs.Seats.{only_holds, only_seen, only_sees, only_changes}
use Rattle.ccan_words.proofs.Ports.{WordSeat, IsPortOf, pass, with_seat, last_is_number, seen_is, count_is}
use Rattle.ccan_words.proofs.Ports.{part, sound, within, kept, same_port_as}

-- a call at a port that is to publish the change of a draft: the draft's record fits, and the port has a change left
pub record Due (contends : ℕ → ℕ → Bool) (most : ℕ) (s : Inside) (was : Pass) (draft : Draft) (change : Change) : Type 0 where
  pub is_was : pass s ≡ was
  pub drawn : IsDrawn contends draft was
  pub fit : fits change draft.held ≡ true
  pub room : s.used < s.key.quota
  pub top : s.key.quota ≤ most

-- it wrote the version and tried to publish it, which left the port this seat and found this number
pub record Tried {most : ℕ} {contends : ℕ → ℕ → Bool} (s : Inside) (i : IsPortOf s) (F : Form s.key.profile most contends)
    (was : Pass) (draft : Draft) (change : Change) (to : WordSeat) (found : ℕ) : Type 0 where
  pub due : Due contends most s was draft change
  pub table : to.table_id ≡ s.seat.table_id
  pub told : Publishes F (version_of s.name s.used draft change) i.held found to.me

module _ {most : ℕ} {contends : ℕ → ℕ → Bool} {s : Inside} {was : Pass} {draft : Draft} {change : Change} (i : IsPortOf s)
    (F : Form s.key.profile most contends) (d : Due contends most s was draft change) where
  abbrev look : Event
  look = look_at s.name draft.object draft.held

  -- where the draft was made
  here : IsDrawn contends draft (pass s)
  here = subst (IsDrawn contends draft) (sym d.is_was) d.drawn

  place : i.held.seen ≡ here.0 ++ look ∷ here.1
  place = sym (seen_is s i) ∙ here.2.whole

  steps : IsLegal s.key.profile (look ∷ here.1)
  steps = IsLegal-older s.key.profile here.0 (look ∷ here.1) (subst (IsLegal s.key.profile) place i.sound.legal)

  begins : i.held.seen ≡ (here.0 ++ look ∷ []) ++ here.1
  begins = place ∙ sym (append_assoc here.0 (look ∷ []) here.1)

  earlier_few : (q : PortName) → changes_by q here.1 ≤ most
  earlier_few q =
      let f = i.sound.few q in
      let t = d.top in
      let e = ap (changes_by q) begins ∙ changes_by-append q (here.0 ++ look ∷ []) here.1 in
      omega arith

  pub ready : IsReady F (version_of s.name s.used draft change) i.held
  ready = record {
    held = steps.0.held;
    room = (let m = i.made in let q = i.most in let r = d.room in omega arith);
    top = (let t = d.top in let q = i.most in omega arith);
    numbered = ap (λ (n : ℕ). change_number s.name (n + 1)) i.made;
    at = here.1;
    at_seen = (here.0 ++ look ∷ [], begins);
    old_is = sym here.2.numbered;
    old_number = λ nz.
        subst (IsNumber most) (sym here.2.numbered)
        (last_is_number contends most draft.object here.1 earlier_few (λ z. nz (here.2.numbered ∙ z)));
    before_is = sym steps.0.before;
    fit = d.fit;
  }

module _ {most : ℕ} {contends : ℕ → ℕ → Bool} {s : Inside} {i : IsPortOf s} {F : Form s.key.profile most contends} {was : Pass}
    {draft : Draft} {change : Change} {to : WordSeat} {found : ℕ} (t : Tried s i F was draft change to found) where
  abbrev version : Version
  version = version_of s.name s.used draft change

  abbrev log : History
  log = t.told.exchanges.log

  abbrev new : Pass
  new = pass (with_seat s to)

  -- what the port held when the version was written
  abbrev x : PortView
  x = with_note t.told.note i.held

  held : holding s.name t.told.written.0 ≡ Some x
  held = only_holds s.name x t.told.written t.told.view

  on : GoesOn s.key.profile s.name i.held log
  on = let o = t.told.exchanges.goes_on x held in record { sound = o.sound; part = o.part; own = o.own }

  own_count : changes_by s.name log ≡ changes_by s.name i.held.seen
  own_count = changes_by_own s.name log i.held.seen on.own

  whole : IsPart (pass s) log
  whole = part s i log on

  same : IsSamePort (pass s) new
  same = same_port_as s i to t.table

  room_left : changes_by s.name (pass s).seen < s.key.quota
  room_left = let c = count_is s i in let r = t.due.room in omega arith

  module _ (hit : found ≡ draft.number) where
    abbrev log' : History
    log' = change_of version ∷ log

    abbrev y : PortView
    y = record { seen = log'; note = []; quota = i.held.quota }

    makes : Makes s.key.profile s.name log' t.told.written to.me x
    makes = t.told.exchanges.done hit x held

    view : IsSeatOf s.name y to.me
    view = only_changes s.name x y log' t.told.written to.me t.told.view makes.view

    pub done_after : IsPortOf (record s { seat = to; used = s.used + 1 })
    done_after = record {
      held = y;
      view = view;
      made = ap (λ (n : ℕ). n + 1) (i.made ∙ sym own_count) ∙ sym (chosen (same_port s.name s.name) _ _ (same_own s.name));
      most = i.most;
      sound = sound s i log' makes.sound;
      room = (let r = t.due.room in omega arith);
      few = i.few;
    }

    abbrev answer : ℕ → Changed
    answer number = Done draft.held (changed change draft.held) number

    pub done_commits : AddsCommit contends was new draft change (Ok (answer version.number))
    done_commits =
        let next : next_number s.name (pass s).seen ≡ version.number =
        ap (λ (n : ℕ). change_number s.name (n + 1)) (count_is s i) in
        subst (λ (u : Pass × ℕ). AddsCommit contends u.0 new draft change (Ok (answer u.1))) (λ j. (t.due.is_was j, next j))
        (done_goes contends (pass s) new log whole same draft change (only_seen s.name y to.me view)
        (within s i log' makes.sound) room_left t.due.fit)

  module _ (miss : found ≢ draft.number) where
    lost_view : IsSeatOf s.name (see log x) to.me
    lost_view = only_sees s.name x log t.told.written to.me t.told.view (t.told.exchanges.lost miss)

    pub lost_after : IsPortOf (with_seat s to)
    lost_after = kept s i to (see log x) lost_view refl on.sound own_count

    pub lost_commits : AddsCommit contends was new draft change (Err (Lost found))
    lost_commits =
        subst (λ (q : Pass). AddsCommit contends q new draft change (Err (Lost found))) t.due.is_was
        (lost_goes contends (pass s) new log whole same draft change found (only_seen s.name (see log x) to.me lost_view)
        (within s i log on.sound) room_left t.due.fit t.told.exchanges.found_last miss)
