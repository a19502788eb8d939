-- What is known of a port: its invariant says what its seat holds, and here that is said of the pass that contracts see, and of
-- the port after a step that made nothing.
use Rattle.std.proofs.Common.{◌≡◌, ◌≢◌, ℕ, ◌≤◌, Bool, sym, refl, ap, ◌∙◌, subst, arith}
use Rattle.atomic_table.specs.Seated.{TableId}
use Rattle.atomic_table.specs.declared.shared.Seat.{Seat}
use Rattle.ccan_ram.specs.declared.port.PortName.{PortName}
use Rattle.ccan_ram.specs.History.{events_of, changes_by, last_number, BeginsWith, History}
use Rattle.ccan_ram.specs.SharedRam.{Pass, IsWithin, CanSee, IsSamePort}
use Rattle.ccan_ram.specs.Ending.{IsPart}
use Rattle.ccan_words.specs.declared.view.PortView.{PortView}
use Rattle.ccan_words.specs.View.{View}
use Rattle.ccan_words.specs.declared.port.Port.TheInside.{Inside}
use Rattle.ccan_words.specs.Layout.{IsNumber}
use Rattle.ccan_ram.specs.Sound.{IsSound}
use Rattle.ccan_words.specs.Plays.{GoesOn}
use Rattle.ccan_words.specs.Version.{IsSeatOf}
use Rattle.ccan_words.specs.Port.{memory_in, pass_of, IsPort}
use Rattle.ccan_ram.proofs.Numbers.{numbered}
use Rattle.ccan_words.proofs.Histories.{latest}
use Rattle.ccan_words.proofs.Seats.{only_seen}

-- the number of the last change that contends is a change's
pub last_is_number : (contends : ℕ → ℕ → Bool) (most k : ℕ) (h : History) → ((q : PortName) → changes_by q h ≤ most)
    → last_number contends k h ≢ 0 → IsNumber most (last_number contends k h)
last_is_number contends most k h few nz =
    let s = (latest contends k h).some nz in
    let m = numbered h (last_number contends k h) s.0 s.1 in
    let made = m.made in
    let b = few m.port in
    record { port = m.port; count = m.count; is = m.is; from_one = m.from_one; up_to = omega arith }

-- a seat on the words
abbrev pub WordSeat : Type 0
WordSeat = Seat (Unit {0}) View

-- what contracts see of a port with these fields
abbrev pub pass : Inside → Pass
pass s = pass_of s.seat.table_id s.key.profile s.key.quota s.name s.seat.me.0

-- the fields keep the port's invariant
abbrev pub IsPortOf : Inside → Type 0
IsPortOf s = IsPort s.seat.me s.key.profile s.name s.used s.key.quota

-- the port after a step, which left it this seat
abbrev pub with_seat : Inside → WordSeat → Inside
with_seat s seat = record s { seat = seat }

module _ (s : Inside) (i : IsPortOf s) where
  abbrev pub x : PortView
  x = i.held

  pub seen_is : (pass s).seen ≡ x.seen
  seen_is = only_seen s.name x s.seat.me i.view

  pub part : (log : History) → GoesOn s.key.profile s.name x log → IsPart (pass s) log
  part log on = record {
    begins = subst (BeginsWith log) (sym seen_is) on.part;
    own = on.own ∙ ap (events_of s.name) (sym seen_is);
  }

  pub sound : (h : History) → IsSound s.key.profile x.quota h → IsSound s.key.profile s.key.quota h
  sound h k = subst (λ (n : ℕ). IsSound s.key.profile n h) i.most k

  pub within : (h : History) → IsSound s.key.profile x.quota h → IsWithin (pass s).memory h
  within h k = let t = sound h k in record { legal = t.legal; within = t.few }

  pub seen_within : CanSee (pass s)
  seen_within = subst (IsWithin (pass s).memory) (sym seen_is) (record { legal = i.sound.legal; within = i.sound.few })

  pub count_is : changes_by s.name (pass s).seen ≡ s.used
  count_is = ap (changes_by s.name) seen_is ∙ sym i.made

  -- the port after a step by which it made nothing
  pub kept : (to : WordSeat) (y : PortView) → IsSeatOf s.name y to.me → y.quota ≡ x.quota → IsSound s.key.profile x.quota y.seen
      → changes_by s.name y.seen ≡ changes_by s.name x.seen → IsPortOf (with_seat s to)
  kept to y v m k e = record {
    held = y;
    view = v;
    made = i.made ∙ sym e;
    most = m ∙ i.most;
    sound = sound y.seen k;
    room = i.room;
    few = i.few;
  }

  pub same_port_as : (to : WordSeat) → to.table_id ≡ s.seat.table_id → IsSamePort (pass s) (pass (with_seat s to))
  same_port_as to e = record { memory = ap (λ (u : TableId). memory_in u s.key.profile s.key.quota) e; port = refl }
