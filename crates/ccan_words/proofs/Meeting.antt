-- Two ports in one seat, which has seen the whole history, and then in two seats again. So both have seen that history, which
-- goes on from what either had seen and has no new event of either.
use Rattle.std.proofs.Common.{◌≡◌, ◌≢◌, ℕ, Bool, [], sym, refl, ap, ◌∙◌, subst, Some, None}
use Rattle.ccan_object.specs.declared.profile.Profile.{Profile}
use Rattle.ccan_ram.specs.declared.port.PortName.{PortName}
use Rattle.ccan_ram.specs.SharedRam.{Memory, Pass, Meets}
use Rattle.ccan_ram.proofs.Steps.{meets}
use Rattle.ccan_words.specs.declared.view.PortView.{PortView}
use Rattle.ccan_words.specs.declared.port.Port.TheInside.{Inside}
use Rattle.ccan_ram.specs.History.{History}
use Rattle.ccan_ram.specs.ByPort.{holding, with_held, only, together}
use Rattle.ccan_words.specs.View.{see, see_held, see_all}
use Rattle.ccan_words.specs.Layout.{Form}
use Rattle.ccan_words.specs.Plays.{Knows, GoesOn, Watches}
use Rattle.ccan_words.specs.Version.{IsSeatOf}
use Rattle.ccan_ram.proofs.Counting.{changes_by_own}
use Rattle.ccan_ram.proofs.Holding.{holding-each_as, split_off, held_with, held_first}
use Rattle.ccan_words.proofs.Seats.{only_holds, only_seen}
use Rattle.ccan_words.proofs.Ports.{WordSeat, IsPortOf, pass, with_seat, part, within, kept, same_port_as}
use Rattle.ccan_words.proofs.Tables.{memory_is, same_table}

-- the seats from one step to the next: the second port leaves its seat for a new one, which the first port's seat takes in;
-- that sees the whole history, and gives the second port a seat again
pub record Meeting {profile : Profile} {most : ℕ} {contends : ℕ → ℕ → Bool} (F : Form profile most contends) (a b : Inside)
    (left right : WordSeat) : Type 0 where
  pub theirs : Knows
  pub both : Knows
  pub seen : Knows
  pub parted : theirs ≡ (only b.name (holding b.name b.seat.me.0), [])
  pub joined : both ≡ (together a.seat.me.0 theirs.0, a.seat.me.1)
  pub watched : Watches F both seen
  pub kept : left.me ≡ (with_held b.name None seen.0, seen.1)
  pub given : right.me ≡ (only b.name (holding b.name seen.0), [])
  pub left_table : left.table_id ≡ a.seat.table_id
  pub right_table : right.table_id ≡ a.seat.table_id

module _ {most : ℕ} {contends : ℕ → ℕ → Bool} {memory : Memory} {F : Form memory.profile most contends} {a b : Inside}
    {left_seat right_seat : WordSeat} (m : Meeting F a b left_seat right_seat) (ia : IsPortOf a) (ib : IsPortOf b)
    {was_a was_b : Pass} (is_a : pass a ≡ was_a) (is_b : pass b ≡ was_b)
    (of_a : was_a.memory ≡ memory) (of_b : was_b.memory ≡ memory) (two : was_a.port ≢ was_b.port) where
  ours_a : (pass a).memory ≡ memory
  ours_a = memory_is is_a of_a

  ours_b : (pass b).memory ≡ memory
  ours_b = memory_is is_b of_b

  abbrev p : PortName
  p = a.name

  abbrev q : PortName
  q = b.name

  apart : p ≢ q
  apart e = two (ap (λ (u : Pass). u.port) (sym is_a) ∙ (e ∙ ap (λ (u : Pass). u.port) is_b))

  abbrev x : PortView
  x = ia.held

  abbrev y : PortView
  y = ib.held

  abbrev log : History
  log = m.watched.log

  both : m.both ≡ (together (only p (Some x)) (only q (Some y)), [])
  both =
      let e : m.theirs ≡ (only q (Some y), []) = m.parted ∙ (λ i. (only q (only_holds q y b.seat.me ib.view i), [])) in
      m.joined ∙ (λ i. (together (ia.view i).0 (e i).0, (ia.view i).1))

  on_a : GoesOn a.key.profile p x log
  on_a =
      subst (λ (u : Memory). GoesOn u.profile p x log) (sym ours_a)
      (m.watched.goes_on p x (ap (λ (u : Knows). holding p u.0) both ∙ held_first p q x y))

  on_b : GoesOn b.key.profile q y log
  on_b =
      subst (λ (u : Memory). GoesOn u.profile q y log) (sym ours_b)
      (m.watched.goes_on q y (ap (λ (u : Knows). holding q u.0) both ∙ held_with p q x y apart))

  seen : m.seen ≡ (see_all log (together (only p (Some x)) (only q (Some y))), [])
  seen = m.watched.view ∙ ap (λ (u : Knows). (see_all log u.0, u.1)) both

  left : IsSeatOf p (see log x) left_seat.me
  left = m.kept ∙ (ap (λ (u : Knows). (with_held q None u.0, u.1)) seen ∙ (λ i. (split_off (see log) p q x y apart i, [])))

  right : IsSeatOf q (see log y) right_seat.me
  right =
      let e : holding q m.seen.0 ≡ Some (see log y) =
      ap (λ (u : Knows). holding q u.0) seen
      ∙ (holding-each_as (see log) q (together (only p (Some x)) (only q (Some y)))
      ∙ ap (see_held log) (held_with p q x y apart)) in
      m.given ∙ (λ i. (only q (e i), []))

  pub met_a : IsPortOf (with_seat a left_seat)
  met_a = kept a ia left_seat (see log x) left refl on_a.sound (changes_by_own p log x.seen on_a.own)

  pub met_b : IsPortOf (with_seat b right_seat)
  met_b = kept b ib right_seat (see log y) right refl on_b.sound (changes_by_own q log y.seen on_b.own)

  pub met : Meets was_a was_b (pass (with_seat a left_seat)) (pass (with_seat b right_seat))
  met =
      let new_a = pass (with_seat a left_seat) in
      let new_b = pass (with_seat b right_seat) in
      let one_table : a.seat.table_id ≡ b.seat.table_id = same_table _ _ (ap (λ (u : Memory). u.name) (ours_a ∙ sym ours_b)) in
      subst (λ (u : Pass × Pass). Meets u.0 u.1 new_a new_b) (λ i. (is_a i, is_b i))
      (meets (pass a) (pass b) new_a new_b log (part a ia log on_a) (part b ib log on_b)
      (same_port_as a ia left_seat m.left_table) (same_port_as b ib right_seat (m.right_table ∙ one_table))
      (only_seen p (see log x) left_seat.me left) (only_seen q (see log y) right_seat.me right) (within a ia log on_a.sound))
