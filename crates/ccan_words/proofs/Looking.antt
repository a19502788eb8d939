-- A look at a port, as the port's memory promises it.
use Rattle.std.proofs.Common.{◌≡◌, ℕ, Bool, ◌∷◌, sym, refl, ap, ◌∙◌, subst}
use Rattle.ccan_object.specs.declared.profile.Profile.{Profile}
use Rattle.ccan_object.specs.declared.record.Record.{Record}
use Rattle.ccan_ram.specs.declared.draft.Draft.{Draft}
use Rattle.ccan_ram.specs.History.{record_at, History}
use Rattle.ccan_ram.specs.Attempt.{look_at}
use Rattle.ccan_ram.specs.Access.{AddsLook}
use Rattle.ccan_ram.specs.SharedRam.{Memory, Pass, IsWithin, IsSamePort, passes_of}
use Rattle.ccan_ram.specs.Draft.{AddsDraft, IsDrawn}
use Rattle.ccan_ram.specs.Ending.{IsPart}
use Rattle.ccan_ram.proofs.Steps.{look_goes, prepare_goes, prepare_draws}
use Rattle.ccan_words.specs.declared.port.Port.TheInside.{Inside}
use Rattle.ccan_words.specs.View.{see}
use Rattle.ccan_words.specs.Layout.{Form}
use Rattle.ccan_ram.specs.Sound.{IsSound}
use Rattle.ccan_words.specs.Plays.{GoesOn}
use Rattle.ccan_words.specs.Version.{Finds, IsSeatOf}
use Rattle.ccan_ram.proofs.Counting.{changes_by_own}
use Rattle.ccan_words.proofs.Seats.{only_holds, only_seen, only_sees}
use Rattle.ccan_words.proofs.Ports.{WordSeat, IsPortOf, pass, with_seat, part, within, kept, same_port_as}
use Rattle.ccan_words.proofs.Tables.{memory_is}

-- a call at a port, which found a version by a look at an object, and left the port this seat
module _ {most : ℕ} {contends : ℕ → ℕ → Bool} (form : (u : Profile) → Form u most contends) (s : Inside) (i : IsPortOf s)
    {was : Pass} (is_was : pass s ≡ was) {memory : Memory} (of_memory : was.memory ≡ memory) {k place : ℕ} (is_place : place ≡ k)
    (to : WordSeat) (table : to.table_id ≡ s.seat.table_id) (found : ℕ × Record)
    (told : Finds (form memory.profile) s.name place s.seat.me found.0 found.1 to.me) where
  finds : Finds (form s.key.profile) s.name k s.seat.me found.0 found.1 to.me
  finds =
      let here : memory.profile ≡ s.key.profile = ap (λ (m : Memory). m.profile) (sym (memory_is is_was of_memory)) in
      subst (λ (u : Profile × ℕ). Finds (form u.0) s.name u.1 s.seat.me found.0 found.1 to.me) (λ j. (here j, is_place j)) told

  abbrev log : History
  log = finds.0.log

  abbrev log' : History
  log' = look_at s.name k (record_at k log) ∷ log

  abbrev new : Pass
  new = pass (with_seat s to)

  abbrev found_draft : Draft
  found_draft = record { object = k; held = found.1; number = found.0 }

  on : GoesOn s.key.profile s.name i.held log × IsSound s.key.profile i.held.quota log'
  on = finds.0.goes_on i.held (only_holds s.name i.held s.seat.me i.view)

  view : IsSeatOf s.name (see log' i.held) to.me
  view = only_sees s.name i.held log' s.seat.me to.me i.view finds.0.view

  seen : new.seen ≡ look_at s.name k found.1 ∷ log
  seen = only_seen s.name (see log' i.held) to.me view ∙ ap (λ (r : Record). look_at s.name k r ∷ log) (sym finds.1)

  in_quota : IsWithin (pass s).memory (look_at s.name k found.1 ∷ log)
  in_quota =
      within s i (look_at s.name k found.1 ∷ log)
      (subst (λ (r : Record). IsSound s.key.profile i.held.quota (look_at s.name k r ∷ log)) (sym finds.1) on.1)

  whole : IsPart (pass s) log
  whole = part s i log on.0

  same : IsSamePort (pass s) new
  same = same_port_as s i to table

  pub look_after : IsPortOf (with_seat s to)
  look_after = kept s i to (see log' i.held) view refl on.1 (changes_by_own s.name log i.held.seen on.0.own)

  pub look_looks : AddsLook (passes_of contends was) (passes_of contends new) k found.1
  look_looks =
      subst (λ (q : Pass). AddsLook (passes_of contends q) (passes_of contends new) k found.1) is_was
      (look_goes contends (pass s) new log whole same k found.1 seen in_quota)

  -- the draft of what was found
  pub look_prepares : (draft : Draft) → draft ≡ found_draft → AddsDraft contends was new draft
  look_prepares draft is =
      subst (λ (u : Pass × Draft). AddsDraft contends u.0 new u.1) (λ j. (is_was j, sym is j))
      (prepare_goes contends (pass s) new log whole same found_draft seen in_quota finds.0.found_last)

  pub look_draws : (draft : Draft) → draft ≡ found_draft → IsDrawn contends draft new
  look_draws draft is =
      subst (λ (d : Draft). IsDrawn contends d new) (sym is)
      (prepare_draws contends (pass s) new log whole same found_draft seen finds.0.found_last)
