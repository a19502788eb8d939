-- A choice of what to send during which nobody else acts: it is one over a one-thread memory.
use Rattle.std.proofs.Common.{◌≤◌, ℕ, zero, suc, List, ◌++◌, inl, inr, Option, Some, None, Result, Ok, Err}
use Rattle.ccan_object.specs.declared.record.Record.{Record}
use Rattle.ccan_object.specs.Profile.{objects_in}
use Rattle.ccan_ram.specs.declared.change.Change.TheVariants.{Start}
use Rattle.ccan_ram.specs.declared.change.Changed.TheVariants.{Done, NotNow}
use Rattle.ccan_ram.specs.declared.change.Refused.{Refused}
use Rattle.ccan_ram.specs.declared.event.Event.{Event}
use Rattle.ccan_ram.specs.declared.handler_registers.HandlerRegisters.{HandlerRegisters}
use Rattle.ccan_ram.specs.declared.sending.Sending.{Sending}
use Rattle.ccan_ram.specs.declared.sending.Sending.TheVariants.{UntilSent}
use Rattle.ccan_ram.specs.History.{NobodyElse}
use Rattle.ccan_ram.specs.Sending.{start_by}
use Rattle.ccan_ram.specs.Terms.{Terms}
use Rattle.ccan_ram.specs.Laws.{as_one_thread}
use Rattle.ccan_ram.proofs.Undisturbed.{attempts_undisturbed}
use Rattle.ccan_ram.proofs.UndisturbedPictures.{pictures_undisturbed}
use Rattle.ccan_handler.specs.Moment.{Starts, Skips, StopsAtOne, Chosen, ChoosesAmong, ChoosesAtOnce}
use Rattle.ccan_handler.specs.Scan.{Nowhere, MadeAt, RefusedAt}
use Rattle.ccan_handler.specs.Scan as scan
use Rattle.ccan_bus.specs.declared.choice.Choice.{Choice}
use Rattle.ccan_bus.specs.declared.choice.Choice.TheVariants.{InTurn, AtOnce}
use Rattle.ccan_bus.specs.Choice.{Chooses}
use Rattle.ccan_line.proofs.ScansApart.{apart, scans_apart}

module _ (terms : Terms) (tries : ℕ) (some : 1 ≤ tries) where
  abbrev single : Terms
  single = as_one_thread terms

  in_turn_apart : (seen added : List Event) (chosen : Chosen) → NobodyElse terms.port added
      → scan.Chooses terms tries seen added chosen → scan.Chooses single tries seen added chosen
  in_turn_apart seen added (Ok None) alone h = scans_apart terms Start tries some 1 seen added Nowhere alone h
  in_turn_apart seen added (Ok (Some chosen)) alone (before, number, h) =
      (before, number, scans_apart terms Start tries some 1 seen added (MadeAt chosen.0 before chosen.1 number) alone h)
  in_turn_apart seen added (Err refused) alone h =
      scans_apart terms Start tries some 1 seen added (RefusedAt refused.at refused.why) alone h

  module _ (sending : Sending) (shown : HandlerRegisters) where
    starts_apart : (object : ℕ) (seen added : List Event) (answer : Result (Option Record) Refused) → NobodyElse terms.port added
        → Starts terms sending shown object tries seen added answer → Starts single sending shown object tries seen added answer
    starts_apart object seen added (Ok None) alone (inl h) = inl h
    starts_apart object seen added (Ok None) alone (inr (ready, now, h)) =
        inr (ready, now, attempts_undisturbed terms object (start_by sending) tries seen added (Ok (NotNow now)) some alone h)
    starts_apart object seen added (Ok (Some after)) alone (ready, before, number, h) =
        let apart = attempts_undisturbed terms object (start_by sending) tries seen added (Ok (Done before after number)) some
        alone h in
        (ready, before, number, apart)
    starts_apart object seen added (Err why) alone (ready, h) =
        (ready, attempts_undisturbed terms object (start_by sending) tries seen added (Err why) some alone h)

    skips_apart : (n : ℕ) (seen added : List Event) → NobodyElse terms.port added → Skips terms sending shown tries n seen added
        → Skips single sending shown tries n seen added
    skips_apart zero seen added alone none = none
    skips_apart (suc n) seen added alone (last, earlier, whole, start, rest) =
        let parts = apart terms added last earlier whole alone in (
          last,
          earlier,
          whole,
          starts_apart (suc n) (earlier ++ seen) last (Ok None) parts.0 start,
          skips_apart n seen earlier parts.1 rest,
        )

    stops_apart : (object : ℕ) (seen added : List Event) (answer : Result (Option Record) Refused) → NobodyElse terms.port added
        → StopsAtOne terms sending shown tries object seen added answer
        → StopsAtOne single sending shown tries object seen added answer
    stops_apart object seen added answer alone h =
        let parts = apart terms added h.last h.skipped h.whole alone in
        record {
          below = h.below;
          is = h.is;
          held = h.held;
          skipped = h.skipped;
          last = h.last;
          whole = h.whole;
          skips = skips_apart h.below seen h.skipped parts.1 h.skips;
          start = starts_apart object (h.skipped ++ seen) h.last answer parts.0 h.start;
        }

    among_apart : (seen added : List Event) (chosen : Chosen) → NobodyElse terms.port added
        → ChoosesAmong terms sending shown tries seen added chosen → ChoosesAmong single sending shown tries seen added chosen
    among_apart seen added (Ok None) alone h = skips_apart (objects_in terms.profile) seen added alone h
    among_apart seen added (Ok (Some (object, after))) alone h = stops_apart object seen added (Ok (Some after)) alone h
    among_apart seen added (Err refused) alone h = stops_apart refused.at seen added (Err refused.why) alone h

  pub at_once_apart : (sending : Sending) (seen added : List Event) (chosen : Chosen) → NobodyElse terms.port added
      → ChoosesAtOnce terms sending tries seen added chosen → ChoosesAtOnce single sending tries seen added chosen
  at_once_apart sending seen added chosen alone h =
      let parts = apart terms added h.tried h.looked h.whole alone in
      record {
        shown = h.shown;
        looked = h.looked;
        tried = h.tried;
        whole = h.whole;
        picture = pictures_undisturbed terms h.shown seen h.looked parts.1 h.picture;
        choice = among_apart sending h.shown (h.looked ++ seen) h.tried chosen parts.0 h.choice;
      }

  pub choices_apart : (choice : Choice) (seen added : List Event) (chosen : Chosen) → NobodyElse terms.port added
      → Chooses choice terms tries seen added chosen → Chooses choice single tries seen added chosen
  choices_apart InTurn seen added chosen alone h = in_turn_apart seen added chosen alone h
  choices_apart AtOnce seen added chosen alone h = at_once_apart UntilSent seen added chosen alone h
