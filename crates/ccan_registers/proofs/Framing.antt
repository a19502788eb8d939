-- What a chip's part in a frame on a bus of several says, as events that it adds to the history of the chip.
use Rattle.std.proofs.Common.{◌≡◌, ℕ, List, ◌++◌, refl, sym, ap, subst, ◌∙◌, append_assoc}
use Rattle.std.specs.Prelude.{Option, None}
use Rattle.ccan_ram.specs.declared.event.Event.{Event}
use Rattle.ccan_ram.specs.declared.port.PortName.{PortName}
use Rattle.ccan_ram.specs.declared.port.PortName.TheVariants.{Bus}
use Rattle.ccan_ram.specs.SharedRam.{CanSee, terms_of}
use Rattle.ccan_ram.specs.Terms.{Terms}
use Rattle.ccan_ram.specs.Tries.{most_tries}
use Rattle.ccan_bus.specs.Complete.{Completes}
use Rattle.ccan_endless.specs.Chip.{ChipHistory}
use Rattle.ccan_endless.specs.ChipPort.{ChipPass}
use Rattle.ccan_endless.specs.Layout.{same_object}
use Rattle.ccan_station.specs.declared.begun.Begun.{Begun}
use Rattle.ccan_station.specs.declared.ended.Ended.{Ended}
use Rattle.ccan_station.specs.declared.station.Station.{Station}
use Rattle.ccan_station.specs.declared.stayed.Stayed.{Stayed}
use Rattle.ccan_station.specs.Station.{Begins, Ends, Loads, Stays, due, frame_won, loaded_before, may_send, role_now, sending_now, sent_as, still_loaded}
use Rattle.ccan_wire.specs.declared.flaw.Flaw.{Flaw}
use Rattle.ccan_wire.specs.declared.wire.Wire.{Wire}
use Rattle.ccan_wire.specs.Wire.{start_of}
use Rattle.ccan_registers.specs.ChipSteps.{ChipGoes, OnObjects}
use Rattle.ccan_registers.specs.Frames.{BeginsOnChip, EndsOnChip, StaysOnChip, state_of}
use Rattle.ccan_registers.specs.Rounds.{NotesEvent}
use Rattle.ccan_registers.proofs.Going.{objects_after, weaker}
use Rattle.ccan_registers.proofs.Rounding.{arrives_on_chip, by_name, looks_at, notes_event}

pub begins_on_chip : (old new : ChipPass) (tries : ℕ) (before after : Station) (told : Begun)
    → old.pass.port ≡ Bus → CanSee new.pass
    → Begins (terms_of same_object old.pass.memory Bus) tries old new before.loaded after.loaded after.under_way told
    → ChipGoes old new (λ terms seen added. BeginsOnChip terms tries (state_of before) seen added (state_of after) told)
begins_on_chip old new tries before after told bus sees h =
    let looked = h.looked in
    let look = arrives_on_chip old looked h.first told.found h.arrives in
    let what : Terms → List Event → List Event → Type 0 = λ t s a.
    Loads (may_send (role_now told.found)) (sending_now told.found) t tries s a (loaded_before h.first before.loaded) after.loaded told.loading in
    let b = objects_after looked new (what (terms_of same_object old.pass.memory Bus)) h.rests h.added h.adds h.loads in
    record {
      same =
          record {
            memory = h.rests.same.memory ∙ look.same.memory;
            port = h.rests.same.port ∙ look.same.port;
          };
      each = λ s.
          let x = look.each s in (
            b.0 ++ x.0,
            record { one = h.rests.to; sees = sees },
            b.1 ∙ (ap (λ (l : ChipHistory). b.0 ++ l) x.2 ∙ sym (append_assoc b.0 x.0 old.whole)),
            record {
              looked = x.0;
              later = b.0;
              whole = refl;
              first = h.first;
              arrives = x.3;
              loads =
                  subst (λ (u : PortName × Terms × ChipHistory). OnObjects u.0 (what u.1) u.2 b.0)
                  (λ i. (look.same.port i, by_name old bus i, x.2 i)) b.2;
              member = h.member;
              waits = h.waits;
            },
          );
    }

pub stays_on_chip : (old new : ChipPass) (before after : Station) (told : Stayed)
    → Stays old new before.loaded after.loaded before.under_way after.under_way told
    → ChipGoes old new (λ terms seen added. StaysOnChip terms (state_of before) seen added (state_of after) told)
stays_on_chip old new before after told h =
    weaker old new _ _ (looks_at old new told.found h.looks)
    (λ seen added at. record { looks = at; kept = h.kept; held = h.held; member = h.member })

pub ends_on_chip : (old new : ChipPass) (tries : ℕ) (on : Wire) (place : ℕ) (flaw : Option Flaw) (before after : Station)
    (told : Ended) → old.pass.port ≡ Bus → after.under_way ≡ None
    → Ends (terms_of same_object old.pass.memory Bus) tries old new on place flaw before.loaded after.loaded before.under_way told
    → ChipGoes old new
    (λ terms seen added. EndsOnChip terms tries on place flaw (state_of before) seen added (state_of after) told)
ends_on_chip old new tries on place flaw before after told bus over h =
    let looked = h.looked in
    let between = h.between in
    let look = looks_at old looked told.found h.looks in
    let notes = notes_event between new most_tries told.own told.noted h.notes in
    let what : Terms → List Event → List Event → Type 0 = λ t s a.
    Completes t (sent_as (still_loaded told.found before.loaded)) tries s a (due told.own (still_loaded told.found before.loaded) (frame_won (start_of on))) told.end in
    let b = objects_after looked between (what (terms_of same_object old.pass.memory Bus)) h.rests h.added h.adds h.completes in
    let port : between.pass.port ≡ old.pass.port = h.rests.same.port ∙ look.same.port in
    record {
      same =
          record {
            memory = notes.same.memory ∙ (h.rests.same.memory ∙ look.same.memory);
            port = notes.same.port ∙ port;
          };
      each = λ s.
          let x = look.each s in
          let z = notes.each (record { one = h.rests.to; sees = h.sees }) in
          let found : between.whole ≡ b.0 ++ (x.0 ++ old.whole) = b.1 ∙ ap (λ (l : ChipHistory). b.0 ++ l) x.2 in (
            z.0 ++ (b.0 ++ x.0),
            z.1,
            z.2 ∙ (ap (λ (l : ChipHistory). z.0 ++ l) (found ∙ sym (append_assoc b.0 x.0 old.whole))
                ∙ sym (append_assoc z.0 (b.0 ++ x.0) old.whole)),
            record {
              looked = x.0;
              steps = b.0;
              last = z.0;
              whole = refl;
              looks = x.3;
              own = h.own;
              completes =
                  subst (λ (u : PortName × Terms × ChipHistory). OnObjects u.0 (what u.1) u.2 b.0)
                  (λ i. (look.same.port i, by_name old bus i, x.2 i)) b.2;
              left = h.left;
              over = over;
              notes =
                  subst (λ (u : PortName × ChipHistory). NotesEvent u.0 most_tries told.own told.noted u.1 z.0)
                  (λ i. (port i, found i)) z.3;
            },
          );
    }
