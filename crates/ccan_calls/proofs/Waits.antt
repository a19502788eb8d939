-- A wait for a flag of an object is its looks.
use Rattle.std.proofs.Common.{ℕ, zero, suc, ◌≡◌, ◌↔◌, ◌⊎◌, inl, inr, Bool, true, false, List, [], ◌++◌, refl, sym, ap, subst, ◌∙◌, if◌then◌else◌}
use Rattle.ccan_object.specs.declared.record.Record.{Record}
use Rattle.ccan_ram.specs.declared.event.Event.{Event}
use Rattle.ccan_ram.specs.declared.flag.Flag.{Flag}
use Rattle.ccan_ram.specs.Attempt.{IsLook}
use Rattle.ccan_ram.specs.Flags.{flag_of}
use Rattle.ccan_ram.specs.Terms.{Terms}
use Rattle.ccan_handler.specs.Watch.{Watches}
use Rattle.ccan_process.specs.Process.{Ended}
use Rattle.ccan_endless.specs.Chip.{ChipHistory, ram_of, steps_of}
use Rattle.ccan_registers.specs.Objects.{ShowsObject, WaitsFor}
use Rattle.ccan_registers.proofs.Histories.{ram_of-append}
use Rattle.ccan_calls.specs.Parts.{until_shown}
use Rattle.ccan_calls.specs.Process.{Process}
use Rattle.ccan_calls.specs.Runs.{Runs}
use Rattle.ccan_calls.proofs.FirstLook.{begins, hides_first, shows_first, watches_none}
use Rattle.ccan_calls.proofs.Parting.{parted, no_steps_in, no_steps_of}

module _ (terms : Terms) (tries : ℕ) (object : ℕ) (flag : Flag) where
  abbrev Ran : Process Bool → ChipHistory → ChipHistory → Bool → Type 0
  Ran process seen added shown = Runs terms tries process seen added shown

  abbrev on_after : ℕ → Record → Process Bool
  on_after turns found = if flag_of flag found then Ended true else until_shown object flag turns

  shows_now : (turns : ℕ) (found : Record) (s : ChipHistory) → flag_of flag found ≡ true → Ran (on_after turns found) s [] true
  shows_now turns found s is =
      subst (λ (b : Bool). Ran (if b then Ended true else until_shown object flag turns) s [] true) (sym is) (refl, refl)

  hides_now : (turns : ℕ) (found : Record) (s a : ChipHistory) (shown : Bool) → flag_of flag found ≡ false
      → Ran (until_shown object flag turns) s a shown → Ran (on_after turns found) s a shown
  hides_now turns found s a shown is on =
      subst (λ (b : Bool). Ran (if b then Ended true else until_shown object flag turns) s a shown) (sym is) on

  of_after : (turns : ℕ) (found : Record) (s a : ChipHistory) (shown b : Bool) → flag_of flag found ≡ b
      → Ran (if b then Ended true else until_shown object flag turns) s a shown
      → ((flag_of flag found ≡ true) × (a ≡ []) × (shown ≡ true))
      ⊎ ((flag_of flag found ≡ false) × Ran (until_shown object flag turns) s a shown)
  of_after turns found s a shown true is on = inl (is, on.0, on.1)
  of_after turns found s a shown false is on = inr (is, on)

  -- a look that is all
  only : (turns : ℕ) (found : Record) (seen added : ChipHistory) (shown : Bool) → steps_of terms.port added ≡ []
      → IsLook terms object found (ram_of added) → Ran (on_after turns found) (added ++ seen) [] shown
      → Ran (until_shown object flag (suc turns)) seen added shown
  only turns found seen added shown none look on = (
    found,
    record {
      earlier = added;
      later = [];
      whole = refl;
      begins = record { none = none; means = look };
      ends = on;
    },
  )

  is_all : (added later first : List Event) → added ≡ later ++ first → later ≡ [] → first ≡ added
  is_all added later first whole none = sym (whole ∙ ap (λ es. es ++ first) none)

  -- the turns are looks
  abbrev To : ℕ → Type 0
  To turns = (seen added : ChipHistory) (shown : Bool) → WaitsFor terms object flag turns seen added shown
      → Ran (until_shown object flag turns) seen added shown

  -- the first look does not show the flag, and there are so many turns more
  abbrev Rest : ℕ → Type 0
  Rest turns = (seen added : ChipHistory) (shown : Bool) → steps_of terms.port added ≡ []
      → (found : Record) (first later : List Event) → ram_of added ≡ later ++ first → IsLook terms object found first
      → flag_of flag found ≡ false → Watches terms object flag turns later shown
      → Ran (until_shown object flag (suc turns)) seen added shown

  none_more : Rest 0
  none_more seen added shown none found first later whole look hides waits =
      let (quiet, hidden) = watches_none terms object flag later shown waits in
      only 0 found seen added shown none
      (subst (λ es. IsLook terms object found es) (is_all (ram_of added) later first whole quiet) look)
      (hides_now 0 found (added ++ seen) [] shown hides (refl, hidden))

  some_more : (more : ℕ) → To (suc more) → Rest (suc more)
  some_more more to seen added shown none found first later whole look hides waits =
      let p = parted added later first whole in
      let (quiet, before) = no_steps_in terms.port added p.last p.begun none p.whole in (
        found,
        record {
          earlier = p.begun;
          later = p.last;
          whole = p.whole;
          begins = record { none = before; means = subst (λ es. IsLook terms object found es) (sym p.begun_is) look };
          ends = hides_now (suc more) found (p.begun ++ seen) p.last shown hides
              (to (p.begun ++ seen) p.last shown (record {
                none = quiet;
                means = subst (λ es. Watches terms object flag (suc more) es shown) (sym p.last_is) waits;
              }));
        },
      )

  one_more : (turns : ℕ) → Rest turns → To (suc turns)
  one_more turns rest seen added shown waits =
      let b = begins terms object flag turns (ram_of added) shown waits.means in
      elim b.on [
        | inl now ↦
            let whole = is_all (ram_of added) b.later b.first b.whole now.2 in
            only turns b.found seen added shown waits.none (subst (λ es. IsLook terms object b.found es) whole b.look)
            (subst (λ e. Ran (on_after turns b.found) (added ++ seen) [] e) (sym now.1)
            (shows_now turns b.found (added ++ seen) now.0))
        | inr on ↦ rest seen added shown waits.none b.found b.first b.later b.whole b.look on.0 on.1
      ]

  to_looks : (turns : ℕ) → To (suc turns)
  to_looks zero = one_more 0 none_more
  to_looks (suc more) = one_more (suc more) (some_more more (to_looks more))

  -- and the other way round
  of_looks : (turns : ℕ) (seen added : ChipHistory) (shown : Bool) → Ran (until_shown object flag turns) seen added shown
      → WaitsFor terms object flag turns seen added shown
  of_looks zero seen added shown (none, is) =
      subst (λ e. WaitsFor terms object flag 0 seen added e) (sym is) (record {
        none = ap (steps_of terms.port) none;
        means = record { shown = []; looks = ap ram_of none; counted = refl; none = refl };
      })
  of_looks (suc turns) seen added shown (found, steps) =
      elim (of_after turns found (steps.earlier ++ seen) steps.later shown (flag_of flag found) refl steps.ends) [
        | inl now ↦
            let whole : steps.earlier ≡ added = sym (steps.whole ∙ ap (λ es. es ++ steps.earlier) now.1) in
            let look = subst (λ es. ShowsObject terms object seen es found) whole steps.begins in
            subst (λ e. WaitsFor terms object flag (suc turns) seen added e) (sym now.2) (record {
              none = look.none;
              means = shows_first terms object flag turns (ram_of added) found look.means now.0;
            })
        | inr rest ↦
            let waits = of_looks turns (steps.earlier ++ seen) steps.later shown rest.1 in
            subst (λ es. WaitsFor terms object flag (suc turns) seen es shown) (sym steps.whole) (record {
              none = no_steps_of terms.port steps.later steps.earlier waits.none steps.begins.none;
              means = subst (λ es. Watches terms object flag (suc turns) es shown)
                  (sym (ram_of-append steps.later steps.earlier))
                  (hides_first terms object flag turns (ram_of steps.earlier) (ram_of steps.later) found shown
                  steps.begins.means rest.0 waits.means);
            })
      ]

  -- a wait of one turn or more
  pub watches : (turns : ℕ) (seen added : ChipHistory) (shown : Bool)
      → WaitsFor terms object flag (suc turns) seen added shown
      ↔ Runs terms tries (until_shown object flag (suc turns)) seen added shown
  watches turns seen added shown = (to_looks turns seen added shown, of_looks (suc turns) seen added shown)
