-- Looks, pictures, the interrupt value and the interrupt line are their processes.
use Rattle.std.proofs.Common.{ℕ, ◌≡◌, ◌↔◌, Bool, true, false, ◌==◌, ◌&&◌, not, ◌++◌, refl, sym, subst}
use Rattle.ccan_object.specs.declared.record.Record.{Record}
use Rattle.ccan_confine.specs.declared.controller.Controller.{Controller}
use Rattle.ccan_confine.specs.Controller.{shows_interrupt}
use Rattle.ccan_ram.specs.declared.flag.Flag.{Flag}
use Rattle.ccan_ram.specs.declared.flag.Flag.TheVariants.{IntPnd}
use Rattle.ccan_ram.specs.declared.handler_registers.HandlerRegisters.{HandlerRegisters}
use Rattle.ccan_ram.specs.HandlerRegisters.{register_of}
use Rattle.ccan_ram.specs.Picture.{IsPicture}
use Rattle.ccan_ram.specs.Terms.{Terms}
use Rattle.ccan_handler.specs.Moment.{IsFirstSet}
use Rattle.ccan_handler.proofs.MomentLaws.{none_beyond}
use Rattle.ccan_endless.specs.Chip.{ChipHistory, ram_of}
use Rattle.ccan_registers.specs.Objects.{ShowsFlags, ShowsInterrupt, ShowsObject}
use Rattle.ccan_registers.specs.Register.{InterruptValue, PullsLine}
use Rattle.ccan_calls.specs.Parts.{first_set, flag_shown, interrupt_value, line_pulled, look, value_shown}
use Rattle.ccan_calls.specs.Process.{Looks, Pauses, Pictures, ending}
use Rattle.ccan_calls.specs.Runs.{Runs}
use Rattle.ccan_calls.proofs.FirstSet.{first_is, first_once, fits_objects}
use Rattle.ccan_calls.proofs.Processes.{ends_so, one_act}

module _ (terms : Terms) (tries : ℕ) (seen added : ChipHistory) where
  pub looks_once : (object : ℕ) (found : Record)
      → ShowsObject terms object seen added found ↔ Runs terms tries (look object) seen added found
  looks_once object found =
      let one = one_act terms tries (Looks object) (λ shown. shown) seen added found in (
        λ h. one.1 (found, h, refl),
        λ h. let (shown, on, is) = one.0 h in subst (λ r. ShowsObject terms object seen added r) (sym is) on,
      )

  pub shows_flag : (flag : Flag) (word : ℕ)
      → ShowsFlags terms flag seen added word ↔ Runs terms tries (flag_shown flag) seen added word
  shows_flag flag word =
      let one = one_act terms tries Pictures (λ found. register_of flag found) seen added word in (
        λ h. let f = h.means in one.1 (f.shown, record { none = h.none; means = f.picture }, f.is),
        λ h.
            let (found, on, is) = one.0 h in
            record { none = on.none; means = record { shown = found; picture = on.means; is = is } },
      )

  -- ---- interrupts

  first_of : (found : HandlerRegisters) → IsPicture terms found (ram_of seen) (ram_of added)
      → IsFirstSet found.intpnd (first_set found.intpnd)
  first_of found picture =
      first_is found.intpnd
      (fits_objects terms.profile found.intpnd (none_beyond terms found (ram_of seen) (ram_of added) picture IntPnd))

  pub shows_value : (pending : Bool) (value : ℕ)
      → ShowsInterrupt terms pending seen added value ↔ Runs terms tries (interrupt_value pending) seen added value
  shows_value true value =
      let one = one_act terms tries Pauses (λ paused. 0x8000) seen added value in (
        λ h. one.1 (tt, record { none = h.none; means = h.means.1 }, h.means.0),
        λ h. let (paused, on, is) = one.0 h in record { none = on.none; means = (is, on.means) },
      )
  shows_value false value =
      let one = one_act terms tries Pictures (λ found. first_set found.intpnd) seen added value in (
        λ h.
            let (found, picture, first) = h.means in
            one.1 (
              found,
              record { none = h.none; means = picture },
              first_once found.intpnd value (first_set found.intpnd) first (first_of found picture),
            ),
        λ h.
            let (found, on, is) = one.0 h in
            let first = subst (λ v. IsFirstSet found.intpnd v) (sym is) (first_of found on.means) in
            record { none = on.none; means = (found, on.means, first) },
      )

module _ (terms : Terms) (tries : ℕ) (seen added : ChipHistory) where
  pub values : (value : ℕ)
      → ((found : Controller) × InterruptValue terms seen added found value) ↔ Runs terms tries value_shown seen added value
  values value = (
    λ h.
        let (found, shows) = h in
        let steps = shows.steps in (
          found,
          record {
            earlier = steps.earlier;
            later = steps.later;
            whole = steps.whole;
            begins = steps.begins;
            ends = (shows_value terms tries (steps.earlier ++ seen) steps.later (shows_interrupt found) value).0 steps.ends;
          },
        ),
    λ h.
        let (found, steps) = h in (
          found,
          record {
            steps = record {
              earlier = steps.earlier;
              later = steps.later;
              whole = steps.whole;
              begins = steps.begins;
              ends = (shows_value terms tries (steps.earlier ++ seen) steps.later (shows_interrupt found) value).1 steps.ends;
            };
          },
        ),
  )

  abbrev pulled : Controller → ℕ → Bool
  pulled found value = found.control.ie && not (value == 0)

  level : (found : Controller) (pulls : Bool) (s a : ChipHistory)
      → Runs terms tries (ending (interrupt_value (shows_interrupt found)) (pulled found)) s a pulls
      ↔ ((value : ℕ) × Runs terms tries (interrupt_value (shows_interrupt found)) s a value × (pulls ≡ pulled found value))
  level found pulls s a = ends_so terms tries (pulled found) (interrupt_value (shows_interrupt found)) s a pulls

  pub pulls_line : (pulls : Bool)
      → PullsLine terms seen added pulls ↔ Runs terms tries line_pulled seen added pulls
  pulls_line pulls = (
    λ h.
        let (found, value, shows, is) = h in
        let steps = shows.steps in (
          found,
          record {
            earlier = steps.earlier;
            later = steps.later;
            whole = steps.whole;
            begins = steps.begins;
            ends = (level found pulls (steps.earlier ++ seen) steps.later).1 (
              value,
              (shows_value terms tries (steps.earlier ++ seen) steps.later (shows_interrupt found) value).0 steps.ends,
              is,
            );
          },
        ),
    λ h.
        let (found, steps) = h in
        let (value, on, is) = (level found pulls (steps.earlier ++ seen) steps.later).0 steps.ends in (
          found,
          value,
          record {
            steps = record {
              earlier = steps.earlier;
              later = steps.later;
              whole = steps.whole;
              begins = steps.begins;
              ends = (shows_value terms tries (steps.earlier ++ seen) steps.later (shows_interrupt found) value).1 on;
            };
          },
          is,
        ),
  )
