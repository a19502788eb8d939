-- Steps at objects, one part after another.
use Rattle.std.proofs.Common.{◌≡◌, ◌↔◌, List, [], ◌++◌, sym, ap, subst, ◌∙◌}
use Rattle.ccan_ram.specs.declared.event.Event.{Event}
use Rattle.ccan_ram.specs.declared.port.PortName.{PortName}
use Rattle.ccan_endless.specs.Chip.{ChipHistory, ram_of, steps_of}
use Rattle.ccan_registers.specs.ChipSteps.{OnObjects, Then}
use Rattle.ccan_registers.proofs.Histories.{ram_of-append}
use Rattle.ccan_calls.proofs.Parting.{no_steps_in, no_steps_of, parted}

-- the one, and then the other
pub record Both (one other : List Event → List Event → Type 0) (seen added : List Event) : Type 0 where
  pub first : List Event
  pub last : List Event
  pub whole : added ≡ last ++ first
  pub begins : one seen first
  pub ends : other (first ++ seen) last

module _ (port : PortName) (one other : List Event → List Event → Type 0) (seen added : ChipHistory) where
  abbrev InTwo : Type 0
  InTwo = Then (λ s a. OnObjects port one s a) (λ s a. OnObjects port other s a) seen added

  to_two : OnObjects port (λ s a. Both one other s a) seen added → InTwo
  to_two h =
      let b = h.means in
      let p = parted added b.last b.first b.whole in
      let (later, earlier) = no_steps_in port added p.last p.begun h.none p.whole in
      let there : ram_of (p.begun ++ seen) ≡ b.first ++ ram_of seen =
      ram_of-append p.begun seen ∙ ap (λ es. es ++ ram_of seen) p.begun_is in
      record {
        earlier = p.begun;
        later = p.last;
        whole = p.whole;
        begins = record { none = earlier; means = subst (λ es. one (ram_of seen) es) (sym p.begun_is) b.begins };
        ends = record {
          none = later;
          means = subst (λ es. other es (ram_of p.last)) (sym there)
              (subst (λ es. other (b.first ++ ram_of seen) es) (sym p.last_is) b.ends);
        };
      }

  of_two : InTwo → OnObjects port (λ s a. Both one other s a) seen added
  of_two steps = record {
    none = subst (λ es. steps_of port es ≡ []) (sym steps.whole)
        (no_steps_of port steps.later steps.earlier steps.ends.none steps.begins.none);
    means = record {
      first = ram_of steps.earlier;
      last = ram_of steps.later;
      whole = ap ram_of steps.whole ∙ ram_of-append steps.later steps.earlier;
      begins = steps.begins.means;
      ends = subst (λ es. other es (ram_of steps.later)) (ram_of-append steps.earlier seen) steps.ends.means;
    };
  }

  pub both_so : OnObjects port (λ s a. Both one other s a) seen added ↔ InTwo
  both_so = (to_two, of_two)

  -- the same in other words
  pub said : ((s a : List Event) → one s a → other s a) → OnObjects port one seen added → OnObjects port other seen added
  said same h = record { none = h.none; means = same (ram_of seen) (ram_of added) h.means }
