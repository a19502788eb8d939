-- Steps at objects in two parts of a history.
use Rattle.std.proofs.Common.{◌≡◌, List, [], ◌∷◌, ◌++◌, length, refl, sym, ap, ◌∙◌, arith}
use Rattle.ccan_ram.specs.declared.event.Event.{Event}
use Rattle.ccan_ram.specs.declared.port.PortName.{PortName}
use Rattle.ccan_endless.specs.declared.chip.ChipEvent.TheVariants.{OfController, OfRam}
use Rattle.ccan_endless.specs.declared.chip.ControllerEvent.{ControllerEvent}
use Rattle.ccan_endless.specs.Chip.{ChipHistory, ram_of, steps_of}
use Rattle.ccan_registers.proofs.Histories.{steps_of-append}

-- where the events at objects have two parts, the history has
pub record Parted (added : ChipHistory) (later first : List Event) : Type 0 where
  pub last : ChipHistory
  pub begun : ChipHistory
  pub whole : added ≡ last ++ begun
  pub last_is : ram_of last ≡ later
  pub begun_is : ram_of begun ≡ first

pub same_rest : {A : Type 0} (x y : A) (xs ys : List A) → x ∷ xs ≡ y ∷ ys → xs ≡ ys
same_rest {A} x y xs ys is = ap rest is
  where
    rest : List A → List A
    rest [] = xs
    rest (z ∷ zs) = zs

pub same_first : {A : Type 0} (x y : A) (xs ys : List A) → x ∷ xs ≡ y ∷ ys → x ≡ y
same_first {A} x y xs ys is = ap first is
  where
    first : List A → A
    first [] = x
    first (z ∷ zs) = z

pub parted : (added : ChipHistory) (later first : List Event) → ram_of added ≡ later ++ first → Parted added later first
parted added [] first is = record { last = []; begun = added; whole = refl; last_is = refl; begun_is = is }
parted [] (x ∷ later) first is = let n = ap length is in absurd (omega (arith, n))
parted (OfController e ∷ added) (x ∷ later) first is =
    let h = parted added (x ∷ later) first is in
    record {
      last = OfController e ∷ h.last;
      begun = h.begun;
      whole = ap (λ (l : ChipHistory). OfController e ∷ l) h.whole;
      last_is = h.last_is;
      begun_is = h.begun_is;
    }
parted (OfRam e ∷ added) (x ∷ later) first is =
    let h = parted added later first (same_rest e x (ram_of added) (later ++ first) is) in
    record {
      last = OfRam e ∷ h.last;
      begun = h.begun;
      whole = ap (λ (l : ChipHistory). OfRam e ∷ l) h.whole;
      last_is = ap (λ (l : List Event). e ∷ l) h.last_is
          ∙ ap (λ (y : Event). y ∷ later) (same_first e x (ram_of added) (later ++ first) is);
      begun_is = h.begun_is;
    }

pub nothing_of : {A : Type 0} (xs ys : List A) → xs ++ ys ≡ [] → (xs ≡ []) × (ys ≡ [])
nothing_of [] ys is = (refl, is)
nothing_of (x ∷ xs) ys is = let n = ap length is in absurd (omega (arith, n))

-- no step in the whole is none in its parts
pub no_steps_in : (port : PortName) (added last begun : ChipHistory) → steps_of port added ≡ [] → added ≡ last ++ begun
    → (steps_of port last ≡ []) × (steps_of port begun ≡ [])
no_steps_in port added last begun none whole =
    nothing_of (steps_of port last) (steps_of port begun)
    (sym (ap (steps_of port) whole ∙ steps_of-append port last begun) ∙ none)

pub no_steps_of : (port : PortName) (last begun : ChipHistory) → steps_of port last ≡ [] → steps_of port begun ≡ []
    → steps_of port (last ++ begun) ≡ []
no_steps_of port last begun none quiet =
    steps_of-append port last begun ∙ ap (λ (l : List ControllerEvent). l ++ steps_of port begun) none ∙ quiet
