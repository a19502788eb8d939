-- Lists of events of a chip, put together.
use Rattle.std.proofs.Common.{◌≡◌, Bool, true, false, cond, List, [], ◌∷◌, ◌++◌, length, refl, sym, ap, ◌∙◌, arith}
use Rattle.std.proofs.lemmas.List.{length-append}
use Rattle.ccan_ram.specs.declared.event.Event.{Event}
use Rattle.ccan_ram.specs.declared.port.PortName.{PortName}
use Rattle.ccan_ram.specs.History.{events_of}
use Rattle.ccan_ram.specs.Port.{same_port}
use Rattle.ccan_ram.proofs.Histories.{events_of-append}
use Rattle.ccan_endless.specs.declared.chip.ChipEvent.TheVariants.{OfController, OfRam}
use Rattle.ccan_endless.specs.declared.chip.ControllerEvent.{ControllerEvent}
use Rattle.ccan_endless.specs.Chip.{ChipHistory, ram_of, steps_of}

pub ram_of-append : (more h : ChipHistory) → ram_of (more ++ h) ≡ ram_of more ++ ram_of h
ram_of-append [] h = refl
ram_of-append (OfRam e ∷ more) h = ap (λ (l : List Event). e ∷ l) (ram_of-append more h)
ram_of-append (OfController e ∷ more) h = ram_of-append more h

one_more : (own : Bool) (e : ControllerEvent) (xs ys zs : List ControllerEvent) → xs ≡ ys ++ zs
    → cond own (e ∷ xs) xs ≡ cond own (e ∷ ys) ys ++ zs
one_more true e xs ys zs h = ap (λ (l : List ControllerEvent). e ∷ l) h
one_more false e xs ys zs h = h

pub steps_of-append : (port : PortName) (more h : ChipHistory) → steps_of port (more ++ h) ≡ steps_of port more ++ steps_of port h
steps_of-append port [] h = refl
steps_of-append port (OfRam e ∷ more) h = steps_of-append port more h
steps_of-append port (OfController e ∷ more) h =
    one_more (same_port e.port port) e (steps_of port (more ++ h)) (steps_of port more) (steps_of port h)
    (steps_of-append port more h)

nothing : {A : Type 0} (xs : List A) → length xs ≡ 0 → xs ≡ []
nothing [] h = refl
nothing (x ∷ xs) h = absurd (omega arith)

-- nothing stands before a list that it leaves as it is
pub none_before : {A : Type 0} (xs ys : List A) → xs ++ ys ≡ ys → xs ≡ []
none_before xs ys h = nothing xs (let n = ap length h in let m = length-append xs ys in omega arith)

-- a port that made no step at the controller has none in what was added
pub no_steps : (port : PortName) (more h : ChipHistory) → steps_of port (more ++ h) ≡ steps_of port h → steps_of port more ≡ []
no_steps port more h own = none_before (steps_of port more) (steps_of port h) (sym (steps_of-append port more h) ∙ own)

-- and so at objects
pub no_events : (port : PortName) (more h : ChipHistory)
    → events_of port (ram_of (more ++ h)) ≡ events_of port (ram_of h) → events_of port (ram_of more) ≡ []
no_events port more h own =
    none_before (events_of port (ram_of more)) (events_of port (ram_of h))
    (sym (events_of-append port (ram_of more) (ram_of h)) ∙ (ap (events_of port) (sym (ram_of-append more h)) ∙ own))
