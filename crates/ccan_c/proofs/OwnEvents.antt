-- Events of one port in a history of a chip, at objects and at the controller.
use Rattle.std.proofs.Common.{◌≡◌, ◌≢◌, Bool, true, false, cond, List, [], ◌∷◌, ◌++◌, refl, sym, ap, ◌∙◌, append_assoc}
use Rattle.ccan_ram.specs.declared.port.PortName.{PortName}
use Rattle.ccan_ram.specs.declared.port.PortName.TheVariants.{If1, If2, Bus}
use Rattle.ccan_ram.specs.History.{NobodyElse, events_of}
use Rattle.ccan_ram.specs.Port.{same_port}
use Rattle.ccan_endless.specs.declared.chip.ChipEvent.{ChipEvent}
use Rattle.ccan_endless.specs.declared.chip.ChipEvent.TheVariants.{OfController, OfRam}
use Rattle.ccan_endless.specs.Chip.{ChipHistory, GoesFrom, ram_of, steps_of}
use Rattle.ccan_registers.proofs.Histories.{none_before}
use Rattle.ccan_c.specs.Step.{own_of, port_of_event}

one_more : (own : Bool) (e : ChipEvent) (xs ys zs : ChipHistory) → xs ≡ ys ++ zs
    → cond own (e ∷ xs) xs ≡ cond own (e ∷ ys) ys ++ zs
one_more true e xs ys zs h = ap (λ (l : ChipHistory). e ∷ l) h
one_more false e xs ys zs h = h

pub own_of-append : (port : PortName) (more h : ChipHistory) → own_of port (more ++ h) ≡ own_of port more ++ own_of port h
own_of-append port [] h = refl
own_of-append port (e ∷ more) h =
    one_more (same_port (port_of_event e) port) e (own_of port (more ++ h)) (own_of port more) (own_of port h)
    (own_of-append port more h)

-- where a list that takes what is a port's own has nothing, neither has another that takes the same
also_none : {A B : Type 0} (own : Bool) (a : A) (b : B) (xs : List A) (ys : List B) → cond own (a ∷ xs) xs ≡ []
    → (xs ≡ [] → ys ≡ []) → cond own (b ∷ ys) ys ≡ []
also_none true a b xs ys h f = absurd (let k : a ∷ xs ≡ [] = h in cc)
also_none false a b xs ys h f = f h

rest_none : {A : Type 0} (own : Bool) (a : A) (xs : List A) → cond own (a ∷ xs) xs ≡ [] → xs ≡ []
rest_none true a xs h = absurd (let k : a ∷ xs ≡ [] = h in cc)
rest_none false a xs h = h

-- a port that made no step at the controller and none at an object has no event
pub none_own : (port : PortName) (h : ChipHistory) → steps_of port h ≡ [] → events_of port (ram_of h) ≡ [] → own_of port h ≡ []
none_own port [] s r = refl
none_own port (OfRam e ∷ h) s r =
    also_none (same_port e.port port) e (OfRam e) (events_of port (ram_of h)) (own_of port h) r (λ k. none_own port h s k)
none_own port (OfController e ∷ h) s r =
    also_none (same_port e.port port) e (OfController e) (steps_of port h) (own_of port h) s (λ k. none_own port h k r)

-- and the other way round
pub none_of_steps : (port : PortName) (h : ChipHistory) → own_of port h ≡ [] → steps_of port h ≡ []
none_of_steps port [] none = refl
none_of_steps port (OfRam e ∷ h) none =
    none_of_steps port h (rest_none (same_port e.port port) (OfRam e) (own_of port h) none)
none_of_steps port (OfController e ∷ h) none =
    also_none (same_port e.port port) (OfController e) e (own_of port h) (steps_of port h) none (none_of_steps port h)

pub none_of_ram : (port : PortName) (h : ChipHistory) → own_of port h ≡ [] → events_of port (ram_of h) ≡ []
none_of_ram port [] none = refl
none_of_ram port (OfRam e ∷ h) none =
    also_none (same_port e.port port) (OfRam e) e (own_of port h) (events_of port (ram_of h)) none (none_of_ram port h)
none_of_ram port (OfController e ∷ h) none =
    none_of_ram port h (rest_none (same_port e.port port) (OfController e) (own_of port h) none)

same_self : (p : PortName) → same_port p p ≡ true
same_self If1 = refl
same_self If2 = refl
same_self Bus = refl

never : (own : Bool) (e : ChipEvent) (h : ChipHistory) → own ≡ true → cond own (e ∷ h) h ≡ [] → ⊥
never true e h is none = let k : e ∷ h ≡ [] = none in cc
never false e h is none = let k : false ≡ true = is in cc

-- events that are no port's are none
pub none_of_all : (h : ChipHistory) → ((name : PortName) → own_of name h ≡ []) → h ≡ []
none_of_all [] none = refl
none_of_all (e ∷ h) none =
    let p = port_of_event e in absurd (never (same_port p p) e (own_of p h) (same_self p) (none p))

pub both_empty : (xs ys : ChipHistory) → xs ++ ys ≡ [] → (xs ≡ []) × (ys ≡ [])
both_empty [] ys h = (refl, h)
both_empty (e ∷ xs) ys h = absurd (let k : e ∷ (xs ++ ys) ≡ [] = h in cc)

-- where a history that has at least these events of a port goes on to one that has just them, nothing of the port came to it
pub no_others : (name : PortName) (last first own : ChipHistory) → GoesFrom (own_of name first) own
    → own_of name (last ++ first) ≡ own
    → (own_of name last ≡ []) × (own_of name first ≡ own)
no_others name last first own (more, is) whole =
    let all : (own_of name last ++ more) ++ own ≡ own =
    append_assoc (own_of name last) more own ∙ ap (λ (l : ChipHistory). own_of name last ++ l) (sym is)
    ∙ sym (own_of-append name last first) ∙ whole in
    let none = both_empty (own_of name last) more (none_before _ own all) in
    (none.0, is ∙ ap (λ (l : ChipHistory). l ++ own) none.1)

-- ---- nobody else

-- nobody but the port has an event among these, at an object or at the controller
abbrev pub ActsAlone : PortName → ChipHistory → Type 0
ActsAlone port added = (other : PortName) → other ≢ port → own_of other added ≡ []

pub alone_at_objects : (port : PortName) (added : ChipHistory) → ActsAlone port added → NobodyElse port (ram_of added)
alone_at_objects port added alone = λ other apart. none_of_ram other added (alone other apart)

pub alone_in_parts : (port : PortName) (later earlier added : ChipHistory) → added ≡ later ++ earlier → ActsAlone port added
    → ActsAlone port later × ActsAlone port earlier
alone_in_parts port later earlier added whole alone =
    let both : (other : PortName) → other ≢ port → (own_of other later ≡ []) × (own_of other earlier ≡ [])
    = λ other apart. both_empty (own_of other later) (own_of other earlier)
    (sym (own_of-append other later earlier) ∙ (ap (own_of other) (sym whole) ∙ alone other apart)) in
    (λ other apart. (both other apart).0, λ other apart. (both other apart).1)
