-- What a port of a chip has seen: its part of the message RAM is what its seat knows of that, and its seat goes on in the chip's
-- history. `Ports` says the same of the message RAM alone.
use Rattle.std.proofs.Common.{◌≡◌, ℕ, sym, refl, ap, ◌∙◌, subst, Option, Some, None}
use Rattle.ccan_ram.specs.declared.by_port.ByPort.{ByPort}
use Rattle.ccan_ram.specs.declared.port.PortName.{PortName}
use Rattle.ccan_ram.specs.declared.port.PortName.TheVariants.{If1, If2, Bus}
use Rattle.ccan_ram.specs.ByPort.{holding, only, nothing}
use Rattle.ccan_ram.proofs.Holding.{holding-with_held_same}
use Rattle.ccan_endless.specs.declared.view.PortView.{PortView}
use Rattle.ccan_endless.specs.declared.port.Port.TheInside.{Inside}
use Rattle.ccan_endless.specs.Chip.{ChipHistory, IsControllerLegal, ram_of, steps_of, GoesFrom}
use Rattle.ccan_endless.specs.ChipRule.{Agree, IsBeginning}
use Rattle.ccan_endless.specs.ChipPort.{ChipPass, whole_in, SeesOne, AddsNone}
use Rattle.ccan_endless.specs.Plays.{Knows}
use Rattle.ccan_endless.specs.Seat.{GoOn, chip_me}
use Rattle.ccan_endless.proofs.Lifting.{agree_back, goes_again}
use Rattle.ccan_endless.proofs.Onward.{goes_through}
use Rattle.ccan_endless.proofs.Seats.{only_holds, only_seen}
use Rattle.ccan_endless.proofs.Ports.{WordSeat, IsPortOf, chip_pass, with_seat, same_port_as}

seen_same : (x : Option PortView) (h : Option ChipHistory) (y : PortView) (g : ChipHistory) → x ≡ Some y → h ≡ Some g → Agree x h
    → y.seen ≡ ram_of g
seen_same x h y g a b agree =
    subst (λ (u : Option PortView × Option ChipHistory). Agree u.0 u.1) (λ i. (a i, b i)) agree

agree_none : (h : Option ChipHistory) → Agree None h → h ≡ None
agree_none None a = refl
agree_none (Some h) a = absurd a

-- a seat that holds one port has seen something of the chip for that port alone
only_chip : (p : PortName) (x : PortView) (v : ByPort ChipHistory)
    → ((q : PortName) → Agree (holding q (only p (Some x))) (holding q v))
    → (h : ChipHistory) × (v ≡ only p (Some h))
only_chip If1 x v a =
    let b = agree_back (Some x) v.if1 x (a If1) refl in
    (b.0, λ i. record { if1 = b.1 i; if2 = agree_none v.if2 (a If2) i; bus = agree_none v.bus (a Bus) i })
only_chip If2 x v a =
    let b = agree_back (Some x) v.if2 x (a If2) refl in
    (b.0, λ i. record { if1 = agree_none v.if1 (a If1) i; if2 = b.1 i; bus = agree_none v.bus (a Bus) i })
only_chip Bus x v a =
    let b = agree_back (Some x) v.bus x (a Bus) refl in
    (b.0, λ i. record { if1 = agree_none v.if1 (a If1) i; if2 = agree_none v.if2 (a If2) i; bus = b.1 i })

-- what a port's seat knows of the chip
pub record KnowsChip (s : Inside) (x : PortView) : Type 0 where
  pub whole : ChipHistory
  pub all : s.seat.chip ≡ only s.name (Some whole)
  pub had : holding s.name s.seat.chip ≡ Some whole
  pub ram : x.seen ≡ ram_of whole
  pub legal : IsControllerLegal whole

pub knows_chip : (s : Inside) (i : IsPortOf s) → KnowsChip s i.held
knows_chip s i =
    let agree =
    subst (λ (m : Knows). (q : PortName) → Agree (holding q m.0) (holding q s.seat.chip)) i.view (λ q. (i.seated q).0) in
    let h = only_chip s.name i.held s.seat.chip agree in
    let had : holding s.name s.seat.chip ≡ Some h.0 =
    ap (holding s.name) h.1 ∙ holding-with_held_same s.name (Some h.0) nothing in
    record {
      whole = h.0;
      all = h.1;
      had = had;
      ram = seen_same (holding s.name s.seat.me.0) (holding s.name s.seat.chip) i.held h.0
          (only_holds s.name i.held s.seat.me i.view) had (i.seated s.name).0;
      legal = (i.seated s.name).1 h.0 had;
    }

pub whole_is : (s : Inside) (x : PortView) (k : KnowsChip s x) → (chip_pass s).whole ≡ k.whole
whole_is s x k = ap whole_in k.had

pub sees_one : (s : Inside) → IsPortOf s → SeesOne (chip_pass s)
sees_one s i =
    let k = knows_chip s i in
    let is = sym (whole_is s i.held k) in
    record {
      ram = only_seen s.name i.held s.seat.me i.view ∙ (k.ram ∙ ap ram_of is);
      legal = subst IsControllerLegal is k.legal;
    }

-- the port after a step that left it this seat, which has seen this of the chip, and perhaps one more change of an object
pub sees_more : (s : Inside) (i : IsPortOf s) {was : ChipPass} → chip_pass s ≡ was → (to : WordSeat) (used : ℕ)
    → IsPortOf (record s { seat = to; used = used }) → to.table_id ≡ s.seat.table_id → (log : ChipHistory)
    → holding s.name to.chip ≡ Some log → IsBeginning log s.name (knows_chip s i).whole
    → AddsNone was (chip_pass (with_seat s to))
sees_more s i is_was to used after table log here b =
    let old = sym (whole_is s i.held (knows_chip s i)) in
    let new = ap whole_in (sym here) in
    subst (λ (q : ChipPass). AddsNone q (chip_pass (with_seat s to))) is_was
    (record {
      same = same_port_as s i to table;
      from = sees_one s i;
      to = sees_one (record s { seat = to; used = used }) after;
      part = subst (λ (u : ChipHistory × ChipHistory). GoesFrom u.0 u.1) (λ j. (new j, old j)) b.part;
      own = subst (λ (u : ChipHistory × ChipHistory). steps_of s.name u.0 ≡ steps_of s.name u.1) (λ j. (new j, old j)) b.own;
    })

pub goes_none : (s : Inside) (i : IsPortOf s) {was : ChipPass} → chip_pass s ≡ was → (to : WordSeat) (used : ℕ)
    → IsPortOf (record s { seat = to; used = used }) → to.table_id ≡ s.seat.table_id → GoOn (chip_me s.seat) (chip_me to)
    → AddsNone was (chip_pass (with_seat s to))
goes_none s i is_was to used after table on =
    let k = knows_chip s i in
    let o = on.each s.name k.whole k.had in
    sees_more s i is_was to used after table o.0 o.1 o.2

-- the port as it was
pub none_again : (s : Inside) (i : IsPortOf s) {was : ChipPass} → chip_pass s ≡ was → AddsNone was (chip_pass s)
none_again s i is_was =
    subst (λ (q : ChipPass). AddsNone q (chip_pass s)) is_was
    (record {
      same = record { memory = refl; port = refl };
      from = sees_one s i;
      to = sees_one s i;
      part = goes_again (chip_pass s).whole;
      own = refl;
    })

-- one call after another
pub none_through : (a b c : ChipPass) → AddsNone a b → AddsNone b c → AddsNone a c
none_through a b c x y = record {
  same = record { memory = y.same.memory ∙ x.same.memory; port = y.same.port ∙ x.same.port };
  from = x.from;
  to = y.to;
  part = goes_through c.whole b.whole a.whole y.part x.part;
  own =
      subst (λ (p : PortName). steps_of p c.whole ≡ steps_of p b.whole) x.same.port y.own ∙ x.own;
}
