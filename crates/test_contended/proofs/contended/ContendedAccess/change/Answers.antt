-- In each case the events of the call are parted by the tries that were lost, what IF1 does before the last look, and the
-- bus's own last try: `exchanged` puts these together. Each `attempts` is a part of its `course`.
use Rattle.std.proofs.Common.{◌≡◌, ◌≢◌, arith, refl, subst, sym, ◌∙◌, ap, None, Some, Ok}
use Rattle.ccan_ram.specs.declared.change.Changed.TheVariants.{NotNow}
use Rattle.ccan_ram.proofs.Calls.{Goes-none, Goes-weaker}
use Rattle.ccan_ram.proofs.Histories.{nobody}
use Rattle.test_contended.specs.declared.transfer.Transfer.{Transfer}
use Rattle.test_contended.specs.Contended.{contended_terms, host, Host, HasNext, IsNext}
use Rattle.test_contended.proofs.PlainCalls.{looks, begins_same, ends_same, bus_same, acts_for, host_same, one_next}
use Rattle.test_contended.proofs.Tries.{lost_more, exchanged, rests}
use Rattle.test_contended.proofs.contended.ContendedAccess.change.Goals as goal

pub returns-in-None-clause-course : goal.returns-in-None-clause-course
returns-in-None-clause-course c =
    let so_far = c.loop-turn.invariant in
    let first = c.args.self.now in
    let self = c.loop-turn.self in
    let theirs = host first.profile first.quota first.theirs.now first.made in
    let same = host_same first.profile self.profile first.quota self.quota first.theirs.now self.theirs.now first.made self.made
    c.loop-turn.turn so_far.profile so_far.quota so_far.list so_far.made in
    exchanged theirs c.args.object c.args.change.now c.loop-turn.turn c.loop-turn.last c.args.tries _ _ None
    (omega (arith, c.get-most.ensures.number))
    (omega (arith, c.exchange.ensures.made, so_far.made))
    so_far.lost
    (Goes-none (λ seen here. (
      nobody (contended_terms first.profile first.quota),
      (rests _ _ _ (λ next. let no = c.in-None.ensures.known.1 (subst HasNext (sym same) next) in cc), refl),
    )))
    (begins_same first.profile _ first.quota _ _ first.used _ _ _ so_far.profile so_far.quota so_far.used
    c.exchange.ensures.exchanges)

pub returns-in-None-clause-attempts : goal.returns-in-None-clause-attempts
returns-in-None-clause-attempts c = Goes-weaker (returns-in-None-clause-course c) (λ seen added here after w. w.0)

pub returns-then-get-clause-course : goal.returns-then-get-clause-course
returns-then-get-clause-course c =
    let so_far = c.loop-turn.invariant in
    let first = c.args.self.now in
    let self = c.loop-turn.self in
    let theirs = host first.profile first.quota first.theirs.now first.made in
    let same = host_same first.profile self.profile first.quota self.quota first.theirs.now self.theirs.now first.made self.made
    c.loop-turn.turn so_far.profile so_far.quota so_far.list so_far.made in
    let bus = bus_same _ first.profile self.profile first.quota self.quota so_far.profile so_far.quota self.for_bus in
    let acts = acts_for _ _ first.profile first.quota self.made first.used _ _ bus c.interfere-elsewhere.ensures.acts
    (omega (arith, c.in-Some.ensures.next.left, so_far.quota)) in
    let elsewhere : c.in-Some.theirs.object ≢ c.args.object =
    λ at. omega (arith, at, c.if-get.true, c.get.ensures.number, c.get-in-loop-turn.ensures.number) in
    exchanged theirs c.args.object c.args.change.now c.loop-turn.turn c.loop-turn.last c.args.tries _ _ (Some c.in-Some.theirs)
    (omega (arith, c.get-most.ensures.number))
    (omega (arith, c.exchange-then-get.ensures.made, so_far.made))
    so_far.lost
    (Goes-weaker acts (λ seen added here after t. (
      t.foreign,
      (subst (λ (h : Host). IsNext h c.in-Some.theirs) same c.in-Some.ensures.next, elsewhere, t.found, t.made),
    )))
    (begins_same first.profile _ first.quota _ _ first.used _ _ _ so_far.profile so_far.quota so_far.used
    c.exchange-then-get.ensures.exchanges)

pub returns-then-get-clause-attempts : goal.returns-then-get-clause-attempts
returns-then-get-clause-attempts c = Goes-weaker (returns-then-get-clause-course c) (λ seen added here after w. w.0)

pub returns-then-not-fits-clause-course : goal.returns-then-not-fits-clause-course
returns-then-not-fits-clause-course c =
    let so_far = c.loop-turn.invariant in
    let first = c.args.self.now in
    let self = c.loop-turn.self in
    let theirs = host first.profile first.quota first.theirs.now first.made in
    let same = host_same first.profile self.profile first.quota self.quota first.theirs.now self.theirs.now first.made self.made
    c.loop-turn.turn so_far.profile so_far.quota so_far.list so_far.made in
    let bus = bus_same _ first.profile self.profile first.quota self.quota so_far.profile so_far.quota self.for_bus in
    let at : c.in-Some.theirs.object ≡ c.args.object =
    omega (arith, c.if-get.false, c.get.ensures.number, c.get-in-loop-turn.ensures.number) in
    let next = subst (λ (h : Host). IsNext h c.in-Some.theirs) same c.in-Some.ensures.next in
    ends_same first.profile _ first.quota _ _ first.used _ _ _ so_far.profile so_far.quota so_far.used
    (exchanged theirs c.args.object c.args.change.now c.loop-turn.turn c.loop-turn.last c.args.tries self.made
    (Ok (NotNow c.look-shown.result)) None
    (omega (arith, c.get-most.ensures.number))
    (omega (arith, so_far.made))
    so_far.lost
    (Goes-none (λ seen here. (
      nobody (contended_terms first.profile first.quota),
      (λ other is. ap (λ (t : Transfer). t.object) (one_next _ other c.in-Some.theirs is next) ∙ at, refl),
    )))
    (Goes-weaker (looks first.profile first.quota self.made first.used c.args.object c.look-shown.result bus c.look-shown.ensures)
    (λ seen added here after is. (is, sym c.fits.ensures ∙ c.if-not-fits.true))))

pub returns-then-not-fits-clause-attempts : goal.returns-then-not-fits-clause-attempts
returns-then-not-fits-clause-attempts c = Goes-weaker (returns-then-not-fits-clause-course c) (λ seen added here after w. w.0)

pub loop-turn-preserved : goal.loop-turn-preserved
loop-turn-preserved c =
    let so_far = c.loop-turn.invariant in
    let first = c.args.self.now in
    let self = c.loop-turn.self in
    let theirs = host first.profile first.quota first.theirs.now first.made in
    let same = host_same first.profile self.profile first.quota self.quota first.theirs.now self.theirs.now first.made self.made
    c.loop-turn.turn so_far.profile so_far.quota so_far.list so_far.made in
    let bus = bus_same _ first.profile self.profile first.quota self.quota so_far.profile so_far.quota self.for_bus in
    let at : c.in-Some.theirs.object ≡ c.args.object =
    omega (arith, c.if-get.false, c.get.ensures.number, c.get-in-loop-turn.ensures.number) in
    let acts = acts_for _ _ first.profile first.quota self.made first.used _ _ (c.look-shown.ensures.same ∙ bus)
    c.interfere-last.ensures.acts (omega (arith, c.in-Some.ensures.next.left, so_far.quota)) in
    record {
      profile = so_far.profile;
      quota = so_far.quota;
      used = so_far.used;
      list = so_far.list;
      made = omega (arith, so_far.made);
      room = so_far.room;
      lost = lost_more theirs c.args.object c.args.change.now c.loop-turn.turn c.loop-turn.last _ c.look-shown.result
          c.in-Some.theirs
          so_far.lost
          (looks first.profile first.quota self.made first.used c.args.object c.look-shown.result bus c.look-shown.ensures)
          (sym c.fits.ensures ∙ c.if-not-fits.false)
          (subst (λ (h : Host). IsNext h c.in-Some.theirs) same c.in-Some.ensures.next)
          at
          acts;
    }
