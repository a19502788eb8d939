-- The controller comes back: the port has joined, or tried to, and looks again.
use Rattle.std.proofs.Common.{ℕ, ◌≡◌, Bool, subst}
use Rattle.std.specs.Prelude.{MatchBool}
use Rattle.ccan_confine.specs.declared.controller_change.ControllerChange.TheVariants.{Join}
use Rattle.ccan_chip.specs.Arrival.{IsMade, Joins}
use Rattle.ccan_chip.proofs.Ports.{is_made}
use Rattle.ccan_chip.proofs.arrival.arrive.Goals as goal

pub returns-clause-arrives : goal.returns-clause-arrives
returns-clause-arrives c =
    let first = c.look_controller-first in
    let made = c.change_controller-joined in
    let e = made.ensures in
    let old = c.args.chip.now.port in
    let before = made.new.self.port in
    let joins : Joins old before first.result = record {
      looked = first.new.self.port;
      looks = record { adds = first.ensures.looks; quiet = first.ensures.objects };
      outcome = made.result;
      joins =
          subst (λ (n : ℕ). IsMade Join n first.new.self.port before made.result) c.own_tries.ensures
          (is_made Join c.own_tries.result first.new.self.port before made.result e.made e.after e.busy e.lost e.objects);
    } in
    record {
      before = before;
      ready =
          subst (λ (b : Bool). MatchBool b (Joins old before first.result)
          ((before ≡ old) × (first.result ≡ c.look_controller-found.result))) c.if-not-comes_back.ensures joins;
      looks = record { adds = c.look_controller-found.ensures.looks; quiet = c.look_controller-found.ensures.objects };
    }
