use Rattle.std.proofs.Common.{subst}
use Rattle.ccan_ram.specs.Terms.{Terms}
use Rattle.ccan_handler.specs.Scan.{StartsWhatIsReady}
use Rattle.ccan_handler.proofs.Moments.{chosen_at_once}
use Rattle.ccan_handler.proofs.moment.choose_at_once.Goals as goal

pub returns : goal.returns
returns g c = record {
  adds = chosen_at_once c.args.sending c.look_all-shown.result c.args.tries _ c.look_all-shown.ensures.pictures
      c.choose_among.ensures.adds;
  made = subst (λ (t : Terms). StartsWhatIsReady t c.args.sending 1 c.choose_among.result) c.look_all-shown.ensures.pictures.same
      c.choose_among.ensures.made;
}
