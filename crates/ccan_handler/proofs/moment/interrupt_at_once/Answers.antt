use Rattle.ccan_ram.specs.declared.flag.Flag.TheVariants.{IntPnd}
use Rattle.ccan_handler.proofs.Moments.{first_within, interrupt_of_picture}
use Rattle.ccan_handler.proofs.moment.interrupt_at_once.Goals as goal

pub returns : goal.returns
returns g c = record {
  adds = rw c.if-status_pending.false
      (interrupt_of_picture c.first_set.result c.look_all.result c.look_all.ensures.pictures c.first_set.ensures);
  tells = rw c.if-status_pending.false
      (first_within c.look_all.result.intpnd _ c.first_set.result (c.look_all.ensures.within IntPnd) c.first_set.ensures);
}
