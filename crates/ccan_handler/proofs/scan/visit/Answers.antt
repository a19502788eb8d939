use Rattle.std.proofs.Common.{refl, sym, ◌∙◌, inr, arith}
use Rattle.ccan_ram.proofs.Calls.{Goes-weaker}
use Rattle.ccan_handler.proofs.Scans.{tried, held_later, few_earlier}
use Rattle.ccan_handler.proofs.scan.visit.Goals as goal

pub change-requires : goal.change-requires
change-requires g c = record { held = held_later c.args.object c.look-shown.ensures c.requires.held }

pub returns-in-Ok-Done-clause-adds : goal.returns-in-Ok-Done-clause-adds
returns-in-Ok-Done-clause-adds g c =
    let fit = sym c.fits.ensures ∙ c.if-not-fits.false in
    Goes-weaker (tried _ _ _ _ _ c.look-shown.ensures fit (rw c.in-Ok-Done.field-0-is at c.in-Ok-Done.ensures.attempts))
    (λ seen added here after t. (refl, c.in-Ok-Done.field-0-2, t))

pub returns-in-Ok-Done-clause-tells : goal.returns-in-Ok-Done-clause-tells
returns-in-Ok-Done-clause-tells g c =
    let tells = rw c.in-Ok-Done.field-0-is at c.in-Ok-Done.ensures.tells in
    (record { in_turn = omega arith; held = c.requires.held; fit = tells.0; left = tells.1 }, refl)

pub returns-in-Ok-NotNow-clause-adds : goal.returns-in-Ok-NotNow-clause-adds
returns-in-Ok-NotNow-clause-adds g c =
    let fit = sym c.fits.ensures ∙ c.if-not-fits.false in
    Goes-weaker (tried _ _ _ _ _ c.look-shown.ensures fit (rw c.in-Ok-NotNow.field-0-is at c.in-Ok-NotNow.ensures.attempts))
    (λ seen added here after t. inr (c.in-Ok-NotNow.field-0-0, t))

pub returns-in-Err-clause-adds : goal.returns-in-Err-clause-adds
returns-in-Err-clause-adds g c = tried _ _ _ _ _ c.look-shown.ensures (sym c.fits.ensures ∙ c.if-not-fits.false)
    c.in-Err.ensures.attempts

pub returns-in-Err-clause-tells : goal.returns-in-Err-clause-tells
returns-in-Err-clause-tells g c =
    record {
      in_turn = omega arith;
      held = c.requires.held;
      told = c.in-Err.ensures.tells;
      few =
          few_earlier c.args.tries c.in-Err.why c.look-shown.ensures c.in-Err.ensures.few;
    }
