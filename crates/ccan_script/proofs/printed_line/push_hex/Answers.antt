use Rattle.std.proofs.Common.{arith}
use Rattle.ccan_script.proofs.Digits.{hex_pushed, length_pushed}
use Rattle.ccan_script.proofs.printed_line.push_hex.Goals as goal

pub loop-place-preserved : goal.loop-place-preserved
loop-place-preserved c =
    let pushed = c.push.ensures.ascii c.digit.ensures.ascii in
    record {
      room = omega (arith, length_pushed _ _ _ pushed, c.loop-place.invariant.room);
      text = hex_pushed _ _ _ c.loop-place.place c.args.value _ (omega arith) pushed c.digit.ensures.glyph
          c.loop-place.invariant.text;
    }
