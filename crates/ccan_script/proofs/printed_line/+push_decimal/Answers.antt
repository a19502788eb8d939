use Rattle.std.proofs.Common.{arith}
use Rattle.ccan_script.proofs.Decimals.{decimal_pushed}
use Rattle.ccan_script.proofs.printed_line.+push_decimal.Goals as goal

pub returns-else-value-lt10-clause-bytes : goal.returns-else-value-lt10-clause-bytes
returns-else-value-lt10-clause-bytes t c =
    decimal_pushed _ _ _ c.args.value (omega arith) (omega arith) c.push_decimal.ensures.bytes
    c.push_digit-else-value-lt10.ensures.bytes
