-- What holds unless memory ran out.
use Rattle.ccan_script.specs.declared.script_error.ScriptError.{ScriptError}
use Rattle.ccan_script.specs.declared.script_error.ScriptError.TheVariants.{NotJson, Shape, Range, TooMany, Order, Before, Memory}
use Rattle.ccan_script.specs.Reader.{UnlessMemory}

pub unless_memory : (e : ScriptError) {P : Type 0} → P → UnlessMemory e P
unless_memory NotJson p = p
unless_memory (Shape l i) p = p
unless_memory (Range l i) p = p
unless_memory (TooMany l) p = p
unless_memory (Order n) p = p
unless_memory (Before n) p = p
unless_memory Memory p = tt

pub unless_weaker : (e : ScriptError) {P Q : Type 0} → (P → Q) → UnlessMemory e P → UnlessMemory e Q
unless_weaker NotJson f p = f p
unless_weaker (Shape l i) f p = f p
unless_weaker (Range l i) f p = f p
unless_weaker (TooMany l) f p = f p
unless_weaker (Order n) f p = f p
unless_weaker (Before n) f p = f p
unless_weaker Memory f p = tt
