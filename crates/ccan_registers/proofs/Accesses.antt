-- Reads and writes of registers, case by case.
use Rattle.std.proofs.Common.{◌≡◌, Bool, true, false, MatchBool, sym, subst, ◌∙◌}
use Rattle.ccan_confine.specs.declared.controller_change.ControllerChange.{ControllerChange}
use Rattle.ccan_confine.specs.Controller.{CanMake, is_handlers}
use Rattle.ccan_ram.specs.declared.port.PortName.{PortName}
use Rattle.ccan_endless.specs.Chip.{MayMake}

-- a change that is a host's may be made by any port
pub may_make : (port : PortName) (z : ControllerChange) → CanMake z → is_handlers z ≡ false → MayMake port z
may_make port z can host = record { can = can; own = λ is. absurd (let wrong : true ≡ false = sym is ∙ host in cc) }

-- a test that was passed or failed
pub on_true : (b : Bool) (P Q : Type 0) → b ≡ true → P → MatchBool b P Q
on_true b P Q passed h = subst (λ z. MatchBool z P Q) (sym passed) h

pub on_false : (b : Bool) (P Q : Type 0) → b ≡ false → Q → MatchBool b P Q
on_false b P Q failed h = subst (λ z. MatchBool z P Q) (sym failed) h
