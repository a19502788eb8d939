-- What a transfer of a D_CAN that requests a transmission says, put together from its call.
use Rattle.std.proofs.Common.{◌≡◌, ℕ}
use Rattle.std.specs.Prelude.{Result}
use Rattle.ccan_ram.specs.declared.change.Change.TheVariants.{Send}
use Rattle.ccan_ram.specs.declared.change.Changed.{Changed}
use Rattle.ccan_ram.specs.declared.change.Refused.{Refused}
use Rattle.ccan_ram.specs.Access.{Goes}
use Rattle.ccan_ram.specs.Attempt.{Attempt}
use Rattle.ccan_ram.specs.SharedRam.{passes_of}
use Rattle.ccan_endless.specs.ChipPort.{AddsNone, ChipPass}
use Rattle.ccan_endless.specs.Layout.{same_object}
use Rattle.ccan_registers.specs.declared.access_error.AccessError.{AccessError}
use Rattle.ccan_registers.specs.declared.interface_set.InterfaceSet.{InterfaceSet}
use Rattle.ccan_registers.specs.ChipSteps.{ChipGoes}
use Rattle.ccan_registers.specs.Dcan.{Sends, change_told, sent_from}
use Rattle.ccan_registers.proofs.Going.{on_objects, weaker}

-- the change of the object, as it ends
pub object_sent : (old new : ChipPass) (tries object : ℕ) (own left : InterfaceSet) (outcome : Result Changed Refused)
    (told : Result (Unit {0}) AccessError) → told ≡ change_told outcome
    → left ≡ record (sent_from outcome own) { asked = object } → AddsNone old new
    → Goes (passes_of same_object old.pass) (passes_of same_object new.pass)
    (λ terms seen added. Attempt terms object (Send own.registers.command own.registers.buffer) tries seen added outcome)
    → ChipGoes old new (λ terms seen added. Sends terms tries object own seen added told left)
object_sent old new tries object own left outcome told is left_is none goes =
    weaker old new _ _
    (on_objects old new
    (λ terms s a. Attempt terms object (Send own.registers.command own.registers.buffer) tries s a outcome) none goes)
    (λ seen added h. record { outcome = outcome; attempt = h; told_is = is; left_is = left_is })
