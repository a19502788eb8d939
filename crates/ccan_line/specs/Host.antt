-- What a line of a host port stands for: the events that it adds, its answer, and the interface registers after it. Source:
-- C_CAN User's Manual 1.2, section 3.3.2 for the registers and section 3.4 for what the other lines read; the lines are this
-- project's own.
use Rattle.std.specs.Prelude.{ℕ, ◌≡◌, Bool, false, List}
use Rattle.ccan_object.specs.Number.{requested}
use Rattle.ccan_object.specs.Interface.{Registers}
use Rattle.ccan_ram.specs.declared.event.Event.{Event}
use Rattle.ccan_ram.specs.Terms.{Terms}
use Rattle.ccan_handler.specs.Watch.{Watches, Interrupts, ReadsFlags}
use Rattle.ccan_process.specs.Act.{Runs}
use Rattle.ccan_line.specs.declared.host_line.HostLine.{HostLine}
use Rattle.ccan_line.specs.declared.host_line.HostLine.TheVariants as host
use Rattle.ccan_line.specs.declared.line_answer.LineAnswer.{LineAnswer}
use Rattle.ccan_line.specs.declared.line_answer.LineAnswer.TheVariants as answer
use Rattle.ccan_line.specs.LineProcess.{host_process}
use Rattle.ccan_line.specs.Transfer.{with_settings, IsTransfer}

-- a line stands for the runs of its process
abbrev pub HostLineMeans : Terms → ℕ → HostLine → Registers → List Event → List Event → LineAnswer → Registers → Type 0
HostLineMeans terms tries line registers seen added reply left =
    Runs terms tries (host_process terms.profile line registers) seen added (reply, left)

-- the same as the memory handler has it: a transfer line first sets registers, then makes the transfer, with the object of its
-- request; the other lines leave the registers. A host knows of no status interrupt
abbrev pub HostLineAdds : Terms → ℕ → HostLine → Registers → List Event → List Event → LineAnswer → Registers → Type 0
HostLineAdds terms tries (host.Transfer request set) registers seen added reply left =
    IsTransfer terms tries (requested terms.profile request) (with_settings set.items registers) seen added reply left
HostLineAdds terms tries (host.Until object flag turns) registers seen added reply left =
    (shown : Bool) × (reply ≡ answer.Until object flag shown) × Watches terms object flag turns added shown
    × (left ≡ registers)
HostLineAdds terms tries host.Interrupt registers seen added reply left =
    (value : ℕ) × (reply ≡ answer.Interrupt value) × Interrupts terms false added value × (left ≡ registers)
HostLineAdds terms tries (host.Flags flag) registers seen added reply left =
    (word : ℕ) × (reply ≡ answer.Flags flag word terms.profile) × ReadsFlags terms flag added word × (left ≡ registers)
