-- What the steps of a port at the objects of a chip come to. Source: this project's own, over the definitions of
-- transfers and of looks of one moment (C_CAN User's Manual 1.2, sections 3.3 and 3.4).
use Rattle.std.specs.Prelude.{ℕ, Bool}
use Rattle.ccan_object.specs.declared.record.Record.{Record}
use Rattle.ccan_object.specs.Interface.{Registers}
use Rattle.ccan_object.specs.Number.{requested}
use Rattle.ccan_ram.specs.declared.flag.Flag.{Flag}
use Rattle.ccan_ram.specs.Attempt.{IsLook}
use Rattle.ccan_ram.specs.Terms.{Terms}
use Rattle.ccan_handler.specs.Moment.{FlagsAtOnce, InterruptAtOnce}
use Rattle.ccan_handler.specs.Watch.{Watches}
use Rattle.ccan_line.specs.declared.line_answer.LineAnswer.{LineAnswer}
use Rattle.ccan_line.specs.declared.line_answer.LineAnswer.TheVariants as answer
use Rattle.ccan_line.specs.Transfer.{IsTransfer}
use Rattle.ccan_endless.specs.Chip.{ChipHistory}
use Rattle.ccan_registers.specs.declared.transfer_answer.TransferAnswer.{TransferAnswer}
use Rattle.ccan_registers.specs.declared.transfer_answer.TransferAnswer.TheVariants as told
use Rattle.ccan_registers.specs.ChipSteps.{OnObjects}

-- what a transfer answers, as a line of a script does
abbrev pub as_line : TransferAnswer → LineAnswer
as_line (told.Write object buffer) = answer.Write object buffer
as_line (told.Read object buffer) = answer.Read object buffer
as_line (told.Busy object) = answer.Busy object
as_line (told.Spent object) = answer.Spent object

-- the transfer of a Command Request, between these interface registers and the object that it names
abbrev pub Transfers : Terms → ℕ → ℕ → Registers → ChipHistory → ChipHistory → LineAnswer → Registers → Type 0
Transfers terms tries request registers seen added reply left =
    OnObjects terms.port (λ s a. IsTransfer terms tries (requested terms.profile request) registers s a reply left) seen added

-- a flag of all objects in one moment
abbrev pub ShowsFlags : Terms → Flag → ChipHistory → ChipHistory → ℕ → Type 0
ShowsFlags terms flag seen added word = OnObjects terms.port (λ s a. FlagsAtOnce terms flag s a word) seen added

-- the interrupt value of one moment, with the status interrupt pending or not
abbrev pub ShowsInterrupt : Terms → Bool → ChipHistory → ChipHistory → ℕ → Type 0
ShowsInterrupt terms pending seen added value = OnObjects terms.port (λ s a. InterruptAtOnce terms pending s a value) seen added

-- one look at an object
abbrev pub ShowsObject : Terms → ℕ → ChipHistory → ChipHistory → Record → Type 0
ShowsObject terms object seen added found = OnObjects terms.port (λ s a. IsLook terms object found a) seen added

-- looks at an object until it shows a flag
abbrev pub WaitsFor : Terms → ℕ → Flag → ℕ → ChipHistory → ChipHistory → Bool → Type 0
WaitsFor terms object flag turns seen added shown =
    OnObjects terms.port (λ s a. Watches terms object flag turns a shown) seen added
