-- What a process runs to: the events that it adds to the history of the chip, and its result. Source: this project's own, over the
-- definitions of looks, attempts and pictures of objects, of looks and changes of the controller, and of what a round decides.
use Rattle.std.specs.Prelude.{ℕ, ◌≡◌, List, [], IfSome, Result}
use Rattle.ccan_accept.specs.declared.frame.Frame.{Frame}
use Rattle.ccan_ram.specs.declared.change.Changed.{Changed}
use Rattle.ccan_ram.specs.declared.change.Refused.{Refused}
use Rattle.ccan_ram.specs.Attempt.{Attempt, IsLook}
use Rattle.ccan_ram.specs.Picture.{IsPicture}
use Rattle.ccan_ram.specs.Terms.{Terms}
use Rattle.ccan_ram.specs.Tries.{most_tries}
use Rattle.ccan_bus.specs.declared.round_line.Fault.{Fault}
use Rattle.ccan_bus.specs.declared.round_line.RoundLine.{RoundLine}
use Rattle.ccan_bus.specs.Controller.{WasTo}
use Rattle.ccan_bus.specs.Decide as decide
use Rattle.ccan_bus.specs.Past.{BusPast, hears_itself}
use Rattle.ccan_process.specs.Act.{attempted}
use Rattle.ccan_process.specs.Process.{Does, Ended}
use Rattle.ccan_endless.specs.declared.chip.ControllerStep.TheVariants.{Look}
use Rattle.ccan_endless.specs.Chip.{ChipHistory}
use Rattle.ccan_registers.specs.ChipSteps.{AtController, Changes, OnObjects, Then}
use Rattle.ccan_registers.specs.Notes.{Heeds as HeedsNote}
use Rattle.ccan_registers.specs.Rounds.{IsStill}
use Rattle.ccan_calls.specs.Process.{Act, Attempts, ChangesController, Decided, Decides, Heeds, InsistsOnChange, LetsOthersAct, Looks, LooksAtController, Notes, Offers, Out, Pauses, Pictures, Process, Recalls}

-- the line of a round: these frames, and this fault
pub record IsLineOf (sends : List (ℕ × Frame)) (fault : Fault) (line : RoundLine) : Type 0 where
  pub frames : line.send.items ≡ sends
  pub fault_is : line.fault ≡ fault

-- what a round comes to on the bus
pub record IsDecided (line : RoundLine) (past : BusPast) (decided : Decided) : Type 0 where
  pub decides : decide.Decides (hears_itself past) line past decided.after decided.decision
  pub own : WasTo decided.own past decided.after

-- an act adds these events to what was seen, and this comes of it
abbrev pub Acted : Terms → ℕ → (act : Act) → ChipHistory → ChipHistory → Out act → Type 0
Acted terms tries (Looks object) seen added out = OnObjects terms.port (λ s a. IsLook terms object out a) seen added
Acted terms tries (Attempts object change) seen added out =
    (outcome : Result Changed Refused)
    × OnObjects terms.port (λ s a. Attempt terms object change tries s a outcome) seen added × (out ≡ attempted outcome)
Acted terms tries Pictures seen added out = OnObjects terms.port (λ s a. IsPicture terms out s a) seen added
Acted terms tries LooksAtController seen added out = AtController terms.port Look out seen added
Acted terms tries (ChangesController change) seen added out = Changes terms.port change tries seen added out
Acted terms tries (InsistsOnChange change) seen added out = Changes terms.port change most_tries seen added out
Acted terms tries Recalls seen added out = (added ≡ []) × (out ≡ seen)
Acted terms tries Notes seen added out = (added ≡ []) × IfSome out (λ noted. noted ≡ seen)
Acted terms tries (Heeds told) seen added out = HeedsNote terms.port told seen added
Acted terms tries Pauses seen added out = OnObjects terms.port (λ s a. a ≡ []) seen added
Acted terms tries LetsOthersAct seen added out = IsStill terms.port added
Acted terms tries (Offers sends fault) seen added out = (added ≡ []) × IsLineOf sends fault out
Acted terms tries (Decides line past) seen added out = (added ≡ []) × IsDecided line past out

-- a process adds the events of its acts, one after another
abbrev pub Runs : {A : Type 0} → Terms → ℕ → Process A → ChipHistory → ChipHistory → A → Type 0
Runs terms tries (Ended end) seen added result = (added ≡ []) × (result ≡ end)
Runs terms tries (Does act next) seen added result =
    (out : Out act)
    × Then (λ s a. Acted terms tries act s a out) (λ s a. Runs terms tries (next out) s a result) seen added
