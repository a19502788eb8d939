-- What a line leaves as it was that moves no messages, first of all a line at the controller: how the bus chooses, what is loaded,
-- and how many nodes there are. And its answer is none of a transfer, a load or a round.
use Rattle.std.proofs.Common.{◌≡◌, refl}
use Rattle.ccan_bus.specs.Past.{BusPast}
use Rattle.ccan_line.specs.declared.controller_line.ControllerLine.{ControllerLine}
use Rattle.ccan_line.specs.declared.controller_line.ControllerLine.TheVariants.{Status}
use Rattle.ccan_line.specs.declared.line_answer.LineAnswer.{LineAnswer}
use Rattle.ccan_line.specs.declared.line_answer.LineAnswer.TheVariants as answer
use Rattle.ccan_line.specs.ControllerLine.{controller_end}

-- an answer by which nothing was moved: none of a transfer, a load or a round
abbrev pub IsStill : LineAnswer → Type 0
IsStill (answer.Write object buffer) = ⊥
IsStill (answer.Read object buffer) = ⊥
IsStill (answer.Busy object) = ⊥
IsStill (answer.Spent object) = ⊥
IsStill (answer.Load loading) = ⊥
IsStill (answer.Round ended) = ⊥
IsStill reply = Unit {0}

-- nothing but what such lines may set: a new kind of line that sets more doesn't pass here
pub record StaysStill (past after : BusPast) (reply : LineAnswer) : Type 0 where
  pub choice : after.choice ≡ past.choice
  pub loaded : after.loaded ≡ past.loaded
  pub others : after.others ≡ past.others
  pub still : IsStill reply

-- a line that leaves the bus as it was
pub same_past : (past : BusPast) (reply : LineAnswer) → IsStill reply → StaysStill past past reply
same_past past reply still = record { choice = refl; loaded = refl; others = refl; still = still }

pub controller_stays : (line : ControllerLine) (past : BusPast)
    → StaysStill past (controller_end line past).1 (controller_end line past).0
controller_stays Status past = record { choice = refl; loaded = refl; others = refl; still = tt }
controller_stays other past = record { choice = refl; loaded = refl; others = refl; still = tt }
