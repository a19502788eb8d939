-- What a gate is asked by a port, and what it does to the port's lines. Source: this project's own.
use Rattle.std.specs.Prelude.{ℕ, zero, suc, ◌≡◌, ◌<◌, Bool, true, false, List, length, take, Option, Some, None}
use Rattle.ccan_ram.specs.declared.port.PortName.{PortName}
use Rattle.ccan_line.specs.declared.line_answer.LineAnswer.{LineAnswer}

-- the lines that ran: all, or only this many
abbrev pub ran : {Line : Type 0} → Option ℕ → List Line → List Line
ran None lines = lines
ran (Some count) lines = take count lines

module _ {Gate : Type 0} (enters : Gate → PortName → List LineAnswer → Bool → Gate → Type 0) (port : PortName) where
  -- the gate was asked before each of the first n lines, once and in turn, by a port with the answers to the lines before
  -- that one, and let it run
  abbrev pub LetsRun : List LineAnswer → ℕ → Gate → Gate → Type 0
  LetsRun answers zero old new = new ≡ old
  LetsRun answers (suc n) old new = (between : Gate) × LetsRun answers n old between
      × enters between port (take n answers) true new

  -- of a port with these answers the gate was asked like this before each line that has one, and for nothing else; or then once
  -- more, and held the port before its next line
  abbrev pub Asks : List LineAnswer → Option ℕ → Gate → Gate → Type 0
  Asks answers None old new = LetsRun answers (length answers) old new
  Asks answers (Some line) old new =
      (between : Gate) × LetsRun answers (length answers) old between × enters between port answers false new

  -- this left some gate
  abbrev pub WasAsked : Gate → List LineAnswer → Option ℕ → Type 0
  WasAsked gate answers stop = (left : Gate) × Asks answers stop gate left

-- a port of this many lines was held before this one, which comes after those that have these answers
pub record IsHeldAt (count : ℕ) (answers : List LineAnswer) (line : ℕ) : Type 0 where
  pub left : line < count
  pub next : line ≡ length answers
