-- The first fault of a round, from its parts in turn.
use Rattle.std.proofs.Common.{◌≡◌, ◌≤◌, ℕ, Bool, true, false, List, Some, None}
use Rattle.std.proofs.Common.{All, map, unwrap_or, refl, ap, sym, ◌∙◌}
use Rattle.serde_json.specs.Data.{Data}
use Rattle.ccan_accept.specs.declared.frame.Frame.{Frame}
use Rattle.ccan_bus.specs.RoundLine.{AreSenders}
use Rattle.ccan_bus.specs.declared.round_line.RoundLine.{RoundLine}
use Rattle.ccan_bus.specs.declared.round_line.Fault.TheVariants.{Quiet}
use Rattle.ccan_script.specs.declared.line_fault.LineFault.{LineFault}
use Rattle.ccan_script.specs.declared.line_fault.LineFault.TheVariants.{Shape}
use Rattle.ccan_script.specs.FaultName.{fault_in}
use Rattle.ccan_script.specs.FrameLine.{sending_of}
use Rattle.ccan_script.specs.Round.{SaysRound, are_distinct, frames_fault}
use Rattle.ccan_script.specs.Round.{frames_in, is_round, round_fault, senders_of}
use Rattle.ccan_script.proofs.Senders.{distinct_once, nodes_are, once_distinct}

module _ (nodes : ℕ) (d : Data) (shape : is_round d ≡ true) where
  pub bad_frames : (e : LineFault) → frames_fault nodes (frames_in d) ≡ Some e → round_fault nodes d ≡ Some e
  unfolding round_fault
  bad_frames e h = rw (shape, h) refl

  module _ (frames : frames_fault nodes (frames_in d) ≡ None) where
    bad_senders : are_distinct (senders_of (frames_in d)) ≡ false → round_fault nodes d ≡ Some Shape
    unfolding round_fault
    bad_senders h = rw (shape, frames, h) refl

    no_fault : are_distinct (senders_of (frames_in d)) ≡ true → round_fault nodes d ≡ None
    unfolding round_fault
    no_fault h = rw (shape, frames, h) refl

module _ (nodes : ℕ) (frames : List Data) (items : List (ℕ × Frame)) (is : items ≡ map sending_of frames) where
  same : map (λ s. s.0) items ≡ senders_of frames
  same = ap (map (λ s. s.0)) is ∙ nodes_are frames

  pub are_senders : All (λ s. (1 ≤ s.0) × (s.0 ≤ nodes)) items → are_distinct (senders_of frames) ≡ true → AreSenders nodes items
  are_senders others h = record { others = others; once = distinct_once items (ap are_distinct same ∙ h) }

  pub are_distinct_senders : AreSenders nodes items → are_distinct (senders_of frames) ≡ true
  are_distinct_senders h = sym (ap are_distinct same) ∙ once_distinct items h.once

-- ---- the line that is made

-- the line has its members, and its frames are read, as these
pub record FramesRead (nodes : ℕ) (d : Data) (items : List (ℕ × Frame)) : Type 0 where
  pub shape : is_round d ≡ true
  pub frames : frames_fault nodes (frames_in d) ≡ None
  pub are : items ≡ map sending_of (frames_in d)
  pub others : All (λ s. (1 ≤ s.0) × (s.0 ≤ nodes)) items

pub frames_read : (nodes : ℕ) (d : Data) (items : List (ℕ × Frame)) (values : List Data)
    → is_round d ≡ true → values ≡ frames_in d
    → (frames_fault nodes values ≡ None) × (items ≡ map sending_of values)
    → All (λ s. (1 ≤ s.0) × (s.0 ≤ nodes)) items → FramesRead nodes d items
frames_read nodes d items values shape same reads others = record {
  shape = shape;
  frames = ap (frames_fault nodes) (sym same) ∙ reads.0;
  are = reads.1 ∙ ap (map sending_of) same;
  others = others;
}

-- it is made where no node sends twice
module _ (nodes : ℕ) (d : Data) (items : List (ℕ × Frame)) (read : FramesRead nodes d items) where
  pub refused : (AreSenders nodes items → ⊥) → round_fault nodes d ≡ Some Shape
  refused none = bad_senders nodes d read.shape read.frames (go (are_distinct (senders_of (frames_in d))) refl)
    where
      go : (b : Bool) → are_distinct (senders_of (frames_in d)) ≡ b → are_distinct (senders_of (frames_in d)) ≡ false
      go true h = absurd (none (are_senders nodes (frames_in d) items read.are read.others h))
      go false h = h

  pub made : (line : RoundLine) → AreSenders nodes items → line.send.items ≡ items
      → line.fault ≡ unwrap_or (fault_in d) Quiet → (round_fault nodes d ≡ None) × SaysRound d line
  made line senders its_sends its_fault = (
    no_fault nodes d read.shape read.frames (are_distinct_senders nodes (frames_in d) items read.are senders),
    record { sends = its_sends ∙ read.are; fault = its_fault },
  )
