use Rattle.std.proofs.Common.{◌≡◌, ◌≤◌, All, None, length, map, take}
use Rattle.serde_json.specs.View.{view}
use Rattle.ccan_script.specs.FrameLine.{sending_of}
use Rattle.ccan_script.specs.Round.{frames_fault}
use Rattle.ccan_script.proofs.round.read_frames.Given as goal

-- the frames so far have no fault, and have been read
abbrev pub invariant-loop-value : goal.invariant-loop-value
invariant-loop-value l = record {
  passed : frames_fault l.context.nodes (map view (take l.value-index l.values)) ≡ None;
  items : l.sends.items ≡ map sending_of (map view (take l.value-index l.values));
  many : length l.sends.items ≡ l.value-index;
  senders : All (λ sending. (1 ≤ sending.0) × (sending.0 ≤ l.context.nodes)) l.sends.items;
}
