use Rattle.test_memories.proofs.shared.chips.write_control.Goals as goal

pub insisted-requires-clause-may : goal.insisted-requires-clause-may
insisted-requires-clause-may c = c.control-change.ensures c.loop-turn.port.pass.port
