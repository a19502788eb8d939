use Rattle.test_memories.proofs.shared.chip_threads.write_and_read.Goals as goal

pub changed-written-requires-clause-may : goal.changed-written-requires-clause-may
changed-written-requires-clause-may c = c.control.ensures c.loop-turn.port.pass.port
