use Rattle.ccan_chip.proofs.chip_bus.steps_at_objects.Given as goal

-- the steps at the objects go on from what the port had seen before them, by the borrow that is passed to them
abbrev pub ghosts-steps : goal.ghosts-steps
ghosts-steps a = record { earlier = a.lent.port.now; lent = a.lent.port.ghost_name }
