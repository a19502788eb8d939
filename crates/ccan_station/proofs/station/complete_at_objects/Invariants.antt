use Rattle.ccan_station.proofs.station.complete_at_objects.Given as goal

-- the steps at the objects go on from what the port had seen before them, by the borrow that is passed to them
abbrev pub ghosts-complete_over : goal.ghosts-complete_over
ghosts-complete_over a = record { earlier = a.lent.port.now; lent = a.lent.port.ghost_name }
