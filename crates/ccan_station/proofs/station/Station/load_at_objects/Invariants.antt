use Rattle.ccan_station.proofs.station.Station.load_at_objects.Given as goal

-- the load at the objects goes on from what the port had seen before it, by the borrow that is passed to it
abbrev pub ghosts-load_over : goal.ghosts-load_over
ghosts-load_over a = record { earlier = a.lent.port.now; lent = a.lent.port.ghost_name }
