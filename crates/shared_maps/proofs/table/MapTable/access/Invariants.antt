use Rattle.shared_maps.proofs.table.MapTable.access.Given as goal

abbrev pub ghosts-step : goal.ghosts-step
ghosts-step a = record { operation = a.operation; shape = a.shape }
