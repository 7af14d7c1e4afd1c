use Rattle.apd_run.proofs.access.run.run_live.Given as goal

-- the access point itself, and the journal of its batches
abbrev pub ghosts-run_with : goal.ghosts-run_with
ghosts-run_with g a = record { ap = a.equipment.ap.now; batches = a.equipment.batches }
