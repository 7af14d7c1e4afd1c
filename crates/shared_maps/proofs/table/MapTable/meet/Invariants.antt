use Rattle.bpf_regions.specs.declared.maps.MapOp.TheVariants.{Load}
use Rattle.shared_maps.proofs.table.MapTable.meet.Given as goal

abbrev pub ghosts-learn : goal.ghosts-learn
ghosts-learn a = record { operation = Load; shape = a.table.now.shared.key }

abbrev pub ghosts-confirm : goal.ghosts-confirm
ghosts-confirm a = record { operation = Load; shape = a.table.now.shared.key }
