use Rattle.bpf_absval.specs.Leaves.{rooms_of}
use Rattle.bpf_absval.proofs.Newest.{all_between, apart_put}
use Rattle.bpf_absval.proofs.room.Rooms.put.Goals as goal

pub invariant_of-self : goal.invariant_of-self
invariant_of-self c =
    apart_put (record { label = c.args.label; size = c.args.size }) c.args.self.now (rooms_of c.in_ok-tree.tree)
    (rw (← c.self.view_is) (all_between c.self.inside.newest (rooms_of c.self.inside.tree) c.self.invariant))
    c.in_ok-tree.ensures c.ranges.label.fits c.requires
