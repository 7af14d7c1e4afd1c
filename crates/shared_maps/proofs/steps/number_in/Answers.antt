use Rattle.bpf_regions.specs.Maps.{bytes_of}
use Rattle.shared_maps.specs.Kept.{shift_of}
use Rattle.shared_maps.proofs.Words.{holds_below, whole}
use Rattle.shared_maps.proofs.steps.number_in.Goals as goal

pub returns-clause-in_range : goal.returns-clause-in_range
returns-clause-in_range c = rw (c.shift_of.ensures.is) (holds_below (bytes_of c.args.width) (shift_of c.args.width) c.args.found (whole c.args.width) c.ranges.found.fits)
