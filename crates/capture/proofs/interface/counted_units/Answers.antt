use Rattle.capture.proofs.Units.{nonzero}
use Rattle.capture.proofs.interface.counted_units.Goals as goal

pub returns : goal.returns
returns c = record { is = nonzero c.args.resolution c.in_ok-units.units c.new.result c.in_ok-units.ensures.is c.new.ensures }
