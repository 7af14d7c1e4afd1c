-- The fields of an operator.
use Rattle.ap_model.specs.Readings.{Config}
use Rattle.apd_run.specs.Hands.{RunOperator}
use Rattle.apd_run.specs.declared.access.operator.LiveOperator.TheInside.{Inside}

-- what contracts see of them, under this configuration of the link
abbrev pub operator_of : {B L F : Type 0} → Config → Inside B L F → RunOperator F
operator_of config o =
    record {
      ap = o.ap.now;
      config = config;
      token = o.token.value;
      hoard = o.hoard.value;
      pages = o.pages.value;
      parts = o.parts;
      passes = o.passes;
      batches = o.register;
      told = o.told;
      settled = o.settled;
      totals = o.totals;
      workers = o.workers;
      loads = o.loads.now;
      programs = o.programs;
      files = o.sources.files.now;
      limits = o.sources.limits;
    }
