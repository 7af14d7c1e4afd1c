-- Requested loads.
use Rattle.versions.specs.declared.list.Load.{Load}
use Rattle.versions.specs.declared.list.Wanted.{Wanted}
use Rattle.versions.specs.Sets.{kept, load}

-- the requested load
abbrev pub wish : Wanted → Load
wish w = load w.hook (kept w.program)
