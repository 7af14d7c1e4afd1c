-- Sets to be made.
use Rattle.versions.specs.declared.set.Owners.{Owners}
use Rattle.versions.specs.Sets.{Programs, kept_by_hook}

-- the programs that are owned
abbrev pub programs_of : Owners → Programs
programs_of o = kept_by_hook o.association o.addba o.frames
