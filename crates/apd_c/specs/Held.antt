-- What a handle holds, as callers see it.
use Rattle.std.specs.Prelude.{Option}
use Rattle.apd_c.specs.declared.handle.Content.{Content}
use Rattle.apd_c.specs.declared.handle.Handle.{Handle}
use Rattle.apd_c.specs.Holding.{held_by}

-- its content, if it is full
abbrev pub held : Handle → Option Content
held h = held_by h.full h.content
