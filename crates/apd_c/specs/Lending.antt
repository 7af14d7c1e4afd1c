-- A handle that lends its content.
use Rattle.std.specs.Prelude.{Option}
use Rattle.std.specs.Borrow.{Fml, LendsIf, MutBor}
use Rattle.apd_c.specs.declared.handle.Content.{Content}
use Rattle.apd_c.specs.declared.handle.Handle.{Handle}
use Rattle.apd_c.specs.contracts.handle.Content as content
use Rattle.apd_c.specs.contracts.handle.Handle as handle

-- a handle with another content
abbrev pub with_content : Handle → Content → Handle
with_content h x = record h { content = x }

-- the handle ends with the last value behind the loan; an empty one stays so
abbrev pub LendsContent : MutBor Handle → Option (MutBor Content) → Fml
LendsContent s r = LendsIf handle.the_row content.the_row s r (with_content s.now) s.now
