-- What a handle owns.
use Rattle.std.specs.Prelude.{Bool, true, false, Option, Some, None}
use mir.Syntax.{Ty}
use base.Fml.{Fml, ftrue}
use denote.RawPtr.{Ptr}
use denote.RattleType.{RattleType}
use Rattle.std.specs.Global.{Global}
use Rattle.std.specs.contracts.impls.GlobalAllocator.TheImpl.{ghosts}
use Rattle.std.specs.Box.Ownership.{box_owns}

-- `Global` has no bytes
abbrev pub heap : Global
heap = record { memory = record { seal = tt } }

-- what lets `Global` free a block
abbrev pub freeable : Ty → Ptr → Fml
freeable = ghosts.dealloc_token heap

-- a full handle owns the block at its pointer, which holds this value
abbrev pub holds : (R : RattleType) → Bool → Ptr → R.Denot → Fml
holds R true at value = box_owns freeable R at value
holds R false at value = ftrue

-- its content, if it is full
abbrev pub held_by : {X : Type 0} → Bool → X → Option X
held_by true value = Some value
held_by false value = None
