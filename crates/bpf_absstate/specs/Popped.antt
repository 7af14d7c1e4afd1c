-- The newest frame of a chain, and those below it.
use Rattle.std.specs.Prelude.{◌≡◌, List, [], ◌∷◌, ◌++◌, Option, Some, None}
use Rattle.std.specs.declared.rc.Rc.{Rc}
use Rattle.std.specs.declared.alloc.Global.{Global}
use Rattle.bpf_absval.specs.declared.slot.AbsSlot.{AbsSlot}
use Rattle.bpf_absstate.specs.declared.frames.CallFrame.{CallFrame}
use Rattle.bpf_absstate.specs.declared.frames.Left.{Left}
use Rattle.bpf_absstate.specs.declared.frames.Chain.{Chain}

-- the newest frame keeps that for its caller; the others are these
pub record IsPopped (fs : List CallFrame) (left : Left) (below : List CallFrame) : Type 0 where
  pub stack : List AbsSlot
  pub is :
      fs ≡ below ++ record { return_slot = left.return_slot; kept = left.kept; stack = stack } ∷ []

-- there is no frame, or the newest one is removed
abbrev pub Popped : List CallFrame → Option (Left × Rc Chain Global) → Type 0
Popped fs None = fs ≡ []
Popped fs (Some p) = IsPopped fs p.0 p.1.value
