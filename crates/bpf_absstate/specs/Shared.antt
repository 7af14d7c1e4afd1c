-- Lists of shared pointers, seen as the values that they hold.
use Rattle.std.specs.Prelude.{List, map}
use Rattle.std.specs.declared.alloc.Global.{Global}
use Rattle.std.specs.declared.rc.Rc.{Rc}
use Rattle.bpf_absval.specs.declared.value.AbsVal.{AbsVal}

-- the value that each pointer holds
abbrev pub held_by : List (Rc AbsVal Global) → List AbsVal
held_by rs = map (λ r. r.value) rs
