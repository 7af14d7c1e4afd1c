-- What comes next by a memory access, in the model's terms.
use Rattle.std.specs.Prelude.{ℤ, []}
use Rattle.bpf_model.specs.State.{State, Next, Setting}
use Rattle.bpf_model.specs.Memory.{load, store, atomic}
use Rattle.bpf_model.specs.Step.{atomic_bytes}
use Rattle.bpf_model.specs.Run.{setting}
use Rattle.bpf_tagged.specs.declared.input.Input.{Input}
use Rattle.bpf_tagged.specs.declared.loads.Load.{Load}
use Rattle.bpf_tagged.specs.declared.stores.Store.{Store}
use Rattle.bpf_tagged.specs.declared.atomics.Atomic.{Atomic}

-- the setting of a run on this input, without code
abbrev pub given : Input → Setting
given input = setting [] input.shapes.now input.frame.now input.context.now

-- what comes next by this load
abbrev pub loaded_from : Input → Load → ℤ → State → Next
loaded_from input x offset s = load (given input) s x.size x.signed x.dst x.from offset

-- what comes next by this store
abbrev pub stored_to : Input → Store → ℤ → State → Next
stored_to input x offset s = store (given input) s x.size x.value x.to offset

-- what comes next by this atomic operation
abbrev pub changed_at : Input → Atomic → ℤ → State → Next
changed_at input x offset s =
    atomic (given input) s (atomic_bytes x.wide) x.op x.src offset x.to x.value x.compared
