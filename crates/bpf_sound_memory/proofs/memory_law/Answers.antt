use Rattle.bpf_sound_memory.proofs.Atomics.{atomic_holds}
use Rattle.bpf_sound_memory.proofs.Insns.{load_covers, store_covers, atomic_covers}
use Rattle.bpf_sound_memory.proofs.Loads.{load_holds}
use Rattle.bpf_sound_memory.proofs.Stores.{store_holds}
use Rattle.bpf_sound_memory.proofs.memory_law.Goals as goal

pub returns : goal.returns
returns c = record {
  load = load_holds;
  store = store_holds;
  atomic = atomic_holds;
  load_covered = load_covers;
  store_covered = store_covers;
  atomic_covered = atomic_covers;
}
