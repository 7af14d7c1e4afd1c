-- What a port over tables gives, by the references that it borrowed.
use Rattle.std.specs.Prelude.{◌≡◌, ℕ}
use Rattle.bpf_regions.specs.declared.asks.Ask.{Ask}
use Rattle.bpf_helpers.specs.declared.worker.WorkerView.{WorkerView}
use Rattle.bpf_helpers.specs.declared.hook_port.HookPort.{HookPort}
use Rattle.bpf_helpers.specs.Hooked.{Given, Gives}

-- what programs read
abbrev pub given_by : WorkerView → Given
given_by v = record { maps = v.maps.now; worker = v.worker; clock = v.clock; stations = v.stations }

-- q borrows what p does
pub record Keeps (p q : HookPort) : Type 0 where
  pub view : q.view ≡ p.view
  pub state : q.state.ghost_name ≡ p.state.ghost_name

-- it keeps what it borrowed, and answers from it
abbrev pub PortGives : HookPort → Ask → ℕ → HookPort → Type 0
PortGives p ask answer q = Keeps p q × Gives (given_by p.view) p.state.now ask answer q.state.now
