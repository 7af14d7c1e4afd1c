-- The port of the calls that run programs.
use Rattle.std.specs.Prelude.{ℕ}
use Rattle.bpf_regions.specs.declared.asks.Ask.{Ask}
use Rattle.bpf_helpers.specs.HookPorts.{PortGives}
use Rattle.apd_c.specs.declared.call_port.CallPort.{CallPort}

-- it answers as the port that it holds does
abbrev pub CallGives : CallPort → Ask → ℕ → CallPort → Type 0
CallGives p ask answer q = PortGives p.port ask answer q.port
