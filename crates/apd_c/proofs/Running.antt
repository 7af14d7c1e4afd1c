-- What a run asks the port of a call, it asks the state that the port lends.
use Rattle.std.proofs.Common.{◌≡◌, ℕ, List, [], ◌∷◌, ap, subst}
use Rattle.bpf_regions.specs.declared.asks.Ask.{Ask}
use Rattle.bpf_tagged.specs.Took.{Answered}
use Rattle.bpf_model.specs.State.{Setting}
use Rattle.bpf_machine.specs.declared.outcome.Outcome.{Outcome}
use Rattle.bpf_machine.specs.Runs.{Ran}
use Rattle.bpf_helpers.specs.Hooked.{Given, Held, Gives, IsFitting}
use Rattle.bpf_helpers.specs.HookPorts.{PortGives, given_by}
use Rattle.bpf_helpers.proofs.Asked.{ran_by_state, fitting_after}
use Rattle.apd_c.specs.declared.call_port.CallPort.{CallPort}
use Rattle.apd_c.specs.Ports.{CallGives}

asked_inside : (p q : CallPort) (asks : List (Ask × ℕ)) → Answered CallGives p asks q → Answered PortGives p.port asks q.port
unfolding Answered
asked_inside p q [] same = ap (λ (x : CallPort). x.port) same
asked_inside p q (a ∷ asks) given = (given.0.port, given.1, asked_inside given.0 q asks given.2)

ran_inside : (setting : Setting) (p q : CallPort) (outcome : Outcome) → Ran CallGives setting p q outcome → Ran PortGives setting p.port q.port outcome
ran_inside setting p q outcome ran = record {
  asked = ran.asked;
  listed = asked_inside p q ran.asked ran.listed;
  noted = ran.noted;
  ends = ran.ends;
  first = ran.first;
}

-- `after` is the state once the port is gone
pub ran_over : (setting : Setting) (p q : CallPort) (outcome : Outcome) → Ran CallGives setting p q outcome
    → (other : Setting) (g : Given) → setting ≡ other → given_by p.port.view ≡ g
    → (after : Held) → (p.port.state.ghost_name ≡ q.port.state.ghost_name → after ≡ q.port.state.now) → Ran (Gives g) other p.port.state.now after outcome
ran_over setting p q outcome ran other g same reads after written =
    subst (λ (x : Setting). Ran (Gives g) x p.port.state.now after outcome) same
    (subst (λ (x : Given). Ran (Gives x) setting p.port.state.now after outcome) reads
    (ran_by_state setting p.port q.port outcome (ran_inside setting p q outcome ran) after written))

-- and its seats fit these tables
pub fits_over : (setting : Setting) (p q : CallPort) (outcome : Outcome) → Ran CallGives setting p q outcome
    → (g : Given) → given_by p.port.view ≡ g
    → (after : Held) → (p.port.state.ghost_name ≡ q.port.state.ghost_name → after ≡ q.port.state.now) → IsFitting g.maps g.worker after.seats
fits_over setting p q outcome ran g reads after written =
    subst (λ (x : Given). IsFitting x.maps x.worker after.seats) reads
    (fitting_after setting p.port q.port outcome (ran_inside setting p q outcome ran) after written)
