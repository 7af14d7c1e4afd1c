-- The programs' state fits the maps.
use Rattle.bpf_helpers.specs.Hooked.{IsFitting}
use Rattle.apd_eval.proofs.rounds.judge_all.Given as goal

abbrev pub invariant-loop-row : goal.invariant-loop-row
invariant-loop-row l = IsFitting l.policy.maps.now 0 l.state.held.seats
