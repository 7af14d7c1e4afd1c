-- What a judge that keeps its last query gives, by the references that it borrowed.
use Rattle.std.specs.Prelude.{◌≡◌, ◌++◌, ◌∷◌, ℕ, []}
use Rattle.bpf_helpers.specs.HookPorts.{given_by}
use Rattle.ap_model.specs.Asks.{Ask}
use Rattle.apd_eval.specs.Rulings.{Heard, GivesRuling}
use Rattle.apd_eval.specs.declared.witness.Witness.{Witness}

-- k borrows what j does
pub record Keeps (j k : Witness) : Type 0 where
  pub programs : k.programs ≡ j.programs
  pub view : k.view ≡ j.view
  pub state : k.state.ghost_name ≡ j.state.ghost_name

-- what its programs hold, and its last query
abbrev pub heard_by : Witness → Heard
heard_by j = record { held = j.state.now; last = j.last }

-- It keeps what it borrowed, gives the verdict of its programs, and keeps and lists the query.
pub record Witnesses (j : Witness) (ask : Ask) (verdict : ℕ) (k : Witness) : Type 0 where
  pub keeps : Keeps j k
  pub given : GivesRuling (given_by j.view) j.programs.now (heard_by j) ask verdict (heard_by k)
  pub listed : k.asked.asks ≡ j.asked.asks ++ (ask, verdict) ∷ []
