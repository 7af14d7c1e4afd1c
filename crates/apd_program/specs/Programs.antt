-- What is said of the program that code spells.
use Rattle.std.specs.Prelude.{◌≡◌, ◌≢◌, ℕ, List}
use Rattle.bpf_regions.specs.declared.maps.Shape.{Shape}
use Rattle.bpf_decode.specs.Program.{Code, Spells}
use Rattle.bpf_decode.specs.Answer.{Refuses}
use Rattle.bpf_decode.specs.declared.fault.DecodeFault.{DecodeFault}
use Rattle.bpf_decode.specs.declared.fault.DecodeFault.TheVariants.{NoMemory}
use Rattle.apd_program.specs.declared.answer.Answer.{Answer}
use Rattle.apd_program.specs.declared.answer.Answer.TheVariants.{Fault}

-- decoding decides first: the code's fault, or what is said of its program
pub data IsOfProgram (says : Code → Answer → Type 0) (code : List ℕ) (shapes : List Shape) : Answer → Type 0 where
  Undecoded : (e : DecodeFault) → e ≢ NoMemory → Refuses code shapes e → IsOfProgram says code shapes (Fault e)
  Decoded : (p : Code) (a : Answer) → Spells code p → p.shapes ≡ shapes → says p a → IsOfProgram says code shapes a
