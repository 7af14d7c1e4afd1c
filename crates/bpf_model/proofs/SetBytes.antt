-- What a read of set bytes says about them.
use Rattle.std.proofs.Common.{◌≡◌, ℕ, Option, Some, None, Result, Ok, Err, refl}
use Rattle.bpf_model.specs.declared.StackFrame.{StackFrame}
use Rattle.bpf_model.specs.Memory.{set_byte, joined}

-- both parts of a joined number are numbers
pub joined_parts : (low high : Result ℕ ℕ) (x : ℕ) → joined low high ≡ Ok x → ((a : ℕ) × (low ≡ Ok a)) × ((b : ℕ) × (high ≡ Ok b))
joined_parts (Ok a) (Ok b) x h = ((a, refl), (b, refl))
joined_parts (Ok a) (Err c) x h = absurd (cc)
joined_parts (Err c) (Ok b) x h = absurd (cc)
joined_parts (Err c) (Err d) x h = absurd (cc)

pub set_byte_is : (f : StackFrame) (at : ℕ) (o : Option ℕ) (a : ℕ) → set_byte f at o ≡ Ok a → (b : ℕ) × (o ≡ Some b)
set_byte_is f at (Some b) a h = (b, refl)
set_byte_is f at None a h = absurd (cc)
