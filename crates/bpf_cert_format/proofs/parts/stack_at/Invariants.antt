use Rattle.std.proofs.Common.{◌≡◌, ◌-◌, ◌≤◌, ℕ, length, take}
use Rattle.std.specs.Prelude.{slice_index_or}
use Rattle.bpf_cert_format.specs.Reading.{many, cell_at}
use Rattle.bpf_cert_format.proofs.Loops.{with_front}
use Rattle.bpf_absval.specs.declared.slot.AbsSlot.TheVariants.{Unset}
use Rattle.bpf_cert_format.proofs.parts.stack_at.Given as goal

abbrev pub invariant-loop-index : goal.invariant-loop-index
invariant-loop-index l = record {
  read : with_front (take l.index l.stack) (many (cell_at l.maps l.frames) (64 - l.index) l.rest) ≡ many (cell_at l.maps l.frames) 64 l.bytes;
  all : length l.stack ≡ 64;
  unset : (k : ℕ) → l.index ≤ k → slice_index_or l.stack k Unset ≡ Unset;
}
