use Rattle.std.proofs.Common.{List, ◌≡◌, length, take, set, get_or, arith, ap, ◌∙◌, replicate, inl, inr, ℕ}
use Rattle.std.proofs.lemmas.List.{take_more_set, take_all, length-set, length-replicate, get_or-set_other, get_or-replicate, get_or_past}
use Rattle.std.proofs.lemmas.Bool.{cases_lt}
use Rattle.bpf_absval.specs.declared.slot.AbsSlot.{AbsSlot}
use Rattle.bpf_absval.specs.declared.slot.AbsSlot.TheVariants.{Unset}
use Rattle.bpf_cert_format.specs.Reading.{many, cell_at}
use Rattle.bpf_cert_format.proofs.Loops.{with_none, goes_on, ends, is_done}
use Rattle.bpf_cert_format.proofs.parts.stack_at.Goals as goal

all_unset : (k : ℕ) → get_or (replicate 64 Unset) k Unset ≡ Unset
all_unset k = elim (cases_lt k 64) [
  | inl lt ↦ get_or-replicate 64 k Unset Unset lt
  | inr le ↦ get_or_past (replicate 64 Unset) k Unset (omega (arith, length-replicate 64 Unset))
]

pub loop-index-init : goal.loop-index-init
loop-index-init c =
    record { read = with_none (many (cell_at c.args.maps c.args.frames) 64 c.args.bytes.now); all = ap length c.unset-stack.ensures.is; unset = λ k le. ap (λ (l : List AbsSlot). get_or l k Unset) c.unset-stack.ensures.is ∙ all_unset k }

pub returns-in-Err : goal.returns-in-Err
returns-in-Err c =
    let r = cell_at c.args.maps c.args.frames in
    record { is = ends AbsSlot r c.in-Err.fault (take c.loop-index.index c.loop-index.stack) 64 c.loop-index.index c.loop-index.rest.now (many r 64 c.args.bytes.now) c.loop-index-test.true c.in-Err.ensures.is c.loop-index.invariant.read }

pub loop-index-preserved : goal.loop-index-preserved
loop-index-preserved c =
    let r = cell_at c.args.maps c.args.frames in
    let i = c.loop-index.index in
    let stack : List AbsSlot = c.loop-index.stack in
    let all : length stack ≡ 64 = c.loop-index.invariant.all in
    let new : c.put_cell.new.stack ≡ set stack i c.in-Ok.cell = c.in_ok-put_cell-in-Ok.ensures.is in
    let e = take_more_set stack i c.in-Ok.cell (omega (arith, all, c.loop-index-test.true)) in
    rw new (record {
      read = rw e (goes_on AbsSlot r (take i stack) 64 i c.loop-index.rest.now c.in-Ok.cell c.in-Ok.after.now (many r 64 c.args.bytes.now) c.loop-index-test.true c.in-Ok.ensures.is c.loop-index.invariant.read);
      all = length-set stack i c.in-Ok.cell ∙ all;
      unset = λ k le. get_or-set_other stack i k c.in-Ok.cell Unset (omega arith) ∙ c.loop-index.invariant.unset k (omega arith);
    })

pub returns : goal.returns
returns c =
    let r = cell_at c.args.maps c.args.frames in
    let i = c.loop-index.index in
    let all : length c.loop-index.stack ≡ 64 = c.loop-index.invariant.all in
    let e = take_all i c.loop-index.stack (omega (arith, all, c.loop-index-test.false)) in
    record { is = rw e at (is_done AbsSlot r (take i c.loop-index.stack) 64 i c.loop-index.rest.now (many r 64 c.args.bytes.now) c.loop-index-test.false c.loop-index.invariant.read) }
