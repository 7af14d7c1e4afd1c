use Rattle.std.proofs.Common.{◌≡◌, refl, sym, ap, ◌∙◌}
use Rattle.bpf_regions.specs.declared.asks.Ask.TheVariants.{Access}
use Rattle.bpf_regions.specs.declared.maps.MapOp.TheVariants.{Store}
use Rattle.std.proofs.Common.{List, length, slice_set, slice_index_or, false, ◌+◌}
use Rattle.std.specs.List.{refill}
use Rattle.bpf_model.specs.declared.StackFrame.{StackFrame}
use Rattle.bpf_tagged.specs.declared.machine.Machine.{Machine}
use Rattle.bpf_model.specs.State.{empty_frame}
use Rattle.bpf_model.specs.Memory.{next_pc, number_or_zero, stored, strays}
use Rattle.bpf_tagged.specs.Took.{at}
use Rattle.bpf_tagged.proofs.Moving.{faults, goes_as, asks_as, refill_set, with_stack}
use Rattle.bpf_tagged.proofs.stores.store_placed.Goals as goal

pub returns-in-Frame-clause-performs : goal.returns-in-Frame-clause-performs
returns-in-Frame-clause-performs g c = faults g.P.Port.gives (g.P.Port.shapes c.args.port.now) _ _ _ c.args.machine.now c.args.machine.now (λ notes. simp c.in-Frame.is)

pub returns-in-Context-clause-performs : goal.returns-in-Context-clause-performs
returns-in-Context-clause-performs g c = faults g.P.Port.gives (g.P.Port.shapes c.args.port.now) _ _ _ c.args.machine.now c.args.machine.now (λ notes. simp c.in-Context.is)

pub returns-then-points_elsewhere-clause-performs : goal.returns-then-points_elsewhere-clause-performs
returns-then-points_elsewhere-clause-performs g c =
    faults g.P.Port.gives (g.P.Port.shapes c.args.port.now) _ _ _ c.args.machine.now c.args.machine.now (λ notes. simp (c.in-Stack.is, ← c.points_elsewhere.ensures, c.if-points_elsewhere.true))

pub returns-in-Word-clause-performs : goal.returns-in-Word-clause-performs
returns-in-Word-clause-performs g c =
    asks_as g.P.Port.gives (g.P.Port.shapes c.args.port.now) _ (Access c.in-Word.map c.in-Word.word (Store (number_or_zero c.args.value))) c.access-nothing.result (λ notes a. next_pc (at c.args.machine.now notes)) _ _ c.args.machine.now _ _ refl
    (rw (← c.number_of.ensures) c.access-nothing.ensures.gives) c.access-nothing.ensures.in_range (λ notes. simp c.in-Word.is) (λ notes. refl)

pub returns-else-points_elsewhere-clause-performs : goal.returns-else-points_elsewhere-clause-performs
returns-else-points_elsewhere-clause-performs g c =
    let m : Machine = c.args.machine.now in
    let after : List StackFrame → List StackFrame = λ l. slice_set l c.in-Stack.frame (stored (slice_index_or l c.in-Stack.frame empty_frame) c.in-Stack.at c.args.size c.args.value) in
    let e : refill (length m.stack.items) m.stack.items c.store_in.new.stack ≡ after m.stack.items =
    refill_set _ _ _ c.in-Stack.frame _ refl (c.store_in.ensures ∙ ap after c.as_mut_slice.ensures.value) in
    let no : strays c.in-Stack.frame c.args.value ≡ false = sym c.points_elsewhere.ensures ∙ c.if-points_elsewhere.false in
    goes_as g.P.Port.gives (g.P.Port.shapes c.args.port.now) _ _ m (with_stack m (m.pc + 1) (after m.stack.items)) _ (ap (with_stack m (m.pc + 1)) e)
    (λ notes. simp (c.in-Stack.is, no))
