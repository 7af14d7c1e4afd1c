use Rattle.std.proofs.Common.{sym, ap, ◌∙◌, slice_index_or}
use Rattle.bpf_regions.specs.declared.memory.Value.TheVariants.{Number}
use Rattle.bpf_regions.specs.declared.asks.Ask.TheVariants.{Access}
use Rattle.bpf_regions.specs.declared.maps.MapOp.TheVariants.{Load}
use Rattle.bpf_model.specs.State.{put, empty_frame}
use Rattle.bpf_model.specs.Memory.{as_loaded, from_stack}
use Rattle.bpf_tagged.specs.Took.{at}
use Rattle.bpf_tagged.proofs.Moving.{faults, goes_as, asks_as}
use Rattle.bpf_tagged.proofs.loads.load_placed.Goals as goal

pub returns-in-Frame-clause-performs : goal.returns-in-Frame-clause-performs
returns-in-Frame-clause-performs g c =
    goes_as g.P.Port.gives (g.P.Port.shapes c.args.port.now) _ _ c.args.machine.now _ _ c.put.ensures.is
    (λ notes. simp (c.in-Frame.is, c.loaded-number.ensures, c.read_number.ensures.is))

pub returns-in-Context-clause-performs : goal.returns-in-Context-clause-performs
returns-in-Context-clause-performs g c =
    goes_as g.P.Port.gives (g.P.Port.shapes c.args.port.now) _ _ c.args.machine.now _ _ c.put-in-Context.ensures.is
    (λ notes. simp (c.in-Context.is, c.loaded-number-in-Context.ensures, c.read_number-in-Context.ensures.is))

pub returns-in-Ok-clause-performs : goal.returns-in-Ok-clause-performs
returns-in-Ok-clause-performs g c =
    goes_as g.P.Port.gives (g.P.Port.shapes c.args.port.now) _ _ c.args.machine.now _ _ c.put-in-Ok.ensures.is
    (λ notes. simp (c.in-Stack.is, ap (λ l. from_stack (slice_index_or l c.in-Stack.k empty_frame) c.in-Stack.at c.args.load.size c.args.load.signed) (sym c.as_slice.ensures.value) ∙ sym c.in-Ok.ensures))

pub returns-in-Err-clause-performs : goal.returns-in-Err-clause-performs
returns-in-Err-clause-performs g c =
    faults g.P.Port.gives (g.P.Port.shapes c.args.port.now) _ _ _ c.args.machine.now _
    (λ notes. simp (c.in-Stack.is, ap (λ l. from_stack (slice_index_or l c.in-Stack.k empty_frame) c.in-Stack.at c.args.load.size c.args.load.signed) (sym c.as_slice.ensures.value) ∙ sym c.in-Err.ensures))

pub returns-in-Word-clause-performs : goal.returns-in-Word-clause-performs
returns-in-Word-clause-performs g c =
    asks_as g.P.Port.gives (g.P.Port.shapes c.args.port.now) _ (Access c.in-Word.map c.in-Word.word Load) c.access-answer.result (λ notes a. put (at c.args.machine.now notes) c.args.load.dst (Number (as_loaded c.args.load.signed c.args.load.size a))) _ _ c.args.machine.now _ _ c.put-in-Word.ensures.is
    c.access-answer.ensures.gives c.access-answer.ensures.in_range (λ notes. simp c.in-Word.is) (λ notes. simp c.loaded-number-in-Word.ensures)
