use Rattle.std.proofs.Common.{rules, ◌≡◌, ◌≤◌, ◌+◌, ◌++◌, ◌∷◌, [], None, length, refl, ap, ◌∙◌, arith}
use Rattle.bpf_verifier.specs.Counting.{weight}
use Rattle.bpf_verifier.specs.declared.frame.Frame.{Frame}
use Rattle.bpf_verifier.specs.Path.{Linked}
use Rattle.bpf_verifier.specs.Safety.{AllSafe, LeadsSafely, IsExplored}
use Rattle.bpf_plain.specs.Paths.{Reaches}
use Rattle.bpf_verifier.specs.Walked.{LeadsBySlots, IsWalked}
use Rattle.bpf_verifier.specs.Folded.{with_state, IsTaken}
use Rattle.bpf_prune.proofs.Keeping.{leaves_out}
use Rattle.bpf_verifier.proofs.Folding.{taken_state, taken_own, pushed_length, remade_few}
use Rattle.bpf_verifier.proofs.Clears.{drops, takes_up}
use Rattle.bpf_verifier.proofs.Counts.{Counted-pop, Counted-over, Counted-best, Counted-kept, weight_push, after_le}
use Rattle.bpf_verifier.proofs.Paths.{AreBegun-push, AreBegun-pop, Linked-start, of_own, pending-is}
use Rattle.bpf_verifier.proofs.Tables.{kept}
use Rattle.bpf_verifier.proofs.Explored as explored
use Rattle.bpf_verifier.proofs.Tracing as tracing
use Rattle.bpf_verifier.proofs.Walking as walking
use Rattle.bpf_verifier.proofs.Finishing as finishing
use Rattle.bpf_verifier.proofs.exploration.Exploration.unwind.Goals as goal

pub overflow_add-done : goal.overflow_add-done
overflow_add-done c =
    let k = after_le c.loop-frame.self.path c.loop-frame.self.after in
    let le : c.loop-frame.done + c.loop-frame.self.after ≤ c.loop-frame.self.visits = let paid = c.loop-frame.invariant.paid in omega (arith, paid, k) in
    search (rules, le)

pub returns-in-Some-pending-clause-paid : goal.returns-in-Some-pending-clause-paid
returns-in-Some-pending-clause-paid c =
    let taken : IsTaken c.loop-frame.self.path c.pop.new.self c.in-Some.frame = rw c.in-Some.is at c.in_ok-frame.ensures.some in
    let f : Frame = with_state c.in-Some.frame taken.state in
    let g : Frame = record { before = f.before; state = c.in-Some.frame.state; pending = None; best = c.max-best.result } in
    let h = c.loop-frame.invariant in
    let best = Counted-best c.loop-frame.self.path c.pop.new.self f c.loop-frame.self.after c.loop-frame.self.finished c.loop-frame.self.visits c.loop-frame.done c.max-best.result
    taken.last h.counted h.paid c.max-best.ensures in
    let n = weight_push c.pop.new.self g 0 in
    rw (c.in_ok-push-in-Some-pending.ensures.path, c.in_ok-push-in-Some-pending.ensures.after, c.in_ok-push-in-Some-pending.ensures.visits) (omega (arith, n, best))

pub overflow_add-done-in-None : goal.overflow_add-done-in-None
overflow_add-done-in-None c =
    let taken : IsTaken c.loop-frame.self.path c.pop.new.self c.in-Some.frame = rw c.in-Some.is at c.in_ok-frame.ensures.some in
    let f : Frame = with_state c.in-Some.frame taken.state in
    let h = c.loop-frame.invariant in
    let best = Counted-best c.loop-frame.self.path c.pop.new.self f c.loop-frame.self.after c.loop-frame.self.finished c.loop-frame.self.visits c.loop-frame.done c.max-best.result
    taken.last h.counted h.paid c.max-best.ensures in
    let le : c.max-best.result + 1 ≤ c.loop-frame.self.visits = omega (arith, best) in
    search (rules, le)

pub overflow_add-result : goal.overflow_add-result
overflow_add-result c =
    let k = after_le c.loop-frame.self.path c.loop-frame.self.after in
    let le : c.loop-frame.done + c.loop-frame.self.after ≤ c.loop-frame.self.visits = let paid = c.loop-frame.invariant.paid in omega (arith, paid, k) in
    search (rules, le)

pub returns-clause-paid : goal.returns-clause-paid
returns-clause-paid c =
    let k = after_le c.loop-frame.self.path c.loop-frame.self.after in
    let paid = c.loop-frame.invariant.paid in
    omega (arith, paid, k)

pub returns-in-Some-pending-clause-counted : goal.returns-in-Some-pending-clause-counted
returns-in-Some-pending-clause-counted c =
    let taken : IsTaken c.loop-frame.self.path c.pop.new.self c.in-Some.frame = rw c.in-Some.is at c.in_ok-frame.ensures.some in
    let f : Frame = with_state c.in-Some.frame taken.state in
    let g : Frame = record { before = f.before; state = c.in-Some.frame.state; pending = None; best = c.max-best.result } in
    let h = c.loop-frame.invariant in
    let best = Counted-best c.loop-frame.self.path c.pop.new.self f c.loop-frame.self.after c.loop-frame.self.finished c.loop-frame.self.visits c.loop-frame.done c.max-best.result
    taken.last h.counted h.paid c.max-best.ensures in
    rw (c.in_ok-push-in-Some-pending.ensures.after, c.in_ok-push-in-Some-pending.ensures.finished, c.in_ok-push-in-Some-pending.ensures.visits)
    (Counted-over c.loop-frame.self.path c.pop.new.self c.push.new.self.path f g c.loop-frame.self.after c.loop-frame.self.finished c.loop-frame.self.visits
    taken.last c.in_ok-push-in-Some-pending.ensures.path refl h.counted best)

pub returns-in-Some-pending-clause-begun : goal.returns-in-Some-pending-clause-begun
returns-in-Some-pending-clause-begun c = λ slots begun.
    let taken : IsTaken c.loop-frame.self.path c.pop.new.self c.in-Some.frame = rw c.in-Some.is at c.in_ok-frame.ensures.some in
    let f : Frame = with_state c.in-Some.frame taken.state in
    let g : Frame = record { before = f.before; state = c.in-Some.frame.state; pending = None; best = c.max-best.result } in
    let k = AreBegun-pop slots c.loop-frame.self.path c.pop.new.self f taken.last (c.loop-frame.invariant.begun slots begun) in
    (rw c.in_ok-push-in-Some-pending.ensures.path (AreBegun-push slots c.pop.new.self g k.0 tt), pending-is _ f.pending c.in-Some-pending.next c.in-Some-pending.is k.1)

pub returns-in-Some-pending-clause-safe : goal.returns-in-Some-pending-clause-safe
returns-in-Some-pending-clause-safe c = λ p start a found safe.
    let taken : IsTaken c.loop-frame.self.path c.pop.new.self c.in-Some.frame = rw c.in-Some.is at c.in_ok-frame.ensures.some in
    let f : Frame = with_state c.in-Some.frame taken.state in
    let g : Frame = record { before = f.before; state = c.in-Some.frame.state; pending = None; best = c.max-best.result } in
    let h = c.loop-frame.invariant.safe p start a found safe in
    let over : Linked (LeadsSafely p) (IsExplored p) (c.pop.new.self ++ g ∷ []) 0 start c.in-Some-pending.next =
    explored.goes_over p c.loop-frame.self.path c.pop.new.self f g c.loop-frame.self.after start h.0 c.in-Some-pending.next c.loop-frame.done taken.last refl (taken_state c.loop-frame.self.path c.pop.new.self c.in-Some.frame c.in-Some-pending.next c.in-Some-pending.is taken)
    c.in-Some-pending.is refl (omega (arith, c.max-best.ensures)) (omega (arith, c.max-best.ensures)) h.1.0 h.2 in
    (rw (c.in_ok-push-in-Some-pending.ensures.path, c.in_ok-push-in-Some-pending.ensures.after) over, rw c.in_ok-push-in-Some-pending.ensures.finished h.1.1)

pub returns-in-Some-pending-clause-walked : goal.returns-in-Some-pending-clause-walked
returns-in-Some-pending-clause-walked c = λ slots start a found reaches.
    let taken : IsTaken c.loop-frame.self.path c.pop.new.self c.in-Some.frame = rw c.in-Some.is at c.in_ok-frame.ensures.some in
    let f : Frame = with_state c.in-Some.frame taken.state in
    let g : Frame = record { before = f.before; state = c.in-Some.frame.state; pending = None; best = c.max-best.result } in
    let h = c.loop-frame.invariant.walked slots start a found reaches in
    let over : Linked (LeadsBySlots slots) (IsWalked slots) (c.pop.new.self ++ g ∷ []) 0 start c.in-Some-pending.next =
    walking.goes_over slots c.loop-frame.self.path c.pop.new.self f g c.loop-frame.self.after start h.0 c.in-Some-pending.next c.loop-frame.done taken.last refl (taken_state c.loop-frame.self.path c.pop.new.self c.in-Some.frame c.in-Some-pending.next c.in-Some-pending.is taken)
    c.in-Some-pending.is refl c.max-best.ensures h.1.0 h.2 in
    (rw (c.in_ok-push-in-Some-pending.ensures.path, c.in_ok-push-in-Some-pending.ensures.after) over, rw c.in_ok-push-in-Some-pending.ensures.finished h.1.1)

pub returns-in-Some-pending-clause-clear : goal.returns-in-Some-pending-clause-clear
returns-in-Some-pending-clause-clear c = λ code n clear.
    let taken : IsTaken c.loop-frame.self.path c.pop.new.self c.in-Some.frame = rw c.in-Some.is at c.in_ok-frame.ensures.some in
    let f : Frame = with_state c.in-Some.frame taken.state in
    let g : Frame = record { before = f.before; state = c.in-Some.frame.state; pending = None; best = c.max-best.result } in
    rw c.in_ok-push-in-Some-pending.ensures.path
    (takes_up code c.loop-frame.self.path c.pop.new.self f g c.in-Some-pending.next n taken.last c.in-Some-pending.is refl (c.loop-frame.invariant.clear code n clear))

pub loop-frame-preserved : goal.loop-frame-preserved
loop-frame-preserved c =
    let taken : IsTaken c.loop-frame.self.path c.pop.new.self c.in-Some.frame = rw c.in-Some.is at c.in_ok-frame.ensures.some in
    let f : Frame = with_state c.in-Some.frame taken.state in
    let h = c.loop-frame.invariant in
    let best = Counted-best c.loop-frame.self.path c.pop.new.self f c.loop-frame.self.after c.loop-frame.self.finished c.loop-frame.self.visits c.loop-frame.done c.max-best.result
    taken.last h.counted h.paid c.max-best.ensures in
    let paid : c.max-best.result + 1 + weight c.pop.new.self f.before ≤ c.loop-frame.self.visits = omega (arith, best) in
    let counted = Counted-kept c.pop.new.self f.before c.loop-frame.self.finished c.finish.new.self.finished c.in-Some.frame.state (c.max-best.result + 1) c.loop-frame.self.visits
    c.in_ok-finish-in-None.ensures.finished
    (Counted-pop c.loop-frame.self.path c.pop.new.self f c.loop-frame.self.after c.loop-frame.self.finished c.loop-frame.self.visits taken.last h.counted).0 paid in
    record {
      visits = c.in_ok-finish-in-None.ensures.visits ∙ h.visits;
      traced = rw (c.in_ok-finish-in-None.ensures.path, c.in_ok-finish-in-None.ensures.after)
          (tracing.goes_back c.args.program.now c.loop-frame.self.path c.pop.new.self f c.loop-frame.self.after h.traced.0 taken.last h.traced.1);
      finished = rw (c.in_ok-finish-in-None.ensures.path, c.in_ok-finish-in-None.ensures.after)
          (finishing.goes_back leaves_out c.loop-frame.self.finished c.finish.new.self.finished c.loop-frame.self.path c.pop.new.self c.in-Some.frame c.loop-frame.self.after c.loop-frame.done c.max-best.result taken
          c.in-None.is c.max-best.ensures c.in_ok-finish-in-None.ensures.finished ∙ h.finished);
      counted = rw (c.in_ok-finish-in-None.ensures.path, c.in_ok-finish-in-None.ensures.after, c.in_ok-finish-in-None.ensures.visits) counted;
      paid = rw (c.in_ok-finish-in-None.ensures.path, c.in_ok-finish-in-None.ensures.after, c.in_ok-finish-in-None.ensures.visits) paid;
      begun = λ slots begun. rw c.in_ok-finish-in-None.ensures.path
          (AreBegun-pop slots c.loop-frame.self.path c.pop.new.self f taken.last (h.begun slots begun)).0;
      safe = λ p start a found safe.
          let k = h.safe p start a found safe in
          let back = explored.goes_back p c.loop-frame.self.path c.pop.new.self f c.loop-frame.self.after start k.0 c.loop-frame.done c.max-best.result taken.last
          c.in-None.is (omega (arith, c.max-best.ensures)) (omega (arith, c.max-best.ensures)) k.1.0 k.2 in (
            back.0,
            (
              rw (c.in_ok-finish-in-None.ensures.path, c.in_ok-finish-in-None.ensures.after) back.2,
              kept (λ x. AllSafe p x.budget x.state) c.loop-frame.self.finished c.finish.new.self.finished c.in-Some.frame.state (c.max-best.result + 1) c.in_ok-finish-in-None.ensures.finished k.1.1
                  (of_own (AllSafe p (c.max-best.result + 1)) c.in-Some.frame.state back.0 (taken_own c.loop-frame.self.path c.pop.new.self c.in-Some.frame (λ x. x ≡ back.0) taken back.1) back.3),
            ),
            back.3,
          );
      walked = λ slots start a found reaches.
          let k = h.walked slots start a found reaches in
          let back = walking.goes_back slots c.loop-frame.self.path c.pop.new.self f c.loop-frame.self.after start k.0 c.loop-frame.done taken.last k.1.0 k.2 in
          let done : Reaches slots back.0.pc (c.max-best.result + 1) = rw c.max-best.ensures back.3 in (
            back.0,
            (
              rw (c.in_ok-finish-in-None.ensures.path, c.in_ok-finish-in-None.ensures.after) back.2,
              kept (λ x. Reaches slots x.state.pc x.budget) c.loop-frame.self.finished c.finish.new.self.finished c.in-Some.frame.state (c.max-best.result + 1) c.in_ok-finish-in-None.ensures.finished k.1.1
                  (of_own (λ x. Reaches slots x.pc (c.max-best.result + 1)) c.in-Some.frame.state back.0 (taken_own c.loop-frame.self.path c.pop.new.self c.in-Some.frame (λ x. x ≡ back.0) taken back.1) done),
            ),
            done,
          );
      clear = λ code n clear. rw c.in_ok-finish-in-None.ensures.path
          (drops code c.loop-frame.self.path c.pop.new.self f n taken.last (h.clear code n clear));
      most = c.in_ok-frame.ensures.most ∙ h.most;
      examined = c.in_ok-frame.ensures.examined ∙ h.examined;
      remade =
          let size = pushed_length c.loop-frame.self.path c.pop.new.self f taken.last in
          let few = remade_few c.loop-frame.self.path c.loop-frame.self.after c.loop-frame.done c.loop-frame.self.visits h.paid in
          rw c.in_ok-finish-in-None.ensures.path (omega (arith, size, few, c.in_ok-frame.ensures.greatest, h.remade, h.visits, c.requires.room));
      units = omega (arith, c.in_ok-frame.ensures.units, h.units);
    }

pub returns-clause-safe : goal.returns-clause-safe
returns-clause-safe c = λ p start a found safe.
    let k = c.loop-frame.invariant.safe p start a found safe in
    let leads = Linked-start (LeadsSafely p) (IsExplored p) c.loop-frame.self.path c.loop-frame.self.after start k.0 (search rules) k.1.0 in
    (leads c.loop-frame.done k.2, k.1.1)

pub returns-clause-walked : goal.returns-clause-walked
returns-clause-walked c = λ slots start a found reaches.
    let k = c.loop-frame.invariant.walked slots start a found reaches in
    let leads = Linked-start (LeadsBySlots slots) (IsWalked slots) c.loop-frame.self.path c.loop-frame.self.after start k.0 (search rules) k.1.0 in
    (leads c.loop-frame.done k.2, k.1.1)

pub returns-in-Some-pending-clause-traced : goal.returns-in-Some-pending-clause-traced
returns-in-Some-pending-clause-traced c =
    let taken : IsTaken c.loop-frame.self.path c.pop.new.self c.in-Some.frame = rw c.in-Some.is at c.in_ok-frame.ensures.some in
    let f : Frame = with_state c.in-Some.frame taken.state in
    let g : Frame = record { before = f.before; state = c.in-Some.frame.state; pending = None; best = c.max-best.result } in
    let t = c.loop-frame.invariant.traced in
    rw (c.in_ok-push-in-Some-pending.ensures.path, c.in_ok-push-in-Some-pending.ensures.after)
    (tracing.goes_over c.args.program.now c.loop-frame.self.path c.pop.new.self f g c.loop-frame.self.after t.0 c.in-Some-pending.next taken.last refl (taken_state c.loop-frame.self.path c.pop.new.self c.in-Some.frame c.in-Some-pending.next c.in-Some-pending.is taken) c.in-Some-pending.is refl t.1)

pub returns-in-Some-pending-clause-remade : goal.returns-in-Some-pending-clause-remade
returns-in-Some-pending-clause-remade c =
    let taken : IsTaken c.loop-frame.self.path c.pop.new.self c.in-Some.frame = rw c.in-Some.is at c.in_ok-frame.ensures.some in
    let f : Frame = with_state c.in-Some.frame taken.state in
    let g : Frame = record { before = f.before; state = c.in-Some.frame.state; pending = None; best = c.max-best.result } in
    let h = c.loop-frame.invariant in
    let size = pushed_length c.loop-frame.self.path c.pop.new.self f taken.last in
    let more = pushed_length c.push.new.self.path c.pop.new.self g c.in_ok-push-in-Some-pending.ensures.path in
    let few = remade_few c.loop-frame.self.path c.loop-frame.self.after c.loop-frame.done c.loop-frame.self.visits h.paid in
    omega (arith, size, more, few, c.in_ok-frame.ensures.greatest, h.remade, h.visits, c.requires.room)

pub returns-in_err-frame-clause-greatest : goal.returns-in_err-frame-clause-greatest
returns-in_err-frame-clause-greatest c =
    let h = c.loop-frame.invariant in
    let few = remade_few c.loop-frame.self.path c.loop-frame.self.after c.loop-frame.done c.loop-frame.self.visits h.paid in
    omega (arith, few, c.pop.ensures.greatest, h.remade, h.visits, c.requires.room)

pub returns-in_err-push-in-Some-pending-clause-greatest : goal.returns-in_err-push-in-Some-pending-clause-greatest
returns-in_err-push-in-Some-pending-clause-greatest c =
    let h = c.loop-frame.invariant in
    let few = remade_few c.loop-frame.self.path c.loop-frame.self.after c.loop-frame.done c.loop-frame.self.visits h.paid in
    omega (arith, few, c.pop.ensures.greatest, h.remade, h.visits, c.requires.room)

pub returns-in-Some-pending-clause-greatest : goal.returns-in-Some-pending-clause-greatest
returns-in-Some-pending-clause-greatest c =
    let h = c.loop-frame.invariant in
    let few = remade_few c.loop-frame.self.path c.loop-frame.self.after c.loop-frame.done c.loop-frame.self.visits h.paid in
    omega (arith, few, c.pop.ensures.greatest, h.remade, h.visits, c.requires.room)

pub returns-in_err-finish-in-None-clause-greatest : goal.returns-in_err-finish-in-None-clause-greatest
returns-in_err-finish-in-None-clause-greatest c =
    let h = c.loop-frame.invariant in
    let few = remade_few c.loop-frame.self.path c.loop-frame.self.after c.loop-frame.done c.loop-frame.self.visits h.paid in
    omega (arith, few, c.pop.ensures.greatest, h.remade, h.visits, c.requires.room)

pub returns-clause-greatest : goal.returns-clause-greatest
returns-clause-greatest c =
    let h = c.loop-frame.invariant in
    let few = remade_few c.loop-frame.self.path c.loop-frame.self.after c.loop-frame.done c.loop-frame.self.visits h.paid in
    omega (arith, few, c.pop.ensures.greatest, h.remade, h.visits, c.requires.room)

pub returns-clause-remade : goal.returns-clause-remade
returns-clause-remade c =
    let h = c.loop-frame.invariant in
    let few = remade_few c.loop-frame.self.path c.loop-frame.self.after c.loop-frame.done c.loop-frame.self.visits h.paid in
    let empty : c.pop.new.self ≡ [] = search rules in
    let none : length c.pop.new.self ≡ 0 = ap length empty in
    omega (arith, few, none, c.pop.ensures.greatest, h.remade, h.visits, c.requires.room)

pub returns-in-Some-pending-clause-finished : goal.returns-in-Some-pending-clause-finished
returns-in-Some-pending-clause-finished c =
    let taken : IsTaken c.loop-frame.self.path c.pop.new.self c.in-Some.frame = rw c.in-Some.is at c.in_ok-frame.ensures.some in
    let f : Frame = with_state c.in-Some.frame taken.state in
    let none = finishing.finished_pending c.loop-frame.self.path c.pop.new.self f c.in-Some-pending.next c.loop-frame.self.after c.loop-frame.done taken.last c.in-Some-pending.is in
    rw c.in_ok-push-in-Some-pending.ensures.finished
    (finishing.nothing_more c.loop-frame.self.finished c.args.self.now.finished _ _ none c.loop-frame.invariant.finished)

pub returns-clause-finished : goal.returns-clause-finished
returns-clause-finished c =
    let none = finishing.finished_none c.loop-frame.self.path c.loop-frame.self.after c.loop-frame.done (search rules) in
    finishing.nothing_more c.loop-frame.self.finished c.args.self.now.finished _ _ none c.loop-frame.invariant.finished
