use Rattle.std.proofs.Common.{◌≡◌, ◌+◌, ℕ, ap, add-zero, length, refl, subst, sym, ◌∙◌, arith}
use Rattle.ap_books.specs.Holdings.{HasParts}
use Rattle.ap_shards.specs.Pages.{HasPages}
use Rattle.versions.specs.Lists.{Beginning}
use Rattle.apd_run.specs.Returning.{AreWritten}
use Rattle.apd_run.proofs.Returning.{pages_back, written_back}
use Rattle.apd_run.proofs.access.returned.Returned.take_all_back.Goals as goal

pub loop-number-init : goal.loop-number-init
loop-number-init g c =
    record {
      many = omega arith;
      parts = λ n h. subst (λ (k : ℕ). HasParts k c.args.self.now.hoard.value) (sym (add-zero n)) h;
      pages = λ n h. subst (λ (k : ℕ). HasPages k c.args.self.now.pages.value) (sym (add-zero n)) h;
      counted = refl;
      written = λ w all same loads h. h;
      register = refl;
      loads = refl;
    }

pub loop-number-preserved : goal.loop-number-preserved
loop-number-preserved g c =
    let i = c.loop-number.invariant in
    let e = c.in_ok-take_back.ensures in
    let new = c.take_back.new.self in
    let next : (n : ℕ) → n + c.loop-number.number + 1 ≡ n + (c.loop-number.number + 1) = λ n. omega arith in
    record {
      many = omega (arith, i.many, e.one_less);
      parts = λ n h. subst (λ (k : ℕ). HasParts k new.hoard.value) (next n) (e.took.parts (n + c.loop-number.number) (i.parts n h));
      pages = λ n h. subst (λ (k : ℕ). HasPages k new.pages.value) (next n) (pages_back _ _ _ _ _ _ _ e.took (n + c.loop-number.number) (i.pages n h));
      counted = e.took.counted ∙ i.counted;
      written = λ w all same loads h. written_back _ _ _ _ _ _ _ e.took w all (same ∙ sym i.register) (loads ∙ ap (λ (b : Beginning). b.loads) (sym i.loads)) (i.written w all same loads h);
      register = e.register ∙ i.register;
      loads = e.loads ∙ i.loads;
    }

pub returns-clause-parts : goal.returns-clause-parts
returns-clause-parts g c n h =
    let all : c.loop-number.number ≡ length c.args.ap.now.queues = omega (arith, c.loop-number-test.false, c.loop-number.auto.number-end, c.workers-number-end.ensures.is) in
    subst (λ (k : ℕ). HasParts (n + k) c.loop-number.self.hoard.value) all (c.loop-number.invariant.parts n h)

pub returns-clause-pages : goal.returns-clause-pages
returns-clause-pages g c n h =
    let all : c.loop-number.number ≡ length c.args.ap.now.queues = omega (arith, c.loop-number-test.false, c.loop-number.auto.number-end, c.workers-number-end.ensures.is) in
    subst (λ (k : ℕ). HasPages (n + k) c.loop-number.self.pages.value) all (c.loop-number.invariant.pages n h)

pub returns-clause-written : goal.returns-clause-written
returns-clause-written g c w n same loads h =
    let all : c.loop-number.number ≡ length c.args.ap.now.queues = omega (arith, c.loop-number-test.false, c.loop-number.auto.number-end, c.workers-number-end.ensures.is) in
    subst (λ (k : ℕ). AreWritten n w k c.loop-number.self.pages.value) all (c.loop-number.invariant.written w n same loads h)
