use Rattle.std.proofs.Common.{◌≡◌, ◌+◌, List, [], ◌∷◌, ◌++◌, length, arith, refl, sym, ap, subst, ◌∙◌, length-append}
use Rattle.std.specs.Vec.Iter.{into_iter_items}
use Rattle.std.proofs.lemmas.List.Sums.{sum_by-append, sum_by-cons}
use Rattle.blockack.specs.Reading.{numbers_held}
use Rattle.ap_agreements.specs.Tables.{Kept, all_held}
use Rattle.ap_core.specs.Handles.{rules}
use Rattle.ap_core.proofs.TickLaws.{Ending, ending_none, ending_more, all_ended}
use Rattle.ap_core.proofs.ticks.end_all.Goals as goal

pub loop-entry-init : goal.loop-entry-init
loop-entry-init c =
    let e : into_iter_items c.into_iter-entry-iterator.result ≡ c.args.ended.items = c.into_iter-entry-iterator.ensures.into_iter_gives.0 in (
      tt,
      tt,
      λ shard.
          subst (λ (t : List Kept). Ending (rules shard c.args.config.now) c.args.ended.items c.args.outs.now.items [] t c.args.outs.now.items) (sym e)
          (ending_none (rules shard c.args.config.now) c.args.ended.items c.args.outs.now.items),
      omega (arith, ap length e, c.requires.frames, c.args.ended.ok.0),
      refl,
    )

pub end_one-requires : goal.end_one-requires
end_one-requires c =
    let p = c.loop-entry.invariant.2 0 in
    let e : c.args.ended.items ≡ c.loop-entry.yielded ++ c.in-Some.entry ∷ into_iter_items c.next.new.self =
    p.parts ∙ ap (λ (t : List Kept). c.loop-entry.yielded ++ t) c.in-Some.ensures.steps.0 in
    let rest : List Kept = into_iter_items c.next.new.self in
    let all : all_held c.args.ended.items ≡ all_held (c.loop-entry.yielded ++ c.in-Some.entry ∷ rest) = ap (λ (t : List Kept). all_held t) e in
    let parts : all_held (c.loop-entry.yielded ++ c.in-Some.entry ∷ rest) ≡ all_held c.loop-entry.yielded + all_held (c.in-Some.entry ∷ rest) =
    sum_by-append (λ (k : Kept). numbers_held k.using.window) c.loop-entry.yielded (c.in-Some.entry ∷ rest) in
    let first : all_held (c.in-Some.entry ∷ rest) ≡ numbers_held c.in-Some.entry.using.window + all_held rest = sum_by-cons (λ (k : Kept). numbers_held k.using.window) c.in-Some.entry rest in
    omega (arith, all, parts, first, ap length e, length-append c.loop-entry.yielded (c.in-Some.entry ∷ into_iter_items c.next.new.self), p.few, c.requires.room, c.loop-entry.invariant.4, c.loop-entry.outs.ok.0, c.args.outs.now.ok.0, c.args.ended.ok.0)

pub loop-entry-preserved : goal.loop-entry-preserved
loop-entry-preserved c = (
  tt,
  tt,
  λ shard.
      ending_more (rules shard c.args.config.now) c.args.ended.items c.args.outs.now.items c.loop-entry.yielded (into_iter_items c.loop-entry.entry-iterator)
      (into_iter_items c.next.new.self) c.loop-entry.outs.items c.end_one.new.outs.items c.in-Some.entry (c.loop-entry.invariant.2 shard) c.in-Some.ensures.steps.0
      (c.end_one.ensures.ends shard) (omega (arith, c.end_one.ensures.len, c.loop-entry.outs.ok.0, c.end_one.new.outs.ok.0)),
  omega (arith, ap length c.in-Some.ensures.steps.0, c.loop-entry.invariant.3, c.in-Some-pop.ensures.len, ap length c.in-Some-pop.ensures.items, length-append c.pop.new.self.items (c.in-Some-pop.frame ∷ []), c.loop-entry.frames.ok.0, c.pop.new.self.ok.0),
  c.end_one.ensures.capacity ∙ c.loop-entry.invariant.4,
)

none_left : (ks : List Kept) → length ks ≡ 0 → ks ≡ []
none_left [] e = refl
none_left (k ∷ ks) e = absurd (omega arith)

pub returns-clause-ends : goal.returns-clause-ends
returns-clause-ends c = λ shard.
    all_ended (rules shard c.args.config.now) c.args.ended.items c.args.outs.now.items c.loop-entry.yielded (into_iter_items c.loop-entry.entry-iterator)
    c.loop-entry.outs.items (c.loop-entry.invariant.2 shard)
    (none_left (into_iter_items c.loop-entry.entry-iterator) (omega (arith, c.in-None.ensures.steps.0, c.loop-entry.entry-iterator.rest.ok.0)))

pub returns-clause-len : goal.returns-clause-len
returns-clause-len c =
    let p = c.loop-entry.invariant.2 0 in
    let rest : List Kept = into_iter_items c.loop-entry.entry-iterator in
    let all : all_held c.args.ended.items ≡ all_held (c.loop-entry.yielded ++ rest) = ap (λ (t : List Kept). all_held t) p.parts in
    let parts : all_held (c.loop-entry.yielded ++ rest) ≡ all_held c.loop-entry.yielded + all_held rest = sum_by-append (λ (k : Kept). numbers_held k.using.window) c.loop-entry.yielded rest in
    omega (arith, all, parts, p.few, ap length p.parts, length-append c.loop-entry.yielded (into_iter_items c.loop-entry.entry-iterator), c.loop-entry.outs.ok.0, c.args.outs.now.ok.0, c.args.ended.ok.0)
