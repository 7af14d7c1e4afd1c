use Rattle.std.proofs.Common.{◌≡◌, ◌<◌, List, [], ◌∷◌, ◌++◌, length, true, false, sym, ap, subst, ◌∙◌, arith}
use Rattle.std.specs.Prelude.{slice_index_or, remove}
use Rattle.std.proofs.lemmas.List.{get_or_default}
use Rattle.ap_agreements.specs.Tables.{Kept, is_late}
use Rattle.ap_agreements.proofs.Halves.{Halfway, keeps, moves, room_for}
use Rattle.ap_agreements.proofs.agreements.split_late.Goals as goal

pub loop-at-preserved-then-not-is_late : goal.loop-at-preserved-then-not-is_late
loop-at-preserved-then-not-is_late c =
    let l : c.loop-at.at < length c.loop-at.entries.items = omega (arith, c.loop-at.entries.ok.0) in
    let d = c.index.result.now in
    let i = c.index.ensures in
    let s = c.is_late.ensures in
    let t = c.if-not-is_late.true in
    let e : is_late c.args.clock (slice_index_or c.loop-at.entries.items c.loop-at.at d).using ≡ false = cc in
    (keeps (λ k. is_late c.args.clock k.using) _ _ _ _ d c.loop-at.invariant.0 l e, c.loop-at.invariant.1)

pub push_reserved-requires : goal.push_reserved-requires
push_reserved-requires c =
    let l : c.loop-at.at < length c.loop-at.entries.items = omega (arith, c.loop-at.entries.ok.0) in
    let d = c.index.result.now in
    let i = c.index.ensures in
    let s = c.is_late.ensures in
    let t = c.if-not-is_late.false in
    let e : is_late c.args.clock (slice_index_or c.loop-at.entries.items c.loop-at.at d).using ≡ true = cc in
    let r = room_for (λ k. is_late c.args.clock k.using) _ _ _ _ d c.loop-at.invariant.0 l e in
    omega (arith, r, c.requires.room, c.loop-at.invariant.1, c.loop-at.ended.ok.0)

pub loop-at-preserved : goal.loop-at-preserved
loop-at-preserved c =
    let l : c.loop-at.at < length c.loop-at.entries.items = omega (arith, c.loop-at.entries.ok.0) in
    let d = c.index.result.now in
    let r = c.remove-entry.result in
    let i = c.index.ensures in
    let s = c.is_late.ensures in
    let t = c.if-not-is_late.false in
    let e : is_late c.args.clock (slice_index_or c.loop-at.entries.items c.loop-at.at d).using ≡ true = cc in
    let f = get_or_default c.loop-at.entries.items c.loop-at.at r d l in
    let g : is_late c.args.clock (slice_index_or c.loop-at.entries.items c.loop-at.at r).using ≡ true = subst (λ (k : Kept). is_late c.args.clock k.using ≡ true) (sym f) e in
    let m = moves (λ k. is_late c.args.clock k.using) _ _ _ _ r c.loop-at.invariant.0 l g in (
      subst (λ (k : List Kept). Halfway (λ k. is_late c.args.clock k.using) c.args.entries.now.items k c.push_reserved.new.self.items c.loop-at.at) (sym c.remove-entry.ensures.items)
          (subst (λ (k : List Kept). Halfway (λ k. is_late c.args.clock k.using) c.args.entries.now.items (remove c.loop-at.entries.items c.loop-at.at) k c.loop-at.at)
          (ap (λ (k : Kept). c.loop-at.ended.items ++ k ∷ []) (sym c.remove-entry.ensures.value) ∙ sym c.push_reserved.ensures.items) m),
      c.push_reserved.ensures.capacity ∙ c.loop-at.invariant.1,
    )
