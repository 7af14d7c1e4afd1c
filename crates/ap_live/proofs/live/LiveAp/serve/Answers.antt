use Rattle.std.proofs.Common.{◌≡◌, ◌++◌, ◌∷◌, [], List, ap, refl, ◌∙◌}
use Rattle.ap_live.specs.declared.tagged.Tagged.{Tagged}
use Rattle.ap_live.proofs.Going.{served_more, served_none, served_still}
use Rattle.ap_live.proofs.Handing.{served_holds}
use Rattle.ap_laws.proofs.HeadlineLaws.{each_run_holds}
use Rattle.ap_live.proofs.live.LiveAp.serve.Goals as goal

pub loop-init : goal.loop-init
loop-init g c =
    let w = c.args.worker.now in
    let l = c.args.list.now.items in (tt, tt, c.requires, refl, served_none g.B.Journals.config c.args.self.now w w l l refl refl)

pub returns-then-stopped-clause-served : goal.returns-then-stopped-clause-served
returns-then-stopped-clause-served g c =
    let t : Tagged = c.in-Some-serve_one.tagged in
    let listed : c.push_reserved.new.self.items ≡ c.loop.list.items ++ t ∷ [] = c.push_reserved.ensures.items ∙ ap (λ (l : List Tagged). l ++ t ∷ []) c.reserve.ensures.items in
    served_more g.B.Journals.config c.args.self.now c.args.worker.now c.loop.worker c.serve_one.new.worker c.args.list.now.items c.loop.list.items c.push_reserved.new.self.items t c.loop.invariant.4 c.loop.invariant.3
    c.in-Some-serve_one.ensures.served listed

pub returns-then-is_err-clause-headline : goal.returns-then-is_err-clause-headline
returns-then-is_err-clause-headline g c =
    let w = c.args.worker.now in
    let l = c.args.list.now.items in
    served_holds each_run_holds g.B.Journals.config c.args.self.now w c.loop.worker l c.reserve.new.self.items
    (served_still g.B.Journals.config c.args.self.now w c.loop.worker c.loop.worker l c.loop.list.items c.reserve.new.self.items c.loop.invariant.4 refl c.reserve.ensures.items)

pub returns-in_default-clause-headline : goal.returns-in_default-clause-headline
returns-in_default-clause-headline g c =
    let w = c.args.worker.now in
    let l = c.args.list.now.items in
    served_holds each_run_holds g.B.Journals.config c.args.self.now w c.serve_one.new.worker l c.reserve.new.self.items
    (served_still g.B.Journals.config c.args.self.now w c.loop.worker c.serve_one.new.worker l c.loop.list.items c.reserve.new.self.items c.loop.invariant.4 c.in_default.ensures.none c.reserve.ensures.items)

pub returns-then-stopped-clause-headline : goal.returns-then-stopped-clause-headline
returns-then-stopped-clause-headline g c =
    served_holds each_run_holds g.B.Journals.config c.args.self.now c.args.worker.now c.serve_one.new.worker c.args.list.now.items c.push_reserved.new.self.items (returns-then-stopped-clause-served g c)

pub loop-preserved : goal.loop-preserved
loop-preserved g c =
    let t : Tagged = c.in-Some-serve_one.tagged in
    let listed : c.push_reserved.new.self.items ≡ c.loop.list.items ++ t ∷ [] = c.push_reserved.ensures.items ∙ ap (λ (l : List Tagged). l ++ t ∷ []) c.reserve.ensures.items in (
      tt,
      tt,
      c.serve_one.ensures.own,
      c.serve_one.ensures.number ∙ c.loop.invariant.3,
      served_more g.B.Journals.config c.args.self.now c.args.worker.now c.loop.worker c.serve_one.new.worker c.args.list.now.items c.loop.list.items c.push_reserved.new.self.items t c.loop.invariant.4 c.loop.invariant.3
          c.in-Some-serve_one.ensures.served listed,
    )
