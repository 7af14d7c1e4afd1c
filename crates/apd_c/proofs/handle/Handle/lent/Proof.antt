-- `lent` lends the content, and the handle follows it.
use Rattle.std.proofs.Common.{◌≡◌, ℕ, List, [], ◌∷◌, refl, sym, ap, lit<}
use mir.Syntax.{Fn, named}
use mir.Raw.{raw as bare}
use mir.Val.{Val, vptr, vbool, vcons, vnil}
use seplogic.Ra.Ura.{Ura}
use base.Fraction.{full_share}
use base.Logic.{SProp, ent, sep}
use base.Fml.{GName, Fml, ftrue, flft, fres, fsep}
use prog.Wp.{Env}
use types.Logic.{Logic, sem}
use types.Kit.{‵, raw, ◌⊛◌, some, later, at_ret, ◌$◌, ◌∵◌, !, qed, move, keep, drop, split, split3, join, group, fsplit, fsplit3, fjoin, fpack, pick, suffices, frame, done, use0, use1, await, rewrite}
use types.Run.{stop, fld, load, addr, lit, of_opd, un, no_more, and_then, first, blocks, branches, skips, exec, returns, returns_within, enter}
use types.ByLocal.{alloc_all, pass_all, free_all, look_at, get, through, sets, sets_last, env}
use types.Part.{agg, look_in, sub, whole}
use types.Match.{live}
use contract.Running.{tables}
use denote.Exit.{no}
use denote.RattleType.{RattleType, owns}
use denote.Signature.{plain, mut_ref_to, types_at}
use denote.Memory.{cell_at, lone, mem, part_at, part_of}
use denote.RawPtr.{block_ptr, ptr_val}
use denote.Ref.{MutRef, MutBor, mut_vals, mut_Tells}
use denote.Steps.{nothing, opens, closes}
use denote.Follow.{follows, follows_by, lends_Part}
use denote.Triple.Walked.{says, Stays, stay_dropped, walk_of, ends_at, Goes-spent_ref}
use Rattle.core.proofs.alloc.Shapes.{after}
use Rattle.core.proofs.option.Made.{Some-of, none_of}
use Rattle.core.specs.contracts.option.Option as Opt
use Rattle.core.specs.declared.option.Option.TheVariants.{None, Some}
use Rattle.std.proofs.raw_atomic.Walks.{proved}
use Rattle.std.specs.Prelude.{Bool, true, false}
use Rattle.apd_c.specs.Holding.{freeable, held_by}
use Rattle.apd_c.specs.Lending.{with_content}
use Rattle.apd_c.specs.declared.handle.Handle.{Handle}
use Rattle.apd_c.proofs.Values.{both}
use Rattle.apd_c.proofs.Handles.{R, Row, full_in, empty_in, handle_out}
use Rattle.apd_c.specs.contracts.handle.Handle.lent.{ended, clauses}
use Rattle.apd_c.specs.contracts.handle.Handle.lent.Key.{name as #self}
use Rattle.apd_c.proofs.handle.Handle.lent.Statement.{statement}
use Rattle.apd_c.proofs.handle.Handle.lent.Code as code

abbrev stayed : Stays ended.signature.params ended.kept
stayed = (stay_dropped (mut_ref_to (0 ∷ []) tt (plain (λ _. Row))) no, tt)

module _ {M : Type 1} {𝓤 : Ura M} (𝓛 : Logic 𝓤) (rb ro : ℕ) (d : Handle) where
  module _ (b o : ℕ) where
    -- all of a full handle but its content
    abbrev Rest : Fml
    Rest = fsep (freeable (bare (lone R.mir)) (block_ptr b o)) (cell_at full_share Row.mir (both (vbool true) (vptr b o) ∷ []) rb ro)

    back : d.full ≡ true → d.at ≡ block_ptr b o → (w : R.Denot) → ent 𝓤 (sep 𝓤 (sem 𝓛 ((mem R).own_at w b o)) (sem 𝓛 Rest)) (sem 𝓛 ((mem Row).own_at (with_content d w) rb ro))
    unfolding part_of
    back is_full at_b w =
        let v : Val = both (vbool true) (vptr b o) in
        qed 𝓛 (‵ (part_at R full_share w b o) ∷ ‵ Rest ∷ []) ∵ move ! (1 ∷ []) $ fsplit ! $ move ! (2 ∷ 0 ∷ []) $ fjoin ! $ full_in ! b o w $
        rewrite ! 0 (λ (h : Handle). ‵ (Row.own_val h (v ∷ []))) (λ i. record { full = sym is_full i; at = sym at_b i; content = w }) refl $ move ! (1 ∷ 0 ∷ []) $ fjoin ! $
        fpack ! (List Val) (λ us. fsep (cell_at full_share Row.mir us rb ro) (Row.own_val (with_content d w) us)) (v ∷ []) $ done !

pub lent_spec : {M : Type 1} → statement M
unfolding follows_by
lent_spec 𝓤 𝓛 𝓜 𝓡 wired =
    let c = clauses 𝓛 𝓜.mem 𝓡.returns in let 𝓣 = tables 𝓤 𝓛.H 𝓜 𝓡 𝓡.env in let fn : Fn = code.function in
    proved 𝓛 ended stayed c 𝓜 𝓡 (Goes-spent_ref 𝓛 1 (0 ∷ []) tt (plain (λ _. Row)), tt) #self fn (code.unfolded 𝓤 𝓛.H 𝓜 𝓡 wired)
    (λ κs. (mut_vals, tt)) (λ κs. (mut_Tells (named 0) κs.0 Row, tt)) (λ κs qs bounds a g are.
    let κ = κs.0 in let q = qs.0 in let rb = a.0.ref_ptr.0 in let ro = a.0.ref_ptr.1 in let γ = a.0.ghost_name in let d = a.0.now in let Lent : RattleType = MutRef (named 0) κ R in
    let z : (walk_of 𝓛 ended stayed c).Ghost = ((κs, qs, bounds, a, (vptr rb ro ∷ [], tt)), g) in let Post : Val → SProp 𝓤 = (walk_of 𝓛 ended stayed c).post z in
    qed 𝓛 (((‵ (flft κ q) ⊛ ‵ ftrue) ⊛ ‵ (owns (types_at ended.signature.params κs) a (vptr rb ro ∷ [], tt))) ∷ raw ((c κs a).requires g) ∷ []) ∵ move ! (1 ∷ []) $ drop ! $
    enter ! 𝓣.C 𝓣.Λ fn (vptr rb ro ∷ []) Post $ alloc_all ! (λ l. pass_all ! refl ((tt, tt), tt) $ let En : Env 𝓤 𝓛.H = env fn.locals l in
    split ! $ move ! (1 ∷ []) $ fsplit ! $ fsplit3 ! $ drop ! $ move ! (3 ∷ []) $ split ! $ move ! (2 ∷ 3 ∷ 0 ∷ []) $
    opens ! tt Row {h = d} rb ro (λ vs. move ! (1 ∷ []) $ handle_out ! d.full d.at d.content vs
    -- [the block; the words; the open borrow; obs; auth]
    (λ b o ef ep ws. let at : Val = vptr b o in let v : Val = live 1 (vcons at vnil) in
    rewrite ! 1 (λ (us : List Val). ‵ (cell_at full_share Row.mir us rb ro)) ws refl $ fsplit ! $
    -- [the content; the right to free it; the words; the open borrow; obs; auth]
    sets ! (of_opd ! (load ! (through ! refl (fld ! refl (stop !))) (look_in ! 2 (sub ! 0 refl (whole !))))) refl (tt, tt) $ sets ! (un ! (get ! refl) tt) refl (tt, tt) $ first ! $ branches ! (get ! refl)
    (λ wrong. absurd wrong)
    (λ _. skips ! $ exec ! 𝓣.C 𝓣.Λ En (after 3 fn.body) (at_ret En Post) $
    first ! $ blocks ! $ sets ! (of_opd ! (load ! (through ! refl (fld ! refl (stop !))) (look_in ! 2 (sub ! 1 refl (whole !))))) refl (tt, tt) $
    sets ! (of_opd ! (get ! refl)) refl (tt, tt) $ sets ! (addr ! (through ! refl (stop !))) refl (tt, tt) $
    sets_last ! (agg ! (and_then ! (lit ! tt) (and_then ! (get ! refl) (no_more !)))) refl (tt, (record { fits = lit< tt }, (tt, tt))) $
    exec ! 𝓣.C 𝓣.Λ En (after 4 fn.body) (at_ret En Post) $ sets ! (of_opd ! (get ! refl)) refl (tt, (record { fits = lit< tt }, (tt, tt))) $
    move ! (1 ∷ 2 ∷ []) $ fjoin ! $ move ! (2 ∷ 3 ∷ 4 ∷ 1 ∷ 0 ∷ []) $ group ! 5 $
    use1 𝓛 (later (some (λ (γ' : GName). ‵ (Lent.own_val (record { ref_ptr = (b, o); ghost_name = γ'; now = d.content }) (at ∷ [])) ⊛ ‵ (flft κ q) ⊛ ‵ (follows Row R γ γ' (with_content d)))))
    (lends_Part 𝓛 Row R (with_content d) (named 0) κ q rb ro b o γ (sem 𝓛 (Rest 𝓛 rb ro d b o)) (back 𝓛 rb ro d b o ef ep) (Row.coded.code d) (Row.coded.code d) d.content) $ await ! tt $ pick ! (λ γ'.
    let r : MutBor R.Denot = record { ref_ptr = (b, o); ghost_name = γ'; now = d.content } in
    split3 ! $ use1 𝓛 (‵ ((Opt.the_row Lent).own_val (Some r) (v ∷ []))) (Some-of 𝓛 Lent r at) $
    returns ! (look_at ! 0 refl) $ free_all ! refl $ keep ! (0 ∷ 1 ∷ 2 ∷ []) $ suffices ! _ (ends_at 𝓛 ended stayed c z v (Some r) (tt, tt) (tt, tt)) $
    nothing ! $ nothing ! $ fjoin ! $ join ! $ nothing ! $ move ! (2 ∷ 0 ∷ []) $ join ! $ join ! $ frame ! $ says ! (sym (ap (λ (y : Bool). held_by y d.content) ef)) $ done !)))
    -- [the words; the open borrow; obs; auth]
    (λ ef ws. let v : Val = live 0 vnil in let w : Val = both (vbool false) (ptr_val d.at) in
    rewrite ! 0 (λ (us : List Val). ‵ (cell_at full_share Row.mir us rb ro)) ws refl $
    sets ! (of_opd ! (load ! (through ! refl (fld ! refl (stop !))) (look_in ! 0 (sub ! 0 refl (whole !))))) refl (tt, tt) $ sets ! (un ! (get ! refl) tt) refl (tt, tt) $ first ! $ branches ! (get ! refl)
    (λ _. sets ! (agg ! (and_then ! (lit ! tt) (no_more !))) refl (tt, (record { fits = lit< tt }, tt)) $
    empty_in ! d.at d.content $ rewrite ! 0 (λ (h : Handle). ‵ (Row.own_val h (w ∷ []))) (λ i. record { full = sym ef i; at = d.at; content = d.content }) refl $ move ! (1 ∷ 0 ∷ []) $
    closes ! tt Row d (w ∷ []) rb ro $ use1 𝓛 (‵ (fres γ (Row.coded.code d))) (𝓛.names.obs-res γ (Row.coded.code d)) $ move ! (2 ∷ 0 ∷ []) $
    use0 𝓛 (‵ ((Opt.the_row Lent).own_val None (v ∷ []))) (none_of 𝓛 Lent) $
    returns_within ! Post refl (look_at ! 0 refl) $ free_all ! refl $ keep ! (0 ∷ 1 ∷ 2 ∷ []) $ suffices ! _ (ends_at 𝓛 ended stayed c z v None (tt, tt) (tt, tt)) $
    nothing ! $ nothing ! $ fjoin ! $ join ! $ nothing ! $ move ! (2 ∷ 0 ∷ []) $ join ! $ join ! $ frame ! $ says ! (sym (ap (λ (y : Bool). held_by y d.content) ef)) $ done !)
    (λ wrong. absurd wrong)))))
