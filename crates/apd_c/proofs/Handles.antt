-- The machine values of a `Handle`. Assumes `Logic`.
use Rattle.std.proofs.Common.{◌≡◌, ℕ, List, [], ◌∷◌, ◌++◌, refl, subst}
use mathlib.Core.Bool.{Bool, true, false}
use seplogic.Ra.Ura.{Ura}
use mir.Raw.{raw as bare}
use mir.Val.{Val, vbool, vptr, vstruct, of_list}
use base.Logic.{never, fst∗}
use types.Logic.{Logic, sem}
use types.Kit.{Item, Goal, Seq, Step, step, ‵, ◌$◌, drop, fsplit, fjoin, fpick, fpack, feq_i, feq_l}
use denote.RattleType.{RattleType, Valss}
use denote.Builtin.{bool, RawPtr}
use denote.Memory.{lone}
use denote.RawPtr.{Ptr, block_ptr, null_ptr, ptr_val, in_a_block}
use denote.Steps.{nothing}
use denote.Struct.Struct.{within}
use denote.Struct.Owning.{shape}
use Rattle.std_alloc.specs.Box.Ownership.{box_owns}
use Rattle.apd_c.proofs.Values.{both}
use Rattle.apd_c.specs.Holding.{freeable}
use Rattle.apd_c.specs.contracts.handle.Content as content
use Rattle.apd_c.specs.contracts.handle.Handle as handle

abbrev pub R : RattleType
R = content.the_row

abbrev pub Row : RattleType
Row = handle.the_row

module _ {M : Type 1} {𝓤 : Ura M} {𝓛 : Logic 𝓤} {K : Type 0} {Γ : List (Item 𝓤)} {G : Goal 𝓤 𝓛.H} where
  pub full_in : K → (b o : ℕ) (x : R.Denot)
      → Step K 𝓛 (‵ (Row.own_val (record { full = true; at = block_ptr b o; content = x }) (both (vbool true) (vptr b o) ∷ [])) ∷ Γ) G (‵ (box_owns freeable R (block_ptr b o) x) ∷ Γ) G
  full_in t b o x = step (λ s. let v : Val = both (vbool true) (vptr b o) in
      nothing t $ feq_i t (List Val) (vptr b o ∷ []) (vptr b o ∷ []) refl $ fjoin t $ feq_i t (List Val) (vbool true ∷ []) (vbool true ∷ []) refl $ fjoin t $
      feq_i t (List Val) (v ∷ []) (v ∷ []) refl $ fjoin t $
      fpack t (Valss (bool ∷ RawPtr ∷ [])) (within (shape handle.the_type) (true, (block_ptr b o, tt)) (v ∷ [])) (vbool true ∷ [], (vptr b o ∷ [], tt)) $ fjoin t $ s)

  pub empty_in : K → (p : Ptr) (x : R.Denot)
      → Step K 𝓛 (‵ (Row.own_val (record { full = false; at = p; content = x }) (both (vbool false) (ptr_val p) ∷ [])) ∷ Γ) G Γ G
  empty_in t p x = step (λ s. let v : Val = both (vbool false) (ptr_val p) in
      nothing t $ nothing t $ feq_i t (List Val) (ptr_val p ∷ []) (ptr_val p ∷ []) refl $ fjoin t $ feq_i t (List Val) (vbool false ∷ []) (vbool false ∷ []) refl $ fjoin t $
      feq_i t (List Val) (v ∷ []) (v ∷ []) refl $ fjoin t $
      fpack t (Valss (bool ∷ RawPtr ∷ [])) (within (shape handle.the_type) (false, (p, tt)) (v ∷ [])) (vbool false ∷ [], (ptr_val p ∷ [], tt)) $ fjoin t $ s)

  pub handle_out : K → (full : Bool) (p : Ptr) (x : R.Denot) (vs : List Val)
      → ((b o : ℕ) → full ≡ true → p ≡ block_ptr b o → vs ≡ both (vbool true) (vptr b o) ∷ [] → Seq K 𝓛 (‵ (box_owns freeable R (block_ptr b o) x) ∷ Γ) G)
      → (full ≡ false → vs ≡ both (vbool false) (ptr_val p) ∷ [] → Seq K 𝓛 Γ G)
      → Seq K 𝓛 (‵ (Row.own_val (record { full = full; at = p; content = x }) vs) ∷ Γ) G
  handle_out t true p x vs k j =
      fsplit t $ fpick t (λ vss. fsplit t $ feq_l t (λ ev. fsplit t $ feq_l t (λ eb. fsplit t $ feq_l t (λ ep. drop t $
      in_a_block t p (λ q. box_owns freeable R q x) (fst∗ 𝓤 (never 𝓤) (sem 𝓛 (freeable (bare (lone R.mir)) null_ptr))) (λ b o e. k b o refl e
      (subst (λ (q : Ptr). vs ≡ vstruct (of_list (vbool true ∷ ptr_val q ∷ [])) ∷ []) e
      (subst (λ (ps : List Val). vs ≡ vstruct (of_list (vbool true ∷ (ps ++ []))) ∷ []) ep (subst (λ (bs : List Val). vs ≡ vstruct (of_list (bs ++ (vss.1.0 ++ []))) ∷ []) eb ev))))))))
  handle_out t false p x vs k j =
      fsplit t $ fpick t (λ vss. fsplit t $ feq_l t (λ ev. fsplit t $ feq_l t (λ eb. fsplit t $ feq_l t (λ ep. drop t $ drop t $ j refl
      (subst (λ (ps : List Val). vs ≡ vstruct (of_list (vbool false ∷ (ps ++ []))) ∷ []) ep (subst (λ (bs : List Val). vs ≡ vstruct (of_list (bs ++ (vss.1.0 ++ []))) ∷ []) eb ev))))))
