-- Lists that are filled from the front.
use Rattle.std.proofs.Common.{◌≡◌, ℕ, zero, suc, ◌+◌, ◌<◌, List, [], ◌∷◌, ◌++◌, length, take, drop, set, get_or, refl, sym, ◌∙◌, ap, arith}
use Rattle.bpf_absval.specs.declared.slot.AbsSlot.{AbsSlot}
use Rattle.bpf_absstate.specs.declared.frames.CallFrame.{CallFrame}
use Rattle.bpf_absval.specs.declared.value.AbsVal.{AbsVal}
use Rattle.bpf_absstate.specs.View.{View, frame_of, stack_of, empty_stack, with_slot, register, with_register}
use Rattle.bpf_cert_format.specs.declared.slots.KnownSlot.{KnownSlot}
use Rattle.bpf_cert_format.specs.Slots.{no_slots, slots_after}
use Rattle.bpf_cert_format.proofs.Known.{taken_more}
use Rattle.bpf_cert.specs.Built.{with_stack}

module _ {X : Type 0} where
  fill_suc : (vs rs : List X) (i : ℕ) (d : X) → i < length vs → i < length rs → set (take i vs ++ drop i rs) i (get_or vs i d) ≡ take (suc i) vs ++ drop (suc i) rs
  fill_suc [] rs i d lt lr = absurd (omega (arith, lt))
  fill_suc (v ∷ vs) [] i d lt lr = absurd (omega (arith, lr))
  fill_suc (v ∷ vs) (r ∷ rs) zero d lt lr = refl
  fill_suc (v ∷ vs) (r ∷ rs) (suc i) d lt lr = ap (λ (xs : List X). v ∷ xs) (fill_suc vs rs i d (omega (arith, lt)) (omega (arith, lr)))

  -- one more
  pub fill_more : (vs rs : List X) (i : ℕ) (d : X) → i < length vs → i < length rs → set (take i vs ++ drop i rs) i (get_or vs i d) ≡ take (i + 1) vs ++ drop (i + 1) rs
  fill_more vs rs i d lt lr =
      let more : suc i ≡ i + 1 = omega arith in
      fill_suc vs rs i d lt lr ∙ ap (λ (k : ℕ). take k vs ++ drop k rs) more

  pub same_within : (xs : List X) (k : ℕ) (d e : X) → k < length xs → get_or xs k d ≡ get_or xs k e
  same_within [] k d e less = absurd (omega (arith, less))
  same_within (x ∷ xs) zero d e less = refl
  same_within (x ∷ xs) (suc k) d e less = same_within xs k d e (omega (arith, less))

  -- a value that was set is read; setting twice is setting once
  pub get_set : (xs : List X) (k : ℕ) (x d : X) → k < length xs → get_or (set xs k x) k d ≡ x
  get_set [] k x d lt = absurd (omega (arith, lt))
  get_set (y ∷ xs) zero x d lt = refl
  get_set (y ∷ xs) (suc k) x d lt = get_set xs k x d (omega (arith, lt))

  pub set_set : (xs : List X) (k : ℕ) (x y : X) → set (set xs k x) k y ≡ set xs k y
  set_set [] k x y = refl
  set_set (z ∷ xs) zero x y = refl
  set_set (z ∷ xs) (suc k) x y = ap (λ (ys : List X). z ∷ ys) (set_set xs k x y)

  pub set_same : (xs : List X) (k : ℕ) (d : X) → set xs k (get_or xs k d) ≡ xs
  set_same [] k d = refl
  set_same (x ∷ xs) zero d = refl
  set_same (x ∷ xs) (suc k) d = ap (λ (ys : List X). x ∷ ys) (set_same xs k d)

-- putting a value where it already is
pub put_there : (a : View) (r : ℕ) (v : AbsVal) → register a r ≡ v → a ≡ with_register a r v
put_there a r v h =
    let same : set a.registers r v ≡ a.registers = ap (λ (x : AbsVal). set a.registers r x) (sym h) ∙ set_same a.registers r _ in
    ap (λ (xs : List AbsVal). record a { registers = xs }) (sym same)

-- one more slot of a stack that is filled
pub stack_more : (a : View) (k : ℕ) (s t : List AbsSlot) (i : ℕ) (x : AbsSlot) → k < length a.frames → set s i x ≡ t → with_slot (with_stack a k s) k i x ≡ with_stack a k t
stack_more a k s t i x lt e =
    let f : CallFrame = record (frame_of a k) { stack = s } in
    let here : frame_of (with_stack a k s) k ≡ f = get_set a.frames k f _ lt in
    let one : set (set a.frames k f) k (record (frame_of (with_stack a k s) k) { stack = set (stack_of (with_stack a k s) k) i x }) ≡ set (set a.frames k f) k (record (frame_of a k) { stack = t }) =
    ap (λ (g : CallFrame). set (set a.frames k f) k (record g { stack = set g.stack i x })) here
    ∙ ap (λ (u : List AbsSlot). set (set a.frames k f) k (record (frame_of a k) { stack = u })) e in
    ap (λ (fs : List CallFrame). record a { frames = fs }) (one ∙ set_set a.frames k f _)

-- before the first slot
pub stack_none : (a : View) (k : ℕ) → stack_of a k ≡ empty_stack → a ≡ with_stack a k empty_stack
stack_none a k h =
    let frame : set a.frames k (record (frame_of a k) { stack = empty_stack }) ≡ a.frames =
    ap (λ (s : List AbsSlot). set a.frames k (record (frame_of a k) { stack = s })) (sym h) ∙ set_same a.frames k _ in
    ap (λ (fs : List CallFrame). record a { frames = fs }) (sym frame)

-- one register more
pub value_more : (a b c : View) (vs : List AbsVal) (i r : ℕ) (v : AbsVal) → i < length vs → i < length a.registers → b ≡ record a { registers = take i vs ++ drop i a.registers } → r ≡ i → v ≡ get_or vs i v →
    c ≡ with_register b r v → c ≡ record a { registers = take (i + 1) vs ++ drop (i + 1) a.registers }
value_more a b c vs i r v lt lr eb er ev h =
    let rs : List AbsVal = take i vs ++ drop i a.registers in
    let at : set rs r v ≡ take (i + 1) vs ++ drop (i + 1) a.registers =
    ap (λ (k : ℕ). set rs k v) er ∙ ap (λ (x : AbsVal). set rs i x) ev ∙ fill_more vs a.registers i v lt lr in
    h ∙ ap (λ (x : View). with_register x r v) eb ∙ ap (λ (xs : List AbsVal). record a { registers = xs }) at

-- one known slot more
pub known_more : (a b c : View) (k i : ℕ) (ks : List KnownSlot) (x : KnownSlot) → k < length a.frames → i < length ks → x ≡ get_or ks i x → b ≡ with_stack a k (slots_after no_slots (take i ks)) →
    c ≡ with_slot b k x.index x.slot → c ≡ with_stack a k (slots_after no_slots (take (i + 1) ks))
known_more a b c k i ks x lt less is e h =
    h ∙ ap (λ (y : View). with_slot y k x.index x.slot) e
    ∙ stack_more a k (slots_after no_slots (take i ks)) (slots_after no_slots (take (i + 1) ks)) x.index x.slot lt (sym (taken_more no_slots ks i x less is))
