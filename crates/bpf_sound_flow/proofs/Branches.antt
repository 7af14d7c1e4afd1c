-- The branches of a conditional jump.
use Rattle.std.proofs.Common.{◌≡◌, ℕ, List, length, ◌+◌, ◌^◌, ◌%◌, ◌<◌, ◌≤◌, ◌⊎◌, inl, inr, Bool, true, false, not, ◌&&◌, Option, Some, None, Result, Ok, refl, sym, ap, ap₂, subst, ◌∙◌, nat_lt, nat_le, arith, if◌then◌else◌}
use Rattle.std.proofs.lemmas.Bool.{false≢true, eqb-true, ltb-true, ltb-false, leb-true, leb-false, le-leb, cond_both}
use Rattle.bpf_insn.specs.declared.insn.Compare.{Compare}
use Rattle.bpf_insn.specs.declared.insn.Compare.TheVariants.{Eq, Ne, Gt, Ge, Lt, Le}
use Rattle.bpf_insn.specs.declared.insn.Source.{Source}
use Rattle.bpf_insn.specs.declared.insn.Source.TheVariants as source
use Rattle.bpf_insn.specs.Spelled.{IsSource}
use Rattle.bpf_regions.specs.declared.memory.Value.{Value}
use Rattle.bpf_regions.specs.declared.memory.Value.TheVariants as value
use Rattle.bpf_regions.specs.declared.memory.Region.{Region}
use Rattle.bpf_regions.specs.declared.memory.Region.TheVariants as region
use Rattle.bpf_words.specs.Word.{word_of}
use Rattle.bpf_model.specs.State.{State, reg}
use Rattle.bpf_model.specs.Alu.{holds, is_zero, wide_test, narrow_test, taken, source_value as source_of, null_test as null_value, end_test as end_value}
use Rattle.bpf_absnum.specs.Branch.{num_branch, compares}
use Rattle.bpf_absnum.specs.Number.{Num, InNum, num_single, is_single}
use Rattle.bpf_absnum.proofs.Branches.{branch_keeps}
use Rattle.bpf_absnum.proofs.Rows.{single_keeps}
use Rattle.bpf_absval.specs.declared.value.AbsRegion.{AbsRegion}
use Rattle.bpf_absval.specs.declared.value.AbsRegion.TheVariants as place
use Rattle.bpf_absval.specs.declared.value.AbsVal.{AbsVal}
use Rattle.bpf_absval.specs.declared.value.AbsVal.TheVariants.{Number, Frame, Pointer, FrameEnd, Lookup}
use Rattle.bpf_absval.specs.declared.value.Label.{Label}
use Rattle.bpf_absval.specs.declared.room.Room.{Room}
use Rattle.bpf_absval.specs.Meaning.{Labels, Holds, LabelHolds, RegionHolds}
use Rattle.bpf_absstate.specs.Contains.{HoldsIn}
use Rattle.bpf_absstate.specs.View.{View, register, with_register, with_least, with_room}
use Rattle.bpf_absstate.proofs.Followed.{refinement_holds}
use Rattle.bpf_absstate.proofs.Kept.{registers_hold}
use Rattle.bpf_absstate.proofs.Known.{least_holds, rooms_hold}
use Rattle.bpf_rules.specs.Branches.{Split, compared_value, is_itself, narrowed, with_source, with_operands, number_way, number_ways, null_test, by_null, lookup_ways, pointer_ways, Lesson, Nothing, AtMost, Below, turned, lesson, with_reach, learnt, taught, end_ways, end_test, is_order, wide_ways, narrow_ways, split}
use Rattle.bpf_sound_flow.proofs.Alu.{number_held}
use Rattle.bpf_words.proofs.Immediates.{word_fits}
use Rattle.bpf_rules.proofs.Outcomes.{refused-okay, okay-same}

-- the state is on a branch that is visited
abbrev pub InWay : Labels → Option View → State → Type 0
InWay e None s = ⊥
InWay e (Some b) s = HoldsIn e b s

-- the test has a result, and the state is on its branch
abbrev pub Splits : Labels → State → Split → Result Bool ℕ → Type 0
Splits e s w r = (t : Bool) × (r ≡ Ok t) × InWay e (if t then w.1 else w.0) s

-- ---- contained values of each kind

frame_held : (e : Labels) (rooms : List Room) (o : Num) (l : Option Label) (x : Value) → Holds e rooms (Frame o l) x →
    (n : ℕ) × (x ≡ value.Pointer region.Frame n) × InNum o n × LabelHolds e rooms l n
frame_held e rooms o l (value.Pointer region.Frame n) h = (n, refl, h.0, h.1)
frame_held e rooms o l x h = absurd h

pointer_held : (e : Labels) (rooms : List Room) (r : AbsRegion) (o : Num) (x : Value) → Holds e rooms (Pointer r o) x → (q : Region) × (n : ℕ) × (x ≡ value.Pointer q n)
pointer_held e rooms r o (value.Pointer q n) h = (q, n, refl)
pointer_held e rooms r o x h = absurd h

end_held : (e : Labels) (rooms : List Room) (x : Value) → Holds e rooms FrameEnd x → x ≡ value.FrameEnd
end_held e rooms value.FrameEnd h = refl
end_held e rooms x h = absurd h

-- a pointer to the start of an entry
abbrev Found : Labels → ℕ → Value → Type 0
Found e map x = (q : Region) × (n : ℕ) × (x ≡ value.Pointer q n) × RegionHolds e (place.Entry map) q × (n ≡ 0)

lookup_held : (e : Labels) (rooms : List Room) (map : ℕ) (x : Value) → Holds e rooms (Lookup map) x → (x ≡ value.Number 0) ⊎ Found e map x
lookup_held e rooms map (value.Number n) h = inl (ap value.Number h)
lookup_held e rooms map (value.Pointer (region.Entry k index) n) h = inr (region.Entry k index, n, refl, (h.0, h.1), h.2)
lookup_held e rooms map x h = absurd h

-- ---- null tests

no-some : (t : Bool) → ◌≡◌ {A = Option Bool} None (Some t) → ⊥
no-some t e = cc

some-same : (t u : Bool) → ◌≡◌ {A = Option Bool} (Some t) (Some u) → t ≡ u
some-same t u e = cc

null_cases : (compare : Compare) (zero t : Bool) → null_test compare zero ≡ Some t → (zero ≡ true) × (null_value compare zero ≡ Ok t) × (holds 64 compare 0 0 ≡ not t)
null_cases Eq true t e = let same = some-same false t e in (refl, ap (λ b. Ok b) same, ap not same)
null_cases Eq false t e = absurd (no-some t e)
null_cases Ne true t e = let same = some-same true t e in (refl, ap (λ b. Ok b) same, ap not same)
null_cases Ne false t e = absurd (no-some t e)
null_cases compare zero t e = absurd (no-some t e)

zero_source : (s : State) (src : Source) (n : ℕ) → is_zero src ≡ true → source_of s src ≡ value.Number n → n ≡ 0
zero_source s (source.Imm i) n z e = let zero = eqb-true (word_of i) 0 z in cc
zero_source s (source.Reg r) n z e = absurd (false≢true z)

-- ---- tests with the frame end

order_test : Compare → ℕ → ℕ → Bool
order_test Gt x y = nat_lt y x
order_test Ge x y = nat_le y x
order_test Lt x y = nat_lt x y
order_test compare x y = nat_le x y

-- what a branch tells of an offset and the length
abbrev Says : Lesson → ℕ → ℕ → Type 0
Says Nothing x y = Unit {0}
Says AtMost x y = x ≤ y
Says Below x y = x < y

teaches : (compare : Compare) (t : Bool) (x y : ℕ) → order_test compare x y ≡ t → Says (lesson compare t) x y
unfolding order_test
teaches Gt true x y e = tt
teaches Gt false x y e = ltb-false y x e
teaches Ge true x y e = tt
teaches Ge false x y e = leb-false y x e
teaches Lt true x y e = ltb-true x y e
teaches Lt false x y e = tt
teaches Le true x y e = leb-true x y e
teaches Le false x y e = tt
teaches compare t x y e = tt

no-order : (c : Compare) → ◌≡◌ {A = Option Compare} None (Some c) → ⊥
no-order c e = cc

order-same : (b c : Compare) → ◌≡◌ {A = Option Compare} (Some b) (Some c) → b ≡ c
order-same b c e = cc

ordered_value : (compare c : Compare) (x y : ℕ) → is_order compare ≡ Some c → end_value compare x y ≡ Ok (order_test c x y)
unfolding order_test
ordered_value Gt c x y e = subst (λ d. end_value Gt x y ≡ Ok (order_test d x y)) (order-same Gt c e) refl
ordered_value Ge c x y e = subst (λ d. end_value Ge x y ≡ Ok (order_test d x y)) (order-same Ge c e) refl
ordered_value Lt c x y e = subst (λ d. end_value Lt x y ≡ Ok (order_test d x y)) (order-same Lt c e) refl
ordered_value Le c x y e = subst (λ d. end_value Le x y ≡ Ok (order_test d x y)) (order-same Le c e) refl
ordered_value compare c x y e = absurd (no-order c e)

turned_value : (compare c : Compare) (x y : ℕ) → turned compare ≡ Some c → end_value compare y x ≡ Ok (order_test c x y)
unfolding order_test
turned_value Gt c x y e = subst (λ d. end_value Gt y x ≡ Ok (order_test d x y)) (order-same Lt c e) refl
turned_value Ge c x y e = subst (λ d. end_value Ge y x ≡ Ok (order_test d x y)) (order-same Le c e) refl
turned_value Lt c x y e = subst (λ d. end_value Lt y x ≡ Ok (order_test d x y)) (order-same Gt c e) refl
turned_value Le c x y e = subst (λ d. end_value Le y x ≡ Ok (order_test d x y)) (order-same Ge c e) refl
turned_value compare c x y e = absurd (no-order c e)

end_test_is : (a : View) (o : Num) (l : Option Label) (c : Option Compare) (w : Split) → end_test a o l c ≡ Ok w → (d : Compare) × (c ≡ Some d) × (end_ways a o l d ≡ w)
end_test_is a o l None w e = absurd (refused-okay _ w e)
end_test_is a o l (Some d) w e = (d, refl, okay-same _ w e)

low_half : (n : ℕ) → n % 2 ^ 32 % 2 ^ 32 ≡ n % 2 ^ 32
low_half n = omega arith

module _ (e : Labels) (a : View) (s : State) (h : HoldsIn e a s) where
  -- ---- numbers

  -- the source is a number, or the immediate that is compared
  abbrev Linked : Source → ℕ → Type 0
  Linked (source.Imm i) n = Unit {0}
  Linked (source.Reg r) n = reg s r ≡ value.Number n

  abbrev Narrows : Option (Num × Num) → ℕ → ℕ → Type 0
  Narrows o m n = (r : Num × Num) × (o ≡ Some r) × InNum r.0 m × InNum r.1 n

  narrows : (wide : Bool) (compare : Compare) (itself t : Bool) (x y : Num) (m n : ℕ) → InNum x m → InNum y n → compares wide compare m n ≡ t →
      Narrows (narrowed wide compare itself t x y) m n
  narrows wide compare itself t x y m n hx hy k = by_test (itself && not (is_single x))
    where
      by_test : (b : Bool) → Narrows (if b then Some (x, y) else num_branch wide compare t x y) m n
      by_test true = ((x, y), refl, hx, hy)
      by_test false = branch_keeps wide compare t x y m n hx hy k

  sources : (b : View) (src : Source) (n : ℕ) (y : Num) → HoldsIn e b s → Linked src n → InNum y n → HoldsIn e (with_source b src y) s
  sources b (source.Imm i) n y k l hy = k
  sources b (source.Reg r) n y k l hy = refinement_holds e b s r (Number y) k (subst (Holds e b.rooms (Number y)) (sym l) hy)

  numbers_way : (wide : Bool) (compare : Compare) (t : Bool) (dst : ℕ) (src : Source) (x y : Num) (m n : ℕ) → reg s dst ≡ value.Number m → Linked src n →
      InNum x m → InNum y n → compares wide compare m n ≡ t → InWay e (number_way a wide compare t dst src x y) s
  numbers_way wide compare t dst src x y m n is l hx hy k =
      let r = narrows wide compare (is_itself dst src) t x y m n hx hy k in
      subst (λ o. InWay e (with_operands a dst src o) s) (sym r.1)
      (sources (with_register a dst (Number r.0.0)) src n r.0.1 (refinement_holds e a s dst (Number r.0.0) h (subst (Holds e a.rooms (Number r.0.0)) (sym is) r.2)) l r.3)

  numbers_split : (wide : Bool) (compare : Compare) (t : Bool) (dst : ℕ) (src : Source) (x y : Num) (m n : ℕ) → reg s dst ≡ value.Number m → Linked src n →
      InNum x m → InNum y n → compares wide compare m n ≡ t →
      InWay e (if t then (number_ways a wide compare dst src x y).1 else (number_ways a wide compare dst src x y).0) s
  numbers_split wide compare true dst src x y m n is l hx hy k = numbers_way wide compare true dst src x y m n is l hx hy k
  numbers_split wide compare false dst src x y m n is l hx hy k = numbers_way wide compare false dst src x y m n is l hx hy k

  -- ---- null tests

  set_way : (t : Bool) (set null : Option View) → InWay e set s → InWay e (if t then (by_null t set null).1 else (by_null t set null).0) s
  set_way true set null k = k
  set_way false set null k = k

  null_way : (t : Bool) (set null : Option View) → InWay e null s → InWay e (if not t then (by_null t set null).1 else (by_null t set null).0) s
  null_way true set null k = k
  null_way false set null k = k

  module _ (compare : Compare) (dst : ℕ) (src : Source) (size : ℕ) where
    -- the machine's test of both sides
    abbrev test : Result Bool ℕ
    test = wide_test compare size (is_zero src) (reg s dst) (source_of s src)

    test_is : (x y : Value) → reg s dst ≡ x → source_of s src ≡ y → test ≡ wide_test compare size (is_zero src) x y
    test_is x y p q = ap₂ (wide_test compare size (is_zero src)) p q

    set_splits : (t : Bool) (set null : Option View) (w : Split) (q : Region) (n k : ℕ) → null_test compare (is_zero src) ≡ Some t →
        reg s dst ≡ value.Pointer q n → source_of s src ≡ value.Number k → by_null t set null ≡ w → InWay e set s → Splits e s w test
    set_splits t set null w q n k e1 is from same way =
        (t, test_is _ _ is from ∙ (null_cases compare (is_zero src) t e1).1, subst (λ (v : Split). InWay e (if t then v.1 else v.0) s) same (set_way t set null way))

    null_splits : (t : Bool) (set null : Option View) (w : Split) (k : ℕ) → null_test compare (is_zero src) ≡ Some t →
        reg s dst ≡ value.Number 0 → source_of s src ≡ value.Number k → by_null t set null ≡ w → InWay e null s → Splits e s w test
    null_splits t set null w k e1 is from same way =
        let c = null_cases compare (is_zero src) t e1 in
        let zero = zero_source s src k c.0 from in
        (not t, test_is _ _ is (from ∙ ap value.Number zero) ∙ ap (λ b. Ok b) c.2, subst (λ (v : Split). InWay e (if not t then v.1 else v.0) s) same (null_way t set null way))

    lookup_splits : (map k : ℕ) (o : Option Bool) (w : Split) → null_test compare (is_zero src) ≡ o → lookup_ways a dst map o ≡ Ok w →
        (reg s dst ≡ value.Number 0) ⊎ Found e map (reg s dst) → source_of s src ≡ value.Number k → Splits e s w test
    lookup_splits map k None w e1 g found from = absurd (refused-okay _ w g)
    lookup_splits map k (Some t) w e1 g (inl is) from =
        null_splits t _ _ w k e1 is from (okay-same _ w g) (refinement_holds e a s dst (Number (num_single 0)) h (subst (Holds e a.rooms (Number (num_single 0))) (sym is) (single_keeps 0 (omega arith))))
    lookup_splits map k (Some t) w e1 g (inr found) from =
        set_splits t _ _ w found.0 found.1 k e1 found.2 from (okay-same _ w g)
        (refinement_holds e a s dst (Pointer (place.Entry map) (num_single 0)) h (subst (Holds e a.rooms (Pointer (place.Entry map) (num_single 0))) (sym found.2)
        (found.3, subst (InNum (num_single 0)) (sym found.4) (single_keeps 0 (omega arith)))))

    pointer_splits : (q : Region) (n k : ℕ) (o : Option Bool) (w : Split) → null_test compare (is_zero src) ≡ o → pointer_ways a o ≡ Ok w →
        reg s dst ≡ value.Pointer q n → source_of s src ≡ value.Number k → Splits e s w test
    pointer_splits q n k None w e1 g is from = absurd (refused-okay _ w g)
    pointer_splits q n k (Some t) w e1 g is from = set_splits t (Some a) None w q n k e1 is from (okay-same _ w g) h

  -- ---- tests with the frame end

  module _ (short : length e.setting.frame ≤ 2400) (o : Num) (x : ℕ) (ho : InNum o x) where
    reach : (b : View) (l : Option Label) (more : ℕ) → HoldsIn e b s → LabelHolds e a.rooms l x → x + more ≤ length e.setting.frame → HoldsIn e (with_reach b o l more) s
    reach b None more k hl fits = k
    reach b (Some l) more k hl fits =
        cond_both (nat_le l.distance o.range.low) (with_room b l.label (l.distance + more)) b (λ c. HoldsIn e c s)
        (λ near. rooms_hold e b s l.label (l.distance + more)
        (let behind = leb-true l.distance o.range.low near in omega (arith, behind, ho.within.above, fits, short, hl.word, hl.far)) k)
        (λ far. k)

    learns : (l : Option Label) (more : ℕ) → LabelHolds e a.rooms l x → x + more ≤ length e.setting.frame → InWay e (learnt a o l more) s
    learns l more hl fits =
        let below : o.range.low + more ≤ length e.setting.frame = omega (arith, ho.within.above, fits) in
        let limit : nat_le (o.range.low + more) 2400 ≡ true = le-leb _ _ (omega (arith, below, short)) in
        subst (λ (b : Bool). InWay e (if b then Some (with_reach (with_least a (o.range.low + more)) o l more) else None) s) (sym limit)
        (reach (with_least a (o.range.low + more)) l more (least_holds e a s (o.range.low + more) below h) hl fits)

    taught_way : (l : Option Label) (m : Lesson) → LabelHolds e a.rooms l x → Says m x (length e.setting.frame) → InWay e (taught a o l m) s
    taught_way l Nothing hl k = h
    taught_way l AtMost hl k = learns l 0 hl (omega (arith, k))
    taught_way l Below hl k = learns l 1 hl (omega (arith, k))

    end_way : (l : Option Label) (c : Compare) (t : Bool) → LabelHolds e a.rooms l x → order_test c x (length e.setting.frame) ≡ t →
        InWay e (if t then (end_ways a o l c).1 else (end_ways a o l c).0) s
    end_way l c true hl k = taught_way l (lesson c true) hl (teaches c true x (length e.setting.frame) k)
    end_way l c false hl k = taught_way l (lesson c false) hl (teaches c false x (length e.setting.frame) k)

  -- ---- all of them

  source_holds : (src : Source) → IsSource src → Holds e a.rooms (compared_value true a src) (source_of s src)
  source_holds (source.Imm i) k = single_keeps (word_of i) (word_fits i k)
  source_holds (source.Reg r) k = registers_hold e a s r h

  linked : (src : Source) (n : ℕ) → source_of s src ≡ value.Number n → Linked src n
  linked (source.Imm i) n k = tt
  linked (source.Reg r) n k = k

  module _ (short : length e.setting.frame ≤ 2400) (compare : Compare) (dst : ℕ) (src : Source) where
    abbrev wide_result : Result Bool ℕ
    wide_result = wide_test compare (length e.setting.frame) (is_zero src) (reg s dst) (source_of s src)

    end_splits : (o : Num) (l : Option Label) (x : ℕ) (c : Compare) (w : Split) → InNum o x → LabelHolds e a.rooms l x → end_ways a o l c ≡ w →
        wide_result ≡ Ok (order_test c x (length e.setting.frame)) → Splits e s w wide_result
    end_splits o l x c w ho hl same is = (
      order_test c x (length e.setting.frame),
      is,
      subst (λ (v : Split). InWay e (if order_test c x (length e.setting.frame) then v.1 else v.0) s) same
          (end_way short o x ho l c (order_test c x (length e.setting.frame)) hl refl),
    )

    wide_splits : (v u : AbsVal) (w : Split) → Holds e a.rooms v (reg s dst) → Holds e a.rooms u (source_of s src) → wide_ways a compare dst src v u ≡ Ok w → Splits e s w wide_result
    wide_splits (Number x) (Number y) w hv hu g =
        let m = number_held e a.rooms x (reg s dst) hv in
        let n = number_held e a.rooms y (source_of s src) hu in
        let t = holds 64 compare m.0 n.0 in (
          t,
          test_is compare dst src (length e.setting.frame) _ _ m.1 n.1,
          subst (λ (v : Split). InWay e (if t then v.1 else v.0) s) (okay-same _ w g)
              (numbers_split true compare t dst src x y m.0 n.0 m.1 (linked src n.0 n.1) m.2 n.2 refl),
        )
    wide_splits (Lookup map) (Number y) w hv hu g =
        let n = number_held e a.rooms y (source_of s src) hu in
        lookup_splits compare dst src (length e.setting.frame) map n.0 _ w refl g (lookup_held e a.rooms map (reg s dst) hv) n.1
    wide_splits (Frame o l) (Number y) w hv hu g =
        let n = number_held e a.rooms y (source_of s src) hu in
        let x = frame_held e a.rooms o l (reg s dst) hv in
        pointer_splits compare dst src (length e.setting.frame) region.Frame x.0 n.0 _ w refl g x.1 n.1
    wide_splits (Pointer r o) (Number y) w hv hu g =
        let n = number_held e a.rooms y (source_of s src) hu in
        let x = pointer_held e a.rooms r o (reg s dst) hv in
        pointer_splits compare dst src (length e.setting.frame) x.0 x.1 n.0 _ w refl g x.2 n.1
    wide_splits (Frame o l) FrameEnd w hv hu g =
        let x = frame_held e a.rooms o l (reg s dst) hv in
        let c = end_test_is a o l (is_order compare) w g in
        end_splits o l x.0 c.0 w x.2 x.3 c.2
        (test_is compare dst src (length e.setting.frame) _ _ x.1 (end_held e a.rooms (source_of s src) hu) ∙ ordered_value compare c.0 x.0 (length e.setting.frame) c.1)
    wide_splits FrameEnd (Frame o l) w hv hu g =
        let x = frame_held e a.rooms o l (source_of s src) hu in
        let c = end_test_is a o l (turned compare) w g in
        end_splits o l x.0 c.0 w x.2 x.3 c.2
        (test_is compare dst src (length e.setting.frame) _ _ (end_held e a.rooms (reg s dst) hv) x.1 ∙ turned_value compare c.0 x.0 (length e.setting.frame) c.1)
    wide_splits v u w hv hu g = absurd (refused-okay _ w g)

  -- JMP32 compares the low half of an immediate
  narrow_numbers : (compare : Compare) (dst : ℕ) (src : Source) (x y : Num) (m n k : ℕ) (w : Split) → reg s dst ≡ value.Number m → source_of s src ≡ value.Number k → Linked src n →
      n % 2 ^ 32 ≡ k % 2 ^ 32 → InNum x m → InNum y n → number_ways a false compare dst src x y ≡ w → Splits e s w (narrow_test compare (reg s dst) (source_of s src))
  narrow_numbers compare dst src x y m n k w is from link low hx hy g =
      let t = holds 32 compare (m % 2 ^ 32) (k % 2 ^ 32) in (
        t,
        ap₂ (narrow_test compare) is from,
        subst (λ (v : Split). InWay e (if t then v.1 else v.0) s) g
            (numbers_split false compare t dst src x y m n is link hx hy (ap (holds 32 compare (m % 2 ^ 32)) low)),
      )

  narrow_registers : (compare : Compare) (dst r : ℕ) (v u : AbsVal) (w : Split) → Holds e a.rooms v (reg s dst) → Holds e a.rooms u (reg s r) →
      narrow_ways a compare dst (source.Reg r) v u ≡ Ok w → Splits e s w (narrow_test compare (reg s dst) (reg s r))
  narrow_registers compare dst r (Number x) (Number y) w hv hu g =
      let m = number_held e a.rooms x (reg s dst) hv in
      let n = number_held e a.rooms y (reg s r) hu in
      narrow_numbers compare dst (source.Reg r) x y m.0 n.0 n.0 w m.1 n.1 n.1 refl m.2 n.2 (okay-same _ w g)
  narrow_registers compare dst r v u w hv hu g = absurd (refused-okay _ w g)

  narrow_splits : (compare : Compare) (dst : ℕ) (src : Source) (v : AbsVal) (w : Split) → Holds e a.rooms v (reg s dst) →
      narrow_ways a compare dst src v (compared_value false a src) ≡ Ok w → Splits e s w (narrow_test compare (reg s dst) (source_of s src))
  narrow_splits compare dst (source.Reg r) v w hv g = narrow_registers compare dst r v (register a r) w hv (registers_hold e a s r h) g
  narrow_splits compare dst (source.Imm i) (Number x) w hv g =
      let m = number_held e a.rooms x (reg s dst) hv in
      let n = word_of i % 2 ^ 32 in
      narrow_numbers compare dst (source.Imm i) x (num_single n) m.0 n (word_of i) w m.1 refl tt (low_half (word_of i)) m.2 (single_keeps n (omega arith)) (okay-same _ w g)
  narrow_splits compare dst (source.Imm i) v w hv g = absurd (refused-okay _ w g)

  pub split_holds : (short : length e.setting.frame ≤ 2400) (wide : Bool) (compare : Compare) (dst : ℕ) (src : Source) (w : Split) → IsSource src → split a wide compare dst src ≡ Ok w →
      Splits e s w (taken compare wide (length e.setting.frame) (is_zero src) (reg s dst) (source_of s src))
  split_holds short true compare dst src w k g =
      wide_splits short compare dst src (register a dst) (compared_value true a src) w (registers_hold e a s dst h) (source_holds src k) g
  split_holds short false compare dst src w k g = narrow_splits compare dst src (register a dst) w (registers_hold e a s dst h) g
