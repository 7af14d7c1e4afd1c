-- Operations on contained values.
use Rattle.std.proofs.Common.{◌≡◌, ℕ, List, ◌+◌, ◌^◌, ◌%◌, Bool, true, false, not, true≢false, Option, Some, Result, Ok, refl, sym, subst, if◌then◌else◌}
use Rattle.bpf_insn.specs.declared.insn.AluOp.{AluOp}
use Rattle.bpf_insn.specs.declared.insn.AluOp.TheVariants.{Add, Sub, Mov}
use Rattle.bpf_words.specs.Word.{word_add, word_sub}
use Rattle.bpf_regions.specs.declared.memory.Value.{Value}
use Rattle.bpf_regions.specs.declared.memory.Value.TheVariants as value
use Rattle.bpf_regions.specs.declared.memory.Region.TheVariants as region
use Rattle.bpf_model.specs.Alu.{computed, alu as alu_value, numbers as numbers_value, sum as sum_value, difference as difference_value, moved as moved_value}
use Rattle.bpf_absnum.proofs.Instructions.{alu_keeps}
use Rattle.bpf_absnum.specs.Number.{Num, InNum, is_single}
use Rattle.bpf_absnum.specs.Transfer.{num_alu}
use Rattle.bpf_absval.specs.declared.value.AbsRegion.{AbsRegion}
use Rattle.bpf_absval.specs.declared.value.AbsVal.{AbsVal}
use Rattle.bpf_absval.specs.declared.value.AbsVal.TheVariants.{Unset, Number, Frame, Pointer}
use Rattle.bpf_absval.specs.declared.value.Label.{Label}
use Rattle.bpf_absval.specs.declared.room.Room.{Room}
use Rattle.bpf_absval.specs.Meaning.{Labels, Holds, LabelHolds}
use Rattle.bpf_rules.specs.Operands.{is_unset, numbers, sum, difference, moved, alu, label_after, label_moved, is_variable, makes_label}
use Rattle.bpf_rules.proofs.Outcomes.{refused-okay, okay-same}
use Rattle.bpf_sound_flow.proofs.Labels.{Moves, add_moves, sub_moves, is_low, label_moves}

-- the result is contained, if a new label names its position
abbrev pub Made : Labels → List Room → ℕ → Bool → AbsVal → Value → Type 0
Made e rooms pc false v x = Holds e rooms v x
Made e rooms pc true v x = (o : Num) × (n : ℕ) × (v ≡ Frame o (Some (record { label = pc + 1; distance = 0 }))) × (x ≡ value.Pointer region.Frame n) × InNum o n

-- an operation of the machine gives a value that v contains
abbrev Gives : Labels → List Room → Result Value ℕ → AbsVal → Type 0
Gives e rooms r v = (x : Value) × (r ≡ Ok x) × Holds e rooms v x

abbrev pub Makes : Labels → List Room → ℕ → Bool → Result Value ℕ → AbsVal → Type 0
Makes e rooms pc b r v = (x : Value) × (r ≡ Ok x) × Made e rooms pc b v x

-- an abstract number contains only numbers
pub number_held : (e : Labels) (rooms : List Room) (n : Num) (x : Value) → Holds e rooms (Number n) x → (m : ℕ) × (x ≡ value.Number m) × InNum n m
number_held e rooms n (value.Number m) h = (m, refl, h)
number_held e rooms n x h = absurd h

-- a set value moves
moves_set : (e : Labels) (rooms : List Room) (v : AbsVal) (x : Value) → is_unset v ≡ false → Holds e rooms v x → moved_value true x ≡ Ok x
moves_set e rooms v (value.Number m) u h = refl
moves_set e rooms v (value.Pointer r o) u h = refl
moves_set e rooms v value.FrameEnd u h = refl
moves_set e rooms v (value.MapReference m) u h = refl
moves_set e rooms Unset value.Unset u h = absurd (true≢false u)
moves_set e rooms v value.Unset u h = absurd h

module _ (e : Labels) (rooms : List Room) where
  moves_number : (wide : Bool) (n : Num) (y : Value) → Holds e rooms (Number n) y → Gives e rooms (moved_value wide y) (Number (num_alu wide Mov n n))
  moves_number true n (value.Number m) h = (value.Number m, refl, alu_keeps true Mov n n m m h h)
  moves_number false n (value.Number m) h = (value.Number (m % 2 ^ 32), refl, alu_keeps false Mov n n m m h h)
  moves_number wide n y h = absurd h

  moves_value : (v w : AbsVal) (y : Value) → is_unset v ≡ false → Holds e rooms v y → v ≡ w → Gives e rooms (moved_value true y) w
  moves_value v w y u h k = (y, moves_set e rooms v y u h, subst (λ z. Holds e rooms z y) k h)

  moved_holds : (wide : Bool) (b v : AbsVal) (y : Value) → Holds e rooms b y → moved wide b ≡ Ok v → Gives e rooms (moved_value wide y) v
  moved_holds wide Unset v y h k = absurd (refused-okay _ v k)
  moved_holds wide (Number n) v y h k = subst (Gives e rooms (moved_value wide y)) (okay-same _ v k) (moves_number wide n y h)
  moved_holds true b v y h k = moves_value _ v y refl h (okay-same _ v k)
  moved_holds false b v y h k = absurd (refused-okay _ v k)

  both_numbers : (wide : Bool) (op : AluOp) (m n : Num) (x y : Value) → Holds e rooms (Number m) x → Holds e rooms (Number n) y →
      Gives e rooms (numbers_value wide op x y) (Number (num_alu wide op m n))
  both_numbers wide op m n (value.Number x) (value.Number y) h k = (value.Number (computed wide op x y), refl, alu_keeps wide op m n x y h k)
  both_numbers wide op m n (value.Number x) y h k = absurd k
  both_numbers wide op m n x y h k = absurd h

  numbers_hold : (wide : Bool) (op : AluOp) (a b v : AbsVal) (x y : Value) → Holds e rooms a x → Holds e rooms b y → numbers wide op a b ≡ Ok v →
      Gives e rooms (numbers_value wide op x y) v × (is_variable a b ≡ false)
  numbers_hold wide op (Number m) (Number n) v x y h k g = (subst (Gives e rooms (numbers_value wide op x y)) (okay-same _ v g) (both_numbers wide op m n x y h k), refl)
  numbers_hold wide op a b v x y h k g = absurd (refused-okay _ v g)

  -- a frame pointer moved by a number, with its label or a new one
  frame_moves : (pc : ℕ) (f : ℕ → ℕ → ℕ) (o n : Num) (l : Option Label) (x c : ℕ) → Moves f → InNum n c → LabelHolds e rooms l x → InNum o (f x c) →
      Made e rooms pc (not (is_single n)) (Frame o (label_after pc f n l)) (value.Pointer region.Frame (f x c))
  frame_moves pc f o n l x c moves h k i = by_size (is_single n) refl
    where
      by_size : (b : Bool) → is_single n ≡ b → Made e rooms pc (not b) (Frame o (if b then label_moved f n.range.low l else Some (record { label = pc + 1; distance = 0 }))) (value.Pointer region.Frame (f x c))
      by_size true s = (i, subst (λ d. LabelHolds e rooms (label_moved f d l) (f x c)) (is_low n c h s) (label_moves e rooms f l x c moves h.known.is_word k))
      by_size false s = (o, f x c, refl, refl, i)

  -- ---- sums

  module _ (pc : ℕ) where
    number_and_frame : (n o : Num) (l : Option Label) (x y : Value) → Holds e rooms (Number n) x → Holds e rooms (Frame o l) y →
        Makes e rooms pc (not (is_single n)) (sum_value x y) (Frame (num_alu true Add o n) (label_after pc word_add n l))
    number_and_frame n o l (value.Number c) (value.Pointer region.Frame x) h k =
        (value.Pointer region.Frame (word_add x c), refl, frame_moves pc word_add (num_alu true Add o n) n l x c add_moves h k.1 (alu_keeps true Add o n x c k.0 h))
    number_and_frame n o l (value.Number c) y h k = absurd k
    number_and_frame n o l x y h k = absurd h

    frame_and_number : (o n : Num) (l : Option Label) (x y : Value) → Holds e rooms (Frame o l) x → Holds e rooms (Number n) y →
        Makes e rooms pc (not (is_single n)) (sum_value x y) (Frame (num_alu true Add o n) (label_after pc word_add n l))
    frame_and_number o n l (value.Pointer region.Frame x) (value.Number c) h k =
        (value.Pointer region.Frame (word_add x c), refl, frame_moves pc word_add (num_alu true Add o n) n l x c add_moves k h.1 (alu_keeps true Add o n x c h.0 k))
    frame_and_number o n l (value.Pointer region.Frame x) y h k = absurd k
    frame_and_number o n l x y h k = absurd h

    frame_less_number : (o n : Num) (l : Option Label) (x y : Value) → Holds e rooms (Frame o l) x → Holds e rooms (Number n) y →
        Makes e rooms pc (not (is_single n)) (difference_value x y) (Frame (num_alu true Sub o n) (label_after pc word_sub n l))
    frame_less_number o n l (value.Pointer region.Frame x) (value.Number c) h k =
        (value.Pointer region.Frame (word_sub x c), refl, frame_moves pc word_sub (num_alu true Sub o n) n l x c sub_moves k h.1 (alu_keeps true Sub o n x c h.0 k))
    frame_less_number o n l (value.Pointer region.Frame x) y h k = absurd k
    frame_less_number o n l x y h k = absurd h

    number_and_pointer : (n o : Num) (r : AbsRegion) (x y : Value) → Holds e rooms (Number n) x → Holds e rooms (Pointer r o) y →
        Gives e rooms (sum_value x y) (Pointer r (num_alu true Add o n))
    number_and_pointer n o r (value.Number c) (value.Pointer s x) h k = (value.Pointer s (word_add x c), refl, (k.0, alu_keeps true Add o n x c k.1 h))
    number_and_pointer n o r (value.Number c) y h k = absurd k
    number_and_pointer n o r x y h k = absurd h

    pointer_and_number : (o n : Num) (r : AbsRegion) (x y : Value) → Holds e rooms (Pointer r o) x → Holds e rooms (Number n) y →
        Gives e rooms (sum_value x y) (Pointer r (num_alu true Add o n))
    pointer_and_number o n r (value.Pointer s x) (value.Number c) h k = (value.Pointer s (word_add x c), refl, (h.0, alu_keeps true Add o n x c h.1 k))
    pointer_and_number o n r (value.Pointer s x) y h k = absurd k
    pointer_and_number o n r x y h k = absurd h

    pointer_less_number : (o n : Num) (r : AbsRegion) (x y : Value) → Holds e rooms (Pointer r o) x → Holds e rooms (Number n) y →
        Gives e rooms (difference_value x y) (Pointer r (num_alu true Sub o n))
    pointer_less_number o n r (value.Pointer s x) (value.Number c) h k = (value.Pointer s (word_sub x c), refl, (h.0, alu_keeps true Sub o n x c h.1 k))
    pointer_less_number o n r (value.Pointer s x) y h k = absurd k
    pointer_less_number o n r x y h k = absurd h

    sum_of_numbers : (m n : Num) (x y : Value) → Holds e rooms (Number m) x → Holds e rooms (Number n) y → Gives e rooms (sum_value x y) (Number (num_alu true Add m n))
    sum_of_numbers m n (value.Number x) (value.Number y) h k = (value.Number (word_add x y), refl, alu_keeps true Add m n x y h k)
    sum_of_numbers m n (value.Number x) y h k = absurd k
    sum_of_numbers m n x y h k = absurd h

    difference_of_numbers : (m n : Num) (x y : Value) → Holds e rooms (Number m) x → Holds e rooms (Number n) y → Gives e rooms (difference_value x y) (Number (num_alu true Sub m n))
    difference_of_numbers m n (value.Number x) (value.Number y) h k = (value.Number (word_sub x y), refl, alu_keeps true Sub m n x y h k)
    difference_of_numbers m n (value.Number x) y h k = absurd k
    difference_of_numbers m n x y h k = absurd h

    sum_holds : (a b v : AbsVal) (x y : Value) → Holds e rooms a x → Holds e rooms b y → sum pc a b ≡ Ok v → Makes e rooms pc (is_variable a b) (sum_value x y) v
    sum_holds (Number m) (Number n) v x y h k g = subst (Gives e rooms (sum_value x y)) (okay-same _ v g) (sum_of_numbers m n x y h k)
    sum_holds (Number n) (Frame o l) v x y h k g = subst (Makes e rooms pc (not (is_single n)) (sum_value x y)) (okay-same _ v g) (number_and_frame n o l x y h k)
    sum_holds (Frame o l) (Number n) v x y h k g = subst (Makes e rooms pc (not (is_single n)) (sum_value x y)) (okay-same _ v g) (frame_and_number o n l x y h k)
    sum_holds (Number n) (Pointer r o) v x y h k g = subst (Gives e rooms (sum_value x y)) (okay-same _ v g) (number_and_pointer n o r x y h k)
    sum_holds (Pointer r o) (Number n) v x y h k g = subst (Gives e rooms (sum_value x y)) (okay-same _ v g) (pointer_and_number o n r x y h k)
    sum_holds a b v x y h k g = absurd (refused-okay _ v g)

    difference_holds : (a b v : AbsVal) (x y : Value) → Holds e rooms a x → Holds e rooms b y → difference pc a b ≡ Ok v → Makes e rooms pc (is_variable a b) (difference_value x y) v
    difference_holds (Number m) (Number n) v x y h k g = subst (Gives e rooms (difference_value x y)) (okay-same _ v g) (difference_of_numbers m n x y h k)
    difference_holds (Frame o l) (Number n) v x y h k g = subst (Makes e rooms pc (not (is_single n)) (difference_value x y)) (okay-same _ v g) (frame_less_number o n l x y h k)
    difference_holds (Pointer r o) (Number n) v x y h k g = subst (Gives e rooms (difference_value x y)) (okay-same _ v g) (pointer_less_number o n r x y h k)
    difference_holds a b v x y h k g = absurd (refused-okay _ v g)

    -- without a new label
    plainly : (op : AluOp) (a b v : AbsVal) (r : Result Value ℕ) → Gives e rooms r v × (is_variable a b ≡ false) → Makes e rooms pc (is_variable a b) r v
    plainly op a b v r h = subst (λ t. Makes e rooms pc t r v) (sym h.1) h.0

    pub alu_holds : (op : AluOp) (wide : Bool) (a b v : AbsVal) (x y : Value) → Holds e rooms a x → Holds e rooms b y → alu pc op wide a b ≡ Ok v →
        Makes e rooms pc (makes_label op a b) (alu_value op wide x y) v
    alu_holds Mov wide a b v x y h k g = moved_holds wide b v y k g
    alu_holds Add true a b v x y h k g = sum_holds a b v x y h k g
    alu_holds Add false a b v x y h k g = plainly Add a b v (numbers_value false Add x y) (numbers_hold false Add a b v x y h k g)
    alu_holds Sub true a b v x y h k g = difference_holds a b v x y h k g
    alu_holds Sub false a b v x y h k g = plainly Sub a b v (numbers_value false Sub x y) (numbers_hold false Sub a b v x y h k g)
    alu_holds op wide a b v x y h k g = (numbers_hold wide op a b v x y h k g).0
