-- The text of an instruction is read as that instruction.
use Rattle.std.specs.Prelude.{◌≡◌, ◌≢◌, length, slice_index, ◌<◌, ◌≤◌, ◌^◌, ℕ, ℤ, pos, negsuc, suc, List, [], ◌∷◌, ◌++◌, codes, refl, Ok, Some, FitsSigned}
use Rattle.std.proofs.Common.{rules, arith, ◌∙◌, ap}
use Rattle.std.specs.Int.{w16, w32, cast_signed, cast_unsigned}
use Rattle.std.specs.Fmt.{decimal, signed_decimal}
use Rattle.bpf_insn.specs.declared.insn.Source.{Source}
use Rattle.bpf_insn.specs.declared.insn.Source.TheVariants as source
use Rattle.bpf_insn.specs.declared.insn.Wide.TheVariants as wide
use Rattle.bpf_insn.specs.declared.insn.Insn.{Insn}
use Rattle.bpf_insn.specs.declared.insn.Insn.TheVariants as insn
use Rattle.bpf_insn.specs.Spelled.{IsInsn, IsSource}
use Rattle.bpf_line.specs.Words.{words}
use Rattle.bpf_line.specs.Lines.{said, line_said}
use Rattle.bpf_line.specs.Spellings.{text_of, alu_name, compare_name, atomic_name, extension_name, order_name, load_name, size_name, suffix, register_text, offset_text, source_text, memory_text, two_text, one_text}
use Rattle.bpf_line.proofs.Plain.{NoFeed, NoFeed-word, NoFeed-one, NoFeed-two, NoFeed-comma, NoFeed-at, Small, IsWord, IsWord-test, IsWord-decimal, IsWord-register, IsWord-offset, IsWord-signed, IsWord-memory, words-one, words-rest, words-spaced, words-two, words-three, words-alone}
use Rattle.bpf_line.proofs.Named.{IsWord-alu, two_said-alu, IsWord-compare, said-branch, IsWord-atomic, two_said-atomic, IsWord-extension, two_said-extension, IsWord-order, one_said-order, IsWord-load, two_said-load, IsWord-store, two_said-store, IsWord-store_register, two_said-store_register, IsWord-neg, one_said-neg}
use Rattle.bpf_line.proofs.Operand.{register-text, wide_number-decimal, imm-signed, imm-word, offset-text, long_offset-text, source-text, memory-text}

Small-16 : (x : ℤ) → FitsSigned w16 x → Small x
Small-16 (pos n) fits = let small : n < 2 ^ 15 = search rules in omega (arith, small)
Small-16 (negsuc n) fits = let small : suc n ≤ 2 ^ 15 = search rules in omega (arith, small)

Small-32 : (x : ℤ) → FitsSigned w32 x → Small x
Small-32 (pos n) fits = let small : n < 2 ^ 31 = search rules in omega (arith, small)
Small-32 (negsuc n) fits = let small : suc n ≤ 2 ^ 31 = search rules in omega (arith, small)

word-of_register : (r : ℕ) → r ≤ 10 → IsWord (register_text r)
word-of_register r h = IsWord-register r (omega arith)

word-of_source : (s : Source) → IsSource s → IsWord (source_text s)
word-of_source (source.Imm n) fits = IsWord-signed n (Small-32 n fits)
word-of_source (source.Reg r) fits = word-of_register r fits

word-of_memory : (r : ℕ) (x : ℤ) → r ≤ 10 → FitsSigned w16 x → IsWord (memory_text r x)
word-of_memory r x h fits = IsWord-memory r x (omega arith) (Small-16 x fits)

-- a line with two operands is read as its words are
two : (name a b : List ℕ) (i : Insn) → IsWord name → IsWord a → IsWord b → said (name ∷ a ∷ codes "," ∷ b ∷ []) ≡ Ok i → line_said (two_text name a b) ≡ Ok (Some i)
two name a b i n w v e = rw (words-two name a b n w v, e) refl

one : (name a : List ℕ) (i : Insn) → IsWord name → IsWord a → said (name ∷ a ∷ []) ≡ Ok i → line_said (one_text name a) ≡ Ok (Some i)
one name a i n w e = rw (words-one name a n w, e) refl

of_word : (w : List ℕ) → IsWord w → words w ≡ w ∷ []
of_word w h = words-alone w h.some h.plain

word-of_u32 : (n : ℕ) → n < 2 ^ 32 → IsWord (decimal n)
word-of_u32 n small = IsWord-decimal n (omega arith)

unsigned_of : (n : ℕ) → n < 2 ^ 32 → cast_unsigned w32 (cast_signed w32 n) ≡ n
unsigned_of n small = search rules

pub line_said-text : (i : Insn) → IsInsn i → line_said (text_of i) ≡ Ok (Some i)
line_said-text (insn.Alu op w d s) h =
    two (alu_name op ++ suffix w) (register_text d) (source_text s) _ (IsWord-alu op w) (word-of_register d h.0) (word-of_source s h.1)
    (two_said-alu op w (register_text d) (source_text s) ∙ rw (register-text d h.0, source-text s h.1) refl)
line_said-text (insn.MovSx e w d s) h =
    two (extension_name e w) (register_text d) (register_text s) _ (IsWord-extension e w) (word-of_register d h.1) (word-of_register s h.2)
    (two_said-extension e w (register_text d) (register_text s) h.0 ∙ rw (register-text d h.1, register-text s h.2) refl)
line_said-text (insn.Neg w d) h =
    one (codes "neg" ++ suffix w) (register_text d) _ (IsWord-neg w) (word-of_register d h) (one_said-neg w (register_text d) ∙ rw (register-text d h) refl)
line_said-text (insn.End o width d) h =
    one (order_name o width) (register_text d) _ (IsWord-order o width) (word-of_register d h) (one_said-order o width (register_text d) ∙ rw (register-text d h) refl)
line_said-text (insn.Jump x) h =
    one (codes "ja") (offset_text x) _ (IsWord-test _ refl) (IsWord-offset x (Small-16 x h)) (rw (offset-text x h) refl)
line_said-text (insn.JumpLong x) h =
    one (codes "ja32") (offset_text x) _ (IsWord-test _ refl) (IsWord-offset x (Small-32 x h)) (rw (long_offset-text x h) refl)
line_said-text (insn.Branch c w d s x) h =
    rw (
      words-three (compare_name c ++ suffix w) (register_text d) (source_text s) (offset_text x) (IsWord-compare c w) (word-of_register d h.0) (word-of_source s h.1) (IsWord-offset x (Small-16 x h.2)),
      said-branch c w (register_text d) (source_text s) (offset_text x),
      register-text d h.0,
      source-text s h.1,
      offset-text x h.2,
    ) refl
line_said-text (insn.Call helper) h =
    one (codes "call") (signed_decimal helper) _ (IsWord-test _ refl) (IsWord-signed helper (Small-32 helper h)) (rw (imm-signed helper h) refl)
line_said-text (insn.CallLocal x) h =
    let split = words-spaced (codes "call") (codes "local" ++ (32 ∷ offset_text x)) (IsWord-test _ refl)
    ∙ ap (λ ws. codes "call" ∷ ws) (words-spaced (codes "local") (offset_text x) (IsWord-test _ refl)
    ∙ ap (λ ws. codes "local" ∷ ws) (of_word (offset_text x) (IsWord-offset x (Small-32 x h)))) in
    rw (split, long_offset-text x h) refl
line_said-text insn.Exit h = rw (words-alone (codes "exit") (omega arith) (IsWord-test (codes "exit") refl).plain) refl
line_said-text (insn.Load z signed d s x) h =
    two (load_name z signed) (register_text d) (memory_text s x) _ (IsWord-load z signed) (word-of_register d h.1) (word-of_memory s x h.2 h.3)
    (two_said-load z signed (register_text d) (memory_text s x) h.0 ∙ rw (register-text d h.1, memory-text s x h.2 h.3) refl)
line_said-text (insn.Store z d x (source.Imm n)) h =
    two (codes "st" ++ size_name z) (memory_text d x) (signed_decimal n) _ (IsWord-store z) (word-of_memory d x h.0 h.2) (IsWord-signed n (Small-32 n h.1))
    (two_said-store z (memory_text d x) (signed_decimal n) ∙ rw (memory-text d x h.0 h.2, imm-signed n h.1) refl)
line_said-text (insn.Store z d x (source.Reg r)) h =
    two (codes "stx" ++ size_name z) (memory_text d x) (register_text r) _ (IsWord-store_register z) (word-of_memory d x h.0 h.2) (word-of_register r h.1)
    (two_said-store_register z (memory_text d x) (register_text r) ∙ rw (memory-text d x h.0 h.2, register-text r h.1) refl)
line_said-text (insn.Atomic op w d s x) h =
    two (atomic_name op ++ suffix w) (memory_text d x) (register_text s) _ (IsWord-atomic op w) (word-of_memory d x h.0 h.2) (word-of_register s h.1)
    (two_said-atomic op w (memory_text d x) (register_text s) ∙ rw (memory-text d x h.0 h.2, register-text s h.1) refl)
line_said-text (insn.LoadWide d (wide.Number n)) h =
    two (codes "lddw") (register_text d) (decimal n) _ (IsWord-test _ refl) (word-of_register d h.0) (IsWord-decimal n h.1)
    (rw (register-text d h.0, wide_number-decimal n h.1) refl)
line_said-text (insn.LoadWide d (wide.Map m)) h =
    let split = words-rest (codes "lddw") (register_text d) (codes "map " ++ decimal m) (IsWord-test _ refl) (word-of_register d h.0)
    ∙ ap (λ ws. codes "lddw" ∷ register_text d ∷ codes "," ∷ ws) (words-spaced (codes "map") (decimal m) (IsWord-test _ refl)
    ∙ ap (λ ws. codes "map" ∷ ws) (of_word (decimal m) (word-of_u32 m h.1))) in
    rw (split, register-text d h.0, imm-word m h.1, unsigned_of m h.1) refl
line_said-text (insn.LoadWide d (wide.MapValue m o)) h =
    let split = words-rest (codes "lddw") (register_text d) (codes "value " ++ (decimal m ++ (codes " " ++ decimal o))) (IsWord-test _ refl) (word-of_register d h.0)
    ∙ ap (λ ws. codes "lddw" ∷ register_text d ∷ codes "," ∷ ws) (words-spaced (codes "value") (decimal m ++ (32 ∷ decimal o)) (IsWord-test _ refl)
    ∙ ap (λ ws. codes "value" ∷ ws) (words-spaced (decimal m) (decimal o) (word-of_u32 m h.1.0)
    ∙ ap (λ ws. decimal m ∷ ws) (of_word (decimal o) (word-of_u32 o h.1.1)))) in
    rw (split, register-text d h.0, imm-word m h.1.0, imm-word o h.1.1, unsigned_of m h.1.0, unsigned_of o h.1.1) refl

flat_one : (name a : List ℕ) → IsWord name → IsWord a → NoFeed (one_text name a)
flat_one name a n w = NoFeed-one name a (NoFeed-word name n) (NoFeed-word a w)

flat_two : (name a b : List ℕ) → IsWord name → IsWord a → IsWord b → NoFeed (two_text name a b)
flat_two name a b n w v = NoFeed-two name a b (NoFeed-word name n) (NoFeed-word a w) (NoFeed-word b v)

NoFeed-text : (i : Insn) → IsInsn i → NoFeed (text_of i)
NoFeed-text (insn.Alu op w d s) h =
    flat_two _ _ _ ((IsWord-alu op w)) ((word-of_register d h.0)) ((word-of_source s h.1))
NoFeed-text (insn.MovSx e w d s) h =
    flat_two _ _ _ ((IsWord-extension e w)) ((word-of_register d h.1)) ((word-of_register s h.2))
NoFeed-text (insn.Neg w d) h = flat_one _ _ ((IsWord-neg w)) ((word-of_register d h))
NoFeed-text (insn.End o width d) h = flat_one _ _ ((IsWord-order o width)) ((word-of_register d h))
NoFeed-text (insn.Jump x) h = flat_one (codes "ja") _ (IsWord-test _ refl) ((IsWord-offset x (Small-16 x h)))
NoFeed-text (insn.JumpLong x) h = flat_one (codes "ja32") _ (IsWord-test _ refl) ((IsWord-offset x (Small-32 x h)))
NoFeed-text (insn.Branch c w d s x) h =
    NoFeed-two (compare_name c ++ suffix w) (register_text d) (source_text s ++ (codes ", " ++ offset_text x)) (NoFeed-word _ (IsWord-compare c w)) (NoFeed-word _ (word-of_register d h.0))
    (NoFeed-comma (source_text s) (offset_text x) (NoFeed-word _ (word-of_source s h.1)) (NoFeed-word _ (IsWord-offset x (Small-16 x h.2))))
NoFeed-text (insn.Call helper) h = flat_one (codes "call") _ (IsWord-test _ refl) ((IsWord-signed helper (Small-32 helper h)))
NoFeed-text (insn.CallLocal x) h =
    NoFeed-one (codes "call") (codes "local" ++ (32 ∷ offset_text x)) (NoFeed-word (codes "call") (IsWord-test _ refl))
    (NoFeed-one (codes "local") (offset_text x) (NoFeed-word (codes "local") (IsWord-test _ refl)) (NoFeed-word _ (IsWord-offset x (Small-32 x h))))
NoFeed-text insn.Exit h = NoFeed-word (codes "exit") (IsWord-test _ refl)
NoFeed-text (insn.Load z signed d s x) h =
    flat_two _ _ _ ((IsWord-load z signed)) ((word-of_register d h.1)) ((word-of_memory s x h.2 h.3))
NoFeed-text (insn.Store z d x (source.Imm n)) h =
    flat_two _ _ _ ((IsWord-store z)) ((word-of_memory d x h.0 h.2)) ((IsWord-signed n (Small-32 n h.1)))
NoFeed-text (insn.Store z d x (source.Reg r)) h =
    flat_two _ _ _ ((IsWord-store_register z)) ((word-of_memory d x h.0 h.2)) ((word-of_register r h.1))
NoFeed-text (insn.Atomic op w d s x) h =
    flat_two _ _ _ ((IsWord-atomic op w)) ((word-of_memory d x h.0 h.2)) ((word-of_register s h.1))
NoFeed-text (insn.LoadWide d (wide.Number n)) h =
    flat_two (codes "lddw") _ _ (IsWord-test _ refl) ((word-of_register d h.0)) ((IsWord-decimal n h.1))
NoFeed-text (insn.LoadWide d (wide.Map m)) h =
    NoFeed-two (codes "lddw") (register_text d) (codes "map " ++ decimal m) (NoFeed-word (codes "lddw") (IsWord-test _ refl)) (NoFeed-word _ (word-of_register d h.0))
    (NoFeed-one (codes "map") (decimal m) (NoFeed-word (codes "map") (IsWord-test _ refl)) (NoFeed-word _ (word-of_u32 m h.1)))
NoFeed-text (insn.LoadWide d (wide.MapValue m o)) h =
    NoFeed-two (codes "lddw") (register_text d) (codes "value " ++ (decimal m ++ (codes " " ++ decimal o))) (NoFeed-word (codes "lddw") (IsWord-test _ refl)) (NoFeed-word _ (word-of_register d h.0))
    (NoFeed-one (codes "value") (decimal m ++ (32 ∷ decimal o)) (NoFeed-word (codes "value") (IsWord-test _ refl))
    (NoFeed-one (decimal m) (decimal o) (NoFeed-word _ (word-of_u32 m h.1.0)) (NoFeed-word _ (word-of_u32 o h.1.1))))

-- the text of an instruction is one line
pub text_of-one_line : (i : Insn) → IsInsn i → (k : ℕ) → k < length (text_of i) → slice_index (text_of i) k ≢ 10
text_of-one_line i h = NoFeed-at (text_of i) (NoFeed-text i h)
