-- The graph of a plain program.
use Rattle.std.proofs.Common.{◌≡◌, ℕ, zero, suc, ◌+◌, ◌<◌, ◌≤◌, ◌⊎◌, inl, inr, ℤ, pos, negsuc, ◌≤ℤ◌, List, [], ◌∷◌, length, refl, sym, ◌∙◌, ap, subst, arith, Option, Some, None, slice_get, add-one}
use Rattle.bpf_insn.specs.declared.insn.Insn.{Insn}
use Rattle.bpf_insn.specs.declared.insn.Insn.TheVariants as insn
use Rattle.bpf_decode.specs.Flow.{jump_of, IsJump, size_of}
use Rattle.bpf_decode.specs.Program.{Code, Holds, Begins, IsWhole}
use Rattle.bpf_decode.proofs.Whole.{begins_inside}
use Rattle.bpf_plain.specs.Paths.{IsPath, Reaches}
use Rattle.bpf_plain.specs.Walks.{Follows, Falls, Jumps, IsPlain, IsPlainInsn, IsWalk, HasWalk}
use Rattle.bpf_rules.proofs.Landings.{pos-same}

abbrev far : ℤ → Option ℤ
far x = Some x

abbrev nothing : Option ℤ
nothing = None

far-same : (x y : ℤ) → far x ≡ far y → x ≡ y
far-same x y e = cc

nothing-far : (x : ℤ) → nothing ≡ far x → ⊥
nothing-far x e = cc

-- control stays at slots that start an instruction
pub follows_begins : (c : Code) → IsWhole c → (k t : ℕ) → Follows c.slots k t → Begins c.slots t
follows_begins c whole k t (Falls i at go e) = subst (Begins c.slots) (sym e) (whole.onward k i at go)
follows_begins c whole k t (Jumps i x at j to) =
    let r = whole.jumps k i x at j in
    subst (Begins c.slots) (pos-same r.0 t (r.1 ∙ sym to)) r.2

size_pos : (i : Insn) → 1 ≤ size_of i
size_pos (insn.LoadWide d v) = omega arith
size_pos _ = omega arith

plain_jump : (i : Insn) (x : ℤ) → IsPlainInsn i → jump_of i ≡ far x → pos 0 ≤ℤ x
plain_jump (insn.Jump y) x plain e = subst (λ z. pos 0 ≤ℤ z) (far-same y x e) plain
plain_jump (insn.JumpLong y) x plain e = subst (λ z. pos 0 ≤ℤ z) (far-same y x e) plain
plain_jump (insn.Branch compare w d s y) x plain e = subst (λ z. pos 0 ≤ℤ z) (far-same y x e) plain
plain_jump (insn.CallLocal y) x plain e = absurd plain
plain_jump _ x plain e = absurd (nothing-far x e)

forward_jump : (k t : ℕ) (x : ℤ) → pos 0 ≤ℤ x → IsJump k x t → k < t
forward_jump k t (pos n) h e = let same : t ≡ k + 1 + n = pos-same t (k + 1 + n) e in omega (arith, same)
forward_jump k t (negsuc n) h e = absurd h.le

pub forward : (slots : List (Option Insn)) → IsPlain slots → (k t : ℕ) → Follows slots k t → k < t
forward slots plain k t (Falls i at go e) = let p = size_pos i in omega (arith, p, e)
forward slots plain k t (Jumps i x at j to) = forward_jump k t x (plain_jump i x (plain.operations k i at) j) to

-- an instruction is EXIT, or another slot follows
goes : (c : Code) → IsWhole c → (k : ℕ) (i : Insn) → Holds c.slots k i → Holds c.slots k insn.Exit ⊎ ((t : ℕ) × Follows c.slots k t)
goes c whole k insn.Exit at = inl at
goes c whole k (insn.Jump x) at = let r = whole.jumps k (insn.Jump x) x at refl in inr (r.0, Jumps (insn.Jump x) x at refl r.1)
goes c whole k (insn.JumpLong x) at = let r = whole.jumps k (insn.JumpLong x) x at refl in inr (r.0, Jumps (insn.JumpLong x) x at refl r.1)
goes c whole k i at = inr (k + size_of i, Falls i at refl refl)

exits_by : (c : Code) → IsWhole c → IsPlain c.slots → (fuel k : ℕ) → length c.slots ≤ k + fuel → Begins c.slots k → (rest : List ℕ) × IsPath c.slots k rest
unfolding IsPath
exits_by c whole plain zero k le b = let w = begins_inside c.slots k b in absurd (omega (arith, le, w))
exits_by c whole plain (suc fuel) k le b =
    elim (goes c whole k b.0 b.1) [
      | inl at ↦ ([], at)
      | inr f ↦
          let ahead = forward c.slots plain k f.0 f.1 in
          let r = exits_by c whole plain fuel f.0 (omega (arith, le, ahead)) (follows_begins c whole k f.0 f.1) in
          (f.0 ∷ r.0, (f.1, r.1))
    ]

-- from each instruction of a plain program some path leads to an EXIT
pub exits_from : (c : Code) → IsWhole c → IsPlain c.slots → (k : ℕ) → Begins c.slots k → (rest : List ℕ) × IsPath c.slots k rest
exits_from c whole plain k b = exits_by c whole plain (length c.slots) k (omega arith) b

pub Reaches-one : (c : Code) → IsWhole c → IsPlain c.slots → (k : ℕ) → Begins c.slots k → Reaches c.slots k 1
Reaches-one c whole plain k b = let r = exits_from c whole plain k b in record { rest = r.0; path = r.1; long = omega arith }

abbrev place : ℕ → Option ℕ
place k = Some k

place-same : (m n : ℕ) → place m ≡ place n → m ≡ n
place-same m n e = cc

abbrev no_place : Option ℕ
no_place = None

no_place-place : (n : ℕ) → no_place ≡ place n → ⊥
no_place-place n e = cc

later : (k : ℕ) (rest : List ℕ) (n : ℕ) → slice_get (k ∷ rest) (n + 1) ≡ slice_get rest n
later k rest n = rw add-one refl

path_follows : (slots : List (Option Insn)) (k : ℕ) (rest : List ℕ) → IsPath slots k rest →
    (n from to : ℕ) → slice_get (k ∷ rest) n ≡ place from → slice_get (k ∷ rest) (n + 1) ≡ place to → Follows slots from to
unfolding IsPath
path_follows slots k [] h n from to e e2 = absurd (no_place-place to (sym (later k [] n) ∙ e2))
path_follows slots k (t ∷ rest) h zero from to e e2 =
    subst (λ x. Follows slots x to) (place-same k from e) (subst (Follows slots k) (place-same t to (sym (later k (t ∷ rest) zero) ∙ e2)) h.0)
path_follows slots k (t ∷ rest) h (suc n) from to e e2 =
    path_follows slots t rest h.1 n from to e (sym (ap (slice_get (t ∷ rest)) (let s : suc n ≡ n + 1 = omega arith in s)) ∙ (sym (later k (t ∷ rest) (suc n)) ∙ e2))

path_exits : (slots : List (Option Insn)) (k : ℕ) (rest : List ℕ) → IsPath slots k rest →
    (n last : ℕ) → length (k ∷ rest) ≡ n + 1 → slice_get (k ∷ rest) n ≡ place last → Holds slots last insn.Exit
unfolding IsPath
path_exits slots k [] h zero last long e = subst (λ x. Holds slots x insn.Exit) (place-same k last e) h
path_exits slots k [] h (suc n) last long e = absurd (omega (arith, long))
path_exits slots k (t ∷ rest) h zero last long e = absurd (omega (arith, long))
path_exits slots k (t ∷ rest) h (suc n) last long e = path_exits slots t rest h.1 n last (omega (arith, long)) e

pub path_walk : (slots : List (Option Insn)) (rest : List ℕ) → IsPath slots 0 rest → IsWalk slots (0 ∷ rest)
path_walk slots rest h = record { starts = refl; follows = path_follows slots 0 rest h; exits = path_exits slots 0 rest h }

pub reaches_walk : (slots : List (Option Insn)) (n : ℕ) → Reaches slots 0 n → HasWalk slots n
reaches_walk slots n r = record { walk = 0 ∷ r.rest; is_walk = path_walk slots r.rest r.path; long = let le : n ≤ length r.rest + 1 = r.long in omega (arith, le) }
