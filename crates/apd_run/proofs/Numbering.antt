-- Workers by number.
use Rattle.std.proofs.Common.{◌≡◌, ◌+◌, ℕ, List, [], ◌∷◌, ◌++◌, length, subst, sym, arith}
use Rattle.ap_live.specs.Tokens.{Worker}
use Rattle.apd_run.specs.Dealing.{AreNumberedFrom}

with_last : (n : ℕ) (xs : List Worker) (x : Worker) → x.number ≡ n + length xs → AreNumberedFrom n xs → AreNumberedFrom n (xs ++ x ∷ [])
with_last n [] x is h = (omega (arith, is), tt)
with_last n (y ∷ ys) x is h = (h.0, with_last (n + 1) ys x (omega (arith, is)) h.1)

last_of : (n : ℕ) (xs : List Worker) (x : Worker) → AreNumberedFrom n (xs ++ x ∷ []) → AreNumberedFrom n xs × (x.number ≡ n + length xs)
last_of n [] x h = (tt, omega (arith, h.0))
last_of n (y ∷ ys) x h = let r = last_of (n + 1) ys x h.1 in ((h.0, r.0), omega (arith, r.1))

-- one more worker
pub numbered_more : (xs ys : List Worker) (x : Worker) → ys ≡ xs ++ x ∷ [] → x.number ≡ length xs → AreNumberedFrom 0 xs → AreNumberedFrom 0 ys
numbered_more xs ys x is number h = subst (AreNumberedFrom 0) (sym is) (with_last 0 xs x (omega (arith, number)) h)

-- one less
pub numbered_less : (xs ys : List Worker) (x : Worker) → xs ≡ ys ++ x ∷ [] → AreNumberedFrom 0 xs → AreNumberedFrom 0 ys × (x.number ≡ length ys)
numbered_less xs ys x is h = let r = last_of 0 ys x (subst (AreNumberedFrom 0) is h) in (r.0, omega (arith, r.1))
