-- The packets of a walk, one after another.
use Rattle.std.proofs.Common.{◌≡◌, ◌∙◌, ◌≤◌, ℕ, ◌+◌, Bool, true, false, if◌then◌else◌, cond, not, List, [], ◌∷◌, Option, Some, None, refl, sym, ap, subst, arith}
use Rattle.std.specs.Option.{option_map}
use Rattle.std.proofs.lemmas.List.Sums.{sum_by-cons}
use Rattle.capture.specs.Packets.{Seen, seen_of}
use Rattle.capture.specs.Walks.{IsNext}
use Rattle.capture.specs.declared.packet.Packet.{Packet}
use Rattle.apd_policies.specs.Chosen.{is_kept, others}

pub none_left : (old new : List Seen) (next : Option Packet) → IsNext old (option_map seen_of next) new → next ≡ None → old ≡ []
none_left old new next h is =
    let P : Option Packet → Type 0 = λ o. IsNext old (option_map seen_of o) new in
    let ends : IsNext old None new = subst P is h in
    ends.0

pub some_left : (old new : List Seen) (next : Option Packet) (packet : Packet) → IsNext old (option_map seen_of next) new → next ≡ Some packet → old ≡ seen_of packet ∷ new
some_left old new next packet h is =
    let P : Option Packet → Type 0 = λ o. IsNext old (option_map seen_of o) new in
    subst P is h

one_or_none : (b : Bool) → ◌≡◌ {A = ℕ} (cond (not b) 1 0) (if b then 0 else 1)
one_or_none true = refl
one_or_none false = refl

pub at_most_one : (b : Bool) (n : ℕ) → n ≡ (if b then 0 else 1) → n ≤ 1
at_most_one true n is = omega (arith, is)
at_most_one false n is = omega (arith, is)

-- the first of the packets that are left is counted
pub others_counted : (bssid : Option (List ℕ)) (n m all : ℕ) (left more : List Seen) (p : Seen) → left ≡ p ∷ more → m ≡ (if is_kept bssid p.frame then 0 else 1)
    → n + others bssid left ≡ all → (n + m) + others bssid more ≡ all
others_counted bssid n m all left more p is counted h =
    let first : others bssid left ≡ m + others bssid more =
    ap (others bssid) is ∙ (sum_by-cons (λ (s : Seen). cond (not (is_kept bssid s.frame)) 1 0) p more
    ∙ ap (λ (k : ℕ). k + others bssid more) (one_or_none (is_kept bssid p.frame) ∙ sym counted)) in
    omega (arith, first, h)
