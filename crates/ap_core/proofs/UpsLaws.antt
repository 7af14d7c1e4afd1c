-- Frames that a list of outputs received.
use Rattle.std.proofs.Common.{◌≡◌, ◌≢◌, ◌+◌, ℕ, Bool, true, false, cond, List, [], ◌∷◌, ◌++◌, sym, ap, ◌∙◌, append_assoc}
use Rattle.std.specs.Prelude.{nat_lt, ◌&&◌}
use Rattle.std.proofs.lemmas.List.{append-nil}
use Rattle.blockack.specs.Reading.{Reading, most_passed, numbers_held}
use Rattle.blockack.specs.Ring.{ahead}
use Rattle.blockack.specs.Sinks.{ReceivesAll}
use Rattle.ap_model.specs.declared.event.Out.{Out}
use Rattle.ap_model.specs.Readings.{Held}
use Rattle.ap_model.specs.Agreements.{ups, up_held}
use Rattle.ap_core.specs.declared.ups.Ups.{Ups}

-- all that a window passed to it
pub ups_received : (R : Ups → ℕ → Held → Ups → Type 0) →
    ((u v : Ups) (n : ℕ) (h : Held) → R u n h v → (v.station ≡ u.station) × (v.tid ≡ u.tid) × (v.outs.items ≡ u.outs.items ++ up_held u.station u.tid n h)) →
    (frames : List (ℕ × Held)) (u v : Ups) → ReceivesAll R u frames v → v.outs.items ≡ u.outs.items ++ ups u.station u.tid frames
ups_received R one [] u v p = ap (λ (x : Ups). x.outs.items) p ∙ sym (append-nil u.outs.items)
ups_received R one (p ∷ frames) u v q =
    let mid : Ups = q.0 in
    let step = one u mid p.0 p.1 q.1 in
    ups_received R one frames mid v q.2
    ∙ ap (λ (a : List ℕ). mid.outs.items ++ ups a mid.tid frames) step.0
    ∙ ap (λ (t : ℕ). mid.outs.items ++ ups u.station t frames) step.1
    ∙ ap (λ (l : List Out). l ++ ups u.station u.tid frames) step.2
    ∙ append_assoc u.outs.items (up_held u.station u.tid p.0 p.1) (ups u.station u.tid frames)

-- data that doesn't wait passes up at most one frame more than are held
pub passes_more : (v : Reading Held) (number most : ℕ) → most_passed v number ≡ most → most ≢ 0 → numbers_held v + 1 ≡ most
passes_more v number most is some = by (nat_lt 0 (ahead v.start number) && nat_lt (ahead v.start number) v.size) is
  where
    by : (b : Bool) → cond b 0 (numbers_held v + 1) ≡ most → numbers_held v + 1 ≡ most
    by true e = absurd (some (sym e))
    by false e = e
