-- The numbers of what a window releases.
use Rattle.std.proofs.Common.{ℕ, ◌<◌, ◌%◌, List, All, sym, subst, lit<}
use Rattle.std.proofs.lemmas.List.Elements.{All-map}
use Rattle.std.proofs.lemmas.Nat.{mod_below}
use Rattle.blockack.specs.Window.{Window}
use Rattle.blockack.specs.Passed.{PassesUp, numbered}
use Rattle.ap_model.specs.Readings.{Held}

pub all_below : (frames : List (ℕ × Held)) → All (λ p. p.0 < 4096) (numbered frames)
all_below frames = All-map (λ p. p.0 < 4096) (λ (p : ℕ × Held). (p.0 % 4096, p.1)) frames (λ k d h. mod_below _ 4096 (lit< tt))

pub passed_below : {old new : Window Held} {out : List (ℕ × Held)} → PassesUp old new out → All (λ p. p.0 < 4096) out
passed_below p = subst (λ l. All (λ q. q.0 < 4096) l) (sym p.sent) (all_below p.frames)
