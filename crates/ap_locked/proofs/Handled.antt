-- Entries that a shard handled.
use Rattle.std.proofs.Common.{◌≡◌, ◌⊎◌, inl, inr, List, [], subst, sym}
use Rattle.ap_model.specs.Readings.{Rules}
use Rattle.ap_model.specs.Runs.{rests, opening}
use Rattle.ap_locked.specs.Pages.{Signed, entries_of}
use Rattle.ap_locked.specs.Tokens.{AreHandled}

pub none_handled : (c : Rules) → AreHandled c []
none_handled c = record { readings = opening; run = rests opening }

-- either of two prefixes of its journal
pub either_seen : (rs : Rules) (a b c : List Signed) → (c ≡ a) ⊎ (c ≡ b) → AreHandled rs (entries_of a) → AreHandled rs (entries_of b) → AreHandled rs (entries_of c)
either_seen rs a b c (inl is) h k = subst (λ (x : List Signed). AreHandled rs (entries_of x)) (sym is) h
either_seen rs a b c (inr is) h k = subst (λ (x : List Signed). AreHandled rs (entries_of x)) (sym is) k
