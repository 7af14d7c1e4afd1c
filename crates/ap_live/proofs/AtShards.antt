-- What changes at one of eight shards.
use Rattle.std.proofs.Common.{◌≡◌, ◌<◌, ◌%◌, ℕ, Bool, true, false, Option, Some, None, List, refl, arith}
use Rattle.std.specs.Prelude.{◌==◌}
use Rattle.ap_model.specs.AccessPoint.{shard_of, shard_of_address, shard_of_bytes}
use Rattle.ap_model.specs.Asks.{Ask}
use Rattle.ap_model.specs.Readings.{Config, Readings}
use Rattle.ap_model.specs.declared.event.Event.{Event}
use Rattle.ap_model.specs.declared.event.Event.TheVariants as event
use Rattle.ap_core.specs.Handles.{rules}
use Rattle.ap_locked.specs.Tokens.{Token}
use Rattle.ap_shards.specs.Fates.{ChangesAt, ChangesIf, Comes, ComesAt}
use Rattle.ap_shards.specs.Tokens.{Eight}
use Rattle.ap_shards.specs.declared.fate.Fate.TheVariants.{Refused, NotHandled}
use Rattle.ap_live.specs.Upholding.{token_at}
use Rattle.ap_live.proofs.Growing.{by_shard}

-- the token of the shard that changed
pub at_shard : (P : Token → Token → Type 0) (a b : Eight) (s : ℕ) → s < 8 → ChangesAt s P a b → P (token_at s a) (token_at s b)
at_shard P a b =
    by_shard (λ s. ChangesAt s P a b → P (token_at s a) (token_at s b)) (λ c. c.of0) (λ c. c.of1) (λ c. c.of2) (λ c. c.of3) (λ c. c.of4) (λ c. c.of5) (λ c. c.of6) (λ c. c.of7)

-- ---- events that were not decided

module _ (V : Readings → List (Ask × ℕ) → Type 0) (config : Config) (s : ℕ) (e : Event) where
  still_if : (here : Bool) (t u : Token) → ChangesIf here (λ t u. Comes V (rules s config) t e Refused u) t u → u ≡ t
  still_if true t u c = c
  still_if false t u c = c

  -- one that was refused changes no token
  pub refused_still : (a b : Eight) → ComesAt V config s a e Refused b → b ≡ a
  refused_still a b c i =
      record {
        of0 = still_if (s == 0) a.of0 b.of0 c.of0 i;
        of1 = still_if (s == 1) a.of1 b.of1 c.of1 i;
        of2 = still_if (s == 2) a.of2 b.of2 c.of2 i;
        of3 = still_if (s == 3) a.of3 b.of3 c.of3 i;
        of4 = still_if (s == 4) a.of4 b.of4 c.of4 i;
        of5 = still_if (s == 5) a.of5 b.of5 c.of5 i;
        of6 = still_if (s == 6) a.of6 b.of6 c.of6 i;
        of7 = still_if (s == 7) a.of7 b.of7 c.of7 i;
      }

  left_if : (here : Bool) (t u : Token) → ChangesIf here (λ t u. Comes V (rules s config) t e NotHandled u) t u → u ≡ t
  left_if true t u c = c
  left_if false t u c = c

  -- nor does one that was not handled
  pub left_still : (a b : Eight) → ComesAt V config s a e NotHandled b → b ≡ a
  left_still a b c i =
      record {
        of0 = left_if (s == 0) a.of0 b.of0 c.of0 i;
        of1 = left_if (s == 1) a.of1 b.of1 c.of1 i;
        of2 = left_if (s == 2) a.of2 b.of2 c.of2 i;
        of3 = left_if (s == 3) a.of3 b.of3 c.of3 i;
        of4 = left_if (s == 4) a.of4 b.of4 c.of4 i;
        of5 = left_if (s == 5) a.of5 b.of5 c.of5 i;
        of6 = left_if (s == 6) a.of6 b.of6 c.of6 i;
        of7 = left_if (s == 7) a.of7 b.of7 c.of7 i;
      }

-- ---- the shard of an event

same_some : (x s : ℕ) → Some x ≡ Some s → s ≡ x
same_some x s = λ (is : Some x ≡ Some s). cc

none_is : (o : Option ℕ) (s : ℕ) → o ≡ None → o ≡ Some s → ⊥
none_is o s = λ (no : o ≡ None) (is : o ≡ Some s). cc

below : (n s : ℕ) → s ≡ n % 8 → s < 8
below n s is = omega (arith, is)

pub shard_below : (e : Event) (s : ℕ) → shard_of e ≡ Some s → s < 8
shard_below (event.Frame bytes) s is = below _ s (same_some (shard_of_bytes bytes) s is)
shard_below (event.Tick n) s is = absurd (none_is (shard_of (event.Tick n)) s refl is)
shard_below (event.Kick a reason) s is = below _ s (same_some (shard_of_address a) s is)
shard_below (event.Close a tid) s is = below _ s (same_some (shard_of_address a) s is)
