-- How shares of the books grow with what is reported.
use Rattle.std.specs.Prelude.{◌==◌, ℕ, Bool, List, [], ◌∷◌, if◌then◌else◌}
use Rattle.ap_books.specs.Counts.{Portion, counts_of, gains}
use Rattle.ap_books.specs.Holdings.{Holding}
use Rattle.ap_shards.specs.declared.fate.Fate.{Fate}
use Rattle.ap_shards.specs.declared.fate.Fate.TheVariants.{Decided, Refused, NotHandled}
use Rattle.ap_live.specs.declared.tagged.Tagged.{Tagged}

-- a portion of a shard's ledgers, after it has counted an event's fate there: an event that was not decided counts
-- nothing
abbrev pub grown : Portion → Fate → Portion
grown p (Decided outs dropped) = gains p (counts_of outs.items dropped)
grown p Refused = p
grown p NotHandled = p

-- the portion of one shard, after an event at a shard
abbrev pub grown_if : Bool → Portion → Fate → Portion
grown_if here p f = if here then grown p f else p

-- the portions of all shards, after that of shard s has counted an event's fate
abbrev pub grown_at : Holding → ℕ → Fate → Holding
grown_at h s f =
    record {
      of0 = grown_if (s == 0) h.of0 f;
      of1 = grown_if (s == 1) h.of1 f;
      of2 = grown_if (s == 2) h.of2 f;
      of3 = grown_if (s == 3) h.of3 f;
      of4 = grown_if (s == 4) h.of4 f;
      of5 = grown_if (s == 5) h.of5 f;
      of6 = grown_if (s == 6) h.of6 f;
      of7 = grown_if (s == 7) h.of7 f;
    }

-- the portions after all of these reports
unfoldable pub grown_by : Holding → List Tagged → Holding
grown_by h [] = h
grown_by h (t ∷ ts) = grown_by (grown_at h t.item.shard t.fate) ts
