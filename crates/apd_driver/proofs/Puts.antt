-- Putting an event at shards, one part after another.
use Rattle.std.proofs.Common.{ℕ, sym, subst, ◌∙◌}
use Rattle.ap_model.specs.declared.event.Event.{Event}
use Rattle.apd_driver.specs.Following.{AtNone, AtOneMore, Concerns, PutsAll, PutsFrom, WaitsAt, first_shard, shard_end}
use Rattle.apd_driver.specs.Semantics.{Semantics}
use Rattle.apd_driver.specs.declared.operating.Waiting.{Waiting}

-- the shards up to one got the event, and then those from that one on
pub puts_more : (s : Semantics) (line : ℕ) (e : Event) (from at : ℕ) (w0 w1 : s.Work) {to : ℕ} {w2 : s.Work} → PutsFrom s line e from w0 at w1 → PutsFrom s line e at w1 to w2
    → PutsFrom s line e from w0 to w2
puts_more s line e from at w0 w1 h AtNone = h
puts_more s line e from at w0 w1 h (AtOneMore shard mid new k put) = AtOneMore shard mid new (puts_more s line e from at w0 w1 h k) put

-- an event that waited got to all of its shards
pub puts_rest : (s : Semantics) (line : ℕ) (e : Event) (w0 w1 w2 : s.Work) (w : Waiting) → WaitsAt s line e (first_shard e) w0 w1 w
    → PutsFrom s line w.event w.shard w1 (shard_end w.event) w2 → PutsAll s line e w0 w2
puts_rest s line e w0 w1 w2 w h k =
    puts_more s line e (first_shard e) w.shard w0 w1 h.before (subst (λ (x : Event). PutsFrom s line x w.shard w1 (shard_end x) w2) h.event k)

-- it waits again
pub waits_again : (s : Semantics) (line : ℕ) (e : Event) (from : ℕ) (w0 w1 w2 : s.Work) (w u : Waiting) → WaitsAt s line e from w0 w1 w → WaitsAt s line w.event w.shard w1 w2 u
    → WaitsAt s line e from w0 w2 u
waits_again s line e from w0 w1 w2 w u h k =
    record {
      event = k.event ∙ h.event;
      concerned = subst (λ (x : Event). Concerns x u.shard) h.event k.concerned;
      before = puts_more s line e from w.shard w0 w1 h.before (subst (λ (x : Event). PutsFrom s line x w.shard w1 u.shard w2) h.event k.before);
    }

-- where it waits
pub concerns_still : (s : Semantics) (line : ℕ) (e : Event) (from : ℕ) (w0 w1 : s.Work) (w : Waiting) → WaitsAt s line e from w0 w1 w → Concerns w.event w.shard
concerns_still s line e from w0 w1 w h = subst (λ (x : Event). Concerns x w.shard) (sym h.event) h.concerned
