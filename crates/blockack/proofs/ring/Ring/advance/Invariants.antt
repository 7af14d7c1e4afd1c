use Rattle.std.proofs.Common.{◌-◌, ◌≡◌, ℕ, ◌+◌, ◌%◌, ◌<◌, ◌≤◌, length}
use Rattle.std.specs.Prelude.{IsSome}
use Rattle.blockack.specs.Ring.{ring_at, held_count, gathered}
use Rattle.blockack.specs.Sinks.{ReceivesAll}
use Rattle.blockack.proofs.ring.Ring.advance.Given as goal

abbrev pub invariant-loop-moved : goal.invariant-loop-moved
invariant-loop-moved g l =
    record {
      bound : l.moved ≤ l.least + 64;
      at : l.at ≡ (l.start + l.moved) % 4096;
      len : length l.self.slots ≡ 64;
      full : (k : ℕ) → l.least ≤ k → k < l.moved → IsSome (ring_at l.initial.self.slots l.start k);
      rest : (i : ℕ) → ring_at l.self.slots l.at i ≡ ring_at l.initial.self.slots l.start (l.moved + i);
      frames : ReceivesAll g.S.Sink.receives l.initial.out (gathered (ring_at l.initial.self.slots l.start) l.start l.moved) l.out;
      held : l.self.count ≡ held_count l.self.slots;
      room : held_count l.self.slots + g.S.Sink.room l.initial.out ≤ g.S.Sink.room l.out + held_count l.initial.self.slots;
      few : length (gathered (ring_at l.initial.self.slots l.start) l.start l.moved) + held_count l.self.slots ≤ held_count l.initial.self.slots;
    }

abbrev pub decreases-loop-moved : goal.decreases-loop-moved
decreases-loop-moved g l = l.least + 64 - l.moved
