-- How much entries count.
use Rattle.std.specs.Prelude.{ℕ, ◌+◌, Bool, true, false, List, sum_by, count_by, if◌then◌else◌}
use Rattle.ap_model.specs.declared.event.Out.{Out}
use Rattle.ap_model.specs.declared.event.Out.TheVariants.{Send, Up, Note}
use Rattle.ap_model.specs.Runs.{Entry}
pub use Rattle.ap_model.specs.Drops.{drops}

-- handled events, sent frames, data passed up, data verdicts that dropped, and notes
pub record Counts : Type 0 where
  pub events : ℕ
  pub sent : ℕ
  pub up : ℕ
  pub dropped : ℕ
  pub notes : ℕ

-- how many parts of each ledger of a shard, and what they have counted
pub record Portion : Type 0 where
  pub parts : ℕ
  pub counts : Counts

-- nothing was counted
abbrev pub none : Counts
none = record { events = 0; sent = 0; up = 0; dropped = 0; notes = 0 }

-- the sum of two counts
abbrev pub plus : Counts → Counts → Counts
plus a b =
    record {
      events = a.events + b.events;
      sent = a.sent + b.sent;
      up = a.up + b.up;
      dropped = a.dropped + b.dropped;
      notes = a.notes + b.notes;
    }

-- a portion that has counted these in addition
abbrev pub gains : Portion → Counts → Portion
gains p c = record { parts = p.parts; counts = plus p.counts c }

-- a frame is sent
abbrev pub is_send : Out → Bool
is_send (Send b) = true
is_send (Up u) = false
is_send (Note n) = false

-- data is passed up
abbrev pub is_up : Out → Bool
is_up (Send b) = false
is_up (Up u) = true
is_up (Note n) = false

-- a note is given
abbrev pub is_note : Out → Bool
is_note (Send b) = false
is_note (Up u) = false
is_note (Note n) = true

-- what one event counts, by its outputs and whether a data verdict dropped
abbrev pub counts_of : List Out → Bool → Counts
counts_of outs dropped =
    record {
      events = 1;
      sent = count_by is_send outs;
      up = count_by is_up outs;
      dropped = if dropped then 1 else 0;
      notes = count_by is_note outs;
    }

-- what an entry counts
abbrev pub entry_counts : Entry → Counts
entry_counts e = counts_of e.outs (drops e.asked)

-- what entries count together
abbrev pub counts_in : List Entry → Counts
counts_in es =
    record {
      events = sum_by (λ e. (entry_counts e).events) es;
      sent = sum_by (λ e. (entry_counts e).sent) es;
      up = sum_by (λ e. (entry_counts e).up) es;
      dropped = sum_by (λ e. (entry_counts e).dropped) es;
      notes = sum_by (λ e. (entry_counts e).notes) es;
    }
