-- What was counted of each hook's program.
use Rattle.bpf_regions.specs.declared.hooks.Hook.{Hook}
use Rattle.bpf_regions.specs.declared.hooks.Hook.TheVariants.{Association, Addba, Data}
use Rattle.hook_judge.specs.Counts.{Counts, Made, for_load, no_runs, sum_of, with_run}
use Rattle.hook_judge.specs.declared.hook_counts.HookCounts.{HookCounts}

-- the counts of a hook
abbrev pub counts_at : Hook → HookCounts → Counts
counts_at Association h = h.association
counts_at Addba h = h.addba
counts_at Data h = h.frames

-- the same with other counts at one hook
abbrev pub put_counts : Hook → Counts → HookCounts → HookCounts
put_counts Association c h = record h { association = c }
put_counts Addba c h = record h { addba = c }
put_counts Data c h = record h { frames = c }

-- nothing was counted
abbrev pub no_counts : HookCounts
no_counts = record { association = no_runs 0 0; addba = no_runs 0 0; frames = no_runs 0 0 }

-- with one more run of the hook's program; the counts of its earlier loads are given up
abbrev pub counted : Hook → Made → HookCounts → HookCounts
counted hook m h = put_counts hook (with_run hook m (for_load m.load m.budget (counts_at hook h))) h

-- with what another counted of the same loads' runs
abbrev pub sums : HookCounts → HookCounts → HookCounts
sums h k =
    record {
      association = sum_of h.association k.association;
      addba = sum_of h.addba k.addba;
      frames = sum_of h.frames k.frames;
    }
