use Rattle.std.proofs.Common.{◌≡◌, ◌≤◌, vec_len, vec_capacity}
use Rattle.ap_core.proofs.ticks.frame_rooms.Given as goal

abbrev pub invariant-loop-made : goal.invariant-loop-made
invariant-loop-made l = (vec_len l.frames ≡ l._made) × (l.count ≤ vec_capacity l.frames)
