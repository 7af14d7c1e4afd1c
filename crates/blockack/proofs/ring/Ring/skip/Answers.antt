use Rattle.std.proofs.Common.{◌≡◌, ◌-◌, ◌≤◌, ◌++◌, length, ◌∙◌, ap, arith, rules}
use Rattle.std.proofs.lemmas.List.{nil_from_length}
use Rattle.arrayvec.specs.ArrayVec.{array_vec_len}
use Rattle.blockack.specs.Ring.{ring_at, held_count, gathered}
use Rattle.blockack.proofs.SlotLaws.{held_le}
use Rattle.blockack.proofs.SinkLaws.{received_items}
use Rattle.blockack.proofs.ring.Ring.skip.Goals as goal

pub advance-requires : goal.advance-requires
advance-requires g c =
    let le = held_le c.args.self.now.slots in
    let room : held_count c.args.self.now.slots ≤ 64 - array_vec_len c.args.out.now = omega (arith, le, c.requires.empty) in
    search rules

frames_are : (g : _) (c : goal.After-advance g) → c.advance.new.out.items ≡ gathered (ring_at c.args.self.now.slots c.args.start) c.args.start c.advance.result
frames_are g c =
    received_items (λ v. v.items) _ (λ v w n f e. e) _ c.args.out.now c.advance.new.out c.advance.ensures.frames
    ∙ ap (λ xs. xs ++ gathered (ring_at c.args.self.now.slots c.args.start) c.args.start c.advance.result) (nil_from_length c.args.out.now.items c.requires.empty)

pub returns-clause-frames : goal.returns-clause-frames
returns-clause-frames g c = frames_are g c

pub returns-clause-few : goal.returns-clause-few
returns-clause-few g c = omega (arith, ap length (frames_are g c), c.advance.ensures.few)
