use Rattle.std.proofs.Common.{◌≡◌, ◌++◌, ◌∷◌, [], List, ℕ, rules}
use Rattle.byteorder.specs.Endian.{little_bytes}
use Rattle.capture.specs.Writing.{link_number, most_kept, option_of, name_of, ending}
use Rattle.capture.proofs.Counted.{begun, more, last}
use Rattle.capture.proofs.write.interface_body.Goals as goal

pub returns : goal.returns
returns c =
    let s = c.args.side in
    let x1 : List ℕ = little_bytes 2 (link_number s) in
    let x2 : List ℕ = little_bytes 2 0 in
    let x3 : List ℕ = little_bytes 4 most_kept in
    let x4 : List ℕ = option_of 2 (name_of s) in
    let x5 : List ℕ = option_of 9 (9 ∷ []) in
    let x6 : List ℕ = ending in
    let r5 : List ℕ = x6 in
    let r4 : List ℕ = x5 ++ r5 in
    let r3 : List ℕ = x4 ++ r4 in
    let r2 : List ℕ = x3 ++ r3 in
    let r1 : List ℕ = x2 ++ r2 in
    let all : List ℕ = x1 ++ r1 in
    let s0 : c.new-body.result.items ++ all ≡ all = begun c.new-body.result.items all c.new-body.ensures.items in
    let e1 : c.append_u16.new.out.items ≡ c.new-body.result.items ++ x1 = search rules in
    let s1 = more (all) (c.new-body.result.items) (c.append_u16.new.out.items) x1 r1 s0 e1 in
    let e2 : c.append_u16-2.new.out.items ≡ c.append_u16.new.out.items ++ x2 = search rules in
    let s2 = more (all) (c.append_u16.new.out.items) (c.append_u16-2.new.out.items) x2 r2 s1 e2 in
    let e3 : c.append_u32.new.out.items ≡ c.append_u16-2.new.out.items ++ x3 = search rules in
    let s3 = more (all) (c.append_u16-2.new.out.items) (c.append_u32.new.out.items) x3 r3 s2 e3 in
    let e4 : c.append_option.new.out.items ≡ c.append_u32.new.out.items ++ x4 = search rules in
    let s4 = more (all) (c.append_u32.new.out.items) (c.append_option.new.out.items) x4 r4 s3 e4 in
    let e5 : c.append_option-2.new.out.items ≡ c.append_option.new.out.items ++ x5 = search rules in
    let s5 = more (all) (c.append_option.new.out.items) (c.append_option-2.new.out.items) x5 r5 s4 e5 in
    let e6 : c.extend_from_slice.new.self.items ≡ c.append_option-2.new.out.items ++ x6 = search rules in
    record { is = last (all) (c.append_option-2.new.out.items) (c.extend_from_slice.new.self.items) x6 s5 e6 }
