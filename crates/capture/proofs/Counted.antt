-- Packets whose times 64 bits count, and bytes that are appended part by part.
use Rattle.std.proofs.Common.{◌≡◌, ◌<◌, ℕ, suc, ◌+◌, List, [], ◌∷◌, ◌++◌, length, drop, map, get_or, sym, ap, ◌∙◌, append_assoc, drop-cons, add-one}
use Rattle.capture.specs.declared.new_packet.NewPacket.{NewPacket}
use Rattle.capture.specs.Writing.{AreCounted, blocks_of, packet_block, written_of}

pub all_counted : (packets : List NewPacket) → AreCounted (map written_of packets)
all_counted [] = tt
all_counted (p ∷ packets) = (p.counted, all_counted packets)

-- the blocks of what is left begin with that of the next packet
pub next_block : (ps : List NewPacket) (i : ℕ) (p : NewPacket) → i < length ps → p ≡ get_or ps i p
    → blocks_of (map written_of (drop i ps)) ≡ packet_block (written_of p) ++ blocks_of (map written_of (drop (i + 1) ps))
next_block ps i p h e =
    ap (λ l. blocks_of (map written_of l)) (drop-cons ps i p h)
    ∙ (ap (λ (q : NewPacket). packet_block (written_of q) ++ blocks_of (map written_of (drop (suc i) ps))) (sym e)
    ∙ ap (λ k. packet_block (written_of p) ++ blocks_of (map written_of (drop k ps))) (sym (add-one i)))

-- one more block is appended
pub one_more : (all now new mine rest next : List ℕ) → now ++ next ≡ all → next ≡ mine ++ rest → new ≡ now ++ mine → new ++ rest ≡ all
one_more all now new mine rest next h e n =
    ap (λ l. l ++ rest) n ∙ (append_assoc now mine rest ∙ (ap (λ l. now ++ l) (sym e) ∙ h))

-- nothing is appended so far
pub begun : (none all : List ℕ) → none ≡ [] → none ++ all ≡ all
begun none all e = ap (λ l. l ++ all) e

-- a part is appended, and others are left
pub more : (all now new mine rest : List ℕ) → now ++ (mine ++ rest) ≡ all → new ≡ now ++ mine → new ++ rest ≡ all
more all now new mine rest h e = ap (λ l. l ++ rest) e ∙ (append_assoc now mine rest ∙ h)

-- the last part is appended
pub last : (all now new mine : List ℕ) → now ++ mine ≡ all → new ≡ now ++ mine → new ≡ all
last all now new mine h e = e ∙ h

pub appended_four : (o a b c d x y z w : List ℕ) → a ≡ o ++ x → b ≡ a ++ y → c ≡ b ++ z → d ≡ c ++ w → d ≡ o ++ (x ++ (y ++ (z ++ w)))
appended_four o a b c d x y z w e f g h =
    h ∙ (ap (λ l. l ++ w) g ∙ (append_assoc b z w ∙ (ap (λ l. l ++ (z ++ w)) f ∙ (append_assoc a y (z ++ w)
    ∙ (ap (λ l. l ++ (y ++ (z ++ w))) e ∙ append_assoc o x (y ++ (z ++ w)))))))
