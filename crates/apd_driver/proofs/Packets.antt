-- Packets of a capture, one after another.
use Rattle.std.proofs.Common.{◌≡◌, ◌<◌, ℕ, suc, ◌+◌, List, [], ◌∷◌, ◌++◌, Option, length, take, drop, get_or, refl, sym, ap, ◌∙◌, append_assoc, drop-cons, add-one}
use Rattle.std.specs.List.{flat_map}
use Rattle.capture.specs.Writing.{Written, packet_block, blocks_of}
use Rattle.apd_script.specs.declared.command.Numbered.{Numbered}
use Rattle.apd_driver.specs.declared.reports.report.Report.{Report}
use Rattle.apd_driver.specs.Capturing.{time_after, time_after_all, line_packets, up_to, interval_packets}
use Rattle.apd_driver.specs.Moving.{MovesOn}
use Rattle.apd_driver.proofs.Moves.{moves_more}

pub blocks_append : (xs ys : List Written) → blocks_of (xs ++ ys) ≡ blocks_of xs ++ blocks_of ys
blocks_append [] ys = refl
blocks_append (x ∷ xs) ys = ap (λ l. packet_block x ++ l) (blocks_append xs ys) ∙ sym (append_assoc (packet_block x) (blocks_of xs) (blocks_of ys))

-- the blocks of what is left begin with those of the next element
pub next_blocks : {X : Type 0} (f : X → List Written) (xs : List X) (i : ℕ) (x : X) → i < length xs → x ≡ get_or xs i x
    → blocks_of (flat_map f (drop i xs)) ≡ blocks_of (f x) ++ blocks_of (flat_map f (drop (i + 1) xs))
next_blocks f xs i x h e =
    ap (λ l. blocks_of (flat_map f l)) (drop-cons xs i x h)
    ∙ (blocks_append (f (get_or xs i x)) (flat_map f (drop (suc i) xs))
    ∙ (ap (λ y. blocks_of (f y) ++ blocks_of (flat_map f (drop (suc i) xs))) (sym e)
    ∙ ap (λ k. blocks_of (f x) ++ blocks_of (flat_map f (drop k xs))) (sym (add-one i))))

-- one more part is appended
pub one_more : (all now new mine rest next : List ℕ) → now ++ next ≡ all → next ≡ mine ++ rest → new ≡ now ++ mine → new ++ rest ≡ all
one_more all now new mine rest next h e n =
    ap (λ l. l ++ rest) n ∙ (append_assoc now mine rest ∙ (ap (λ l. now ++ l) (sym e) ∙ h))

-- the time after the commands that are left
pub next_time : (time : ℕ) (ns : List Numbered) (i : ℕ) (n : Numbered) → i < length ns → n ≡ get_or ns i n
    → time_after_all time (drop i ns) ≡ time_after_all (time_after time n.command) (drop (i + 1) ns)
next_time time ns i n h e =
    ap (time_after_all time) (drop-cons ns i n h)
    ∙ (ap (λ m. time_after_all (time_after time m.command) (drop (suc i) ns)) (sym e)
    ∙ ap (λ k. time_after_all (time_after time n.command) (drop k ns)) (sym (add-one i)))

-- the packets of what is left of an interval begin with those of the next command
pub next_packets : (time : ℕ) (ns : List Numbered) (i : ℕ) (n : Numbered) (rs : List Report) → i < length ns → n ≡ get_or ns i n
    → blocks_of (interval_packets time (drop i ns) rs)
    ≡ blocks_of (line_packets (time_after time n.command) n (take (up_to n.line rs) rs)) ++ blocks_of (interval_packets (time_after time n.command) (drop (i + 1) ns) (drop (up_to n.line rs) rs))
next_packets time ns i n rs h e =
    ap (λ l. blocks_of (interval_packets time l rs)) (drop-cons ns i n h)
    ∙ (ap (λ m. blocks_of (line_packets (time_after time m.command) m (take (up_to m.line rs) rs) ++ interval_packets (time_after time m.command) (drop (suc i) ns) (drop (up_to m.line rs) rs))) (sym e)
    ∙ (blocks_append (line_packets (time_after time n.command) n (take (up_to n.line rs) rs)) (interval_packets (time_after time n.command) (drop (suc i) ns) (drop (up_to n.line rs) rs))
    ∙ ap (λ k. blocks_of (line_packets (time_after time n.command) n (take (up_to n.line rs) rs)) ++ blocks_of (interval_packets (time_after time n.command) (drop k ns) (drop (up_to n.line rs) rs))) (sym (add-one i))))

-- one more command of an interval
pub next_interval : (a b c : Option (List ℕ)) (all blocks longer left : List ℕ) (time now : ℕ) (ns : List Numbered) (i : ℕ) (n : Numbered) (rs mine after : List Report)
    → i < length ns → n ≡ get_or ns i n → now ≡ time_after time n.command → mine ≡ take (up_to n.line rs) rs → after ≡ drop (up_to n.line rs) rs
    → MovesOn a b all (blocks ++ blocks_of (interval_packets time (drop i ns) rs)) → longer ≡ blocks ++ blocks_of (line_packets now n mine) → MovesOn b c longer left
    → MovesOn a c all (left ++ blocks_of (interval_packets now (drop (i + 1) ns) after))
next_interval a b c all blocks longer left time now ns i n rs mine after h e is_now is_mine is_after moves is_longer flushed =
    moves_more a b c all blocks (blocks_of (line_packets now n mine)) left (blocks_of (interval_packets now (drop (i + 1) ns) after)) (blocks_of (interval_packets time (drop i ns) rs)) moves
    (next_packets time ns i n rs h e
    ∙ (ap (λ t. blocks_of (line_packets t n (take (up_to n.line rs) rs)) ++ blocks_of (interval_packets t (drop (i + 1) ns) (drop (up_to n.line rs) rs))) (sym is_now)
    ∙ (ap (λ l. blocks_of (line_packets now n l) ++ blocks_of (interval_packets now (drop (i + 1) ns) (drop (up_to n.line rs) rs))) (sym is_mine)
    ∙ ap (λ l. blocks_of (line_packets now n mine) ++ blocks_of (interval_packets now (drop (i + 1) ns) l)) (sym is_after))))
    (rw is_longer at flushed)
