-- Lines up to a wait.
use Rattle.std.proofs.Common.{◌≡◌, ℕ, suc, ◌+◌, ◌<◌, List, [], ◌∷◌, true, false, length, drop, get_or, refl, sym, ap, ◌∙◌, drop-cons, add-one}
use Rattle.std.specs.Prelude.{if◌then◌else◌}
use Rattle.apd_script.specs.declared.command.Numbered.{Numbered}
use Rattle.apd_script.specs.Batches as batch
use Rattle.apd_script.specs.declared.command.Command.{Command}
use Rattle.apd_script.specs.declared.command.Command.TheVariants as command
use Rattle.apd_driver.specs.Intervals.{is_wait, after_wait}

-- `wait` alone waits
same_wait : (c : Command) → batch.is_wait c ≡ is_wait c
same_wait (command.Frame text) = refl
same_wait (command.Tick units) = refl
same_wait (command.Kick station reason) = refl
same_wait (command.Close station tid) = refl
same_wait (command.Load hook path) = refl
same_wait (command.Unload hook) = refl
same_wait (command.Adopt hook path certificate) = refl
same_wait (command.Store word value) = refl
same_wait (command.Read word) = refl
same_wait (command.Sum word) = refl
same_wait command.Wait = refl

-- so what follows the first wait is what follows `wait`
pub same_after : (ns : List Numbered) → batch.after_wait ns ≡ after_wait ns
same_after [] = refl
same_after (n ∷ ns) = ap (λ b. if b then ns else batch.after_wait ns) (same_wait n.command) ∙ ap (λ l. if is_wait n.command then ns else l) (same_after ns)

next : (ns : List Numbered) (i : ℕ) (n : Numbered) → i < length ns → n ≡ get_or ns i n
    → after_wait (drop i ns) ≡ (if is_wait n.command then drop (i + 1) ns else after_wait (drop (i + 1) ns))
next ns i n h e =
    ap after_wait (drop-cons ns i n h) ∙ ap (λ x. after_wait (x ∷ drop (suc i) ns)) (sym e)
    ∙ ap (λ k. if is_wait n.command then drop k ns else after_wait (drop k ns)) (sym (add-one i))

-- the line is a wait
pub at_wait : (ns : List Numbered) (i : ℕ) (n : Numbered) → i < length ns → n ≡ get_or ns i n → is_wait n.command ≡ true
    → after_wait (drop i ns) ≡ drop (i + 1) ns
at_wait ns i n h e w = next ns i n h e ∙ ap (λ b. if b then drop (i + 1) ns else after_wait (drop (i + 1) ns)) w

-- the line isn't a wait
pub at_line : (ns : List Numbered) (i : ℕ) (n : Numbered) → i < length ns → n ≡ get_or ns i n → is_wait n.command ≡ false
    → after_wait (drop i ns) ≡ after_wait (drop (i + 1) ns)
at_line ns i n h e w = next ns i n h e ∙ ap (λ b. if b then drop (i + 1) ns else after_wait (drop (i + 1) ns)) w
