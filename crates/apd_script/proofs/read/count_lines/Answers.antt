use Rattle.std.proofs.Common.{◌≡◌, ◌+◌, ◌==◌, count_by, sym, ◌∙◌, ap, rules}
use Rattle.std.proofs.lemmas.List.Splits.{length-slice_split}
use Rattle.memchr.proofs.lemmas.CallerLemmas.{length-places}
use Rattle.apd_script.proofs.read.count_lines.Goals as goal

pub returns : goal.returns
returns c =
    let counted : c.count.result ≡ count_by (λ b. b == 10) c.args.text.now = search (rules, length-places (λ b. b == 10) c.args.text.now) in
    record { is = ap (λ n. n + 1) counted ∙ sym (length-slice_split (λ b. b == 10) c.args.text.now) }
