use Rattle.std.proofs.Common.{rules, arith}
use Rattle.std.proofs.lemmas.Grind.{common_steps}
use Rattle.bpf_line.specs.Words.{words}
use Rattle.bpf_line.proofs.Kept.{map-take_more, length-seven}
use Rattle.bpf_line.proofs.words.cut_words.Goals as goal

pub returns-then-count-eq6-clause-many : goal.returns-then-count-eq6-clause-many
returns-then-count-eq6-clause-many c = search (rules, length-seven (λ w. w.now) c.loop-after.cut)

pub loop-after-preserved : goal.loop-after-preserved
loop-after-preserved c =
    let step = map-take_more (λ w. w.now) c.loop-after.cut c.loop-after.count c.in-Word.word (words c.in-Word.after.now) in (
      search rules,
      record {
        few = grind (arith, common_steps);
        six = search rules;
        first = search (rules, step);
      },
    )
