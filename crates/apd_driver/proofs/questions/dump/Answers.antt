use Rattle.std.proofs.Common.{◌≡◌, length, arith, refl}
use Rattle.apd_driver.proofs.Entries.{lists_none, lists_more}
use Rattle.apd_driver.proofs.Looks.{looks_more, looks_none}
use Rattle.apd_driver.proofs.questions.dump.Goals as goal

pub loop-index-init : goal.loop-index-init
loop-index-init g c = record { looks = looks_none _ _ refl; lists = lists_none _ _ c.new-entries.ensures.items }

pub loop-index-preserved : goal.loop-index-preserved
loop-index-preserved g c =
    let wide : length c.in_ok-words.words.items ≡ c.args.map.shape.words = omega (arith, c.in_ok-words.ensures.many, c.in_ok-words.words.ok.0) in
    record {
      looks = looks_more _ _ _ c.loop-index.invariant.looks c.words_of.ensures.looks;
      lists = lists_more _ _ _ _ c.in_ok-words.words.items c.loop-index.invariant.lists wide c.in_ok-add_entry.ensures.added;
    }

pub returns-in_err-words-clause-looks : goal.returns-in_err-words-clause-looks
returns-in_err-words-clause-looks g c = looks_more _ _ _ c.loop-index.invariant.looks c.words_of.ensures.looks

pub returns-in_err-add_entry-clause-looks : goal.returns-in_err-add_entry-clause-looks
returns-in_err-add_entry-clause-looks g c = looks_more _ _ _ c.loop-index.invariant.looks c.words_of.ensures.looks
