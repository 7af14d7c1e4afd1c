use Rattle.std.proofs.Common.{◌≡◌, [], append-nil, sym, ◌∙◌}
use Rattle.std.proofs.lemmas.Result.{IfOk-weaker, on_err_weaker}
use Rattle.apd_script.specs.Asked.{commands_of}
use Rattle.apd_driver.specs.declared.found.Found.{Found}
use Rattle.apd_driver.proofs.Broken.{on_err}
use Rattle.apd_driver.proofs.Captured.{no_commands, shows_interval, shows_malformed, whole_segment}
use Rattle.apd_driver.proofs.Gathering.{breaks_malformed, breaks_within, gathered, no_lines}
use Rattle.apd_driver.proofs.Tallying.{tells_more}
use Rattle.apd_driver.proofs.interval.whole_interval.Goals as goal

pub returns-clause-shows : goal.returns-clause-shows
returns-clause-shows g c =
    let all = whole_segment c.args.given.commands.now c.in_ok-told.field-0.next (c.in_ok-told.ensures.rest ∙ c.requires.whole) in
    let follows = rw all at c.in_ok-told.ensures.follows in
    let told = tells_more _ _ _ c.in_ok-told.ensures.told c.in_ok-tell_malformed.ensures.told in
    shows_interval _ _ _ _ _ _ _ _ _ _ _ c.collect.new.all.items _ _ c.tell.ensures.output c.tell.ensures.kept
    (gathered _ _ _ _ _ _ _ _ c.set_out.ensures.works follows c.in_ok-tell_malformed.ensures.answers told c.in_ok-collect.ensures.collects c.in_ok-collect.ensures.none_left)
    c.in_ok-found.ensures.prints

pub returns-in_err-found-clause-breaks : goal.returns-in_err-found-clause-breaks
returns-in_err-found-clause-breaks g c =
    let all = whole_segment c.args.given.commands.now c.in_ok-told.field-0.next (c.in_ok-told.ensures.rest ∙ c.requires.whole) in
    let follows = rw all at c.in_ok-told.ensures.follows in
    let told = tells_more _ _ _ c.in_ok-told.ensures.told c.in_ok-tell_malformed.ensures.told in
    on_err _ _ (breaks_within _ _ _ _ _ _ _ _ _ _ (sym (append-nil (commands_of c.args.given.commands.now)))
    (gathered _ _ _ _ _ _ _ _ c.set_out.ensures.works follows c.in_ok-tell_malformed.ensures.answers told c.in_ok-collect.ensures.collects c.in_ok-collect.ensures.none_left)
    (rw c.tell.ensures.output at c.in_err-found.ensures.breaks))

pub returns-then-is_empty-clause-shows : goal.returns-then-is_empty-clause-shows
returns-then-is_empty-clause-shows g c =
    let none : c.args.given.commands.now ≡ [] = no_commands _ (sym c.is_empty.ensures ∙ c.if-is_empty.true) in
    IfOk-weaker c.answer.result _ _ (λ (found : Found). shows_malformed _ _ _ _ _ _ _ _ _ _ none) c.answer.ensures.shows

pub returns-then-is_empty-clause-breaks : goal.returns-then-is_empty-clause-breaks
returns-then-is_empty-clause-breaks g c =
    let none : commands_of c.args.given.commands.now ≡ [] = no_lines _ (sym c.is_empty.ensures ∙ c.if-is_empty.true) in
    on_err_weaker c.answer.result (breaks_malformed _ _ _ _ _ _ none) c.answer.ensures.breaks
