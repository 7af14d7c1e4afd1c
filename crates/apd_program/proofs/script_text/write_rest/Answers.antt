use Rattle.std.proofs.Common.{◌≡◌, ◌++◌, [], true, false, refl, rules}
use Rattle.std.specs.String.{string_bytes}
use Rattle.std.proofs.KnownBytes.{Appends-nil, Appends-trans}
use Rattle.apd_program.proofs.Kept.{Keeps-same}
use Rattle.apd_program.proofs.Pieces.{moved_on, stopped, finished, so_far, whole_begins}
use Rattle.apd_program.proofs.script_text.write_rest.Goals as goal

pub loop-more-init : goal.loop-more-init
loop-more-init g c = record { written = []; appended = Appends-nil _; all = refl; unbegun = λ e. Keeps-same _ }

pub returns-in_default-clause-beginning : goal.returns-in_default-clause-beginning
returns-in_default-clause-beginning g c =
    let i = c.loop-more.invariant in
    so_far _ _ _ i.written _ i.all i.appended

pub returns-in_default-clause-memory : goal.returns-in_default-clause-memory
returns-in_default-clause-memory g c = λ e. c.loop-more.invariant.unbegun (c.lacking.ensures.unbegun e)

pub returns-in-Err-clause-beginning : goal.returns-in-Err-clause-beginning
returns-in-Err-clause-beginning g c =
    let i = c.loop-more.invariant in
    let none : string_bytes c.clear.new.self ≡ [] = search rules in
    let same : c.as_bytes.result.now ≡ string_bytes c.append_piece.new.text = search rules in
    stopped _ i.written _ _ _ _ _ _ _ i.all none c.in-Ok.ensures.moved i.appended (rw same at c.write_whole.ensures.beginning)

pub returns-in-Err-clause-memory : goal.returns-in-Err-clause-memory
returns-in-Err-clause-memory g c = λ e. cc

pub returns-then-not-more-clause-whole : goal.returns-then-not-more-clause-whole
returns-then-not-more-clause-whole g c =
    let i = c.loop-more.invariant in
    let none : string_bytes c.clear.new.self ≡ [] = search rules in
    let same : c.as_bytes.result.now ≡ string_bytes c.append_piece.new.text = search rules in
    finished _ i.written _ _ _ _ _ _ _ i.all none c.in-Ok.ensures.moved (c.in-Ok.ensures.last c.if-not-more.true) i.appended (rw same at c.in-Ok-write_whole.ensures.whole)

pub returns-then-not-more-clause-beginning : goal.returns-then-not-more-clause-beginning
returns-then-not-more-clause-beginning g c =
    let i = c.loop-more.invariant in
    let none : string_bytes c.clear.new.self ≡ [] = search rules in
    let same : c.as_bytes.result.now ≡ string_bytes c.append_piece.new.text = search rules in
    whole_begins _ _ _ (finished _ i.written _ _ _ _ _ _ _ i.all none c.in-Ok.ensures.moved (c.in-Ok.ensures.last c.if-not-more.true) i.appended (rw same at c.in-Ok-write_whole.ensures.whole))

pub loop-more-preserved : goal.loop-more-preserved
loop-more-preserved g c =
    let i = c.loop-more.invariant in
    let none : string_bytes c.clear.new.self ≡ [] = search rules in
    let same : c.as_bytes.result.now ≡ string_bytes c.append_piece.new.text = search rules in
    record {
      written = i.written ++ string_bytes c.append_piece.new.text;
      appended = Appends-trans _ _ _ _ _ i.appended (rw same at c.in-Ok-write_whole.ensures.whole);
      all = moved_on _ i.written _ _ _ _ i.all none c.in-Ok.ensures.moved;
      unbegun = λ e. let bad : true ≡ false = e in cc;
    }

pub loop-more-smaller : goal.loop-more-smaller
loop-more-smaller g c = c.in-Ok.ensures.fewer c.if-not-more.false
