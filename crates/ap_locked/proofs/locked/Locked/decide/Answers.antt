use Rattle.std.proofs.Common.{◌≡◌, ◌∙◌, ◌∷◌, ◌++◌, ◌+◌, ℕ, [], ap, length, length-append, sym, subst}
use Rattle.ap_core.specs.Handles.{rules}
use Rattle.ap_model.specs.Readings.{Rules}
use Rattle.ap_model.specs.Runs.{Entry}
use Rattle.ap_journal.specs.Beginnings.{with_entry}
use Rattle.ap_books.specs.Counts.{counts_of, entry_counts, plus, gains}
use Rattle.ap_locked.specs.Kept.{Kept, Holds, Decided, entry_of}
use Rattle.ap_locked.specs.Pages.{Page, Signed, entries_of, first_page, on_page}
use Rattle.ap_locked.specs.Tokens.{Token, IsToken}
use Rattle.ap_locked.proofs.Signing.{entries_more, entries_prefix, one_first}
use Rattle.ap_locked.proofs.Entering.{kept_with, token_with, holds_with, is_token_with, journal_handled, asked_since}
use Rattle.ap_laws.proofs.AskLaws.{lists_asks}
use Rattle.ap_locked.proofs.locked.Locked.decide.Goals as goal

pub invariant_of-self-2 : goal.invariant_of-self-2
invariant_of-self-2 g c =
    let rs : Rules = rules g.row.SHARD g.B.Journals.config in
    let d = c.in_ok-outcome.ensures.step in
    let e : Entry = entry_of c.args.event.now d.asked c.in_ok-outcome.outcome.outs.items in
    let asked = asked_since g.J.Judge.asks g.J.Judge.gives (lists_asks g.J.Judge.asks g.J.Judge.gives g.met.J.Judge.lists) c.of-before.result.value c.args.judge.now c.handle_with_drop.new.judge d.asked c.of-before.ensures d.listed in
    let m : ℕ = (first_page c.mine.inside.pages.pages).mark in
    let journal = c.self.inside.journal.entries in
    let grown : c.add.new.known ≡ with_entry c.self.inside.journal (record { mark = m; entry = e }) =
    c.add.ensures.added ∙ (λ i. with_entry c.self.inside.journal (record { mark = m; entry = entry_of c.args.event.now (asked i) (c.as_slice.ensures.value i) })) in
    let counts : c.count.new.self ≡ plus c.self.inside.books (entry_counts e) =
    c.count.ensures.books ∙ (λ i. plus c.self.inside.books (counts_of (c.as_slice-2.ensures.value i) (d.flag i))) in
    let was : Kept = record { shard = c.self.inside.shard; journal = entries_of c.self.inside.journal.entries; counts = c.self.inside.books } in
    let longer : entries_of journal ++ e ∷ [] ≡ entries_of c.add.new.known.entries =
    sym (entries_more journal (record { mark = m; entry = e } ∷ [])) ∙ ap (λ k. entries_of k.entries) (sym grown) in
    let holds : Holds rs (kept_with was c.handle_with_drop.new.self e) = holds_with rs was c.handle_with_drop.new.self e c.self.invariant.2 d.does c.in_ok-outcome.ensures.rules in (
      ap (λ k. k.journal) grown ∙ c.self.invariant.0,
      c.add.ensures.author,
      subst (Holds rs) (λ i. record { shard = c.handle_with_drop.new.self; journal = longer i; counts = sym counts i }) holds,
      c.write.ensures.counted ∙ (ap (λ n. n + 1) c.self.invariant.3 ∙ (sym (length-append journal (record { mark = m; entry = e } ∷ [])) ∙ ap (λ k. length k.entries) (sym grown))),
    )

pub invariant_of-mine : goal.invariant_of-mine
invariant_of-mine g c =
    let rs : Rules = rules g.row.SHARD g.B.Journals.config in
    let d = c.in_ok-outcome.ensures.step in
    let e : Entry = entry_of c.args.event.now d.asked c.in_ok-outcome.outcome.outs.items in
    let asked = asked_since g.J.Judge.asks g.J.Judge.gives (lists_asks g.J.Judge.asks g.J.Judge.gives g.met.J.Judge.lists) c.of-before.result.value c.args.judge.now c.handle_with_drop.new.judge d.asked c.of-before.ensures d.listed in
    let page : Page = first_page c.mine.inside.pages.pages in
    let journal = c.self.inside.journal.entries in
    let signed : Signed = record { mark = page.mark; entry = e } in
    let grown : c.write.new.self.seen ≡ journal ++ signed ∷ [] =
    c.write.ensures.seen ∙ (ap (λ k. k.entries) c.add.ensures.added ∙ (λ i. journal ++ record { mark = page.mark; entry = entry_of c.args.event.now (asked i) (c.as_slice.ensures.value i) } ∷ [])) in
    let longer : entries_of journal ++ e ∷ [] ≡ entries_of c.write.new.self.seen = sym (entries_more journal (signed ∷ [])) ∙ ap entries_of (sym grown) in
    let turned : c.write.new.self.pages ≡ on_page page e ∷ [] =
    c.write.ensures.page ∙ (λ i. on_page page (entry_of c.args.event.now (asked i) (c.as_slice.ensures.value i)) ∷ []) in
    let own : c.add-2.new.self ≡ c.mine.inside.own ++ e ∷ [] =
    c.add-2.ensures ∙ (λ i. c.mine.inside.own ++ entry_of c.args.event.now (asked i) (c.as_slice.ensures.value i) ∷ []) in
    let portion : c.count.new.mine ≡ gains c.mine.inside.shares (entry_counts e) =
    c.count.ensures.shares ∙ (λ i. gains c.mine.inside.shares (counts_of (c.as_slice-2.ensures.value i) (d.flag i))) in
    let had : Token = record { portion = c.mine.inside.shares; seen = entries_of c.mine.inside.pages.seen; own = c.mine.inside.own; page = page } in
    let was : Kept = record { shard = c.self.inside.shard; journal = entries_of journal; counts = c.self.inside.books } in
    let after : Kept = kept_with was c.handle_with_drop.new.self e in
    let holds : Holds rs after = holds_with rs was c.handle_with_drop.new.self e c.self.invariant.2 d.does c.in_ok-outcome.ensures.rules in
    let is : IsToken rs (token_with had (entries_of journal) e) =
    is_token_with rs had (entries_of journal) e c.mine.invariant.1 (entries_prefix c.mine.inside.pages.seen journal c.look.ensures.seen) (journal_handled rs after holds) in (
      one_first c.write.new.self.pages (on_page page e) turned,
      subst (IsToken rs) (λ i. record { portion = sym portion i; seen = longer i; own = sym own i; page = first_page (sym turned i) }) is,
    )

pub returns-clause-entry : goal.returns-clause-entry
returns-clause-entry g c =
    let d = c.in_ok-outcome.ensures.step in
    let asked = asked_since g.J.Judge.asks g.J.Judge.gives (lists_asks g.J.Judge.asks g.J.Judge.gives g.met.J.Judge.lists) c.of-before.result.value c.args.judge.now c.handle_with_drop.new.judge d.asked c.of-before.ensures d.listed in
    let page : Page = first_page c.mine.inside.pages.pages in
    let journal = c.self.inside.journal.entries in
    let e : Entry = entry_of c.args.event.now d.asked c.in_ok-outcome.outcome.outs.items in
    let was : Kept = record { shard = c.self.inside.shard; journal = entries_of journal; counts = c.self.inside.books } in
    let had : Token = record { portion = c.mine.inside.shares; seen = entries_of c.mine.inside.pages.seen; own = c.mine.inside.own; page = page } in
    let is : Kept = record { shard = c.handle_with_drop.new.self; journal = entries_of c.add.new.known.entries; counts = c.count.new.self } in
    let has : Token = record { portion = c.count.new.mine; seen = entries_of c.write.new.self.seen; own = c.add-2.new.self; page = first_page c.write.new.self.pages } in
    let decided : Decided g.J.Judge.gives was had c.args.event.now c.args.judge.now c.in_ok-outcome.outcome.outs.items c.in_ok-outcome.outcome.dropped is has c.handle_with_drop.new.judge =
    record {
      asked = d.asked;
      listed = d.listed;
      flag = d.flag;
      step = d.does;
      rules = c.in_ok-outcome.ensures.rules;
      journal = ap (λ k. entries_of k.entries) c.add.ensures.added ∙ ((λ i. entries_of (journal ++ record { mark = page.mark; entry = entry_of c.args.event.now (asked i) (c.as_slice.ensures.value i) } ∷ []))
          ∙ entries_more journal (record { mark = page.mark; entry = e } ∷ []));
      counts = c.count.ensures.books ∙ (λ i. plus c.self.inside.books (counts_of (c.as_slice-2.ensures.value i) c.in_ok-outcome.outcome.dropped));
      had_seen = entries_prefix c.mine.inside.pages.seen journal c.look.ensures.seen;
      seen = ap entries_of c.write.ensures.seen;
      own = c.add-2.ensures ∙ (λ i. c.mine.inside.own ++ entry_of c.args.event.now (asked i) (c.as_slice.ensures.value i) ∷ []);
      page = ap first_page c.write.ensures.page ∙ (λ i. on_page page (entry_of c.args.event.now (asked i) (c.as_slice.ensures.value i)));
      portion = c.count.ensures.shares ∙ (λ i. gains c.mine.inside.shares (counts_of (c.as_slice-2.ensures.value i) c.in_ok-outcome.outcome.dropped));
    } in
    subst (λ (z : Kept × Token). Decided g.J.Judge.gives z.0 z.1 c.args.event.now c.args.judge.now c.in_ok-outcome.outcome.outs.items c.in_ok-outcome.outcome.dropped is has c.handle_with_drop.new.judge)
    (λ i. (c.self.view_is i, c.mine.view_is i)) decided
