use Rattle.std.proofs.Common.{◌≡◌, List, [], Some, ap, arith, subst, sym, ◌∙◌}
use Rattle.std.proofs.lemmas.List.Elements.{All-pop}
use Rattle.ap_live.specs.Tokens.{IsWorker}
use Rattle.ap_queues.specs.Queues.{items_of}
use Rattle.apd_run.specs.Batches.{Batch, Receipt, batches_of}
use Rattle.apd_run.specs.Dealing.{IsNewWorker}
use Rattle.apd_run.specs.Deciding.{Accounts}
use Rattle.apd_run.proofs.Deciding.{accounts_none}
use Rattle.apd_run.proofs.Numbering.{numbered_less}
use Rattle.apd_run.proofs.Served.{nothing_counted}
use Rattle.apd_run.proofs.access.run.ready_workers.Goals as goal

pub invariant_of-push_reserved : goal.invariant_of-push_reserved
invariant_of-push_reserved g c =
    let own = All-pop (IsWorker c.args.ap.now) c.tokens.tokens.items c.pop.new.self.items (Some c.in-Some.token) c.in-Some.ensures.items c.tokens.invariant.own in
    let new = All-pop IsNewWorker c.tokens.tokens.items c.pop.new.self.items (Some c.in-Some.token) c.in-Some.ensures.items c.tokens.invariant.new_workers in
    let last = numbered_less c.tokens.tokens.items c.pop.new.self.items c.in-Some.token c.in-Some.ensures.items c.tokens.invariant.numbered in
    let none : batches_of c.receipt.result.number c.receipt.result.batches ≡ [] = ap (λ (r : Receipt). batches_of r.number r.batches) c.receipt.ensures.is in
    record {
      own = own.1;
      number_is = ap (λ (r : Receipt). r.number) c.receipt.ensures.is ∙ (c.len-number.ensures ∙ (c.pop.new.self.ok.0 ∙ sym last.1));
      ap_is = c.requires.named;
      parts = new.1.parts;
      counts = nothing_counted _ _ new.1.nothing c.new.ensures.items;
      accounts = subst (λ (l : List Batch). Accounts l 0 c.in-Some.token c.new.result.items) (sym none)
          (accounts_none [] 0 c.in-Some.token c.new.result.items (ap items_of new.1.untaken) c.new.ensures.items new.1.unowned (λ s low. new.1.unwritten s low));
      learned = omega arith;
    }

pub tokens-preserved : goal.tokens-preserved
tokens-preserved g c =
    let own = All-pop (IsWorker c.args.ap.now) c.tokens.tokens.items c.pop.new.self.items (Some c.in-Some.token) c.in-Some.ensures.items c.tokens.invariant.own in
    let new = All-pop IsNewWorker c.tokens.tokens.items c.pop.new.self.items (Some c.in-Some.token) c.in-Some.ensures.items c.tokens.invariant.new_workers in
    record {
      own = own.0;
      new_workers = new.0;
      numbered = (numbered_less c.tokens.tokens.items c.pop.new.self.items c.in-Some.token c.in-Some.ensures.items c.tokens.invariant.numbered).0;
      many = omega (arith, c.push_reserved.ensures.len, c.in-Some.ensures.len, c.tokens.invariant.many);
      room = omega (arith, c.push_reserved.ensures.capacity, c.tokens.invariant.room);
    }
