use Rattle.ap_books.proofs.totals.Totals.and.Goals as goal

pub returns : goal.returns
returns c = λ x y a b.
    record {
      events = c.added.ensures x.events y.events a.events b.events;
      sent = c.added-2.ensures x.sent y.sent a.sent b.sent;
      up = c.added-3.ensures x.up y.up a.up b.up;
      dropped = c.added-4.ensures x.dropped y.dropped a.dropped b.dropped;
      notes = c.added-5.ensures x.notes y.notes a.notes b.notes;
    }
