-- Tokens of an access point that gave others.
use Rattle.std.proofs.Common.{◌≡◌, ◌<◌, List, length, slice_get, Some, sym, ap, ◌∙◌, subst}
use Rattle.bpf_helpers.proofs.Keeping.{fitting_kept, shapes_kept}
use Rattle.ap_queues.specs.declared.queue.EventQueue.{EventQueue}
use Rattle.ap_queues.specs.Lines.{AreLinesOf}
use Rattle.ap_tables.proofs.Sitting.{operators_kept}
use Rattle.ap_live.specs.Lives.{IsLive, KeepsLive, Live}
use Rattle.ap_live.specs.Tokens.{IsOperator, IsWorker, Operator, Worker}

pub operator_kept : (a b : Live) (o : Operator) → KeepsLive a b → IsOperator a o → IsOperator b o
operator_kept a b o keep own =
    record {
      lines = subst (λ (qs : List EventQueue). AreLinesOf qs o.lines) (sym keep.queues) own.lines;
      seats = operators_kept a.stock.maps b.stock.maps o.seats keep.tables own.seats;
    }

pub worker_kept : (a b : Live) (w : Worker) → KeepsLive a b → IsWorker a w → IsWorker b w
worker_kept a b w keep own =
    record {
      number = subst (λ (qs : List EventQueue). w.number < length qs) (sym keep.queues) own.number;
      pass = λ q here. own.pass q (subst (λ (qs : List EventQueue). slice_get qs w.number ≡ Some q) keep.queues here);
      list = own.list ∙ ap (λ l. l.list) (sym keep.list);
      fitting = fitting_kept a.stock.maps b.stock.maps keep.tables w.number w.held.seats own.fitting;
    }

-- what holds of an access point still holds
pub live_kept : (a b : Live) → KeepsLive a b → IsLive a → IsLive b
live_kept a b keep live =
    record {
      some = subst (λ (qs : List EventQueue). 0 < length qs) (sym keep.queues) live.some;
      as_many = keep.workers ∙ (live.as_many ∙ ap length (sym keep.queues));
      for_maps = ap (λ l. l.shapes) keep.list ∙ (live.for_maps ∙ sym (shapes_kept a.stock.maps b.stock.maps keep.tables));
    }
