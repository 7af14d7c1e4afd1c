-- What stays when tokens change.
use Rattle.std.proofs.Common.{◌≡◌, ◌+◌, ℕ, refl, sym, ap, subst, ◌∙◌, arith}
use Rattle.ap_books.specs.Holdings.{Holding, HasMerged, HasParts}
use Rattle.ap_shards.specs.Tokens.{Eight, holding_of}
use Rattle.ap_live.specs.Counting.{KeepParts}
use Rattle.ap_live.specs.Lives.{Live, KeepsLive}
use Rattle.ap_live.specs.Tokens.{Operator, IsOperator, Worker, IsWorker}
use Rattle.bpf_helpers.proofs.Keeping.{keep_all, keep_further}
use Rattle.live_scenes.specs.Rights.{IsChief, IsHand}

-- a token keeps its number of parts
keeps_parts : (n : ℕ) (a b : Eight) → KeepParts a b → HasParts n (holding_of a) → HasParts n (holding_of b)
keeps_parts n a b k h = (k.0 ∙ h.0, k.1 ∙ h.1, k.2 ∙ h.2, k.3 ∙ h.3, k.4 ∙ h.4, k.5 ∙ h.5, k.6 ∙ h.6, k.7 ∙ h.7)

-- a worker that has served
pub hand_served : (a : Live) (w w1 w2 : Worker) → w1 ≡ w → IsHand a w → IsWorker a w2 → KeepParts w1.shards w2.shards → IsHand a w2
hand_served a w w1 w2 same h own keep =
    record { own = own; part = keeps_parts 1 w.shards w2.shards (subst (λ (v : Worker). KeepParts v.shards w2.shards) same keep) h.part }

-- an operator whose token has the same parts of the ledgers
chief_still : (a : Live) (o o2 : Operator) → IsChief a o → IsOperator a o2 → o2.shards ≡ o.shards → IsChief a o2
chief_still a o o2 h own same = record { own = own; part = subst (λ (e : Eight). HasParts 1 (holding_of e)) (sym same) h.part }

-- an operator that has put an item
pub chief_put : (a : Live) (o o1 o2 : Operator) → o1 ≡ o → IsChief a o → IsOperator a o2 → o2 ≡ record o1 { lines = o2.lines } → IsChief a o2
chief_put a o o1 o2 is h own same = chief_still a o o2 h own (ap (λ (p : Operator). p.shards) same ∙ ap (λ (p : Operator). p.shards) is)

-- an operator that has used a map
pub chief_reached : (a : Live) (o o1 o2 : Operator) → o1 ≡ o → IsChief a o → IsOperator a o2 → o2 ≡ record o1 { seats = o2.seats } → IsChief a o2
chief_reached a o o1 o2 is h own same = chief_still a o o2 h own (ap (λ (p : Operator). p.shards) same ∙ ap (λ (p : Operator). p.shards) is)

-- an operator whose command has been decided
pub chief_acted : (a : Live) (o o2 : Operator) → IsChief a o → o2 ≡ record o { shards = o2.shards } → KeepParts o.shards o2.shards → IsChief a o2
chief_acted a o o2 h same keep =
    record {
      own = subst (IsOperator a) (sym same) (record { lines = h.own.lines; seats = h.own.seats });
      part = keeps_parts 1 o.shards o2.shards keep h.part;
    }

-- an unchanged operator
pub chief_same : (a : Live) (o o2 : Operator) → IsChief a o → o2 ≡ o → IsChief a o2
chief_same a o o2 h same = subst (IsChief a) (sym same) h

-- a token stays one of the access point when that gives out others
pub hand_kept : (a b : Live) (w : Worker) → (IsWorker a w → IsWorker b w) → IsHand a w → IsHand b w
hand_kept a b w kept h = record { own = kept h.own; part = h.part }

pub chief_kept : (a b : Live) (o : Operator) → (IsOperator a o → IsOperator b o) → IsChief a o → IsChief b o
chief_kept a b o kept h = record { own = kept h.own; part = h.part }

-- `KeepsLive` is transitive
pub keeps_on : (a b c : Live) → KeepsLive a b → KeepsLive b c → KeepsLive a c
keeps_on a b c k l =
    record {
      queues = l.queues ∙ k.queues;
      tables = keep_further a.stock.maps b.stock.maps c.stock.maps k.tables l.tables;
      workers = l.workers ∙ k.workers;
      list = l.list ∙ k.list;
      draw = l.draw ∙ k.draw;
    }

pub keeps_itself : (a : Live) → KeepsLive a a
keeps_itself a = record { queues = refl; tables = keep_all a.stock.maps; workers = refl; list = refl; draw = refl }

-- one part more
one_more : (n a g b : ℕ) → a ≡ n → g ≡ 1 → b ≡ a + g → b ≡ n + 1
one_more n a g b h o e = omega (arith, h, o, e)

pub one_more_part : (n : ℕ) (a g b : Holding) → HasParts n a → HasParts 1 g → HasMerged a g b → HasParts (n + 1) b
one_more_part n a g b h o e = (
  one_more n a.of0.parts g.of0.parts b.of0.parts h.0 o.0 e.0.0,
  one_more n a.of1.parts g.of1.parts b.of1.parts h.1 o.1 e.1.0,
  one_more n a.of2.parts g.of2.parts b.of2.parts h.2 o.2 e.2.0,
  one_more n a.of3.parts g.of3.parts b.of3.parts h.3 o.3 e.3.0,
  one_more n a.of4.parts g.of4.parts b.of4.parts h.4 o.4 e.4.0,
  one_more n a.of5.parts g.of5.parts b.of5.parts h.5 o.5 e.5.0,
  one_more n a.of6.parts g.of6.parts b.of6.parts h.6 o.6 e.6.0,
  one_more n a.of7.parts g.of7.parts b.of7.parts h.7 o.7 e.7.0,
)
