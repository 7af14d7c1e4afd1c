-- A capture is followed packet by packet, and its rows are taken as they come.
use Rattle.std.proofs.Common.{◌≡◌, ◌+◌, ◌++◌, ◌∷◌, ℕ, List, [], Option, max, refl, subst}
use Rattle.apd_eval.specs.Metered.{Metered}
use Rattle.capture.specs.Packets.{Seen}
use Rattle.ap_core.specs.declared.shard.Shard.{Shard}
use Rattle.apd_policies.specs.Script.{unit_of}
use Rattle.apd_eval.specs.Again.{frame_at}
use Rattle.apd_eval.specs.Follows.{PacketComes, Follows, rows_of}
use Rattle.apd_eval.specs.Taken.{TakesAll}
use Rattle.apd_eval.specs.declared.ruling.Ruling.{Ruling}
use Rattle.apd_eval.specs.declared.row.Row.{Row}
use Rattle.apd_eval.specs.declared.tried.Policy.{Policy}
use Rattle.apd_eval.proofs.Taking.{TakesAll-append}

module _ {S : Type 0} (takes : S → Row → List ℕ → S → Type 0) (p : Policy) (start : ℕ) (all : List Seen) where
  -- the packets from here on are followed, and their rows are taken
  abbrev pub Goes : ℕ → ℕ → List Shard → Metered → S → List Seen → List Shard → Metered → S → Type 0
  Goes number clock shards h s packets shards' h' t =
      (rows : List Row) × Follows p start number clock shards h packets rows shards' h' × TakesAll takes (frame_at all) s rows t

  -- what goes on from here makes what was asked for
  abbrev pub Makes : (List Shard → Metered → S → Type 0) → ℕ → ℕ → List Shard → Metered → S → List Seen → Type 0
  Makes G number clock shards h s packets = (shards' : List Shard) (h' : Metered) (t : S) → Goes number clock shards h s packets shards' h' t → G shards' h' t

  pub Makes-more : (G : List Shard → Metered → S → Type 0) (number clock : ℕ) (shards between : List Shard) (h held : Metered) (s mid : S) (packet : Seen) (packets : List Seen) (last : Option Ruling)
      → Makes G number clock shards h s (packet ∷ packets) → PacketComes p clock (unit_of start packet.time) packet.frame last shards h between held
      → TakesAll takes (frame_at all) s (rows_of p.hook number last) mid → Makes G (number + 1) (max clock (unit_of start packet.time)) between held mid packets
  Makes-more G number clock shards between h held s mid packet packets last makes comes one = λ shards' h' t goes.
      makes shards' h' t (
        rows_of p.hook number last ++ goes.0,
        (last, between, held, goes.0, comes, refl, goes.1),
        TakesAll-append takes (frame_at all) (rows_of p.hook number last) goes.0 s mid t one goes.2,
      )

  pub Makes-end : (G : List Shard → Metered → S → Type 0) (number clock : ℕ) (shards : List Shard) (h : Metered) (s : S) (packets : List Seen)
      → Makes G number clock shards h s packets → packets ≡ [] → G shards h s
  Makes-end G number clock shards h s packets makes none =
      let Q : List Seen → Type 0 = λ l. Makes G number clock shards h s l in
      subst Q none makes shards h s ([], (refl, refl, refl), refl)
