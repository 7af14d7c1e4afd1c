-- Requests that the hook admits or refuses.
use Rattle.std.proofs.Common.{◌≡◌, ◌≢◌, ℕ, Some, None, List, [], ◌∷◌, refl}
use Rattle.std.specs.Prelude.{IsSome}
use Rattle.assoc.specs.declared.standing.Known.TheVariants.{Associated}
use Rattle.assoc.specs.declared.class.Class.TheVariants.{Two}
use Rattle.assoc.specs.declared.class.ClassAnswer.TheVariants.{Permitted}
use Rattle.assoc.specs.Classes.{class_answer}
use Rattle.assoc.specs.Standings.{Standing, IsFree}
use Rattle.bpf_regions.specs.declared.hooks.Hook.TheVariants as hook
use Rattle.mac_frame.specs.Spelling.{spelling}
use Rattle.hooks.specs.Verdicts.{association_status}
use Rattle.ap_model.specs.declared.event.Out.{Out}
use Rattle.ap_model.specs.Readings.{Readings, Rules}
use Rattle.ap_model.specs.Changes.{Moves}
use Rattle.ap_model.specs.Associations.{Request, Suits, Names, Associates, Departs, association_ask, association_answer, aid_field, admitted, refused}
use Rattle.ap_core.proofs.Handling.{unchanged}

module _ (c : Rules) (r r2 : Readings) (a : List ℕ) (q : Request) (bytes context : List ℕ) (verdict n : ℕ) (outs : List Out)
    (free : IsFree c.shard r.standing a n) (suits : Suits q) (names : Names c q) (spelled : bytes ≡ spelling q.frame) (told : context ≡ (association_ask r a q).context) where
  -- a request that the hook admits
  pub admitted_by : association_status verdict ≡ 0 → outs ≡ association_answer c a q.again 0 (aid_field n) ∷ [] → Moves r a (Some (Associated n)) r2 →
      Associates c r a q ((record { hook = hook.Association; frame = bytes; context = context }, verdict) ∷ []) outs r2
  admitted_by z e moves =
      admitted verdict suits names (record {
        admits = z;
        identifier = n;
        free = free;
        asks = rw (spelled, told) refl;
        is = e;
        moves = moves;
      })

  -- one that the hook refuses
  pub refused_by : (association_status verdict ≢ 0) → outs ≡ association_answer c a q.again (association_status verdict) 0 ∷ [] →
      Associates c r a q ((record { hook = hook.Association; frame = bytes; context = context }, verdict) ∷ []) outs r
  refused_by z e =
      refused verdict suits names (record {
        refuses = z;
        identifier = n;
        free = free;
        asks = rw (spelled, told) refl;
        is = e;
        stays = unchanged _;
      })

-- a frame that changes a station's standing
pub departed : (r r2 : Readings) (a : List ℕ) (s : Standing) (outs : List Out) → outs ≡ [] → Moves r a s r2 → Departs r a s [] outs r2
departed r r2 a s outs e m = record { settles = record { silent = refl; is = e }; moves = m }

-- class 2 frames are permitted only to known stations
pub known_from_class : (s : Standing) → class_answer s Two ≡ Permitted → IsSome s
known_from_class None e = cc
known_from_class (Some k) e = refl
