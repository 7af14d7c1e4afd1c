-- ADDBA requests, by their verdicts.
use Rattle.std.proofs.Common.{◌≡◌, ℕ, Some, None, List, [], ◌∷◌, refl, subst}
use Rattle.bpf_regions.specs.declared.hooks.Hook.TheVariants as hook
use Rattle.mac_types.specs.declared.fields.BlockAckPolicy.TheVariants.{Immediate}
use Rattle.mac_frame.specs.Spelling.{spelling}
use Rattle.hooks.specs.Verdicts.{agreement_size}
use Rattle.ap_model.specs.declared.event.Out.{Out}
use Rattle.ap_model.specs.Readings.{Readings, Rules, Using}
use Rattle.ap_model.specs.Changes.{Agrees}
use Rattle.ap_model.specs.Agreements.{Setup, SetsUp, setup_ask, setup_answer, declined, granted}
use Rattle.ap_core.specs.Handles.{IsGranted}
use Rattle.ap_core.proofs.Handling.{using_is, unchanged}

module _ (c : Rules) (r r2 : Readings) (a : List ℕ) (s : Setup) (bytes context : List ℕ) (verdict : ℕ) (outs : List Out)
    (immediate : s.parameters.policy ≡ Immediate) (spelled : bytes ≡ spelling s.frame) (told : context ≡ (setup_ask r a s).context) where
  pub declined_by : agreement_size verdict s.parameters.buffer_size ≡ None → outs ≡ setup_answer c a s 37 0 ∷ [] →
      SetsUp c r a s ((record { hook = hook.Addba; frame = bytes; context = context }, verdict) ∷ []) outs r
  declined_by e f = declined verdict immediate (record { declines = e; asks = rw (spelled, told) refl; is = f; stays = unchanged _ })

  pub granted_by : (size : ℕ) → agreement_size verdict s.parameters.buffer_size ≡ Some size → IsGranted c r a s size outs r2 →
      SetsUp c r a s ((record { hook = hook.Addba; frame = bytes; context = context }, verdict) ∷ []) outs r2
  granted_by size e g =
      granted verdict immediate (record {
        size = size;
        grants = e;
        asks = rw (spelled, told) refl;
        first = g.first;
        passes = g.passes;
        is = g.is;
        window = g.using.window;
        sized = g.opens.sized;
        opens = g.opens.opens;
        blanks = g.opens.blanks;
        agrees = subst (λ (w : Using). Agrees r a s.parameters.tid (Some w) r2) (using_is g.using s.timeout r.clock g.opens.timeout g.opens.last_use) g.agrees;
      })
