-- BlockAckReq under an agreement.
use Rattle.std.proofs.Common.{◌≡◌, ℕ, Some, List, [], ◌∷◌, ◌++◌, refl, ap, subst, ◌∙◌}
use Rattle.mac_frame.specs.declared.content.Control.TheVariants as control
use Rattle.mac_frame.specs.Frames.{sent_control}
use Rattle.ap_model.specs.declared.event.Out.{Out}
use Rattle.ap_model.specs.Readings.{Readings, Rules, Using, Held}
use Rattle.ap_model.specs.Changes.{sends, Agrees}
use Rattle.ap_model.specs.Agreements.{ups, RequestComes, agreed}
use Rattle.assoc.specs.Standings.{Standings}
use Rattle.ap_agreements.specs.Uses.{RequestUse}
use Rattle.ap_agreements.specs.Tables.{Kept, agreement_in, UsesRequest}
use Rattle.ap_core.proofs.Handling.{using_is}

pub reported : (c : Rules) (r r2 : Readings) (a : List ℕ) (tid start first bits : ℕ) (u v : Using) (outs : List Out) (passed : List (ℕ × Held)) →
    r.agreement a tid ≡ Some u → RequestUse start r.clock u v passed → first ≡ v.window.scoreboard_start → bits ≡ v.window.scoreboard_bits →
    outs ≡ ups a tid passed ++ sends (sent_control a c.config.bssid (control.BlockAck tid first bits)) ∷ [] →
    Agrees r a tid (Some v) r2 → RequestComes c r a tid start [] outs r2
reported c r r2 a tid start first bits u v outs passed g uses e1 e2 e3 agrees =
    agreed u g (record {
      window = v.window;
      size = uses.size;
      passed = passed;
      moves = uses.moves;
      marks = uses.marks;
      settles = record {
        silent = refl;
        is =
            e3 ∙ ap (λ n. ups a tid passed ++ sends (sent_control a c.config.bssid (control.BlockAck tid n bits)) ∷ []) e1
            ∙ ap (λ n. ups a tid passed ++ sends (sent_control a c.config.bssid (control.BlockAck tid v.window.scoreboard_start n)) ∷ []) e2;
      };
      agrees = subst (λ (w : Using). Agrees r a tid (Some w) r2) (using_is v u.timeout r.clock uses.timeout uses.last_use) agrees;
    })

pub reported_from : (c : Rules) (st : Standings) (ks ks2 : List Kept) (clock : ℕ) (a : List ℕ) (tid start : ℕ) (x : Using) (board : ℕ × ℕ) (outs : List Out) (passed : List (ℕ × Held)) →
    agreement_in ks a tid ≡ Some x → UsesRequest ks a tid start clock ks2 passed board →
    outs ≡ ups a tid passed ++ sends (sent_control a c.config.bssid (control.BlockAck tid board.0 board.1)) ∷ [] →
    RequestComes c (record { standing = st; agreement = agreement_in ks; clock = clock }) a tid start [] outs (record { standing = st; agreement = agreement_in ks2; clock = clock })
reported_from c st ks ks2 clock a tid start x board outs passed g uses e =
    let h = uses x g in
    reported c _ _ a tid start board.0 board.1 x h.0 outs passed g h.1 h.3 h.4 e (record { standing = λ q. refl; agreement = h.2; clock = refl })
