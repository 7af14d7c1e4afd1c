-- What is refused isn't an exchange.
use Rattle.std.proofs.Common.{◌≡◌, ◌≢◌, ℕ, ◌<◌, Bool, [], ◌∷◌, sym, ◌∙◌, arith}
use Rattle.mac_frame.specs.Spelling.{Frame}
use Rattle.ap_model.specs.Readings.{Rules}
use Rattle.ap_model.specs.Associations.{authentication_answer, association_answer, aid_field}
use Rattle.ap_model.specs.Runs.{Entry}
use Rattle.ap_laws.specs.Exchanges.{Exchange, ComesFrom, IsExchange, authentication, association, disassociation, deauthentication, kick}
use Rattle.ap_laws.proofs.FrameLaws.{authentication_status_is, association_answer_is}
use Rattle.ap_laws.proofs.TellLaws.{exchange_of, number_of, exchange_number}

module _ (c : Rules) (e : Entry) (f : Frame) (comes : ComesFrom c e f.sender f) where
  pub refused_authentication : (algorithm status : ℕ) → exchange_of f.content ≡ 1 → status ≢ 0 → status < 65536 → e.outs ≡ authentication_answer c f.sender algorithm status ∷ [] → (x : Exchange) → IsExchange c e f.sender x → ⊥
  refused_authentication algorithm status kind ne small is x exchange = by_exchange x exchange (sym (exchange_number c e f.sender f comes f.sender x exchange) ∙ kind)
    where
      by_exchange : (x : Exchange) → IsExchange c e f.sender x → number_of x ≡ 1 → ⊥
      by_exchange x (authentication h bssid sequence algorithm2 transaction status2 from at outs) k =
          let s = authentication_status_is c f.sender algorithm algorithm2 status 0 (sym is ∙ outs) in omega arith
      by_exchange x (association h repeated n from at own outs) k = omega arith
      by_exchange x (disassociation h bssid sequence reason from at) k = omega arith
      by_exchange x (deauthentication h bssid sequence reason from at) k = omega arith
      by_exchange x (kick reason at) k = omega arith

  -- a request counts as an exchange only if the response admits it
  pub no_association : exchange_of f.content ≡ 2 → ((repeated : Bool) (n : ℕ) → e.outs ≡ association_answer c f.sender repeated 0 (aid_field n) ∷ [] → ⊥) → (x : Exchange) → IsExchange c e f.sender x → ⊥
  no_association kind not x exchange = by_exchange x exchange (sym (exchange_number c e f.sender f comes f.sender x exchange) ∙ kind)
    where
      by_exchange : (x : Exchange) → IsExchange c e f.sender x → number_of x ≡ 2 → ⊥
      by_exchange x (authentication h bssid sequence algorithm2 transaction status2 from at outs) k = omega arith
      by_exchange x (association h repeated2 n from at own outs) k = not repeated2 n outs
      by_exchange x (disassociation h bssid sequence reason from at) k = omega arith
      by_exchange x (deauthentication h bssid sequence reason from at) k = omega arith
      by_exchange x (kick reason at) k = omega arith

  pub refused_association : (repeated : Bool) (status aid : ℕ) → exchange_of f.content ≡ 2 → status ≢ 0 → status < 65536 → e.outs ≡ association_answer c f.sender repeated status aid ∷ [] → (x : Exchange) → IsExchange c e f.sender x → ⊥
  refused_association repeated status aid kind ne small is =
      no_association kind (λ repeated2 n outs. let s = (association_answer_is c f.sender repeated repeated2 status 0 aid (aid_field n) (sym is ∙ outs)).answered in omega arith)
