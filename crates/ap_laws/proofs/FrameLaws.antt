-- What one entry can be: its bytes are at most one frame, and its outputs determine its status.
use Rattle.std.proofs.Common.{◌≡◌, ℕ, ◌/◌, ◌%◌, ◌<◌, ⊎_elim, Bool, true, false, List, [], ◌∷◌, sym, ap, ◌∙◌, arith}
use Rattle.std.specs.Prelude.{get_or}
use Rattle.std.proofs.lemmas.Bool.Decides.{nat_tests}
use Rattle.std.proofs.lemmas.Bool.{cases_lt}
use Rattle.std.proofs.lemmas.List.{append_cancel_left}
use Rattle.mac_frame.specs.declared.content.Management.{Management}
use Rattle.mac_frame.specs.declared.content.Management.TheVariants as management
use Rattle.mac_frame.specs.declared.content.Content.{Content}
use Rattle.mac_frame.specs.Elements.{rates_text}
use Rattle.mac_frame.specs.Frames.{sent_management}
use Rattle.mac_frame.specs.Kinds.{first_byte}
use Rattle.mac_frame.specs.Spelling.{Frame, spelling, management_text, management_subtype}
use Rattle.mac_frame.proofs.Alone.{alone}
use Rattle.hooks.specs.Verdicts.{association_status}
use Rattle.ap_model.specs.declared.event.Event.{Event}
use Rattle.ap_model.specs.declared.event.Event.TheVariants as event
use Rattle.ap_model.specs.declared.event.Out.TheVariants as out
use Rattle.ap_model.specs.Readings.{Rules}
use Rattle.ap_model.specs.Associations.{authentication_answer, association_answer}
use Rattle.ap_model.specs.Steps.{deauthentication, disassociation}
use Rattle.ap_model.specs.Runs.{Entry}
use Rattle.ap_laws.specs.Exchanges.{ComesFrom}
use Rattle.ap_laws.proofs.Same.{bytes_of}

-- ---- frames

pub same_frame : (c : Rules) (e : Entry) (a b : List ℕ) (f g : Frame) → ComesFrom c e a f → ComesFrom c e b g → f ≡ g
same_frame c e a b f g one other = alone f g one.grammar other.grammar (bytes_of (spelling f) (spelling g) (sym one.came ∙ other.came))

pub same_sender : (c : Rules) (e : Entry) (a b : List ℕ) (f g : Frame) → ComesFrom c e a f → ComesFrom c e b g → a ≡ b
same_sender c e a b f g one other = sym one.sender ∙ ap (λ x. x.sender) (same_frame c e a b f g one other) ∙ other.sender

pub same_content : (c : Rules) (e : Entry) (a b : List ℕ) (f g : Frame) (x : Content) → ComesFrom c e a f → ComesFrom c e b g → f.content ≡ x → g.content ≡ x
same_content c e a b f g x one other is = ap (λ y. y.content) (sym (same_frame c e a b f g one other)) ∙ is

pub frame_no_tick : (bytes : List ℕ) (n : ℕ) (e : Event) → e ≡ event.Frame bytes → e ≡ event.Tick n → ⊥
frame_no_tick bytes n e p q = let x : event.Frame bytes ≡ event.Tick n = sym p ∙ q in cc

pub frame_no_kick : (bytes a : List ℕ) (reason : ℕ) (e : Event) → e ≡ event.Frame bytes → e ≡ event.Kick a reason → ⊥
frame_no_kick bytes a reason e p q = let x : event.Frame bytes ≡ event.Kick a reason = sym p ∙ q in cc

pub frame_no_close : (bytes a : List ℕ) (tid : ℕ) (e : Event) → e ≡ event.Frame bytes → e ≡ event.Close a tid → ⊥
frame_no_close bytes a tid e p q = let x : event.Frame bytes ≡ event.Close a tid = sym p ∙ q in cc

pub tick_no_kick : (n : ℕ) (a : List ℕ) (reason : ℕ) (e : Event) → e ≡ event.Tick n → e ≡ event.Kick a reason → ⊥
tick_no_kick n a reason e p q = let x : event.Tick n ≡ event.Kick a reason = sym p ∙ q in cc

pub tick_no_close : (n : ℕ) (a : List ℕ) (tid : ℕ) (e : Event) → e ≡ event.Tick n → e ≡ event.Close a tid → ⊥
tick_no_close n a tid e p q = let x : event.Tick n ≡ event.Close a tid = sym p ∙ q in cc

pub kick_no_close : (b : List ℕ) (reason : ℕ) (a : List ℕ) (tid : ℕ) (e : Event) → e ≡ event.Kick b reason → e ≡ event.Close a tid → ⊥
kick_no_close b reason a tid e p q = let x : event.Kick b reason ≡ event.Close a tid = sym p ∙ q in cc

pub kicked_one : (a b : List ℕ) (m n : ℕ) → event.Kick a m ≡ event.Kick b n → a ≡ b
kicked_one a b m n e = cc

pub closed_one : (a b : List ℕ) (t u : ℕ) → event.Close a t ≡ event.Close b u → (a ≡ b) × (t ≡ u)
closed_one a b t u e = (one e, other e)
  where
    one : event.Close a t ≡ event.Close b u → a ≡ b
    one e = cc

    other : event.Close a t ≡ event.Close b u → t ≡ u
    other e = cc

pub same_tick : (m n : ℕ) → event.Tick m ≡ event.Tick n → m ≡ n
same_tick m n e = cc

-- ---- the status of the reply

front : {A : Type 0} (x y : A) (xs ys : List A) → x ∷ xs ≡ y ∷ ys → x ≡ y
front x y xs ys e = cc

behind : {A : Type 0} (x y : A) (xs ys : List A) → x ∷ xs ≡ y ∷ ys → xs ≡ ys
behind x y xs ys e = cc

sent_bytes : (x y : List ℕ) → out.Send x ∷ [] ≡ out.Send y ∷ [] → x ≡ y
sent_bytes x y e = cc

-- what two equal management frames have in common
record SameText (body body2 : Management) (tail tail2 : List ℕ) : Type 0 where
  kind : first_byte (management_subtype body) ≡ first_byte (management_subtype body2)
  text : management_text body tail ≡ management_text body2 tail2

same_text : (a bssid : List ℕ) (body body2 : Management) (tail tail2 : List ℕ) →
    out.Send (spelling (sent_management a bssid body tail)) ∷ [] ≡ out.Send (spelling (sent_management a bssid body2 tail2)) ∷ [] → SameText body body2 tail tail2
same_text a bssid body body2 tail tail2 e =
    let bytes = sent_bytes (spelling (sent_management a bssid body tail)) (spelling (sent_management a bssid body2 tail2)) e in
    let rest = behind _ _ _ _ (behind _ _ _ _ (behind _ _ _ _ (behind _ _ _ _ bytes))) in
    let text = append_cancel_left bssid _ _ (append_cancel_left bssid _ _ (append_cancel_left a _ _ rest)) in
    record { kind = front _ _ _ _ bytes; text = behind _ _ _ _ (behind _ _ _ _ text) }

word_same : (m n : ℕ) → m % 256 ≡ n % 256 → m / 256 % 256 ≡ n / 256 % 256 → m % 65536 ≡ n % 65536
word_same m n p q = omega arith

pub authentication_status_is : (c : Rules) (a : List ℕ) (algorithm algorithm2 status status2 : ℕ) → authentication_answer c a algorithm status ∷ [] ≡ authentication_answer c a algorithm2 status2 ∷ [] → status % 65536 ≡ status2 % 65536
authentication_status_is c a algorithm algorithm2 status status2 e =
    let t = same_text a c.config.bssid (management.Authentication algorithm 2 status) (management.Authentication algorithm2 2 status2) [] [] e in
    word_same status status2 (ap (λ xs. get_or xs 4 0) t.text) (ap (λ xs. get_or xs 5 0) t.text)

-- the status and the AID field of two equal association responses
pub record SameAnswer (status status2 aid aid2 : ℕ) : Type 0 where
  pub answered : status % 65536 ≡ status2 % 65536
  pub identifier : aid % 65536 ≡ aid2 % 65536

pub association_answer_is : (c : Rules) (a : List ℕ) (again again2 : Bool) (status status2 aid aid2 : ℕ) → association_answer c a again status aid ∷ [] ≡ association_answer c a again2 status2 aid2 ∷ [] → SameAnswer status status2 aid aid2
association_answer_is c a true true status status2 aid aid2 e =
    let t = same_text a c.config.bssid (management.ReassociationResponse 1 status aid) (management.ReassociationResponse 1 status2 aid2) (rates_text c.config.rates) (rates_text c.config.rates) e in
    record { answered = word_same status status2 (ap (λ xs. get_or xs 2 0) t.text) (ap (λ xs. get_or xs 3 0) t.text); identifier = word_same aid aid2 (ap (λ xs. get_or xs 4 0) t.text) (ap (λ xs. get_or xs 5 0) t.text) }
association_answer_is c a false false status status2 aid aid2 e =
    let t = same_text a c.config.bssid (management.AssociationResponse 1 status aid) (management.AssociationResponse 1 status2 aid2) (rates_text c.config.rates) (rates_text c.config.rates) e in
    record { answered = word_same status status2 (ap (λ xs. get_or xs 2 0) t.text) (ap (λ xs. get_or xs 3 0) t.text); identifier = word_same aid aid2 (ap (λ xs. get_or xs 4 0) t.text) (ap (λ xs. get_or xs 5 0) t.text) }
association_answer_is c a true false status status2 aid aid2 e =
    let t = same_text a c.config.bssid (management.ReassociationResponse 1 status aid) (management.AssociationResponse 1 status2 aid2) (rates_text c.config.rates) (rates_text c.config.rates) e in
    let k : Path ℕ 0x30 0x10 = t.kind in absurd (omega arith)
association_answer_is c a false true status status2 aid aid2 e =
    let t = same_text a c.config.bssid (management.AssociationResponse 1 status aid) (management.ReassociationResponse 1 status2 aid2) (rates_text c.config.rates) (rates_text c.config.rates) e in
    let k : Path ℕ 0x10 0x30 = t.kind in absurd (omega arith)

-- a deauthentication is no response to a request
pub deauthentication_is_no_answer : (c : Rules) (a : List ℕ) (reason : ℕ) (again : Bool) (status aid : ℕ) → deauthentication c a reason ∷ [] ≡ association_answer c a again status aid ∷ [] → ⊥
deauthentication_is_no_answer c a reason true status aid e =
    let t = same_text a c.config.bssid (management.Deauthentication reason) (management.ReassociationResponse 1 status aid) [] (rates_text c.config.rates) e in
    let k : Path ℕ 0xc0 0x30 = t.kind in omega arith
deauthentication_is_no_answer c a reason false status aid e =
    let t = same_text a c.config.bssid (management.Deauthentication reason) (management.AssociationResponse 1 status aid) [] (rates_text c.config.rates) e in
    let k : Path ℕ 0xc0 0x10 = t.kind in omega arith

pub disassociation_is_no_answer : (c : Rules) (a : List ℕ) (reason : ℕ) (again : Bool) (status aid : ℕ) → disassociation c a reason ∷ [] ≡ association_answer c a again status aid ∷ [] → ⊥
disassociation_is_no_answer c a reason true status aid e =
    let t = same_text a c.config.bssid (management.Disassociation reason) (management.ReassociationResponse 1 status aid) [] (rates_text c.config.rates) e in
    let k : Path ℕ 0xa0 0x30 = t.kind in omega arith
disassociation_is_no_answer c a reason false status aid e =
    let t = same_text a c.config.bssid (management.Disassociation reason) (management.AssociationResponse 1 status aid) [] (rates_text c.config.rates) e in
    let k : Path ℕ 0xa0 0x10 = t.kind in omega arith

-- a verdict's status is a small number
pub small_status : (v : ℕ) → association_status v < 65536
small_status v =
    ⊎_elim
    (λ small. grind (arith, nat_tests))
    (λ large. grind (arith, nat_tests))
    (cases_lt v 65536)
