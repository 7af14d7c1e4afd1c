-- Packets are counted by the reasons for which they weren't judged, one after another.
use Rattle.std.proofs.Common.{◌≡◌, ◌≤◌, ◌+◌, ◌-◌, ◌∷◌, ◌∙◌, ℕ, Bool, true, false, cond, List, [], refl, sym, ap, arith, add_assoc, if◌then◌else◌}
use Rattle.std.proofs.lemmas.List.Sums.{sum_by-cons}
use Rattle.bpf_regions.specs.declared.hooks.Hook.{Hook}
use Rattle.bpf_regions.specs.declared.hooks.Hook.TheVariants.{Association}
use Rattle.capture.specs.Packets.{Seen}
use Rattle.apd_eval.specs.Unjudged.{count, reason_of, reasons_of, is_same, no_packets, with_packet, AreAtMost}
use Rattle.apd_eval.specs.declared.reasons.Reason.{Reason}
use Rattle.apd_eval.specs.declared.reasons.Reasons.{Reasons}
use Rattle.apd_eval.specs.declared.reasons.Reason.TheVariants.{NoFrame, OtherKind, OtherReceiver, Encrypted, Unasked}

abbrev make : ℕ → ℕ → ℕ → ℕ → ℕ → ℕ → Reasons
make a b c d e f = record { missing = a; other = b; elsewhere = c; encrypted = d; refused = e; requests = f }

same : {a a' b b' c c' d d' e e' f f' : ℕ} → a ≡ a' → b ≡ b' → c ≡ c' → d ≡ d' → e ≡ e' → f ≡ f' → make a b c d e f ≡ make a' b' c' d' e' f'
same {a} {a'} {b} {b'} {c} {c'} {d} {d'} {e} {e'} {f} {f'} p q r s t u =
    ap (λ x. make x b c d e f) p
    ∙ (ap (λ x. make a' x c d e f) q ∙ (ap (λ x. make a' b' x d e f) r ∙ (ap (λ x. make a' b' c' x e f) s ∙ (ap (λ x. make a' b' c' d' x f) t ∙ ap (λ x. make a' b' c' d' e' x) u))))

-- with these packets, too
abbrev pub plus : Hook → List ℕ → Reasons → List Seen → Reasons
plus hook address r packets = make (r.missing + count NoFrame hook address packets) (r.other + count OtherKind hook address packets) (r.elsewhere + count OtherReceiver hook address packets)
    (r.encrypted + count Encrypted hook address packets) (r.refused + count Unasked hook address packets) (r.requests + count Unasked Association address packets)

counted : (reason : Reason) (hook : Hook) (address : List ℕ) (n : ℕ) (packet : Seen) (packets : List Seen)
    → n + count reason hook address (packet ∷ packets) ≡ (n + cond (is_same (reason_of hook address packet.frame) reason) 1 0) + count reason hook address packets
counted reason hook address n packet packets =
    let one : ℕ = cond (is_same (reason_of hook address packet.frame) reason) 1 0 in
    ap (λ m. n + m) (sum_by-cons (λ (p : Seen). cond (is_same (reason_of hook address p.frame) reason) 1 0) packet packets) ∙ sym (add_assoc n one (count reason hook address packets))

pub plus_first : (hook : Hook) (address : List ℕ) (r : Reasons) (packet : Seen) (packets : List Seen)
    → plus hook address r (packet ∷ packets) ≡ plus hook address (with_packet r (reason_of hook address packet.frame) (reason_of Association address packet.frame)) packets
plus_first hook address r packet packets =
    same (counted NoFrame hook address r.missing packet packets) (counted OtherKind hook address r.other packet packets) (counted OtherReceiver hook address r.elsewhere packet packets)
    (counted Encrypted hook address r.encrypted packet packets) (counted Unasked hook address r.refused packet packets) (counted Unasked Association address r.requests packet packets)

-- after the last packet
pub all_passed : (hook : Hook) (address : List ℕ) (r : Reasons) (packets : List Seen) (judged : ℕ) → plus hook address r [] ≡ plus hook address no_packets packets
    → make r.missing r.other r.elsewhere r.encrypted (r.refused - judged) r.requests ≡ reasons_of hook address packets judged
all_passed hook address r packets judged is =
    let missing : r.missing + 0 ≡ 0 + count NoFrame hook address packets = ap (λ (x : Reasons). x.missing) is in
    let other : r.other + 0 ≡ 0 + count OtherKind hook address packets = ap (λ (x : Reasons). x.other) is in
    let elsewhere : r.elsewhere + 0 ≡ 0 + count OtherReceiver hook address packets = ap (λ (x : Reasons). x.elsewhere) is in
    let encrypted : r.encrypted + 0 ≡ 0 + count Encrypted hook address packets = ap (λ (x : Reasons). x.encrypted) is in
    let refused : r.refused + 0 ≡ 0 + count Unasked hook address packets = ap (λ (x : Reasons). x.refused) is in
    let requests : r.requests + 0 ≡ 0 + count Unasked Association address packets = ap (λ (x : Reasons). x.requests) is in
    let passed : r.refused ≡ count Unasked hook address packets = omega (arith, refused) in
    same (omega (arith, missing)) (omega (arith, other)) (omega (arith, elsewhere)) (omega (arith, encrypted)) (ap (λ n. n - judged) passed) (omega (arith, requests))

one_more : (b : Bool) (m n : ℕ) → m ≤ n → m + (if b then 1 else 0) ≤ n + 1
one_more true m n low = omega (arith, low)
one_more false m n low = omega (arith, low)

pub at_most_more : (n : ℕ) (r : Reasons) (reason asked : Reason) → AreAtMost n r → AreAtMost (n + 1) (with_packet r reason asked)
at_most_more n r reason asked few = record {
  missing = one_more (is_same reason NoFrame) r.missing n few.missing;
  other = one_more (is_same reason OtherKind) r.other n few.other;
  elsewhere = one_more (is_same reason OtherReceiver) r.elsewhere n few.elsewhere;
  encrypted = one_more (is_same reason Encrypted) r.encrypted n few.encrypted;
  refused = one_more (is_same reason Unasked) r.refused n few.refused;
  requests = one_more (is_same asked Unasked) r.requests n few.requests;
}

pub at_most_weaker : (m n : ℕ) (r : Reasons) → m ≤ n → AreAtMost m r → AreAtMost n r
at_most_weaker m n r low few = record {
  missing = omega (arith, low, few.missing);
  other = omega (arith, low, few.other);
  elsewhere = omega (arith, low, few.elsewhere);
  encrypted = omega (arith, low, few.encrypted);
  refused = omega (arith, low, few.refused);
  requests = omega (arith, low, few.requests);
}
