-- An operator of whose work nothing is said.
use Rattle.std.proofs.Common.{◌≡◌, ◌+◌, ◌-◌, ◌<◌, ◌≤◌, ℕ, zero, suc, Option, Some, None, Ok, Err, refl, sym, ap, subst, ◌∙◌, arith, add-zero}
use Rattle.std.specs.Result.{IfErr, OnOk}
use Rattle.std.specs.declared.result.Result.{Result}
use Rattle.ap_model.specs.AccessPoint.{shard_of}
use Rattle.ap_model.specs.declared.event.Event.{Event}
use Rattle.apd_driver.specs.Following.{AtNone, AtOneMore, Concerns, PutsAll, PutsFrom, WaitsAt, end_of, first_of, first_shard, shard_end}
use Rattle.apd_driver.specs.declared.operating.Waiting.{Waiting}
use Rattle.uses_commands.specs.Idling.{idle}

puts_some : (line : ℕ) (e : Event) (from n : ℕ) → PutsFrom idle line e from tt (from + n) tt
puts_some line e from zero = subst (λ (k : ℕ). PutsFrom idle line e from tt k tt) (sym (add-zero from)) AtNone
puts_some line e from (suc n) =
    let next : from + n + 1 ≡ from + suc n = omega arith in
    subst (λ (k : ℕ). PutsFrom idle line e from tt k tt) next (AtOneMore (from + n) tt tt (puts_some line e from n) tt)

-- any shards get an event
pub idle_puts : (line : ℕ) (e : Event) (from to : ℕ) → from ≤ to → PutsFrom idle line e from tt to tt
idle_puts line e from to le =
    let all : from + (to - from) ≡ to = omega (arith, le) in
    subst (λ (k : ℕ). PutsFrom idle line e from tt k tt) all (puts_some line e from (to - from))

one_more : (s : Option ℕ) → first_of s ≤ end_of s
one_more None = omega arith
one_more (Some shard) = omega arith

-- the shards that it concerns
pub idle_puts_all : (line : ℕ) (e : Event) → PutsFrom idle line e (first_shard e) tt (shard_end e) tt
idle_puts_all line e = idle_puts line e (first_shard e) (shard_end e) (one_more (shard_of e))

-- a tick waits at the shard at which it was put
pub idle_waits : (line : ℕ) (e : Event) (shard : ℕ) (w : Waiting) → Concerns e shard → w ≡ record { event = e; shard = shard } → WaitsAt idle line e shard tt tt w
idle_waits line e shard w concerned is =
    subst (λ (x : Waiting). WaitsAt idle line e shard tt tt x) (sym is) (record { event = refl; concerned = concerned; before = AtNone })

-- a tick concerns the first shard
pub tick_first : (e : Event) → shard_of e ≡ None → Concerns e (first_shard e)
tick_first e t = record { first_is = omega arith; within = subst (λ (s : Option ℕ). first_of s < end_of s) (sym t) (omega arith) }

-- a tick was put, or waits at the first shard
pub idle_submits : {T : Type 0} → (line : ℕ) (e : Event) (r : Result T Waiting) → IfErr r (λ w. w ≡ record { event = e; shard = 0 }) → IfErr r (λ w. shard_of e ≡ None)
    → OnOk r (PutsAll idle line e tt tt) × IfErr r (WaitsAt idle line e (first_shard e) tt tt)
idle_submits line e (Ok x) waits tick = (idle_puts_all line e, tt)
idle_submits line e (Err w) waits tick =
    let first : first_shard e ≡ 0 = ap first_of tick in
    (tt, idle_waits line e (first_shard e) w (tick_first e tick) (waits ∙ (λ i. record { event = e; shard = sym first i })))

-- it was put from this shard on, or waits there
pub idle_goes_on : {T : Type 0} → (line : ℕ) (e : Event) (shard : ℕ) (r : Result T Waiting) → IfErr r (λ w. w ≡ record { event = e; shard = shard }) → Concerns e shard
    → OnOk r (PutsFrom idle line e shard tt (shard_end e) tt) × IfErr r (WaitsAt idle line e shard tt tt)
idle_goes_on line e shard (Ok x) waits c = (idle_puts line e shard (shard_end e) (omega (arith, c.within)), tt)
idle_goes_on line e shard (Err w) waits c = (tt, idle_waits line e shard w c waits)
