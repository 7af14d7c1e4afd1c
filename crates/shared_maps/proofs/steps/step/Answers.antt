use Rattle.std.proofs.Common.{arith, refl, ◌∙◌, eqb, ◌+◌, ◌*◌, ◌≤◌, ◌%◌, ◌^◌, ℕ, ap, bit_and, bit_or, bit_xor}
use mathlib.Core.Option.{none}
use prog.Atomic.{either}
use Rattle.bpf_regions.specs.declared.maps.MapOp.TheVariants.{Load, Store, Swap, Add, Or, And, Xor, CompareExchange}
use Rattle.bpf_regions.specs.Maps.{bytes_of}
use Rattle.shared_maps.proofs.Accesses.{asked}
use Rattle.shared_maps.proofs.Words.{some_bytes, shifted_back, changes_store, changes_add, changes_or, changes_and, changes_xor, changes_exchange}
use Rattle.shared_maps.specs.History.{answer_to}
use Rattle.shared_maps.proofs.steps.step.Goals as goal

pub load-found-requires : goal.load-found-requires
load-found-requires g c =
    let laid = c.requires.laid in
    let shift = c.shift_of-shift.ensures in (
      c.requires.own,
      c.requires.inside,
      asked c.args.table.now.shared.key c.args.shape _ _ (Load) _ c.shift_of-shift.result laid.shaped c.requires.asked.1 (c.requires.asked.0 ∙ c.in-Load.is) laid.words shift.is
          _ _ _ 0 0 none c.args.seat.now.me (λ n. n) (λ n. n) c.requires.inside c.requires.numbered (λ n. refl) (λ n. ap (answer_to (Load)) (shifted_back n c.shift_of-shift.result)),
    )

pub store-requires : goal.store-requires
store-requires g c =
    let laid = c.requires.laid in
    let shift = c.shift_of-shift.ensures in
    let k : ℕ = (c.in-Store.x * 2 ^ c.shift_of-shift.result) % 18446744073709551616 in (
      c.requires.own,
      c.requires.inside,
      asked c.args.table.now.shared.key c.args.shape _ _ (Store c.in-Store.x) _ c.shift_of-shift.result laid.shaped c.requires.asked.1 (c.requires.asked.0 ∙ c.in-Store.is) laid.words shift.is
          _ _ _ k 0 none c.args.seat.now.me (λ n. k) (λ n. k) c.requires.inside c.requires.numbered (changes_store (bytes_of c.args.shape.width) c.shift_of-shift.result shift.whole c.in-Store.x) (λ n. refl),
    )

pub overflow_shl-x : goal.overflow_shl-x
overflow_shl-x g c = let h = c.shift_of-shift.ensures.whole in let b : 1 ≤ bytes_of c.args.shape.width = some_bytes c.args.shape.width in omega arith

pub swap-found-requires : goal.swap-found-requires
swap-found-requires g c =
    let laid = c.requires.laid in
    let shift = c.shift_of-shift.ensures in
    let k : ℕ = (c.in-Swap.x * 2 ^ c.shift_of-shift.result) % 18446744073709551616 in (
      c.requires.own,
      c.requires.inside,
      asked c.args.table.now.shared.key c.args.shape _ _ (Swap c.in-Swap.x) _ c.shift_of-shift.result laid.shaped c.requires.asked.1 (c.requires.asked.0 ∙ c.in-Swap.is) laid.words shift.is
          _ _ _ k 0 none c.args.seat.now.me (λ n. k) (λ n. n) c.requires.inside c.requires.numbered (changes_store (bytes_of c.args.shape.width) c.shift_of-shift.result shift.whole c.in-Swap.x) (λ n. ap (answer_to (Swap c.in-Swap.x)) (shifted_back n c.shift_of-shift.result)),
    )

pub overflow_shl-x-in-Swap : goal.overflow_shl-x-in-Swap
overflow_shl-x-in-Swap g c = let h = c.shift_of-shift.ensures.whole in let b : 1 ≤ bytes_of c.args.shape.width = some_bytes c.args.shape.width in omega arith

pub fetch_add-found-requires : goal.fetch_add-found-requires
fetch_add-found-requires g c =
    let laid = c.requires.laid in
    let shift = c.shift_of-shift.ensures in
    let k : ℕ = (c.in-Add.x * 2 ^ c.shift_of-shift.result) % 18446744073709551616 in (
      c.requires.own,
      c.requires.inside,
      asked c.args.table.now.shared.key c.args.shape _ _ (Add c.in-Add.x) _ c.shift_of-shift.result laid.shaped c.requires.asked.1 (c.requires.asked.0 ∙ c.in-Add.is) laid.words shift.is
          _ _ _ k 0 none c.args.seat.now.me (λ n. (n + k) % 18446744073709551616) (λ n. n) c.requires.inside c.requires.numbered (changes_add (bytes_of c.args.shape.width) c.shift_of-shift.result shift.whole c.in-Add.x) (λ n. ap (answer_to (Add c.in-Add.x)) (shifted_back n c.shift_of-shift.result)),
    )

pub overflow_shl-x-in-Add : goal.overflow_shl-x-in-Add
overflow_shl-x-in-Add g c = let h = c.shift_of-shift.ensures.whole in let b : 1 ≤ bytes_of c.args.shape.width = some_bytes c.args.shape.width in omega arith

pub fetch_or-found-requires : goal.fetch_or-found-requires
fetch_or-found-requires g c =
    let laid = c.requires.laid in
    let shift = c.shift_of-shift.ensures in
    let k : ℕ = (c.in-Or.x * 2 ^ c.shift_of-shift.result) % 18446744073709551616 in (
      c.requires.own,
      c.requires.inside,
      asked c.args.table.now.shared.key c.args.shape _ _ (Or c.in-Or.x) _ c.shift_of-shift.result laid.shaped c.requires.asked.1 (c.requires.asked.0 ∙ c.in-Or.is) laid.words shift.is
          _ _ _ k 0 none c.args.seat.now.me (λ n. bit_or n k) (λ n. n) c.requires.inside c.requires.numbered (changes_or (bytes_of c.args.shape.width) c.shift_of-shift.result shift.whole c.in-Or.x) (λ n. ap (answer_to (Or c.in-Or.x)) (shifted_back n c.shift_of-shift.result)),
    )

pub overflow_shl-x-in-Or : goal.overflow_shl-x-in-Or
overflow_shl-x-in-Or g c = let h = c.shift_of-shift.ensures.whole in let b : 1 ≤ bytes_of c.args.shape.width = some_bytes c.args.shape.width in omega arith

pub fetch_and-found-requires : goal.fetch_and-found-requires
fetch_and-found-requires g c =
    let laid = c.requires.laid in
    let shift = c.shift_of-shift.ensures in
    let k : ℕ = (c.in-And.x * 2 ^ c.shift_of-shift.result) % 18446744073709551616 in (
      c.requires.own,
      c.requires.inside,
      asked c.args.table.now.shared.key c.args.shape _ _ (And c.in-And.x) _ c.shift_of-shift.result laid.shaped c.requires.asked.1 (c.requires.asked.0 ∙ c.in-And.is) laid.words shift.is
          _ _ _ k 0 none c.args.seat.now.me (λ n. bit_and n k) (λ n. n) c.requires.inside c.requires.numbered (changes_and (bytes_of c.args.shape.width) c.shift_of-shift.result shift.whole c.in-And.x) (λ n. ap (answer_to (And c.in-And.x)) (shifted_back n c.shift_of-shift.result)),
    )

pub overflow_shl-x-in-And : goal.overflow_shl-x-in-And
overflow_shl-x-in-And g c = let h = c.shift_of-shift.ensures.whole in let b : 1 ≤ bytes_of c.args.shape.width = some_bytes c.args.shape.width in omega arith

pub fetch_xor-found-requires : goal.fetch_xor-found-requires
fetch_xor-found-requires g c =
    let laid = c.requires.laid in
    let shift = c.shift_of-shift.ensures in
    let k : ℕ = (c.in-Xor.x * 2 ^ c.shift_of-shift.result) % 18446744073709551616 in (
      c.requires.own,
      c.requires.inside,
      asked c.args.table.now.shared.key c.args.shape _ _ (Xor c.in-Xor.x) _ c.shift_of-shift.result laid.shaped c.requires.asked.1 (c.requires.asked.0 ∙ c.in-Xor.is) laid.words shift.is
          _ _ _ k 0 none c.args.seat.now.me (λ n. bit_xor n k) (λ n. n) c.requires.inside c.requires.numbered (changes_xor (bytes_of c.args.shape.width) c.shift_of-shift.result shift.whole c.in-Xor.x) (λ n. ap (answer_to (Xor c.in-Xor.x)) (shifted_back n c.shift_of-shift.result)),
    )

pub overflow_shl-x-in-Xor : goal.overflow_shl-x-in-Xor
overflow_shl-x-in-Xor g c = let h = c.shift_of-shift.ensures.whole in let b : 1 ≤ bytes_of c.args.shape.width = some_bytes c.args.shape.width in omega arith

pub compare_exchange-found-requires : goal.compare_exchange-found-requires
compare_exchange-found-requires g c =
    let laid = c.requires.laid in
    let shift = c.shift_of-shift.ensures in
    let k : ℕ = (c.in-CompareExchange.expected * 2 ^ c.shift_of-shift.result) % 18446744073709551616 in
    let l : ℕ = (c.in-CompareExchange.new * 2 ^ c.shift_of-shift.result) % 18446744073709551616 in (
      c.requires.own,
      c.requires.inside,
      asked c.args.table.now.shared.key c.args.shape _ _ (CompareExchange c.in-CompareExchange.expected c.in-CompareExchange.new) _ c.shift_of-shift.result laid.shaped c.requires.asked.1 (c.requires.asked.0 ∙ c.in-CompareExchange.is) laid.words shift.is
          _ _ _ k l none c.args.seat.now.me (λ n. either (eqb n k) l n) (λ n. n) c.requires.inside c.requires.numbered (changes_exchange (bytes_of c.args.shape.width) c.shift_of-shift.result shift.whole c.in-CompareExchange.expected c.in-CompareExchange.new) (λ n. ap (answer_to (CompareExchange c.in-CompareExchange.expected c.in-CompareExchange.new)) (shifted_back n c.shift_of-shift.result)),
    )

pub overflow_shl-expected : goal.overflow_shl-expected
overflow_shl-expected g c = let h = c.shift_of-shift.ensures.whole in let b : 1 ≤ bytes_of c.args.shape.width = some_bytes c.args.shape.width in omega arith

pub overflow_shl-new : goal.overflow_shl-new
overflow_shl-new g c = let h = c.shift_of-shift.ensures.whole in let b : 1 ≤ bytes_of c.args.shape.width = some_bytes c.args.shape.width in omega arith
