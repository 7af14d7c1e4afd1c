-- A listing grows slot by slot.
use Rattle.std.proofs.Common.{◌≡◌, ◌+◌, ◌++◌, IsTrue, ◌↔◌, Bool, ℕ, suc, List, [], Option, Some, None, slice_get, refl, arith}
use Rattle.std.proofs.lemmas.List.{append-nil}
use Rattle.bpf_insn.specs.declared.insn.Insn.{Insn}
use Rattle.bpf_decode.specs.Program.{IsTarget}
use Rattle.apd_text.specs.Listing.{listing_line, IsLineAt, Grows, IsListed, Nothing, More}

module _ (slots : List (Option Insn)) where
  pub Grows-line : (slot : ℕ) (insn : Insn) (target : Bool) (old new : List ℕ) → slice_get slots slot ≡ Some (Some insn) → IsTrue target ↔ IsTarget slots slot → new ≡ old ++ listing_line target slot insn → Grows slots slot old new
  Grows-line slot insn target old new there told grown = record {
    line = listing_line target slot insn;
    is = rw there record { target = target; told = told; is = refl };
    grown = grown;
  }

  pub Grows-second : (slot : ℕ) (old : List ℕ) → slice_get slots slot ≡ Some None → Grows slots slot old old
  Grows-second slot old there = record { line = []; is = rw there refl; grown = rw append-nil refl }

  pub Grows-past : (slot : ℕ) (old : List ℕ) → slice_get slots slot ≡ None → Grows slots slot old old
  Grows-past slot old there = record { line = []; is = rw there refl; grown = rw append-nil refl }

  pub IsListed-start : (text : List ℕ) → text ≡ [] → IsListed slots 0 text
  IsListed-start text none = rw none Nothing

  pub IsListed-more : (n : ℕ) (old new : List ℕ) → IsListed slots n old → Grows slots n old new → IsListed slots (n + 1) new
  IsListed-more n old new before more =
      let next : n + 1 ≡ suc n = omega arith in
      rw (next, more.grown) (More n old more.line before more.is)
