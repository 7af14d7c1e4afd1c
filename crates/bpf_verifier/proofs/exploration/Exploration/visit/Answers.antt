use Rattle.std.proofs.Common.{inl, inr, arith}
use Rattle.std.proofs.lemmas.Result.{err_from_is_err_and}
use Rattle.bpf_decode.specs.Program.{Begins}
use Rattle.bpf_verifier.proofs.Counts.{Counted-on, paid_on}
use Rattle.bpf_verifier.proofs.exploration.Exploration.visit.Goals as goal

pub cover-requires : goal.cover-requires
cover-requires c =
    record {
      covers = (
        c.args.state,
        record {
          few = omega (arith, c.requires.room);
          traced = c.requires.traced;
          counted = Counted-on c.args.self.now.path c.args.self.now.after c.args.self.now.finished c.args.self.now.visits c.requires.counted;
          paid = paid_on c.args.self.now.path c.args.self.now.after c.args.self.now.visits c.requires.paid;
        },
        rw c.in-Some.is at c.requires.covers,
      );
    }

pub returns-in-Some-clause-stepped : goal.returns-in-Some-clause-stepped
returns-in-Some-clause-stepped c =
    let h = c.in_ok-unwound.ensures.stepped c.args.state (rw c.in-Some.is at c.requires.covers) in
    record { traced = h.traced; counted = h.counted; paid = h.paid; begun = h.begun; safe = h.safe; walked = h.walked; clear = h.clear }

pub returns-in_err-outcome-clause-refuses : goal.returns-in_err-outcome-clause-refuses
returns-in_err-outcome-clause-refuses c =
    let p = err_from_is_err_and c.from_residual-in_err-outcome.result c.from_residual-in_err-outcome.ensures.1 in
    rw (p.1, p.2)
    (let b : Begins c.args.program.now.slots c.args.state.pc = c.requires.stands.0.begins in
    elim (c.in_err-outcome.ensures.refuses b.0 b.1) [
      | inl memory ↦ inl (inl memory)
      | inr fault ↦ inr (record { insn = b.0; at = b.1; found = fault })
    ])

pub lead-requires : goal.lead-requires
lead-requires c =
    let b : Begins c.args.program.now.slots c.args.state.pc = c.requires.stands.0.begins in
    let h = c.in_ok-outcome.ensures in
    record {
      examined = (
        c.args.state,
        record {
          few = omega (arith, c.requires.room);
          traced = c.requires.traced;
          counted = Counted-on c.args.self.now.path c.args.self.now.after c.args.self.now.finished c.args.self.now.visits c.requires.counted;
          paid = paid_on c.args.self.now.path c.args.self.now.after c.args.self.now.visits c.requires.paid;
        },
        record {
          whole = c.requires.whole;
          stands = c.requires.stands;
          has = record { insn = b.0; at = b.1; examined = h.ways b.0 b.1 };
          state = record { there = h.there; elsewhere = h.elsewhere };
        },
      );
    }

pub returns-clause-stepped : goal.returns-clause-stepped
returns-clause-stepped c =
    let b : Begins c.args.program.now.slots c.args.state.pc = c.requires.stands.0.begins in
    let e = c.in_ok-outcome.ensures in
    let h = c.in_ok-unwound-2.ensures.stepped c.args.state (record {
      few = omega (arith, c.requires.room);
      traced = c.requires.traced;
      counted = Counted-on c.args.self.now.path c.args.self.now.after c.args.self.now.finished c.args.self.now.visits c.requires.counted;
      paid = paid_on c.args.self.now.path c.args.self.now.after c.args.self.now.visits c.requires.paid;
    }) (record {
      whole = c.requires.whole;
      stands = c.requires.stands;
      has = record { insn = b.0; at = b.1; examined = e.ways b.0 b.1 };
      state = record { there = e.there; elsewhere = e.elsewhere };
    }) in
    record { traced = h.traced; counted = h.counted; paid = h.paid; begun = h.begun; safe = h.safe; walked = h.walked; clear = h.clear }
