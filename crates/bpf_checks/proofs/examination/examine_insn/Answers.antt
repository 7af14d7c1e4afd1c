use Rattle.std.proofs.Common.{rules, ◌≡◌, SFits, w16, w32, Ok, subst, to_z-of_z}
use Rattle.bpf_words.specs.Word.{word_of}
use Rattle.bpf_rules.specs.Branches.{split}
use Rattle.bpf_rules.specs.Calls.{helped, answered}
use Rattle.bpf_rules.specs.Examined.{branched}
use Rattle.bpf_rules.specs.Faults.{IsOrNoMemory, on}
use Rattle.bpf_rules.specs.declared.ways.Ways.TheVariants.{One}
use Rattle.bpf_checks.proofs.examination.examine_insn.Goals as goal

pub returns-in-Branch : goal.returns-in-Branch
returns-in-Branch c =
    let s = c.args.state in
    let fits : SFits w16 c.in-Branch.offset = search rules in
    record {
      is = rw c.in-Branch.is
          (subst (λ x. IsOrNoMemory c.branch-state.result (on (split s c.in-Branch.wide c.in-Branch.compare c.in-Branch.dst c.in-Branch.source) (λ w. Ok (branched s x w)))) (to_z-of_z fits) (rw c.new.ensures.is at c.branch-state.ensures.is));
    }

pub returns-in-Call : goal.returns-in-Call
returns-in-Call c =
    let s = c.args.state in
    let fits : SFits w32 c.in-Call.helper = search rules in
    record {
      is = rw c.in-Call.is
          (subst (λ x. IsOrNoMemory c.help.result (on (helped s (word_of x)) (λ v. Ok (One (answered s v))))) (to_z-of_z fits) c.help.ensures.is);
    }
