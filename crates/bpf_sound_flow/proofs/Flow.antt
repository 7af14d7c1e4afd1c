-- All kinds of instructions.
use Rattle.bpf_insn.specs.declared.insn.Insn.TheVariants as insn
use Rattle.bpf_sound_flow.specs.Laws.{FlowCovers}
use Rattle.bpf_sound_flow.proofs.Calls.{load_wide_covers, call_covers, call_local_covers, exit_covers}
use Rattle.bpf_sound_flow.proofs.Steps.{alu_covers, movsx_covers, neg_covers, end_covers, jump_covers, jump_long_covers, branch_covers}

pub flow_covers : FlowCovers
flow_covers (insn.Alu op wide dst s) f = alu_covers op wide dst s
flow_covers (insn.MovSx from wide dst src) f = movsx_covers from wide dst src
flow_covers (insn.Neg wide dst) f = neg_covers wide dst
flow_covers (insn.End order width dst) f = end_covers order width dst
flow_covers (insn.LoadWide dst v) f = load_wide_covers dst v
flow_covers (insn.Jump by) f = jump_covers by
flow_covers (insn.JumpLong by) f = jump_long_covers by
flow_covers (insn.Branch compare wide dst s by) f = branch_covers compare wide dst s by
flow_covers (insn.Call helper) f = call_covers helper
flow_covers (insn.CallLocal by) f = call_local_covers by
flow_covers insn.Exit f = exit_covers
flow_covers i f = absurd f
