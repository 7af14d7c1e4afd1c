use Rattle.apd_words.proofs.Usual.{verify_plain, verify_configured, verify_limited, assemble_plain, disassemble_plain, disassemble_configured, trace_plain, trace_configured, trace_limited}
use Rattle.apd_words.proofs.laws.usage_law.Goals as goal

pub returns : goal.returns
returns c = record {
  verify = verify_plain;
  verify_configured = verify_configured;
  verify_limited = verify_limited;
  assemble = assemble_plain;
  disassemble = disassemble_plain;
  disassemble_configured = disassemble_configured;
  trace = trace_plain;
  trace_configured = trace_configured;
  trace_limited = trace_limited;
}
