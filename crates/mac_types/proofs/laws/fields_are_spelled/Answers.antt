use Rattle.mac_types.proofs.Reading.{flags, sequence_controls, qos_controls, block_ack_parameter_sets, delba_parameter_sets, block_ack_controls}
use Rattle.mac_types.proofs.laws.fields_are_spelled.Goals as goal

pub returns : goal.returns
returns c = record {
  flags = flags;
  sequence_controls = sequence_controls;
  qos_controls = qos_controls;
  block_ack_parameter_sets = block_ack_parameter_sets;
  delba_parameter_sets = delba_parameter_sets;
  block_ack_controls = block_ack_controls;
}
