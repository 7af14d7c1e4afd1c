use Rattle.std.proofs.Common.{◌+◌, ◌-◌, ◌%◌, arith}
use Rattle.blockack.proofs.CallLaws.{hands_up, hands_up_all}
use Rattle.blockack.proofs.MoveLaws.{one_number}
use Rattle.blockack.proofs.SameLaws.{data_same, request_same, end_same, have_windows, data_reads_same, request_reads_same}
use Rattle.blockack.proofs.ScoreboardLaws.{have_scoreboards}
use Rattle.blockack.proofs.laws.window_law.Goals as goal

pub returns-clause-going_on : goal.returns-clause-going_on
returns-clause-going_on g c = hands_up

pub returns-clause-ended : goal.returns-clause-ended
returns-clause-ended g c = hands_up_all

pub returns-clause-one_number : goal.returns-clause-one_number
returns-clause-one_number g c = one_number

pub returns-clause-some_number : goal.returns-clause-some_number
returns-clause-some_number g c = λ start number fits from. (
  start - 2048 + (number + 4096 - (start - 2048) % 4096) % 4096,
  record { residue = omega arith; low = omega arith; high = omega arith },
)

pub returns-clause-at_data : goal.returns-clause-at_data
returns-clause-at_data g c = data_same

pub returns-clause-at_request : goal.returns-clause-at_request
returns-clause-at_request g c = request_same

pub returns-clause-at_end : goal.returns-clause-at_end
returns-clause-at_end g c = end_same

pub returns-clause-windows : goal.returns-clause-windows
returns-clause-windows g c = have_windows

pub returns-clause-scoreboards : goal.returns-clause-scoreboards
returns-clause-scoreboards g c = have_scoreboards

pub returns-clause-read_at_data : goal.returns-clause-read_at_data
returns-clause-read_at_data g c = data_reads_same

pub returns-clause-read_at_request : goal.returns-clause-read_at_request
returns-clause-read_at_request g c = request_reads_same
