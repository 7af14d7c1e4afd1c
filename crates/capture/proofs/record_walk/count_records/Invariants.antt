-- So many records are before the rest.
use Rattle.std.proofs.Common.{◌≡◌, ◌≤◌, ◌+◌, List, length, drop, Ok}
use Rattle.capture.specs.Form.{form_of}
use Rattle.capture.specs.Packets.{Seen, BeginWith}
use Rattle.capture.proofs.record_walk.count_records.Given as goal

abbrev pub invariant-loop-rest : goal.invariant-loop-rest
invariant-loop-rest l = record {
  header : form_of l.file ≡ Ok l.form;
  few : l.count + length l.rest ≤ length l.file;
  packets : List Seen;
  records : BeginWith l.form (drop 24 l.file) packets l.rest;
  many : length packets ≡ l.count;
}

abbrev pub decreases-loop-rest : goal.decreases-loop-rest
decreases-loop-rest l = length l.rest
