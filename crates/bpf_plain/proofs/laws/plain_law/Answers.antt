use Rattle.bpf_plain.proofs.Following.{ways_follow}
use Rattle.bpf_plain.proofs.Graph.{Reaches-one, reaches_walk}
use Rattle.bpf_plain.proofs.Plainly.{plain_clear}
use Rattle.bpf_plain.proofs.Standing.{ways_stand, entry_stands}
use Rattle.bpf_plain.proofs.laws.plain_law.Goals as goal

pub returns : goal.returns
returns c = record {
  clear = plain_clear;
  entry = entry_stands;
  ways = ways_stand;
  follows = ways_follow;
  reaches = Reaches-one;
  walks = λ program n h. reaches_walk program.slots n h;
}
