use Rattle.std.proofs.Common.{rules, tests}
use Rattle.std.proofs.lemmas.Bool.Decides.{nat_tests}
use Rattle.bpf_line.proofs.Cuts.{words-empty, words-comment, words-space, words-piece, piece_len_space, piece_len_some, IsCharBoundary-piece}
use Rattle.bpf_line.proofs.words.first_piece.Goals as goal

pub returns-then-is_empty : goal.returns-then-is_empty
returns-then-is_empty c = search (rules, tests, nat_tests, words-empty c.args.text.now, words-comment c.args.text.now)

pub split_at-requires : goal.split_at-requires
split_at-requires c = search (rules, tests, nat_tests, IsCharBoundary-piece c.args.text.now)

pub returns-then-space : goal.returns-then-space
returns-then-space c = search (rules, tests, nat_tests, words-space c.args.text.now, piece_len_space c.args.text.now)

pub returns-else-space : goal.returns-else-space
returns-else-space c = search (rules, tests, nat_tests, words-piece c.args.text.now, piece_len_some c.args.text.now)
