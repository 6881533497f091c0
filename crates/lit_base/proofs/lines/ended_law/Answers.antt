-- The law is its lemmas.
use Rattle.lit_base.proofs.EndedLemmas.{ended_lines-append, open_rest-append, ended_lines-newline, open_rest-newline, ended_lines-none, open_rest-none, ended_lines-apart, open_rest-apart, lines-ended_open}
use Rattle.lit_base.proofs.lines.ended_law.Goals as goal

pub returns : goal.returns
returns c = record {
  joined = ended_lines-append;
  rest = open_rest-append;
  ended = ended_lines-newline;
  after = open_rest-newline;
  none = ended_lines-none;
  all_open = open_rest-none;
  apart = ended_lines-apart;
  open_apart = open_rest-apart;
  lines = lines-ended_open;
}
