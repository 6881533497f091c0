-- The text gained the bytes that were read, at least one byte a turn, and as much as there is less room.
use Rattle.std.proofs.Common.{◌≡◌, ◌+◌, ◌≤◌, vec_len}
use Rattle.byte_io.specs.Transfers.{ReadsInto}
use Rattle.byte_io.proofs.transfer.read_to_end.Given as goal

abbrev pub invariant-loop-turn : goal.invariant-loop-turn
invariant-loop-turn g l = record {
  bytes : ReadsInto (g.R.ByteIn.coming l.initial.input) (g.R.ByteIn.coming l.input) l.initial.text.items l.text.items;
  count : g.R.ByteIn.given l.input + vec_len l.initial.text ≡ g.R.ByteIn.given l.initial.input + vec_len l.text;
  room : l.room + vec_len l.text ≡ l.limit + vec_len l.initial.text;
  turns : l._turn + vec_len l.initial.text ≤ vec_len l.text;
  flag : g.R.ByteIn.has_failed l.input ≡ g.R.ByteIn.has_failed l.initial.input;
}
