-- The numbers so far stand at the start of the buffer.
use Rattle.std.proofs.Common.{◌≡◌, drop, length, map, take}
use Rattle.fiolargu.specs.Made.{number_at}
use Rattle.fiolargu.proofs.making.write_numbers.Given as goal

abbrev pub invariant-loop-place : goal.invariant-loop-place
invariant-loop-place l = record {
  count : l.count ≡ l.place-index;
  len : length l.numbers ≡ length l.fn.numbers;
  after : drop l.count l.numbers ≡ drop l.count l.fn.numbers;
  written : take l.count l.numbers ≡ map number_at (take l.place-index l.places);
}
