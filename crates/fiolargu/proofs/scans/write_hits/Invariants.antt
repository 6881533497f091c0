-- The hits so far stand at the start of the buffer, each with the length of its literal.
use Rattle.std.proofs.Common.{◌≡◌, drop, map, take}
use Rattle.fiolargu.specs.Found.{HaveLengths, hit_of}
use Rattle.fiolargu.proofs.scans.write_hits.Given as goal

abbrev pub invariant-loop-hit : goal.invariant-loop-hit
invariant-loop-hit l = record {
  count : l.count ≡ l.hit-index;
  written : map hit_of (take l.count l.buffer) ≡ take l.hit-index l.hits;
  after : drop l.count l.buffer ≡ drop l.count l.fn.buffer;
  lengths : HaveLengths l.plan.literals (take l.count l.buffer);
}
