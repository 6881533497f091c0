-- A prefilter of each kind passes what its test passes.
use Rattle.lane_filter.proofs.candidates.prefilter_bits.Goals as goal

pub returns-in-Nibbles-clause-marked : goal.returns-in-Nibbles-clause-marked
returns-in-Nibbles-clause-marked c = rw c.in-Nibbles.is (rw c.new.ensures at c.next_bits.ensures.marked)

pub returns-in-OneByte-clause-marked : goal.returns-in-OneByte-clause-marked
returns-in-OneByte-clause-marked c = rw c.in-OneByte.is c.next_bits-in-OneByte.ensures.marked

pub returns-in-OneExactByte-clause-marked : goal.returns-in-OneExactByte-clause-marked
returns-in-OneExactByte-clause-marked c = rw c.in-OneExactByte.is c.next_bits-in-OneExactByte.ensures.marked

pub returns-in-OneTriple-clause-marked : goal.returns-in-OneTriple-clause-marked
returns-in-OneTriple-clause-marked c = rw c.in-OneTriple.is c.next_bits-in-OneTriple.ensures.marked

pub returns-in-OneExactTriple-clause-marked : goal.returns-in-OneExactTriple-clause-marked
returns-in-OneExactTriple-clause-marked c = rw c.in-OneExactTriple.is c.next_bits-in-OneExactTriple.ensures.marked
