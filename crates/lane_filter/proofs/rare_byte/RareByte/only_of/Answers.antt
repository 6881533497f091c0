-- The only byte of a literal stands before each end of it.
use Rattle.std.proofs.Common.{refl, arith}
use Rattle.std.proofs.lemmas.Option.{slice_get_read}
use Rattle.lane_filter.proofs.ByteLemmas.{only_stands}
use Rattle.lane_filter.proofs.rare_byte.RareByte.only_of.Goals as goal

pub returns-clause-byte : goal.returns-clause-byte
returns-clause-byte c = record {
  literal = c.get-literal.result.now;
  stands = slice_get_read c.args.list.now.texts _ c.args.place c.get-literal.result.now refl c.requires c.get-literal.ensures.value;
  alone = omega arith;
  byte = rw c.fold.ensures at c.at.ensures;
}

pub returns-clause-stands : goal.returns-clause-stands
returns-clause-stands c = only_stands c.args.list.now c.args.place _ (returns-clause-byte c)
