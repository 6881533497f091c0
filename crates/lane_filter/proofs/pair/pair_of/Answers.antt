use Rattle.std.proofs.lemmas.Option.{slice_get_read}
use Rattle.std.proofs.Common.{refl}
use Rattle.lane_filter.proofs.ByteLemmas.{pair_stands}
use Rattle.lane_filter.proofs.pair.pair_of.Goals as goal

pub returns-clause-pair : goal.returns-clause-pair
returns-clause-pair c =
    record {
      literal = c.get-literal.result.now;
      stands = slice_get_read c.args.list.now.texts _ c.args.place c.get-literal.result.now refl c.requires c.get-literal.ensures.value;
      first_place = c.rarest-first.result;
      first = rw c.fold-fold.ensures at c.at.ensures;
      second_place = c.rarest-second.result;
      second = rw c.fold-fold.ensures at c.at-2.ensures;
      apart = c.rarest-second.ensures.apart;
      unlike = c.rarest-second.ensures.unlike;
    }

pub returns-clause-stands : goal.returns-clause-stands
returns-clause-stands c = pair_stands c.args.list.now c.args.place _ (returns-clause-pair c)
