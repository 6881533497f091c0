use Rattle.std.proofs.lemmas.Option.{slice_get_read}
use Rattle.std.proofs.Common.{refl, subst, arith}
use Rattle.lane_filter.specs.Pairs.{IsOneOf}
use Rattle.lane_filter.proofs.ByteLemmas.{triple_stands}
use Rattle.lane_filter.proofs.triple.triple_of.Goals as goal

pub returns-clause-triple : goal.returns-clause-triple
returns-clause-triple c =
    record {
      pair = c.pair_of-pair.ensures.pair;
      literal = c.get-literal.result.now;
      stands = slice_get_read c.args.list.now.texts _ c.args.place c.get-literal.result.now refl c.requires c.get-literal.ensures.value;
      third_place = c.rarest_beside-third.result;
      third = rw c.fold-fold.ensures at c.at.ensures;
      apart = λ three taken. c.rarest_beside-third.ensures.apart three (subst (λ after. IsOneOf c.pair_of-pair.result after) (omega (arith, c.at.ensures.after)) taken);
    }

pub returns-clause-stands : goal.returns-clause-stands
returns-clause-stands c = triple_stands c.args.list.now c.args.place _ (returns-clause-triple c)
