-- Where the first literal ends alone, its hit is the only one.
use Rattle.std.proofs.Common.{◌+◌, ℕ, List, [], ◌∷◌}
use Rattle.text_ends.proofs.HitLists.{gained_one, hits_at_ended, hits_at_more, hits_at_none}
use Rattle.text_ends.proofs.hits.add_hits_at.Goals as goal

pub returns-then-ends_alone-clause-ok : goal.returns-then-ends_alone-clause-ok
returns-then-ends_alone-clause-ok c =
    let l = c.args.list.now in
    let text = c.args.text.now in
    let end = c.args.end in
    let at = c.args.at in
    let first = c.args.first in
    let one : List (ℕ × ℕ) = (first, at) ∷ [] in
    record {
      found = one;
      grown = gained_one c.args.out.now.items c.push.new.self.items c.hit_of.result (first, at) c.in_ok-push.ensures.items c.hit_of.ensures;
      added = hits_at_ended l text end at (first + 1) one (hits_at_more l text end at 0 first [] (hits_at_none l text end at) c.requires.first)
          (c.ends_alone.ensures.0 c.if-ends_alone.true text end c.requires.first);
    }
