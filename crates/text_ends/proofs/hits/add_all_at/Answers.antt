-- One literal after the other is added, until no other ends there.
use Rattle.std.proofs.Common.{◌≡◌, ◌+◌, ℕ, List, [], ◌∷◌, ◌++◌, length, ap, ◌∙◌, arith}
use Rattle.std.proofs.lemmas.List.{length-append}
use Rattle.std.proofs.lemmas.Option.{slice_get_within}
use Rattle.lit_base.specs.Occurrences.{IsFirstEnding, NoneEnds}
use Rattle.text_ends.proofs.HitLists.{gained_both, gained_one, hits_at_ended, hits_at_more, hits_at_none}
use Rattle.text_ends.proofs.hits.add_all_at.Goals as goal

pub loop-place-init : goal.loop-place-init
loop-place-init c =
    let first = c.requires.first in
    let one : List (ℕ × ℕ) = (c.args.first, c.args.at) ∷ [] in
    let start : c.endings_after-endings.result.from ≡ c.args.first + 1 = c.endings_after-endings.ensures.from in
    record {
      literals = c.endings_after-endings.ensures.literals;
      text = c.endings_after-endings.ensures.text;
      end = c.endings_after-endings.ensures.end;
      found = one;
      grown = gained_one c.args.out.now.items c.push.new.self.items c.hit_of.result (c.args.first, c.args.at) c.in_ok-push.ensures.items c.hit_of.ensures;
      added = rw start (hits_at_more c.args.list.now c.args.text.now c.args.end c.args.at 0 c.args.first []
          (hits_at_none c.args.list.now c.args.text.now c.args.end c.args.at) first);
      counted = omega (arith, start, slice_get_within c.args.list.now.texts c.args.first first.occurs.literal first.occurs.stands);
      few = omega (arith, start);
    }

pub loop-place-preserved : goal.loop-place-preserved
loop-place-preserved c =
    let before = c.loop-place.invariant in
    let hit : ℕ × ℕ = (c.in-Some.place, c.args.at) in
    let first : IsFirstEnding c.args.list.now c.args.text.now c.loop-place.endings.from c.args.end c.in-Some.place = rw (before.literals, before.text, before.end) at c.in-Some.ensures.first in
    let moved : c.next.new.self.from ≡ c.in-Some.place + 1 = c.in-Some.ensures.moved in
    record {
      literals = c.in-Some.ensures.literals ∙ before.literals;
      text = c.in-Some.ensures.text ∙ before.text;
      end = c.in-Some.ensures.end ∙ before.end;
      found = before.found ++ hit ∷ [];
      grown = gained_both c.args.out.now.items c.loop-place.out.items c.push-in-Some.new.self.items before.found (hit ∷ []) before.grown
          (gained_one c.loop-place.out.items c.push-in-Some.new.self.items c.hit_of-in-Some.result hit c.in_ok-push-2.ensures.items c.hit_of-in-Some.ensures);
      added = rw moved (hits_at_more c.args.list.now c.args.text.now c.args.end c.args.at c.loop-place.endings.from c.in-Some.place before.found before.added first);
      counted = omega (arith, moved, slice_get_within c.args.list.now.texts c.in-Some.place first.occurs.literal first.occurs.stands);
      few = omega (arith, length-append before.found (hit ∷ []), before.few, first.counted, moved);
    }

pub loop-place-smaller : goal.loop-place-smaller
loop-place-smaller c =
    let before = c.loop-place.invariant in
    let first : IsFirstEnding c.args.list.now c.args.text.now c.loop-place.endings.from c.args.end c.in-Some.place = rw (before.literals, before.text, before.end) at c.in-Some.ensures.first in
    omega (arith, c.in-Some.ensures.moved, first.counted, slice_get_within c.args.list.now.texts c.in-Some.place first.occurs.literal first.occurs.stands)

pub returns-clause-ok : goal.returns-clause-ok
returns-clause-ok c =
    let all = c.loop-place.invariant in
    let none : NoneEnds c.args.list.now c.args.text.now c.loop-place.endings.from c.args.end = rw (all.literals, all.text, all.end) at c.in_default.ensures.first in
    record {
      found = all.found;
      grown = all.grown;
      added = hits_at_ended c.args.list.now c.args.text.now c.args.end c.args.at c.loop-place.endings.from all.found all.added none;
    }

pub returns-clause-few : goal.returns-clause-few
returns-clause-few c =
    let all = c.loop-place.invariant in
    omega (arith, ap length all.grown, length-append c.args.out.now.items all.found, all.few, all.counted)
