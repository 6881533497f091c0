-- Nothing ends between two candidates, nor at a false positive.
use Rattle.std.proofs.Common.{◌≡◌, ℕ, ◌+◌, ◌<◌, length, inl, inr, sym, ◌∙◌, subst, arith}
use Rattle.std.proofs.lemmas.Bool.{cases_lt}
use Rattle.lit_base.specs.NextEnds.{NoEndUpTo}
use Rattle.lit_base.specs.Occurrences.{Occurs}
use Rattle.lane_filter.specs.PlacesAfter.{IsFirstAfter, NoneWithin}
use Rattle.lane_filter.specs.Prefilters.{Passes}
use Rattle.text_ends.proofs.Bytes.{all_bytes}
use Rattle.prefilter_search.proofs.Steps.{none_before}
use Rattle.prefilter_search.proofs.prefilter_ends.next_verified.Goals as goal
use Rattle.prefilter_search.proofs.prefilter_ends.next_verified.Goals.{In_default-first_ending}

pub returns-in-Some-first_ending-clause-next : goal.returns-in-Some-first_ending-clause-next
returns-in-Some-first_ending-clause-next c =
    let l = c.args.list.now in
    let text = c.args.text.now in
    let prefilter = c.args.candidates.now.prefilter in
    let before = c.loop-end.invariant in
    let next : IsFirstAfter (Passes prefilter text) c.loop-end.candidates.from c.in-Some.end = rw before.prefilter at (rw before.text at c.in-Some.ensures.first) in
    record {
      after = omega (arith, next.after, before.ahead);
      within = rw before.text at c.in-Some.ensures.within;
      here = (c.in-Some-first_ending.first, c.in-Some-first_ending.ensures.first.occurs);
      first = none_before l prefilter text c.args.candidates.now.from c.loop-end.candidates.from c.in-Some.end c.requires.covers (all_bytes text c.type_inv.text) before.none next.quiet;
    }

-- where a candidate is none, nothing ends up to it
none_to_end : (c : In_default-first_ending) → NoEndUpTo c.args.list.now c.args.text.now c.args.candidates.now.from c.in-Some.end
none_to_end c other after within here =
    let l = c.args.list.now in
    let text = c.args.text.now in
    let prefilter = c.args.candidates.now.prefilter in
    let end = c.in-Some.end in
    let before = c.loop-end.invariant in
    let next : IsFirstAfter (Passes prefilter text) c.loop-end.candidates.from end = rw before.prefilter at (rw before.text at c.in-Some.ensures.first) in
    elim (cases_lt other end) [
      | inl sooner ↦ none_before l prefilter text c.args.candidates.now.from c.loop-end.candidates.from end c.requires.covers (all_bytes text c.type_inv.text) before.none next.quiet other after sooner here
      | inr later ↦ let there : other ≡ end = omega (arith, within, later) in
          c.in_default-first_ending.ensures.first here.0 (omega arith) (subst (λ e. Occurs l text here.0 e) there here.1)
    ]

pub loop-end-preserved : goal.loop-end-preserved
loop-end-preserved c =
    let at = (goal.at.loop-end-preserved c).In_default-first_ending in
    let before = c.loop-end.invariant in
    let reached : c.next.new.self.from ≡ c.in-Some.end = c.in-Some.ensures.moved in
    record {
      prefilter = c.next.ensures.prefilter ∙ before.prefilter;
      text = c.next.ensures.text ∙ before.text;
      ahead = omega (arith, reached, c.in-Some.ensures.first.after, before.ahead);
      none = subst (NoEndUpTo c.args.list.now c.args.text.now c.args.candidates.now.from) (sym reached) (none_to_end at);
    }

pub returns-clause-next : goal.returns-clause-next
returns-clause-next c =
    let l = c.args.list.now in
    let text = c.args.text.now in
    let prefilter = c.args.candidates.now.prefilter in
    let before = c.loop-end.invariant in
    let none : NoneWithin (Passes prefilter text) c.loop-end.candidates.from (length text) = rw before.prefilter at (rw before.text at c.in_default.ensures.none) in
    let nowhere = none_before l prefilter text c.args.candidates.now.from c.loop-end.candidates.from (length text + 1) c.requires.covers (all_bytes text c.type_inv.text) before.none
    (λ (other : ℕ) (after : c.loop-end.candidates.from < other) (within : other < length text + 1). none other after (omega (arith, within))) in
    λ end after here. nowhere end after (omega (arith, here.1.ends)) here
