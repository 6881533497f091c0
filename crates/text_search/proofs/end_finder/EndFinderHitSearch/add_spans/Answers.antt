-- Span by span the hits up to where its search stopped are added.
use Rattle.std.proofs.Common.{◌≡◌, ◌-◌, ◌≤◌, ℕ, length, take, refl, subst, arith}
use Rattle.std.proofs.lemmas.Bool.{false≢true}
use Rattle.std.proofs.lemmas.Grind.{common_steps}
use Rattle.text_ends.specs.HitsAfter.{GainsHitsAfter, StopsAt}
use Rattle.text_ends.proofs.HitLists.{gained_more, none_in_prefix}
use Rattle.text_ends.proofs.Stops.{gained_nothing, none_late, span_end, span_gained, stopped_further}
use Rattle.text_search.proofs.end_finder.EndFinderHitSearch.add_spans.Goals as goal
use Rattle.text_search.proofs.end_finder.EndFinderHitSearch.add_spans.Goals.{In-Ok}

pub spans-init : goal.spans-init
spans-init c = record {
  finder = c.requires.plan;
  ahead = omega arith;
  within = c.requires.inside;
  few = omega arith;
  gained = gained_nothing c.args.compiled.now.literals c.args.text.now c.args.from c.args.from c.args.out.now.items;
}

pub returns-in-Err-clause-hits : goal.returns-in-Err-clause-hits
returns-in-Err-clause-hits c = record {
  ok = tt;
  same_hits = grind (arith, common_steps);
  quiet = λ none.
      absurd (false≢true ((rw c.split_at.ensures.front at c.in-Err.ensures.hits.quiet)
      (none_in_prefix c.args.compiled.now.literals c.args.text.now c.args.from c.spans.place c.min-stop.result c.spans.invariant.ahead none)));
}

-- how many hits were gained before
gained : (c : In-Ok) → c.len.result - c.len-before.result ≡ length c.spans.out.items - length c.args.out.now.items
gained c = omega (arith, c.len.ensures, c.len-before.ensures, c.args.out.now.ok.0, c.spans.out.ok.0)

-- the hits of a span
span : (c : In-Ok) → StopsAt c.args.compiled.now.literals (take c.min-stop.result c.args.text.now) c.spans.place c.spans.place (c.args.most - (length c.spans.out.items - length c.args.out.now.items)) c.in-Ok.end c.spans.out.items c.add_hits.new.out.items
span c = rw (c.split_at.ensures.front, gained c) at c.in-Ok.ensures.hits.ok

-- it has not become shorter
more : (c : In-Ok) → length c.args.out.now.items ≤ length c.spans.out.items
more c = gained_more c.args.out.now.items c.spans.out.items c.spans.invariant.gained.found c.spans.invariant.gained.grown

longer : (c : In-Ok) → length c.spans.out.items ≤ length c.add_hits.new.out.items
longer c = gained_more c.spans.out.items c.add_hits.new.out.items (span c).gained.found (span c).gained.grown

pub returns-then-len-before-clause-hits : goal.returns-then-len-before-clause-hits
returns-then-len-before-clause-hits c =
    let at = (goal.at.returns-then-len-before-clause-hits c).In-Ok in
    let before = c.spans.invariant in
    record {
      ok = stopped_further c.args.compiled.now.literals c.args.text.now c.args.from c.spans.place c.min-stop.result c.args.most c.in-Ok.end c.args.out.now.items c.spans.out.items c.add_hits.new.out.items
          before.ahead (omega (arith, c.min-stop.ensures)) before.few before.gained (span at)
          (λ _. omega (arith, c.if-len-before.true, c.max-enough.ensures, c.len-in-spans.ensures, c.len-before.ensures, c.args.out.now.ok.0, c.add_hits.new.out.ok.0, more at, longer at));
      same_hits = tt;
      quiet = λ _. refl;
    }

-- where too few were gained, the span was searched to its end
to_end : (c : goal.Else-len-before) → c.in-Ok.end ≡ c.min-stop.result
to_end c =
    let at = (goal.at.spans-preserved c).In-Ok in
    span_end c.args.compiled.now.literals c.args.text.now c.spans.place c.min-stop.result c.args.most c.in-Ok.end c.args.out.now.items c.spans.out.items c.add_hits.new.out.items
    (omega (arith, c.min-stop.ensures)) (more at) c.spans.invariant.few (span at)
    (omega (arith, c.if-len-before.false, c.max-enough.ensures, c.len-in-spans.ensures, c.len-before.ensures, c.args.out.now.ok.0, c.add_hits.new.out.ok.0))

pub spans-preserved : goal.spans-preserved
spans-preserved c =
    let at = (goal.at.spans-preserved c).In-Ok in
    let before = c.spans.invariant in
    let search = span at in
    record {
      finder = c.in-Ok.ensures.plan;
      ahead = omega (arith, search.after, before.ahead);
      within = omega (arith, to_end c, c.min-stop.ensures);
      few = omega (arith, c.if-len-before.false, c.max-enough.ensures, c.len-in-spans.ensures, c.len-before.ensures, c.args.out.now.ok.0, c.add_hits.new.out.ok.0, more at, longer at);
      gained = span_gained c.args.compiled.now.literals c.args.text.now c.args.from c.spans.place c.min-stop.result _ c.in-Ok.end c.args.out.now.items c.spans.out.items c.add_hits.new.out.items
          before.ahead (omega (arith, c.min-stop.ensures)) before.gained search;
    }

pub spans-smaller : goal.spans-smaller
spans-smaller c = omega (arith, to_end c, c.spans-test.true, c.min-stop.ensures, c.saturating_add.ensures, c.span_after.ensures)

pub returns-clause-hits : goal.returns-clause-hits
returns-clause-hits c =
    let all = c.spans.invariant in
    let text = c.args.text.now in
    let there : c.spans.place ≡ length text = omega (arith, c.spans-test.false, all.within) in
    record {
      ok = record {
        after = c.requires.inside;
        within = omega arith;
        gained = subst (λ (p : ℕ). GainsHitsAfter c.args.compiled.now.literals (take p text) c.args.from c.args.from c.args.out.now.items c.spans.out.items) there all.gained;
        enough = λ more. absurd (omega (arith, more));
        least = λ hit inside. absurd (none_late _ c.spans.out.items hit all.few inside);
        few = omega (arith, all.few);
      };
      same_hits = tt;
      quiet = λ _. refl;
    }
