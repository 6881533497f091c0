-- Each bucket is one of the cut.
use Rattle.std.proofs.Common.{◌≡◌, ℕ, ◌++◌, List, append-nil, length, ap, ◌∙◌, subst, arith}
use Rattle.std.specs.Prelude.{All}
use Rattle.std.proofs.lemmas.List.{at_drop_all}
use Rattle.plan_view.specs.Buckets.{IsBucket, buckets_from, buckets_of}
use Rattle.plan_view.proofs.BucketLemmas.{are_buckets}
use Rattle.plan_view.proofs.bucket.buckets_of.Goals as goal

pub returns-clause-each : goal.returns-clause-each
returns-clause-each c = λ n cuts.
    let ends = c.args.ends.now.items in
    let items = c.loop-end.buckets.items in
    let made : buckets_of ends ≡ items =
    c.loop-end.invariant.made ∙ (at_drop_all (λ (es : List ℕ). items ++ buckets_from c.loop-end.end-index c.loop-end.start es) ends c.loop-end.end-index
    (omega (arith, c.loop-end-test.false, ap length c.as_slice-end-items.ensures.value)) ∙ append-nil items) in
    subst (All (IsBucket n)) made (are_buckets n 0 0 ends cuts (omega (arith, c.requires)))
