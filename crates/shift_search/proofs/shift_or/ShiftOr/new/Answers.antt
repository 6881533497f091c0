-- There is room for all entries, and none is made.
use Rattle.std.proofs.Common.{ℕ, List, length, ap, ◌∙◌, subst, arith}
use Rattle.lit_base.specs.Literals.{Literals}
use Rattle.shift_search.specs.ShiftOr.{AreBucketChecksOf}
use Rattle.shift_search.proofs.shift_or.ShiftOr.new.Goals as goal

pub invariant_of-result : goal.invariant_of-result
invariant_of-result c =
    let same = c.list-list.ensures ∙ c.deref.ensures in
    let checks = subst (λ (buckets : List ℕ). AreBucketChecksOf c.list-list.result.now buckets c.in_ok-checks.checks) c.deref-2.ensures.value c.in_ok-checks.ensures in (
      omega (arith, c.in_ok-entries.ensures.exact),
      λ some. absurd (omega (arith, some, c.in_ok-entries.ensures.len)),
      omega (arith, c.cut_runs.ensures, c.in_ok-buckets.ensures.len, c.len.ensures.value, ap (λ (l : Literals). length l.texts) same),
      subst (λ (l : Literals). AreBucketChecksOf l c.cut_runs.new.buckets.items c.in_ok-checks.checks) same checks,
    )
