-- Literal by literal.
use Rattle.std.proofs.Common.{◌≡◌, ℕ, Bool, true, ◌||◌, ◌+◌, slice_range, sym, ap, ◌∙◌, arith}
use Rattle.nib_mask.specs.FilterSet.{has_half, is_used, shares_half}
use Rattle.nib_mask.specs.Tables.{allows}
use Rattle.nib_mask.proofs.Fingerprints.{is_used-none, is_used-more, is_used-not, is_used-ended, shares_half-none, shares_half-more, shares_half-ended}
use Rattle.nib_mask.proofs.HalfLemmas.{allows-used, allows-unused, sets-all, sets-either, sets-none, sets-same}
use Rattle.nib_mask.proofs.masks.kept_halves.Goals as goal

pub loop-place-init : goal.loop-place-init
loop-place-init c =
    let texts = c.args.list.now.texts in
    let start = c.args.start in (
      is_used-none c.args.position texts start start (omega arith),
      sets-none (λ value. shares_half c.fold-fold.result c.args.position c.args.half value (slice_range texts start start))
          (λ value. shares_half-none c.args.position texts start c.fold-fold.result c.args.half value start (omega arith)),
      λ empty. omega arith,
    )

pub returns-then-not-reaches : goal.returns-then-not-reaches
returns-then-not-reaches c =
    let fold = c.args.list.now.folding in
    let texts = c.args.list.now.texts in
    let run = slice_range texts c.args.start c.args.end in
    sets-all (λ value. allows fold c.args.position c.args.half value run)
    (allows-unused fold c.args.position c.args.half run
    (is_used-not c.args.position texts c.args.start c.args.end c.loop-place.place c.get-literal.result.now
    c.loop-place.auto.place c.loop-place-test.true c.requires.within c.get-literal.ensures.value (sym c.reaches.ensures ∙ c.if-not-reaches.true)))

pub loop-place-preserved : goal.loop-place-preserved
loop-place-preserved c =
    let texts = c.args.list.now.texts in
    let literal = c.get-literal.result.now in
    let shared : ℕ → Bool = λ value. shares_half c.fold-fold.result c.args.position c.args.half value (slice_range texts c.args.start c.loop-place.place) in
    let here : ℕ → Bool = λ value. has_half c.fold-fold.result c.args.position c.args.half value literal in
    let reached = sym c.reaches.ensures ∙ c.if-not-reaches.false in (
      is_used-more c.args.position texts c.args.start c.loop-place.place literal
          c.loop-place.auto.place (omega arith) c.get-literal.ensures.value c.loop-place.invariant.0 reached,
      sets-same _ (λ value. shared value || here value)
          (λ value. shares_half c.fold-fold.result c.args.position c.args.half value (slice_range texts c.args.start (c.loop-place.place + 1)))
          (λ value. sym (shares_half-more c.args.position texts c.args.start c.fold-fold.result c.args.half value c.loop-place.place literal
          c.loop-place.auto.place (omega arith) c.get-literal.ensures.value))
          (sets-either c.loop-place.halves c.halves_at-halves.result shared here c.loop-place.invariant.1 c.halves_at-halves.ensures),
      λ empty. absurd (omega arith),
    )

pub returns : goal.returns
returns c =
    let fold = c.args.list.now.folding in
    let texts = c.args.list.now.texts in
    let run = slice_range texts c.args.start c.args.end in
    let used : is_used c.args.position run ≡ true =
    is_used-ended c.args.position texts c.args.start c.loop-place.place c.args.end
    c.loop-place.auto.place c.loop-place.auto.place-end c.loop-place-test.false c.loop-place.invariant.0 in
    sets-same c.loop-place.halves
    (λ value. shares_half c.fold-fold.result c.args.position c.args.half value (slice_range texts c.args.start c.loop-place.place))
    (λ value. allows fold c.args.position c.args.half value run)
    (λ value.
    shares_half-ended c.args.position texts c.args.start c.fold-fold.result c.args.half value c.loop-place.place c.args.end
    c.loop-place.auto.place c.loop-place.auto.place-end c.loop-place.invariant.2 c.loop-place-test.false
    ∙ ap (λ folding. shares_half folding c.args.position c.args.half value run) c.fold-fold.ensures
    ∙ allows-used fold c.args.position c.args.half run used value)
    c.loop-place.invariant.1
