-- The hits at the boundary, and then the hits of the piece in place.
use Rattle.std.proofs.Common.{◌≡◌, ◌+◌, ◌-◌, ◌++◌, length, take, sym, ◌∙◌, subst, ⊎_elim, arith}
use Rattle.lit_base.specs.NextEnds.{NoEndAfter}
use Rattle.std.proofs.lemmas.Bool.{false≢true}
use Rattle.std.proofs.lemmas.List.{length-append, length-take}
use Rattle.text_ends.specs.HitsAfter.{StopsAt}
use Rattle.lit_plan.specs.Bounds.{carry_of}
use Rattle.text_ends.proofs.HitLists.{gained_more}
use Rattle.flow_scan.proofs.TailSteps.{quiet_prefix, quiet_rest}
use Rattle.flow_scan.proofs.Stops.{stopped_in_prefix, stopped_in_place}
use Rattle.flow_scan.proofs.progress.add_piece.Goals as goal
use Rattle.flow_scan.proofs.progress.add_piece.Goals.{In_ok-stop}
use Rattle.flow_scan.proofs.progress.add_piece.Given.{Over}

pub returns-in_err-stop-clause-quiet : goal.returns-in_err-stop-clause-quiet
returns-in_err-stop-clause-quiet g c = λ none.
    let l = c.args.compiled.now.literals in
    absurd (false≢true (c.in_err-stop.ensures.hits.quiet
    (rw (c.text.ensures, c.tail_len.ensures) (subst (λ t. NoEndAfter l (c.args.boundary.now.tail ++ t) (length c.args.boundary.now.tail)) (sym c.requires.prefix.first) (quiet_prefix l c.args.boundary.now.tail c.args.piece.now (length c.args.boundary.now.prefix) none)))))

pub returns-in-Err-clause-quiet : goal.returns-in-Err-clause-quiet
returns-in-Err-clause-quiet g c = λ none.
    absurd (false≢true (c.in-Err.ensures.hits.quiet
    (quiet_rest c.args.compiled.now.literals c.args.boundary.now.tail c.args.piece.now c.carry-carry.result none)))

-- the search from the tail on
at_boundary : (g : Over) (c : In_ok-stop g) → StopsAt c.args.compiled.now.literals (c.args.boundary.now.tail ++ take (length c.args.boundary.now.prefix) c.args.piece.now) (length c.args.boundary.now.tail) c.args.at c.args.most c.in_ok-stop.stop c.args.out.now.items c.add_hits.new.out.items
at_boundary g c =
    subst (λ t. StopsAt c.args.compiled.now.literals (c.args.boundary.now.tail ++ t) (length c.args.boundary.now.tail) c.args.at c.args.most c.in_ok-stop.stop c.args.out.now.items c.add_hits.new.out.items) c.requires.prefix.first
    (rw (c.text.ensures, c.tail_len.ensures) at c.in_ok-stop.ensures.hits.ok)

pub returns-then-gained-enough-clause-ok : goal.returns-then-gained-enough-clause-ok
returns-then-gained-enough-clause-ok g c =
    let gained = c.in_ok-stop.ensures.hits.ok.gained in
    let more = gained_more c.args.out.now.items c.add_hits.new.out.items gained.found gained.grown in
    rw c.tail_len-then-gained-enough.ensures (stopped_in_prefix c.args.compiled.now.literals c.args.boundary.now.tail c.args.piece.now (length c.args.boundary.now.prefix) c.args.at c.args.most c.in_ok-stop.stop c.args.out.now.items c.add_hits.new.out.items
    (at_boundary g (goal.at.returns-then-gained-enough-clause-ok g c).In_ok-stop) (λ _. omega (arith, more, c.if-gained-enough.true, c.max-enough.ensures, c.len.ensures, c.len-before.ensures, c.args.out.now.ok.0, c.add_hits.new.out.ok.0)))

pub returns-then-piece-ahead-clause-ok : goal.returns-then-piece-ahead-clause-ok
returns-then-piece-ahead-clause-ok g c =
    let search = at_boundary g (goal.at.returns-then-piece-ahead-clause-ok g c).In_ok-stop in
    let tail = c.args.boundary.now.tail in
    let piece = c.args.piece.now in
    let ahead = length c.args.boundary.now.prefix in
    rw c.tail_len-then-piece-ahead.ensures (stopped_in_prefix c.args.compiled.now.literals tail piece ahead c.args.at c.args.most c.in_ok-stop.stop c.args.out.now.items c.add_hits.new.out.items
    search (λ sooner. search.enough (omega (arith, sooner, c.if-piece-ahead.true, c.ahead.ensures, length-append tail (take ahead piece), length-take ahead piece))))

pub returns-in-Ok-clause-ok : goal.returns-in-Ok-clause-ok
returns-in-Ok-clause-ok g c =
    let l = c.args.compiled.now.literals in
    let old = c.args.out.now.items in
    let middle = c.add_hits.new.out.items in
    let new = c.add_hits-2.new.out.items in
    let gained : c.len.result - c.len-before.result ≡ length middle - length old = omega (arith, c.len.ensures, c.len-before.ensures, c.args.out.now.ok.0, c.add_hits.new.out.ok.0) in
    let ahead : length c.args.boundary.now.prefix ≡ carry_of l = ⊎_elim (λ whole. absurd (omega (arith, whole, c.if-piece-ahead.false, c.ahead.ensures))) (λ carried. carried ∙ c.requires.carry) c.requires.prefix.enough in
    let first = rw ahead at (at_boundary g (goal.at.returns-in-Ok-clause-ok g c).In_ok-stop) in
    let second : StopsAt l c.args.piece.now (carry_of l) (c.args.at + carry_of l) (c.args.most - (length middle - length old)) c.in-Ok.stop middle new =
    rw (c.carry-carry.ensures.value, gained) at c.in-Ok.ensures.hits.ok in
    stopped_in_place l c.args.boundary.now.tail c.args.piece.now c.args.at c.args.most c.in_ok-stop.stop c.in-Ok.stop old middle new c.carry-carry.ensures.bounds
    first (omega (arith, gained, c.if-gained-enough.false, c.max-enough.ensures)) second
