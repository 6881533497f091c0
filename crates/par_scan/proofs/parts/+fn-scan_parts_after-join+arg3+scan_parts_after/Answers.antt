-- The lists are joined in order, and where nothing ends they are empty.
use Rattle.std.proofs.Common.{◌≡◌, ◌+◌, ◌-◌, rules, length, sym, ap, subst, arith}
use Rattle.std.proofs.lemmas.Result.{IfOk-at_ok}
use Rattle.lit_base.specs.NextEnds.{NoEndAfter}
use Rattle.text_ends.specs.HitsAfter.{AreHitsAfter}
use Rattle.text_ends.proofs.HitLists.{hits_joined, none_in_prefix}
use Rattle.par_scan.proofs.PartLemmas.{fine_or_err, no_hits}
use Rattle.par_scan.proofs.parts.+fn-scan_parts_after-join+arg3+scan_parts_after.Goals as goal

pub returns-in_err-hits-clause-quiet : goal.returns-in_err-hits-clause-quiet
returns-in_err-hits-clause-quiet g t c = λ none.
    let l = c.args.compiled.now.literals in
    let prefix = subst (λ xs. NoEndAfter l xs c.args.from) (sym c.split_at.ensures.front) (none_in_prefix l c.args.text.now c.args.from c.args.from _ (omega arith) none) in
    absurd (fine_or_err c.join-last.result.1 _ c.in_err-hits.was (c.join-last.ensures.second.1.1 prefix))

pub returns-in_err-more-clause-quiet : goal.returns-in_err-more-clause-quiet
returns-in_err-more-clause-quiet g t c = λ none.
    absurd (fine_or_err c.join-last.result.0 _ c.in_err-more.was (c.join-last.ensures.first.1.1 (λ end after. none end (omega (arith, after, c.last_part.ensures.within, c.requires.inside)))))

pub returns-in_err-append-clause-quiet : goal.returns-in_err-append-clause-quiet
returns-in_err-append-clause-quiet g t c = λ none.
    let l = c.args.compiled.now.literals in
    let text = c.args.text.now in
    let from = c.args.from in
    let mid = length text - c.last_part.result in
    let first = c.in_ok-hits.hits.items in
    let second = c.in_ok-more.more.items in
    let early : AreHitsAfter l c.split_at.result.0.now from from first = IfOk-at_ok (λ hits. AreHitsAfter l c.split_at.result.0.now from from hits.items) c.in_ok-hits.was c.join-last.ensures.second.0 in
    let late : AreHitsAfter l text mid mid second = IfOk-at_ok (λ hits. AreHitsAfter l text mid mid hits.items) c.in_ok-more.was c.join-last.ensures.first.0 in
    let prefix = subst (λ xs. NoEndAfter l xs from) (sym c.split_at.ensures.front) (none_in_prefix l text from from _ (omega arith) none) in
    let no_first : length first ≡ 0 = ap length (no_hits l c.split_at.result.0.now from first prefix early) in
    let no_second : length second ≡ 0 = ap length (no_hits l text mid second (λ end after. none end (omega (arith, after, c.last_part.ensures.within, c.requires.inside))) late) in
    absurd (omega (arith, no_first, no_second, c.in_err-append.ensures.full, c.in_ok-hits.hits.ok.0, c.in_ok-hits.hits.ok.1, c.in_ok-more.more.ok.0, c.in_ok-more.more.ok.1))

pub returns-clause-ok : goal.returns-clause-ok
returns-clause-ok g t c =
    let l = c.args.compiled.now.literals in
    let text = c.args.text.now in
    let from = c.args.from in
    let mid = length text - c.last_part.result in
    let first = c.in_ok-hits.hits.items in
    let second = c.in_ok-more.more.items in
    let early : AreHitsAfter l c.split_at.result.0.now from from first = IfOk-at_ok (λ hits. AreHitsAfter l c.split_at.result.0.now from from hits.items) c.in_ok-hits.was c.join-last.ensures.second.0 in
    let late : AreHitsAfter l text mid mid second = IfOk-at_ok (λ hits. AreHitsAfter l text mid mid hits.items) c.in_ok-more.was c.join-last.ensures.first.0 in
    let same : mid ≡ from + (mid - from) = omega (arith, c.last_part.ensures.within, c.requires.inside) in
    subst (AreHitsAfter l text from from) (search rules)
    (hits_joined l text from mid from first second (omega (arith, c.last_part.ensures.within, c.requires.inside)) (omega arith)
    (subst (λ xs. AreHitsAfter l xs from from first) c.split_at.ensures.front early) (subst (λ at. AreHitsAfter l text mid at second) same late))
