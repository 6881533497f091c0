-- Memory is refused only where a literal ends in the piece.
use Rattle.std.proofs.Common.{rules, ◌≡◌, ℕ, ◌++◌, List, length, refl, sym, ap, ◌∙◌, subst, inr, arith}
use Rattle.std.proofs.lemmas.Bool.{false≢true}
use Rattle.std.proofs.lemmas.Result.{err_from_is_err_and}
use Rattle.lit_base.specs.NextEnds.{NoEndAfter}
use Rattle.flow_scan.specs.Scanners.{Reached}
use Rattle.flow_scan.proofs.progress.Progress.feed_by.Goals as goal

pub returns-in_err-count-clause-fed : goal.returns-in_err-count-clause-fed
returns-in_err-count-clause-fed g c =
    let piece = c.args.piece.now in
    let l = c.args.compiled.now.literals in
    let tail : c.offer.new.self.tail ≡ c.args.self.now.tail = c.offer.ensures.tail ∙ ap (λ (r : Reached). r.tail) c.self.view_is in
    let refused = err_from_is_err_and c.from_residual.result c.from_residual.ensures.1 in
    rw (refused.1, refused.2) record {
      ok = tt;
      hits = tt;
      refusals = record {
        too_long = ((λ e. (cc)), (λ long. absurd (omega arith)));
        faults = inr refl;
        same = search rules;
        same_hits = c.in_err-count.ensures.same_hits;
        quiet = λ none. absurd (false≢true (c.in_err-count.ensures.quiet (subst (λ (t : List ℕ). NoEndAfter l (t ++ piece) (length t)) (sym tail) none)));
      };
    }
