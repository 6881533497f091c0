-- Nothing ends in the prefix, so that the next end after it is the next after the position.
use Rattle.std.proofs.Common.{◌≡◌, ℕ, List, length, max, min, subst, arith}
use Rattle.lit_base.specs.Literals.{Literals}
use Rattle.lit_base.specs.NextEnds.{NoEndUpTo}
use Rattle.shift_search.specs.Probes.{AreProbes}
use Rattle.shift_search.proofs.ShiftOrLemmas.{found_further}
use Rattle.text_ends.proofs.EndLemmas.{none_joined}
use Rattle.shift_search.proofs.shift_or.ShiftOr.next_by.Goals as goal

-- where nothing ends in the prefix, as far as the text reaches
none_in_prefix : (l : Literals) (text : List ℕ) (from last start : ℕ) → last ≡ min (length text) 15 → start ≡ max from 15 → NoEndUpTo l text from last → NoEndUpTo l text from start
none_in_prefix l text from last start last_is start_is none end beyond upto here = none end beyond (omega (arith, last_is, start_is, beyond, upto, here.1.ends)) here

pub returns-in-Some-clause-probes : goal.returns-in-Some-clause-probes
returns-in-Some-clause-probes c =
    let found = c.in-Some.ensures in
    subst (λ s. AreProbes c.args.self.now c.args.text.now s c.args.probes.now) (omega (arith, found.first.after, found.within, c.min.ensures)) c.requires

pub returns-clause-next : goal.returns-clause-next
returns-clause-next c =
    let l = c.args.self.now.literals in
    let text = c.args.text.now in
    let found = c.in_ok-found.found in
    found_further l text c.args.from c.max.result found.end found.first (omega (arith, c.max.ensures)) (none_in_prefix l text c.args.from c.min.result c.max.result c.min.ensures c.max.ensures c.in_default.ensures.first) c.in_ok-found.ensures.first

pub returns-clause-probes : goal.returns-clause-probes
returns-clause-probes c =
    let found = c.in_ok-found.found in
    subst (λ s. AreProbes c.args.self.now c.args.text.now s found.probes) (omega (arith, c.max.ensures, c.in_ok-found.ensures.first.after)) c.in_ok-found.ensures.probes

pub returns-in_err-found-clause-next : goal.returns-in_err-found-clause-next
returns-in_err-found-clause-next c =
    let l = c.args.self.now.literals in
    let text = c.args.text.now in
    rw c.from_residual.ensures (none_joined l text c.args.from c.max.result (none_in_prefix l text c.args.from c.min.result c.max.result c.min.ensures c.max.ensures c.in_default.ensures.first) (length text) c.in_err-found.ensures)
