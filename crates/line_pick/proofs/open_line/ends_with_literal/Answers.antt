-- A literal that ends there stays, however the line goes on.
use Rattle.std.proofs.Common.{sym, subst, ◌∙◌, length, MatchOption}
use Rattle.lit_base.specs.Literals.{Literals, IsNormal}
use Rattle.lit_base.specs.Occurrences.{IsFirstEnding, NoneEnds}
use Rattle.line_pick.proofs.OpenLemmas.{found-stays}
use Rattle.line_pick.proofs.open_line.ends_with_literal.Goals as goal

pub returns : goal.returns
returns c = λ is more.
    let line = c.args.line.now in
    let normal = subst IsNormal c.index-index.ensures c.normal_law.ensures in
    let found = subst (λ (l : Literals). MatchOption c.first_ending.result (NoneEnds l line 0 (length line)) (IsFirstEnding l line 0 (length line))) c.index-index.ensures c.first_ending.ensures.first in
    found-stays c.args.compiled.now.literals normal line more c.first_ending.result found (sym c.is_some.ensures ∙ is)
