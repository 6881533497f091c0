-- The last bytes before the end of a literal, or the last bytes.
use Rattle.std.proofs.Common.{◌≤◌, ◌-◌, All, arith, refl, subst}
use Rattle.lit_base.specs.Literals.{Literals, IsNormal, lengths}
use Rattle.line_pick.proofs.OpenLemmas.{hit-part, tail-part}
use Rattle.line_pick.proofs.open_line.hit_or_tail.Goals as goal

pub returns-in-Some-clause-part : goal.returns-in-Some-clause-part
returns-in-Some-clause-part c =
    let l = c.args.compiled.now.literals in
    let normal = subst IsNormal c.list-list.ensures c.normal_law.ensures in
    let bound = subst (λ (k : Literals). All (λ len. len ≤ c.longest-longest.result) (lengths k)) c.list-list.ensures c.longest-longest.ensures.greatest in
    let part = hit-part l normal c.longest-longest.result bound c.args.line.now c.saturating_sub.result c.in-Some.end c.saturating_sub.ensures (rw c.new-search.ensures at c.in-Some.ensures.next) in
    rw (c.longest-longest.ensures.last, c.list-list.ensures) at part

pub returns-in-None-clause-part : goal.returns-in-None-clause-part
returns-in-None-clause-part c =
    let l = c.args.compiled.now.literals in
    let normal = subst IsNormal c.list-list.ensures c.normal_law.ensures in
    let bound = subst (λ (k : Literals). All (λ len. len ≤ c.longest-longest.result) (lengths k)) c.list-list.ensures c.longest-longest.ensures.greatest in
    let part = tail-part l normal c.longest-longest.result bound c.args.line.now (c.max.result - 1) (omega (arith, c.max.ensures)) (rw c.new-search.ensures at c.in-None.ensures.next) c.saturating_sub-in-None.result _ c.saturating_sub-in-None.ensures refl (omega (arith, c.max.ensures)) (omega (arith, c.max.ensures)) in
    rw (c.longest-longest.ensures.last, c.list-list.ensures) at part
