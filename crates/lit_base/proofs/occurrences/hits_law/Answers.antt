-- Two lists of the hits of one list in one text have the same hits in one order.
use Rattle.lit_base.specs.Occurrences.{hit_cmp}
use Rattle.lit_base.proofs.SortedLists.{hit_total, same_elements}
use Rattle.lit_base.proofs.occurrences.hits_law.Goals as goal

pub returns : goal.returns
returns c l text hits others one other =
    same_elements hit_cmp hit_total hits others one.rising other.rising
    (λ h there. (other.members h.0 h.1).1 ((one.members h.0 h.1).0 there)) (λ h there. (one.members h.0 h.1).1 ((other.members h.0 h.1).0 there))
