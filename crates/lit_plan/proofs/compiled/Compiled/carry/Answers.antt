-- A certified list has literals.
use Rattle.std.proofs.Common.{◌<◌, length, sym, ◌∙◌, subst, arith}
use Rattle.lit_base.specs.Literals.{Literals}
use Rattle.lit_plan.proofs.compiled.Compiled.carry.Goals as goal

pub carry-requires : goal.carry-requires
carry-requires c = subst (λ (l : Literals). 0 < length l.texts) (sym (c.list.ensures ∙ c.deref.ensures)) (omega (arith, c.self.invariant.certified.priced.size.some))
