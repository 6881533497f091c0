-- The cut costs something.
use Rattle.std.proofs.Common.{length, ◌<◌, sym, subst}
use Rattle.lit_base.specs.Literals.{lengths}
use Rattle.plan_view.proofs.Prices.{priced}
use Rattle.plan_view.proofs.view.View.new.Goals as goal

pub invariant_of-result : goal.invariant_of-result
invariant_of-result c = record {
  some = c.requires.cut.some;
  each = c.requires.each;
  set = c.requires.set;
  sum = c.cut_cost.ensures;
  positive = subst (λ total. 0 < total) (sym c.cut_cost.ensures) (priced (lengths c.args.list.now) (length c.args.list.now.texts) c.args.ends.now.items c.requires.cut);
}
