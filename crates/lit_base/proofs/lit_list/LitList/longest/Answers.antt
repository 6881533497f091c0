-- The last length is the greatest.
use Rattle.std.proofs.Common.{ℕ, ◌-◌, length, get_or, ap, ◌∙◌}
use Rattle.lit_base.specs.Literals.{lengths}
use Rattle.lit_base.proofs.LengthLemmas.{last_greatest}
use Rattle.lit_base.proofs.lit_list.LitList.longest.Goals as goal

pub returns-clause-greatest : goal.returns-clause-greatest
returns-clause-greatest c =
    last_greatest c.args.self.now c.normal_law.ensures (length c.get.result.now)
    (c.get.ensures.len ∙ ap (λ (n : ℕ). get_or (lengths c.args.self.now) (n - 1) 0) c.len.ensures.value)
