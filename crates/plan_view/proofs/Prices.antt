-- A cut costs something.
use Rattle.std.proofs.Common.{ℕ, ◌<◌, List, [], ◌∷◌, arith}
use Rattle.lit_base.specs.Costs.{cost, run_cost}
use Rattle.lit_base.specs.Cuts.{CutsFrom, IsCut, cut_price}

-- a run does
run-costs : (ls : List ℕ) (p q : ℕ) → 0 < run_cost ls p q
unfolding run_cost cost
run-costs ls p q = omega arith

cut-costs : (ls : List ℕ) (n p : ℕ) (ends : List ℕ) → CutsFrom n p ends → p < n → 0 < cut_price (run_cost ls) p ends
cut-costs ls n p [] e some = absurd (omega (arith, e, some))
cut-costs ls n p (end ∷ ends) e some = omega (arith, run-costs ls p end)

pub priced : (ls : List ℕ) (n : ℕ) (ends : List ℕ) → IsCut 16 n ends → 0 < cut_price (run_cost ls) 0 ends
priced ls n ends cut = cut-costs ls n 0 ends cut.cuts cut.some
