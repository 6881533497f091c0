use Rattle.std.proofs.Common.{◌≡◌, ℕ, ◌<◌, get_or}
use Rattle.lit_base.specs.Folding.{folded}
use Rattle.plan_file.proofs.literals.folded_len.Given as goal

abbrev pub invariant-loop-place : goal.invariant-loop-place
invariant-loop-place l = (k : ℕ) → k < l.place → folded l.fold (get_or l.text k 0) ≡ get_or l.text k 0
