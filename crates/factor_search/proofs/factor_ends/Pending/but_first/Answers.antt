-- The higher bits stand for the later ends.
use Rattle.std.proofs.Common.{◌≡◌, ◌+◌, ◌-◌, ◌%◌, ap, ◌∙◌, shr-shr, arith}
use Rattle.std.specs.Int.{bit_at}
use Rattle.factor_search.proofs.factor_ends.Pending.but_first.Goals as goal

pub returns-clause-state : goal.returns-clause-state
returns-clause-state c = λ w text from are behind. record {
  pending = λ place end occurs later after before.
      let back = end - (c.args.self.seen + c.args.count + 1) in
      let there : c.args.count + back ≡ end - (c.args.self.seen + 1) = omega (arith, after) in
      ap (λ x. x % 2) (shr-shr c.args.self.hash_bits c.args.count back) ∙ ap (bit_at c.args.self.hash_bits) there
      ∙ are.pending place end occurs (omega (arith, later, behind)) (omega (arith, after)) (omega (arith, before, c.requires.within));
  inside = omega (arith, are.inside, c.requires.within);
  few = omega (arith, are.few);
}
