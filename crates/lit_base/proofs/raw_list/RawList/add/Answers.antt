-- Patterns without a refusal keep the list within its limits.
use Rattle.std.proofs.Common.{◌≡◌, length, map, arith}
use Rattle.std.proofs.lemmas.Grind.{common_steps}
use Rattle.lit_base.specs.Patterns.{patterns_of}
use Rattle.lit_base.proofs.RefusalLemmas.{appended_within}
use Rattle.lit_base.proofs.raw_list.RawList.add.Goals as goal

pub invariant_of-self-2 : goal.invariant_of-self-2
invariant_of-self-2 c =
    let count : c.len.result ≡ length (map (λ p. p.items) c.self.inside.patterns.items) = grind (arith, common_steps) in
    appended_within _ (patterns_of c.args.patterns) _ c.len.result c.self.inside.len_in_all c.in_ok-len_in_all.len_in_all
    c.in_ok-append.ensures.ok count c.self.invariant.0 c.in_ok-len_in_all.ensures.0 c.in_ok-len_in_all.ensures.1 c.self.invariant.1
