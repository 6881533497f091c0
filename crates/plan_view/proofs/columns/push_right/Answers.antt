-- One space more was appended.
use Rattle.std.proofs.Common.{rules, ◌≡◌, ℕ, ◌+◌, ◌-◌, ◌++◌, List, [], ◌∷◌, length, replicate, ap, ◌∙◌, append_assoc, arith}
use Rattle.std.proofs.lemmas.List.{replicate_more}
use Rattle.plan_view.proofs.columns.push_right.Goals as goal

-- k spaces and one are j spaces
spaced : (old mid new : List ℕ) (k j : ℕ) → mid ≡ old ++ replicate k 32 → new ≡ mid ++ 32 ∷ [] → k + 1 ≡ j → new ≡ old ++ replicate j 32
spaced old mid new k j e p more =
    p ∙ (ap (λ xs. xs ++ 32 ∷ []) e ∙ (append_assoc old (replicate k 32) (32 ∷ []) ∙ ap (λ xs. old ++ xs) (replicate_more k 32 ∙ ap (λ n. replicate n 32) more)))

pub loop-preserved : goal.loop-preserved
loop-preserved c =
    let pushed : c.push.new.self.items ≡ c.loop.text.items ++ 32 ∷ [] = search rules in
    record {
      text = spaced c.args.text.now.items c.loop.text.items c.push.new.self.items (c.loop.counter - length c.args.shown.now) (c.loop.counter + 1 - length c.args.shown.now) c.loop.invariant.text pushed (omega (arith, c.loop.invariant.from));
      from = omega (arith, c.loop.invariant.from);
      due = omega arith;
    }
