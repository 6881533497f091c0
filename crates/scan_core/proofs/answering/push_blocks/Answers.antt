use Rattle.std.proofs.Common.{◌≡◌, ◌≢◌, ℕ, List, [], ◌∷◌, ◌++◌, length, take, drop, refl, sym, ap, ◌∙◌, subst, append_assoc, append-nil, arith}
use Rattle.std.specs.Prelude.{nat_eq}
use Rattle.std.proofs.lemmas.Bool.{eqb-true, false≢true}
use Rattle.std.proofs.lemmas.List.{drop_min, take_min}
use Rattle.scan_wire.specs.declared.message.Reply.{Reply}
use Rattle.scan_wire.specs.declared.message.Reply.TheVariants as reply
use Rattle.scan_wire.specs.declared.message.TheConstants.{MAX_HITS}
use Rattle.scan_core.specs.Blocks.{AreBlocks}
use Rattle.scan_core.proofs.BlockLemmas.{blocks_go_on, blocks_replied}
use Rattle.scan_core.proofs.answering.push_blocks.Goals as goal

-- a list of no elements is empty
empty : {X : Type 0} (xs : List X) → length xs ≡ 0 → xs ≡ []
empty [] none = refl
empty (x ∷ xs) none = absurd (omega (arith, none))

pub loop-rest-preserved : goal.loop-rest-preserved
loop-rest-preserved c =
    let inv = c.loop-rest.invariant in
    let first = c.args.out.now.items in
    let rest = c.loop-rest.rest.now in
    let block = c.in_ok-hits.hits.items in
    let others = c.split_at.result.1.now in
    let replied : Reply = reply.Hits c.args.stream c.in_ok-hits.hits in
    let some : rest ≢ [] = λ e. false≢true (sym c.loop-rest-test.true ∙ c.is_empty.ensures ∙ ap (λ (r : List (ℕ × ℕ)). nat_eq (length r) 0) e) in
    let prefix : block ≡ take MAX_HITS rest =
    c.in_ok-hits.ensures.items ∙ c.split_at.ensures.front ∙ ap (λ n. take n rest) c.min.ensures ∙ take_min MAX_HITS rest in
    let back : others ≡ drop MAX_HITS rest = c.split_at.ensures.back ∙ ap (λ n. drop n rest) c.min.ensures ∙ drop_min MAX_HITS rest in (
      inv.0 ++ block ∷ [],
      blocks_replied c.args.stream first c.loop-rest.out.items c.push.new.self.items inv.0 block replied inv.1 c.in_ok-push.ensures.items refl,
      blocks_go_on MAX_HITS c.args.hits.now rest others block inv.0 some prefix back inv.2,
      (inv.3.0 ++ replied ∷ [], c.in_ok-push.ensures.items ∙ ap (λ (rs : List Reply). rs ++ replied ∷ []) inv.3.1 ∙ append_assoc first inv.3.0 (replied ∷ [])),
    )

pub returns-clause-ok : goal.returns-clause-ok
returns-clause-ok c =
    let inv = c.loop-rest.invariant in
    let none : length c.loop-rest.rest.now ≡ 0 = eqb-true (length c.loop-rest.rest.now) 0 (sym c.is_empty.ensures ∙ c.loop-rest-test.false) in
    record {
      blocks = inv.0;
      cut = subst (AreBlocks MAX_HITS c.args.hits.now) (append-nil inv.0) (inv.2 [] (empty c.loop-rest.rest.now none));
      grown = inv.1;
    }
