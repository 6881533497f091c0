-- The patterns stand in the list where their lines' places say, and are null where lines are.
use Rattle.std.proofs.Common.{List, ℕ, [], Contains, IsTrue, ◌↔◌, subst}
use Rattle.plan_pack.specs.Notations.{patterns_of}
use Rattle.plan_pack.proofs.ListLemmas.{placed}
use Rattle.plan_pack.proofs.reading.listed.Goals as goal

pub returns-clause-places : goal.returns-clause-places
returns-clause-places c =
    placed c.args.reading.fold _ c.in_ok-normal.field-0.0 (patterns_of c.args.reading.notation c.args.text.now) c.in_ok-patterns.patterns c.in_ok-normal.field-0.1.place_of.items c.in_ok-normal.ensures.list c.in_ok-patterns.ensures.ok c.in_ok-normal.ensures.places

pub returns-clause-empty : goal.returns-clause-empty
returns-clause-empty c = subst (λ (raw : List (List ℕ)). IsTrue c.in_ok-normal.field-0.1.has_empty ↔ Contains raw []) c.in_ok-patterns.ensures.ok c.in_ok-normal.ensures.empty
