-- One block after the other is probed, until a literal ends at a pending end.
use Rattle.std.proofs.Common.{ℕ, ◌+◌, arith}
use Rattle.lit_base.specs.NextEnds.{NoEndUpTo}
use Rattle.text_ends.proofs.EndLemmas.{next_further, none_joined}
use Rattle.factor_search.proofs.factor_ends.Pending.next_verified.Goals as goal

pub returns-in-Some-clause-state : goal.returns-in-Some-clause-state
returns-in-Some-clause-state c =
    c.but_first.ensures.state c.args.factors.now c.args.text.now c.blocks-2.state.seen c.blocks-2.invariant.state (omega arith)

pub returns-in-Some-clause-next : goal.returns-in-Some-clause-next
returns-in-Some-clause-next c =
    next_further c.args.factors.now.literals c.args.text.now c.args.self.now.seen c.blocks-2.state.seen c.blocks-2.invariant.none c.in-Some.found.0 c.blocks-2.invariant.ahead c.in-Some.ensures.next

pub returns-then-text-state-clause-next : goal.returns-then-text-state-clause-next
returns-then-text-state-clause-next c = λ end after here.
    let last : ℕ = c.blocks-2.state.seen + c.blocks-2.state.count in
    none_joined c.args.factors.now.literals c.args.text.now c.args.self.now.seen c.blocks-2.state.seen c.blocks-2.invariant.none last c.in_default.ensures.next end after
    (omega (arith, here.1.ends, c.if-text-state.true, c.blocks-2.invariant.state.inside)) here

pub next_block-state-requires-clause-state : goal.next_block-state-requires-clause-state
next_block-state-requires-clause-state c = λ place end occurs later after before.
    let rest = c.but_first-rest.ensures.state c.args.factors.now c.args.text.now c.blocks-2.state.seen c.blocks-2.invariant.state (omega arith) in
    rest.pending place end occurs later after (omega (arith, before))

pub blocks-2-preserved : goal.blocks-2-preserved
blocks-2-preserved c =
    let l = c.args.factors.now.literals in
    let text = c.args.text.now in
    let from : ℕ = c.args.self.now.seen in
    let seen : ℕ = c.blocks-2.state.seen in
    let last : ℕ = seen + c.blocks-2.state.count in
    let passed : NoEndUpTo l text from last = none_joined l text from seen c.blocks-2.invariant.none last c.in_default.ensures.next in
    record {
      state = c.next_block-state.ensures.state;
      ahead = omega (arith, c.next_block-state.ensures.ahead, c.but_first-rest.ensures.seen, c.blocks-2.invariant.ahead);
      none = none_joined l text from last passed c.next_block-state.result.seen (λ end later within here.
          c.next_block-state.ensures.none end (omega (arith, later, c.but_first-rest.ensures.seen)) within here);
    }
