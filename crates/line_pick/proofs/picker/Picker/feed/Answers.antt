-- The picker as shown, by the text that its progress took.
use Rattle.std.proofs.Common.{rules, ◌≡◌, ℕ, Bool, List, ◌++◌, Option, cond, length, Result, Ok, Err, OnOk, ap, sym, ◌∙◌}
use Rattle.std.specs.Prelude.{is_some}
use Rattle.std.specs.Option.{option_copied}
use Rattle.lit_base.specs.Lines.{ended_lines}
use Rattle.lit_plan.specs.Plans.{Plan}
use Rattle.line_pick.specs.declared.halt.Halt.{Halt}
use Rattle.line_pick.specs.declared.matcher.LineRule.{LineRule}
use Rattle.line_pick.specs.declared.matcher.LineSearch.{LineSearch}
use Rattle.line_pick.specs.declared.sink.Next.TheVariants.{More}
use Rattle.line_pick.specs.declared.state.State.{State}
use Rattle.line_pick.specs.Emitting.{answer_of}
use Rattle.line_pick.specs.Matching.{picks}
use Rattle.line_pick.specs.Picking.{Picking, fed_state}
use Rattle.line_pick.proofs.EmittedLemmas.{answer_of-IsOk, answer_to-More}
use Rattle.line_pick.proofs.NumberLemmas.{Emits-moved, shown-more, shown-same}
use Rattle.line_pick.proofs.picker.Picker.feed.Goals as goal

-- where the sink wants more, all was taken
on_more : {T P : Type 0} (r : Result T Halt) → answer_of r ≡ Ok More → OnOk r P → P
on_more (Ok x) e p = p
on_more (Err halt) e p = absurd (answer_to-More halt e)

-- a picker as shown
abbrev shown : Option Plan → Bool → LineRule → Bool → Bool → List ℕ → ℕ → ℕ → State → Bool → Picking
shown plan has_empty rule is_numbered has_bytes held lines bytes state tunes = record { plan = plan; has_empty = has_empty; rule = rule; is_numbered = is_numbered; has_bytes = has_bytes; held = held; lines = lines; bytes = bytes; state = state; tunes = tunes }

same-picking : (plan : Option Plan) (has_empty : Bool) (rule : LineRule) (h : List ℕ) (f : Bool) {k k' : Bool} {y y' : Bool} {l l' b b' : ℕ} {s s' : State} → k ≡ k' → y ≡ y' → l ≡ l' → b ≡ b' → s ≡ s' → shown plan has_empty rule k y h l b s f ≡ shown plan has_empty rule k' y' h l' b' s' f
same-picking plan has_empty rule h f {k' = k'} {y = y} {y' = y'} {l = l} {l' = l'} {b = b} {b' = b'} {s = s} numbered seen lines bytes state =
    ap (λ x. shown plan has_empty rule x y h l b s f) numbered
    ∙ ap (λ x. shown plan has_empty rule k' x h l b s f) seen
    ∙ ap (λ x. shown plan has_empty rule k' y' h x b s f) lines
    ∙ ap (λ x. shown plan has_empty rule k' y' h l' x s f) bytes
    ∙ ap (λ x. shown plan has_empty rule k' y' h l' b' x f) state

pub returns-clause-running : goal.returns-clause-running
returns-clause-running g c = rw (← c.self.view_is) (λ running.
    let m = c.self.inside.search.matcher in
    let old = c.self.inside.progress in
    let new = c.take.new.self in
    let count = length (ended_lines (old.held.items ++ c.args.piece.now)) in
    record {
      emitted = rw c.answered-answer.ensures (Emits-moved g.S.Sink.takes (picks m) old.lines (cond old.is_numbered old.lines 0) (ended_lines (old.held.items ++ c.args.piece.now)) old.is_numbered (shown-same old.is_numbered old.lines) c.take.ensures.emitted);
      more = λ e.
          let all : answer_of c.take.result ≡ Ok More = sym c.answered-answer.ensures ∙ e in
          record {
            rest = ap (λ (s : LineSearch). shown (option_copied s.matcher.plan) s.matcher.has_empty s.matcher.rule new.is_numbered new.has_bytes new.held.items (cond new.is_numbered new.lines 0) new.bytes c.after_feed-self-inside.result (is_some s.finder)) c.take.ensures.same
                ∙ same-picking (option_copied m.plan) m.has_empty m.rule new.held.items (is_some c.self.inside.search.finder) c.take.ensures.numbered c.take.ensures.seen
                (ap (λ is_numbered. cond is_numbered new.lines 0) c.take.ensures.numbered ∙ shown-more old.is_numbered old.lines new.lines count (on_more c.take.result all c.take.ensures.lines))
                (on_more c.take.result all c.take.ensures.bytes) (c.after_feed-self-inside.ensures ∙ ap fed_state e ∙ sym running);
            held = on_more c.take.result all c.take.ensures.held;
          };
      state = c.after_feed-self-inside.ensures;
      too_long = search rules;
      idle = λ none. c.answered-answer.ensures ∙ answer_of-IsOk c.take.result (c.take.ensures.idle none);
    })
