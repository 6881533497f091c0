-- The walk visits one end after the other, until nothing ends after its position.
use Rattle.std.proofs.Common.{◌≡◌, ◌+◌, ◌-◌, ◌≤◌, ℕ, length, take, sym, ap, ◌∙◌, refl, subst, arith}
use Rattle.std.proofs.Math.Seq.{take-length}
use Rattle.lit_base.specs.Literals.{Literals}
use Rattle.lit_base.specs.NextEnds.{IsNextEnd, NoEndAfter}
use Rattle.text_ends.specs.HitsAt.{GainsHitsAt}
use Rattle.text_ends.specs.HitsAfter.{GainsHitsAfter}
use Rattle.text_ends.specs.Walks.{Walk}
use Rattle.text_ends.proofs.HitLists.{gained_more}
use Rattle.text_ends.proofs.Stops.{gained_ended, gained_here, gained_late, gained_nothing, none_late}
use Rattle.text_ends.proofs.ends.add_hits_of.Goals as goal
use Rattle.text_ends.proofs.ends.add_hits_of.Goals.{In_default-add_hits_at}
use Rattle.text_ends.proofs.ends.add_hits_of.Given.{Over}

-- where the walk begins and where it stands
abbrev first : (g : Over) → In_default-add_hits_at g → Walk
first g c = g.E.EndWalk.walk c.args.ends.now

abbrev here : (g : Over) → In_default-add_hits_at g → Walk
here g c = g.E.EndWalk.walk c.loop-end.ends

-- the position that it reaches
next_end : (g : Over) (c : In_default-add_hits_at g) → IsNextEnd (first g c).literals c.args.text.now (here g c).from c.in-Some.end
next_end g c = rw (c.loop-end.invariant.literals, c.loop-end.invariant.text) at c.in-Some.ensures.next

-- it is one of the same literals and the same text
moved : (g : Over) (c : In_default-add_hits_at g) → g.E.EndWalk.walk c.next_end.new.self ≡ record (here g c) { from = c.in-Some.end }
moved g c = c.in-Some.ensures.moved

same_literals : (g : Over) (c : In_default-add_hits_at g) → (g.E.EndWalk.walk c.next_end.new.self).literals ≡ (first g c).literals
same_literals g c = ap (λ (w : Walk). w.literals) (moved g c) ∙ c.loop-end.invariant.literals

same_text : (g : Over) (c : In_default-add_hits_at g) → (g.E.EndWalk.walk c.next_end.new.self).text ≡ c.args.text.now
same_text g c = ap (λ (w : Walk). w.text) (moved g c) ∙ c.loop-end.invariant.text

-- the hits that the list gains there
gained : (g : Over) (c : In_default-add_hits_at g) → GainsHitsAt (first g c).literals c.args.text.now c.in-Some.end (c.args.at + (c.in-Some.end - c.args.from)) c.loop-end.out.items c.add_hits_at.new.out.items
gained g c = rw (same_literals g c, same_text g c) at c.in_default-add_hits_at.ensures.ok

-- the hits up to the end reached
further : (g : Over) (c : In_default-add_hits_at g) → GainsHitsAfter (first g c).literals (take c.in-Some.end c.args.text.now) c.args.from c.args.at c.args.out.now.items c.add_hits_at.new.out.items
further g c =
    let before = c.loop-end.invariant in
    gained_here (first g c).literals c.args.text.now c.args.from (here g c).from c.in-Some.end c.args.at c.args.out.now.items c.loop-end.out.items c.add_hits_at.new.out.items
    before.ahead (next_end g c) before.gained (gained g c)

pub loop-end-init : goal.loop-end-init
loop-end-init g c =
    let w : Walk = g.E.EndWalk.walk c.args.ends.now in
    let start : w.from ≡ c.args.from = c.requires.from in
    record {
      literals = refl;
      text = c.requires.text;
      ahead = omega (arith, start);
      within = omega (arith, start, c.requires.inside);
      few = omega arith;
      gained = subst (λ (m : ℕ). GainsHitsAfter w.literals (take m c.args.text.now) c.args.from c.args.at c.args.out.now.items c.args.out.now.items) (sym start)
          (gained_nothing w.literals c.args.text.now c.args.from c.args.at c.args.out.now.items);
    }

pub loop-end-preserved : goal.loop-end-preserved
loop-end-preserved g c =
    let at = (goal.at.loop-end-preserved g c).In_default-add_hits_at in
    let next = next_end g at in
    let there : (g.E.EndWalk.walk c.next_end.new.self).from ≡ c.in-Some.end = ap (λ (w : Walk). w.from) (moved g at) in
    record {
      literals = same_literals g at;
      text = same_text g at;
      ahead = omega (arith, there, next.after, c.loop-end.invariant.ahead);
      within = omega (arith, there, next.within);
      few = omega (arith, c.len-before.ensures, c.max-enough.ensures);
      gained = subst (λ (m : ℕ). GainsHitsAfter (first g at).literals (take m c.args.text.now) c.args.from c.args.at c.args.out.now.items c.add_hits_at.new.out.items) (sym there) (further g at);
    }

-- enough was gained
pub returns-then-len-before-clause-ok : goal.returns-then-len-before-clause-ok
returns-then-len-before-clause-ok g c =
    let at = (goal.at.returns-then-len-before-clause-ok g c).In_default-add_hits_at in
    let next = next_end g at in
    let all = further g at in
    let more = gained_more c.args.out.now.items c.add_hits_at.new.out.items all.found all.grown in
    let few : length c.add_hits_at.new.out.items ≤ length c.loop-end.out.items + length (g.E.EndWalk.walk c.next_end.new.self).literals.texts = c.in_default-add_hits_at.ensures.few in
    let same : length (g.E.EndWalk.walk c.next_end.new.self).literals.texts ≡ length (first g at).literals.texts = ap (λ (l : Literals). length l.texts) (same_literals g at) in
    record {
      after = omega (arith, next.after, c.loop-end.invariant.ahead);
      within = next.within;
      gained = all;
      enough = λ _. omega (arith, more, c.len-before.ensures, c.max-enough.ensures, c.args.out.now.ok.0, c.add_hits_at.new.out.ok.0);
      least = λ hit inside.
          let here = gained g at in
          ((here.added.members hit.0 hit.1).0 (gained_late _ c.loop-end.out.items c.add_hits_at.new.out.items here.found hit c.loop-end.invariant.few here.grown inside)).0;
      few = omega (arith, c.loop-end.invariant.few, few, same);
    }

pub returns-in-Err-clause-quiet : goal.returns-in-Err-clause-quiet
returns-in-Err-clause-quiet g c =
    let before = c.loop-end.invariant in
    let w : Walk = g.E.EndWalk.walk c.args.ends.now in
    let next : IsNextEnd w.literals c.args.text.now (g.E.EndWalk.walk c.loop-end.ends).from c.in-Some.end = rw (before.literals, before.text) at c.in-Some.ensures.next in
    λ none. absurd (none c.in-Some.end (omega (arith, next.after, before.ahead)) next.here)

pub returns-clause-ok : goal.returns-clause-ok
returns-clause-ok g c =
    let all = c.loop-end.invariant in
    let l : Literals = (g.E.EndWalk.walk c.args.ends.now).literals in
    let from : ℕ = (g.E.EndWalk.walk c.loop-end.ends).from in
    let text = c.args.text.now in
    let none : NoEndAfter l text from = rw (all.literals, all.text) at c.in_default.ensures.next in
    record {
      after = c.requires.inside;
      within = omega arith;
      gained = rw (take-length text) (gained_ended l text c.args.from from c.args.at c.args.out.now.items c.loop-end.out.items all.ahead all.within none all.gained);
      enough = λ more. absurd (omega (arith, more));
      least = λ hit inside. absurd (none_late _ c.loop-end.out.items hit all.few inside);
      few = omega (arith, all.few);
    }
