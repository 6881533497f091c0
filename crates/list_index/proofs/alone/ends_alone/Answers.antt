-- Each literal takes the flag of its shortest suffix.
use Rattle.std.proofs.Common.{◌≡◌, ◌<◌, [], length, subst, arith}
use Rattle.std.proofs.lemmas.List.{get_or_read}
use Rattle.lit_base.specs.Literals.{literal_at}
use Rattle.lit_base.specs.Occurrences.{IsFirstEnding, NoneEnds}
use Rattle.list_index.proofs.AloneLemmas.{AreCleared, alone_said, first_is_one, one_cleared, same_cleared}
use Rattle.list_index.proofs.alone.ends_alone.Goals as goal
use Rattle.list_index.proofs.alone.ends_alone.Goals.{in-Some+then-first-place, in-Some+else-first-place, in_default}

pub loop-place-preserved : goal.loop-place-preserved
loop-place-preserved c =
    let l = c.args.list.now in
    let place = c.loop-place.place in
    let flags = c.loop-place.flags.items in
    let inside : place < length l.texts = omega (arith, c.loop-place-test.true, c.len-place-end.ensures.value) in
    let here : c.get-literal.result.now ≡ literal_at l place = get_or_read l.texts place c.get-literal.result.now inside c.get-literal.ensures.value [] in
    elim c.match-next_ending.branch [
      | in-Some+then-first-place w ↦
          let first = subst (λ t. IsFirstEnding l t 0 (length t) w.in-Some.first) here w.in-Some.ensures in
          rw (w.flags-is) (one_cleared l place w.in-Some.first flags inside (w.if-first-place.true, first) c.loop-place.invariant)
      | in-Some+else-first-place w ↦
          let first = subst (λ t. IsFirstEnding l t 0 (length t) w.in-Some.first) here w.in-Some.ensures in
          rw (w.flags-is) (same_cleared l place flags
          (λ other is. omega (arith, first_is_one l (literal_at l place) (length (literal_at l place)) other w.in-Some.first is.1 first, is.0, w.if-first-place.false))
          c.loop-place.invariant)
      | in_default w ↦
          let none = subst (λ t. NoneEnds l t 0 (length t)) here w.in_default.ensures in
          rw (w.flags-is) (same_cleared l place flags (λ other is. none other (omega arith) is.1.occurs) c.loop-place.invariant)
    ]

pub returns : goal.returns
returns c =
    let all : c.loop-place.place ≡ length c.args.list.now.texts = omega (arith, c.loop-place-test.false, c.loop-place.auto.place-end, c.len-place-end.ensures.value) in
    alone_said c.args.list.now c.loop-place.flags.items c.requires.normal (subst (λ count. AreCleared c.args.list.now count c.loop-place.flags.items) all c.loop-place.invariant)
