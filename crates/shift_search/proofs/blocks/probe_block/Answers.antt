-- One more group is probed: it is noted unless its words rule out all ends.
use Rattle.std.proofs.Common.{◌≡◌, ℕ, ◌+◌, ◌-◌, ◌*◌, ◌≤◌, ◌⊎◌, length, slice_index, slice_set, inl, inr, sym, ap, ◌∙◌, subst, arith}
use Rattle.std.specs.Int.{bit_at}
use Rattle.std.proofs.lemmas.List.{length-set}
use Rattle.std.proofs.lemmas.Nat.Bits.{bit_at-zero}
use Rattle.std.proofs.lemmas.Simd.{length-put_chunk}
use Rattle.std.specs.Simd.Lanes.{put_chunk}
use Rattle.shift_search.specs.Blocks.{IsBlock}
use Rattle.lit_base.specs.NextEnds.{NoEndUpTo}
use Rattle.shift_search.specs.ShiftOr.{RulesOut}
use Rattle.shift_search.proofs.BlockLemmas.{one_more}
use Rattle.shift_search.proofs.ShiftOrLemmas.{none_of_group}
use Rattle.shift_search.proofs.blocks.probe_block.Goals as goal
use Rattle.shift_search.proofs.blocks.probe_block.Goals.{then-lacking-eq0, else-lacking-eq0}

pub loop-group-preserved : goal.loop-group-preserved
loop-group-preserved g c =
    let group : ℕ = c.loop-group.group in
    let count : ℕ = c.loop-group.count in
    let four = c.with_those_before-ruled.result in
    let before = c.loop-group.invariant in
    let more : ℕ = c.if-lacking-eq0.count - count in
    let counted : (count + more ≡ c.if-lacking-eq0.count) × (((more ≡ 1) ⊎ (c.lacking.result ≡ 0)) × (more ≤ 1)) = elim c.if-lacking-eq0.branch [
      | then-lacking-eq0 w ↦ (omega (arith, w.count-is), (inr (omega (arith, w.if-lacking-eq0)), omega (arith, w.count-is)))
      | else-lacking-eq0 w ↦ (omega (arith, w.count-is), (inl (omega (arith, w.count-is)), omega (arith, w.count-is)))
    ] in
    let upto : more ≤ 1 = counted.1.1 in
    record {
      words = ap length c.store_words.ensures ∙ length-put_chunk (4 * group) c.loop-group.words four ∙ before.words;
      groups = length-set c.loop-group.groups count group ∙ before.groups;
      few = omega (arith, before.few, upto, counted.0);
      block = λ b are first.
          let text = c.args.text.now in
          let here : ℕ = c.args.at + 32 * group in
          let old = before.block b are first in
          let probes = c.four_probes-now.ensures b are in
          let rules = c.with_those_before-ruled.ensures b text here probes old.after in
          let known : (more ≡ 1) ⊎ NoEndUpTo b.literals text (here - 1) (here + 31) = elim counted.1.0 [
            | inl one ↦ inl one
            | inr gone ↦ inr (none_of_group b text here four (omega (arith, c.requires.eight)) rules (λ i below. c.lacking.ensures.full i below (ap (λ m. bit_at m i) gone ∙ bit_at-zero i)))
          ] in
          let after : ℕ = slice_index c.four_probes-now.result.after 3 in
          let next : here + 8 + 8 * 3 ≡ c.args.at + 32 * (group + 1) = omega arith in
          let groups = slice_set c.loop-group.groups count group in
          let made : IsBlock b text c.args.at (group + 1) (put_chunk (4 * group) c.loop-group.words four) groups (count + more) after =
          one_more b text c.args.at group count more c.loop-group.words four c.loop-group.groups _ after (omega (arith, c.with_those_before-ruled.auto)) (omega (arith, before.words, c.loop-group-test.true)) (omega (arith, before.few, before.groups, c.loop-group-test.true)) upto rules known
          (subst (λ p. RulesOut b text p after) next (probes.after 3 (omega arith))) old in
          subst (λ w. IsBlock b text c.args.at (group + 1) w groups c.if-lacking-eq0.count after) (sym c.store_words.ensures)
          (subst (λ n. IsBlock b text c.args.at (group + 1) (put_chunk (4 * group) c.loop-group.words four) groups n after) counted.0 made);
    }
