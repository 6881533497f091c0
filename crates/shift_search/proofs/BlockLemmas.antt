-- Blocks: one more group is probed; and where nothing ends after all noted words were verified.
use Rattle.std.proofs.Common.{◌≡◌, ℕ, ◌+◌, ◌-◌, ◌*◌, ◌/◌, ◌<◌, ◌≤◌, ◌⊎◌, List, length, slice_index, slice_set, get_or, inl, inr, sym, ap, ◌∙◌, subst, arith, get_or-set_other, get_or-set_same}
use Rattle.std.proofs.lemmas.Bool.{cases_lt}
use Rattle.std.proofs.lemmas.Simd.{get_or-put_chunk_at, get_or-put_chunk_below}
use Rattle.std.specs.Simd.Lanes.{put_chunk}
use Rattle.shift_search.specs.Blocks.{AreNoted, IsBlock, IsNoted, IsNotedUnlessFull}
use Rattle.lit_base.specs.NextEnds.{NoEndUpTo}
use Rattle.shift_search.specs.ShiftOr.{Bucketing, RulesOut, RulesOutWords}
use Rattle.shift_search.proofs.ShiftOrLemmas.{none_of_word, none_of_words}

-- after the groups of a block one more is probed: four words say which ends are ruled out, and it is noted, or nothing
-- ends there
pub one_more : (b : Bucketing) (text : List ℕ) (at group count more : ℕ) (words four numbers : List ℕ) (before after : ℕ) → length four ≡ 4 → 4 * group + 4 ≤ length words → count < length numbers → more ≤ 1
    → RulesOutWords b text (at + 32 * group) four → (more ≡ 1) ⊎ NoEndUpTo b.literals text (at + 32 * group - 1) (at + 32 * group + 31) → RulesOut b text (at + 32 * (group + 1)) after → IsBlock b text at group words numbers count before
    → IsBlock b text at (group + 1) (put_chunk (4 * group) words four) (slice_set numbers count group) (count + more) after
one_more b text at group count more words four numbers before after long room place upto rules known later block = record {
  after = later;
  rules = λ word below. elim (cases_lt word (4 * group)) [
    | inl sooner ↦ subst (RulesOut b text (at + 8 * word)) (sym (get_or-put_chunk_below (4 * group) words four word 0 sooner)) (block.rules word sooner)
    | inr past ↦
        let i : ℕ = word - 4 * group in
        let near : i < 4 = omega (arith, below, past) in
        let here : 4 * group + i ≡ word = omega (arith, past) in
        let there : at + 32 * group + 8 * i ≡ at + 8 * word = omega (arith, past) in
        let is : slice_index (put_chunk (4 * group) words four) word ≡ slice_index four i =
        ap (λ n. get_or (put_chunk (4 * group) words four) n 0) (sym here) ∙ get_or-put_chunk_at (4 * group) words four i 0 (omega (arith, near, long)) (omega (arith, long, room)) in
        subst (RulesOut b text (at + 8 * word)) (sym is) (subst (λ p. RulesOut b text p (slice_index four i)) there (rules i near))
  ];
  numbered = λ slot below. elim (cases_lt slot count) [
    | inl sooner ↦ omega (arith, get_or-set_other numbers count slot group 0 (λ same. omega (arith, same, sooner)), block.numbered slot sooner)
    | inr past ↦
        let here : slot ≡ count = omega (arith, past, below, upto) in
        omega (arith, ap (slice_index (slice_set numbers count group)) here, get_or-set_same numbers count group 0 place)
  ];
  noted = λ other below. elim (cases_lt other group) [
    | inl sooner ↦ elim (block.noted other sooner) [
      | inl quiet ↦ inl quiet
      | inr noted ↦ inr (record { slot = noted.slot; below = omega (arith, noted.below); is = get_or-set_other numbers count noted.slot group 0 (λ same. omega (arith, same, noted.below)) ∙ noted.is })
    ]
    | inr past ↦
        let here : group ≡ other = omega (arith, past, below) in
        elim known [
          | inl one ↦ inr (record { slot = count; below = omega (arith, one); is = get_or-set_same numbers count group 0 place ∙ here })
          | inr quiet ↦ inl (subst (λ g. NoEndUpTo b.literals text (at + 32 * g - 1) (at + 32 * g + 31)) here quiet)
        ]
  ];
}

-- the noted words of the groups of a block are those at whose positions a literal may end
pub words_noted : (b : Bucketing) (text : List ℕ) (at groups : ℕ) (words numbers noted : List ℕ) (count found after : ℕ) → 8 ≤ at → IsBlock b text at groups words numbers count after
    → ((slot : ℕ) → slot < found → slice_index noted slot < 4 * groups) → ((slot i : ℕ) → slot < count → i < 4 → IsNotedUnlessFull words noted found (4 * slice_index numbers slot + i))
    → AreNoted b text at groups words noted found
words_noted b text at groups words numbers noted count found after some block inside known = record {
  rules = block.rules;
  inside = inside;
  noted = λ word below.
      let group : ℕ = word / 4 in
      let i : ℕ = word - 4 * group in
      let here : 4 * group + i ≡ word = omega arith in
      elim (block.noted group (omega (arith, below))) [
        | inl quiet ↦ inl (λ end after upto. quiet end (omega (arith, after, some)) (omega (arith, upto)))
        | inr slot ↦ elim (known slot.slot i slot.below (omega arith)) [
          | inl full ↦
              let there : 4 * slice_index numbers slot.slot + i ≡ word = omega (arith, slot.is, here) in
              inl (none_of_word b text (at + 8 * word) (slice_index words word) (omega (arith, some)) (block.rules word below) (ap (slice_index words) (sym there) ∙ full))
          | inr taken ↦
              let there : 4 * slice_index numbers slot.slot + i ≡ word = omega (arith, slot.is, here) in
              inr (subst (IsNoted noted found) there taken)
        ]
      ];
}

-- where nothing ends at the positions of the noted words, nothing ends in the block
pub none_of_block : (b : Bucketing) (text : List ℕ) (at groups : ℕ) (words numbers : List ℕ) (count : ℕ) → 8 ≤ at → AreNoted b text at groups words numbers count
    → ((slot : ℕ) → slot < count → NoEndUpTo b.literals text (at + 8 * slice_index numbers slot - 1) (at + 8 * slice_index numbers slot + 7))
    → NoEndUpTo b.literals text (at - 1) (at + 8 * (4 * groups) - 1)
none_of_block b text at groups words numbers count some noted verified =
    none_of_words b.literals text (at - 1) at (4 * groups) some (λ end after upto. absurd (omega (arith, after, upto))) (λ word below. elim (noted.noted word below) [
      | inl quiet ↦ quiet
      | inr slot ↦ subst (λ w. NoEndUpTo b.literals text (at + 8 * w - 1) (at + 8 * w + 7)) slot.is (verified slot.slot slot.below)
    ])
