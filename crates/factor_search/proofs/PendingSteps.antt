-- Pending ends, one probe further.
use Rattle.std.proofs.Common.{◌≡◌, ◌⊎◌, ℕ, ◌+◌, ◌-◌, ◌*◌, ◌%◌, ◌^◌, ◌<◌, ◌≤◌, List, All, length, inl, inr, ap, ◌∙◌, subst, arith}
use Rattle.std.specs.Int.{bit_at}
use Rattle.std.specs.Int.RustNames.{bit_or}
use Rattle.std.proofs.lemmas.Bool.{cases_lt}
use Rattle.std.proofs.lemmas.Nat.Bits.{bit_at-zero}
use Rattle.std.proofs.lemmas.Option.{slice_get_within}
use Rattle.lit_base.specs.Literals.{Literals}
use Rattle.lit_base.specs.Occurrences.{HasEnd, Occurs}
use Rattle.nib_mask.specs.Candidates.{IsCandidate}
use Rattle.nib_mask.specs.Prefixes.{CoversPrefixes}
use Rattle.nib_mask.specs.declared.masks.Masks.{Masks}
use Rattle.lane_filter.specs.Bits.{SplitsLowest}
use Rattle.lane_filter.specs.Lanes.{IsMaskOf}
use Rattle.factor_search.specs.Factors.{AreHashBits, AreWithin, Factored, offset_at}
use Rattle.list_index.proofs.SuffixLemmas.{literal_is}
use Rattle.factor_search.specs.PendingEnds.{ArePending}
use Rattle.factor_search.proofs.HashBitSteps.{marked_above, marked_below}

-- a literal that ends in a text stands in its list
pub listed : (l : Literals) (text : List ℕ) (place end : ℕ) → Occurs l text place end → place < length l.texts
listed l text place end occurs = slice_get_within l.texts place occurs.literal occurs.stands

-- its factor ends at most seven bytes before its end, and after the text's start
pub factor_near : (w : Factored) → AreWithin w → (text : List ℕ) (place end : ℕ) → Occurs w.literals text place end → (offset_at w place ≤ 7) × (offset_at w place < end)
factor_near w within text place end occurs =
    let is = within place (listed w.literals text place end occurs) in
    let len = ap (λ (t : List ℕ). length t) (literal_is w.literals text place end occurs) in
    (omega (arith, is.near), omega (arith, is.within, len, occurs.begins))

-- what stands eight positions before a position, or further back, has no pending end after it
pub none_pending : (w : Factored) (text : List ℕ) (from : ℕ) → AreWithin w → ArePending w text from (from - 7) (from - 7 + 1) 0
none_pending w text from within place end occurs further after before =
    let near = factor_near w within text place end occurs in
    absurd (omega (arith, near, further, before))

-- an end without a bit is no end
pub nothing_pending : (w : Factored) (text : List ℕ) (from seen last : ℕ) → ArePending w text from seen (last + 1) 0 → (end : ℕ) → from < end → seen < end → end ≤ last → ¬ HasEnd w.literals text end
nothing_pending w text from seen last none end later past within here =
    let set = none here.0 end here.1 later past (omega (arith, within)) in
    absurd (omega (arith, set, bit_at-zero (end - (seen + 1))))

-- without a bit, nothing is pending after a later position either
pub none_further : (w : Factored) (text : List ℕ) (from seen later next : ℕ) → seen ≤ later → ArePending w text from seen next 0 → ArePending w text from later next 0
none_further w text from seen later next ahead none place end occurs further after before =
    let set = none place end occurs further (omega (arith, after, ahead)) before in
    absurd (omega (arith, set, bit_at-zero (end - (seen + 1))))

-- after a text's start, a position passes if the factor of a literal ends there
module _ (w : Factored) (masks : Masks) (text : List ℕ) (seen passing : ℕ) (covers : CoversPrefixes w.literals (length w.literals.texts) w.offsets masks) (within : AreWithin w) (bytes : All (λ b. b < 256) text) (identifies : IsMaskOf (IsCandidate masks text) (seen + 1) 64 passing) where
  pub passes : (place end : ℕ) → Occurs w.literals text place end → seen < end - offset_at w place → end - offset_at w place ≤ seen + 64 → bit_at passing (end - offset_at w place - (seen + 1)) ≡ 1
  passes place end occurs after inside =
      let before = listed w.literals text place end occurs in
      let is = within place before in
      let there : end - offset_at w place ≡ seen + 1 + (end - offset_at w place - (seen + 1)) = omega (arith, after) in
      (identifies (end - offset_at w place - (seen + 1))).1 (omega (arith, after, inside), subst (IsCandidate masks text) there (covers text place end bytes before is.within occurs))

  -- where no position passes, none has a pending end
  pub none_passes : (from base : ℕ) → passing ≡ 0 → ArePending w text from base (seen + 1) 0 → ArePending w text from base (seen + 64 + 1) 0
  none_passes from base none pending place end occurs further after before = elim (cases_lt end (seen + 1 + offset_at w place)) [
    | inl sooner ↦ pending place end occurs further after sooner
    | inr later ↦
        let set = passes place end occurs (omega (arith, later)) (omega (arith, before, later)) in
        absurd (omega (arith, ap (λ m. bit_at m (end - offset_at w place - (seen + 1))) none, set, bit_at-zero (end - offset_at w place - (seen + 1))))
  ]

-- each literal whose factor ends in a block is pending, or its position remains
abbrev pub AreLeft : Factored → List ℕ → ℕ → ℕ → ℕ → Type 0
AreLeft w text seen found rest = (place end : ℕ) → Occurs w.literals text place end → seen < end - offset_at w place → end - offset_at w place ≤ seen + 56
    → (bit_at found (end - (seen + 1)) ≡ 1) ⊎ (bit_at rest (end - offset_at w place - (seen + 1)) ≡ 1)

module _ (w : Factored) (text : List ℕ) (seen : ℕ) (within : AreWithin w) where
  -- the lowest remaining position is probed
  pub left_further : (found rest back others probed : ℕ) → SplitsLowest rest back others → AreHashBits w text (seen + 1 + back) probed → AreLeft w text seen found rest → AreLeft w text seen (bit_or found (probed * 2 ^ back % 2 ^ 64)) others
  left_further found rest back others probed split are left place end occurs after inside =
      let near = factor_near w within text place end occurs in
      let off : ℕ = offset_at w place in
      let at : ℕ = end - off - (seen + 1) in
      let short : end - (seen + 1) < 64 = omega (arith, near, after, inside) in
      elim (left place end occurs after inside) [
        | inl set ↦ inl (marked_below found probed back (end - (seen + 1)) short set)
        | inr has ↦ elim (cases_lt back at) [
          | inl later ↦ inr ((split.others at).1 (later, has))
          | inr here ↦ elim (cases_lt at back) [
            | inl sooner ↦ absurd (omega (arith, split.lowest at sooner, has))
            | inr same ↦
                let there : end ≡ seen + 1 + back + off = omega (arith, here, same, after) in
                let set = are place (subst (Occurs w.literals text place) there occurs) in
                let above : end - (seen + 1) - back ≡ off = omega (arith, there) in
                inl (marked_above found probed back (end - (seen + 1)) short (omega (arith, there)) (ap (bit_at probed) above ∙ set))
          ]
        ]
      ]

  -- if no position remains, `found` has the pending ends of the block
  pub masked_pending : (from hash_bits found : ℕ) → AreLeft w text seen found 0 → ((back : ℕ) → back < 64 → bit_at hash_bits back ≡ 1 → bit_at found back ≡ 1) → ArePending w text from seen (seen + 1) hash_bits → ArePending w text from seen (seen + 56 + 1) found
  masked_pending from hash_bits found left kept pending place end occurs further after before =
      let near = factor_near w within text place end occurs in
      elim (cases_lt end (seen + 1 + offset_at w place)) [
        | inl sooner ↦ kept (end - (seen + 1)) (omega (arith, near, sooner, after)) (pending place end occurs further after sooner)
        | inr later ↦ elim (left place end occurs (omega (arith, later)) (omega (arith, before, later))) [
          | inl set ↦ set
          | inr has ↦ absurd (omega (arith, has, bit_at-zero (end - offset_at w place - (seen + 1))))
        ]
      ]
