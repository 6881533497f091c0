-- The law of candidates: where a literal ends, the three bytes keep its bucket.
use Rattle.std.proofs.Common.{◌≡◌, ℕ, ◌+◌, ◌-◌, ◌<◌, ◌&&◌, ◌||◌, ◌⊎◌, not, true, eqb, leb, List, [], ◌++◌, length, get_or, slice_range, sym, ap, subst, ◌∙◌, inl, inr, arith}
use Rattle.std.specs.Int.{bit_at}
use Rattle.std.proofs.lemmas.Bool.{cases_Bool, both_ways, and_from, and_parts, or_left, or_right, leb-true, le-leb, eq-eqb, cond-true, cond-false}
use Rattle.std.proofs.lemmas.List.{get_or-map, get_or-append_right}
use Rattle.std.proofs.lemmas.List.Edits.{get_or-between, length-between}
use Rattle.std.proofs.lemmas.List.Folds.{list_all_at, list_any_at}
use Rattle.std.proofs.lemmas.Option.{get_or_from_slice_get, slice_get_within}
use Rattle.lit_base.specs.declared.fold.Fold.{Fold}
use Rattle.lit_base.specs.declared.fold.Fold.TheVariants.{No, Ascii}
use Rattle.lit_base.specs.Cuts.{IsCut}
use Rattle.lit_base.specs.Folding.{folded}
use Rattle.lit_base.specs.Literals.{Literals}
use Rattle.lit_base.specs.Occurrences.{Occurs}
use Rattle.nib_mask.specs.declared.half.Half.{Half}
use Rattle.nib_mask.specs.declared.half.Half.TheVariants.{Low, High}
use Rattle.nib_mask.specs.FilterSet.{capital, filter_set, half_of, has_half, is_used, passes, passes_at, reaches, shares_half}
use Rattle.nib_mask.specs.Candidates.{filter_set_at}
use Rattle.nib_mask.specs.Runs.{bucket_of}
use Rattle.nib_mask.proofs.Buckets.{Holds, bit_at-bucket}

-- a byte is, without its case, the literal's byte at the position, where the literal reaches it
pub record Agrees (fold : Fold) (position byte : ℕ) (literal : List ℕ) : Type 0 where
  pub same : reaches position literal ≡ true → folded fold byte ≡ get_or literal (length literal + position - 3) 0

-- a byte that folds to another is that byte or its capital
pub cases_folded : (fold : Fold) (byte other : ℕ) → folded fold byte ≡ other → (byte ≡ other) ⊎ (byte ≡ capital fold other)
cases_folded No byte other is = inl is
cases_folded Ascii byte other is =
    elim (cases_Bool (leb 65 byte && leb byte 90)) [
      | inl large ↦
          let capitals = and_parts (leb 65 byte) (leb byte 90) large in
          let low = leb-true 65 byte capitals.0 in
          let high = leb-true byte 90 capitals.1 in
          let shifted : byte + 32 ≡ other = sym (cond-true _ (byte + 32) byte large) ∙ is in
          let letter : (leb 97 other && leb other 122) ≡ true = and_from _ _ (le-leb 97 other (omega arith)) (le-leb other 122 (omega arith)) in
          let back : byte ≡ other - 32 = omega arith in
          inr (back ∙ sym (cond-true _ (other - 32) other letter))
      | inr small ↦ inl (sym (cond-false _ (byte + 32) byte small) ∙ is)
    ]

module _ (fold : Fold) (position byte : ℕ) where
  -- the literal has both halves of a byte like this
  pub has_half-agrees : (half : Half) (literal : List ℕ) → Agrees fold position byte literal → reaches position literal ≡ true → has_half fold position half (half_of half byte) literal ≡ true
  unfolding has_half
  has_half-agrees half literal agrees long =
      let own = get_or literal (length literal + position - 3) 0 in
      let either : (eqb (half_of half own) (half_of half byte) || eqb (half_of half (capital fold own)) (half_of half byte)) ≡ true =
      elim (cases_folded fold byte own (agrees.same long)) [
        | inl same ↦ or_left _ _ (eq-eqb _ _ (ap (half_of half) (sym same)))
        | inr other ↦ or_right _ _ (eq-eqb _ _ (ap (half_of half) (sym other)))
      ] in
      and_from _ _ long either

  -- a literal of a run that uses the position reaches it
  reaches-used : (run : List (List ℕ)) (literal : List ℕ) → Holds run literal → is_used position run ≡ true → reaches position literal ≡ true
  unfolding is_used
  reaches-used run literal holds used =
      elim (cases_Bool (reaches position literal)) [
        | inl long ↦ long
        | inr short ↦ absurd (both_ways _ (list_all_at (reaches position) run holds.place [] holds.inside (ap (reaches position) holds.stands ∙ short)) used)
      ]

  -- a run shares what one of its literals has
  shares_half-held : (half : Half) (value : ℕ) (run : List (List ℕ)) (literal : List ℕ) → Holds run literal → has_half fold position half value literal ≡ true → shares_half fold position half value run ≡ true
  unfolding shares_half
  shares_half-held half value run literal holds has =
      list_any_at (has_half fold position half value) run holds.place [] holds.inside (ap (has_half fold position half value) holds.stands ∙ has)

  -- the position keeps a run with a literal like this
  pub passes_at-agrees : (run : List (List ℕ)) (literal : List ℕ) → Holds run literal → Agrees fold position byte literal → passes_at fold position byte run ≡ true
  unfolding passes_at
  passes_at-agrees run literal holds agrees =
      elim (cases_Bool (is_used position run)) [
        | inl used ↦
            let long = reaches-used run literal holds used in
            let low = shares_half-held Low (half_of Low byte) run literal holds (has_half-agrees Low literal agrees long) in
            let high = shares_half-held High (half_of High byte) run literal holds (has_half-agrees High literal agrees long) in
            or_right _ _ (and_from _ _ low high)
        | inr unused ↦ or_left _ _ (ap not unused)
      ]

-- three bytes that agree with a literal keep a run with it
passes-agrees : (fold : Fold) (a b c : ℕ) (literal : List ℕ) → Agrees fold 0 a literal → Agrees fold 1 b literal → Agrees fold 2 c literal → (run : List (List ℕ)) → Holds run literal → passes fold a b c run ≡ true
unfolding passes
passes-agrees fold a b c literal at_a at_b at_c run holds =
    and_from _ _ (and_from _ _ (passes_at-agrees fold 0 a run literal holds at_a) (passes_at-agrees fold 1 b run literal holds at_b))
    (passes_at-agrees fold 2 c run literal holds at_c)

-- where a literal ends in a text, the last bytes up to there agree with it, whatever stands before the text
pub agrees-occurs : (l : Literals) (text before : List ℕ) (place end position i : ℕ) (occurs : Occurs l text place end) → length before ≡ 2 → position < 3 → i ≡ end + position - 1 → Agrees l.folding position (get_or (before ++ text) i 0) occurs.literal
agrees-occurs l text before place end position i occurs two low at = record {
  same = λ long.
      let literal = occurs.literal in
      let len = length literal in
      let reach = leb-true 3 (len + position) long in
      let begins = occurs.begins in
      let ends = occurs.ends in
      let slice = slice_range text (end - len) end in
      let index = len + position - 3 in
      let size = length-between text (end - len) end ends in
      let where_is : i - 2 ≡ end - len + index = omega arith in
      let in_text = get_or-append_right before text 2 i 0 two (omega arith) in
      let in_slice : get_or slice index 0 ≡ get_or text (end - len + index) 0 = get_or-between text (end - len) end index 0 (omega arith) in
      ap (folded l.folding) (in_text ∙ ap (λ k. get_or text k 0) where_is ∙ sym in_slice)
      ∙ sym (get_or-map (folded l.folding) slice index 0 0 (omega (arith, size)))
      ∙ ap (λ t. get_or t index 0) occurs.bytes;
}

-- where a literal ends, its bucket is in the filter set
pub bit_at-occurs : (l : Literals) (ends text before : List ℕ) (place end : ℕ) → IsCut 16 (length l.texts) ends → length before ≡ 2 → Occurs l text place end → bit_at (filter_set_at l ends before text end) (bucket_of ends place) ≡ 1
unfolding filter_set
bit_at-occurs l ends text before place end cut two occurs =
    let stands = get_or_from_slice_get l.texts place occurs.literal [] occurs.stands in
    let agrees = λ (position i : ℕ) (low : position < 3) (at : i ≡ end + position - 1). agrees-occurs l text before place end position i occurs two low at in
    let pass = passes-agrees l.folding _ _ _ occurs.literal (agrees 0 (end - 1) (omega arith) (omega arith)) (agrees 1 end (omega arith) (omega arith)) (agrees 2 (end + 1) (omega arith) (omega arith)) in
    bit_at-bucket (passes l.folding _ _ _) l.texts ends place cut.cuts (slice_get_within l.texts place occurs.literal occurs.stands)
    (λ run holds. pass run (subst (Holds run) stands holds))
