-- Tables by prefixes: where a literal ends, its prefix keeps its bucket.
use Rattle.std.proofs.Common.{◌≡◌, ℕ, ◌+◌, ◌-◌, ◌/◌, ◌%◌, ◌<◌, ◌≤◌, ◌⊎◌, ◌||◌, not, true, List, [], ◌∷◌, ◌++◌, length, get_or, take, slice_range, bit_and, refl, sym, ap, subst, ◌∙◌, inl, inr, arith}
use Rattle.std.specs.Int.{bit_at}
use Rattle.std.specs.Option.{unwrap_or}
use Rattle.std.proofs.lemmas.Bool.{cases_Bool, eqb-true, or_cases, or_left, or_right}
use Rattle.std.proofs.lemmas.Nat.Bits.{bit_at_and, bit_at-zero}
use Rattle.std.proofs.lemmas.List.{length-take}
use Rattle.std.proofs.lemmas.Option.{get_or_from_slice_get, unwrap_or-slice_get}
use Rattle.lit_base.specs.declared.fold.Fold.{Fold}
use Rattle.lit_base.specs.Folding.{folded_text}
use Rattle.lit_base.specs.Literals.{Literals, literal_at}
use Rattle.lit_base.specs.Occurrences.{Occurs}
use Rattle.lit_base.proofs.FoldLemmas.{prefix_folds}
use Rattle.nib_mask.specs.declared.half.Half.{Half}
use Rattle.nib_mask.specs.declared.half.Half.TheVariants.{Low, High}
use Rattle.nib_mask.specs.declared.masks.Masks.{Masks}
use Rattle.nib_mask.specs.FilterSet.{capital, half_of, has_half, reaches}
use Rattle.nib_mask.specs.Prefixes.{CoversPrefixes, KeepsPrefixes, prefix_at, keeps_prefix}
use Rattle.nib_mask.specs.Tables.{table_value, value_at}
use Rattle.nib_mask.proofs.HalfLemmas.{has_half-long}
use Rattle.nib_mask.proofs.LawLemmas.{Agrees, agrees-occurs, has_half-agrees}
use Rattle.nib_mask.proofs.TableLemmas.{HaveEntries, padded-lt}

-- a list of one prefix alone
abbrev alone : Fold → List ℕ → Literals
alone fold prefix = record { folding = fold; texts = prefix ∷ [] }

-- where a text folds to a literal, the prefix ends so far before
prefix-ends : (fold : Fold) (text t : List ℕ) (end offset : ℕ) → offset < length t → length t ≤ end → end ≤ length text → folded_text fold (slice_range text (end - length t) end) ≡ t → Occurs (alone fold (take (length t - offset) t)) text 0 (end - offset)
prefix-ends fold text t end offset short begins ends bytes =
    let prefix : List ℕ = take (length t - offset) t in
    let len : length prefix ≡ length t - offset = omega (arith, length-take (length t - offset) t) in
    let from : end - offset - length prefix ≡ end - length t = omega (arith, len, short, begins) in
    record {
      literal = prefix;
      stands = refl;
      begins = omega (arith, len, begins);
      ends = omega (arith, ends);
      bytes = ap (λ k. folded_text fold (slice_range text k (end - offset))) from ∙ prefix_folds fold text t end offset (omega (arith, short)) begins bytes;
    }

-- where a literal ends, its prefix ends so far before
prefix-occurs : (l : Literals) (text : List ℕ) (place end offset : ℕ) → offset < length (literal_at l place) → Occurs l text place end → Occurs (alone l.folding (prefix_at l place offset)) text 0 (end - offset)
prefix-occurs l text place end offset short occurs =
    let is : occurs.literal ≡ literal_at l place = sym (ap (λ o. unwrap_or o []) occurs.stands) ∙ unwrap_or-slice_get l.texts place [] in
    subst (λ u. offset < length u → Occurs (alone l.folding (take (length u - offset) u)) text 0 (end - offset)) is
    (λ few. prefix-ends l.folding text occurs.literal end offset few occurs.begins occurs.ends occurs.bytes) short

-- a prefix keeps its bucket at both halves of a byte that agrees with it
prefix-kept : (fold : Fold) (position byte : ℕ) (half : Half) (prefix : List ℕ) → Agrees fold position byte prefix → keeps_prefix fold position half (half_of half byte) prefix ≡ true
prefix-kept fold position byte half prefix agrees = elim (cases_Bool (reaches position prefix)) [
  | inl long ↦ or_right _ _ (has_half-agrees fold position byte half prefix agrees long)
  | inr short ↦ or_left _ _ (ap not short)
]

-- a prefix that reaches the position is kept only by the half of its byte there and the half of the byte's capital
pub prefix_halves : (fold : Fold) (position byte value : ℕ) (half : Half) (prefix : List ℕ) → reaches position prefix ≡ true → byte ≡ get_or prefix (length prefix + position - 3) 0 → keeps_prefix fold position half value prefix ≡ true → (half_of half byte ≡ value) ⊎ (half_of half (capital fold byte) ≡ value)
prefix_halves fold position byte value half prefix long is keeps =
    let has : has_half fold position half value prefix ≡ true = sym (ap (λ r. not r || has_half fold position half value prefix) long) ∙ keeps in
    elim (or_cases _ _ (has_half-long fold position half prefix byte long is value ∙ has)) [
      | inl own ↦ inl (eqb-true _ _ own)
      | inr other ↦ inr (eqb-true _ _ other)
    ]

-- two numbers with a bit agree on it
both_bits : (a b bit : ℕ) → bit_at a bit ≡ 1 → bit_at b bit ≡ 1 → bit_at (bit_and a b) bit ≡ 1
both_bits a b bit one other = omega (arith, bit_at_and a b bit, one, other)

-- what a byte that agrees with a prefix has at a position has the prefix's bucket
prefix-value : (l : Literals) (count : ℕ) (offsets buckets : List ℕ) (masks : Masks) (position byte place : ℕ) → byte < 256 → place < count
    → ((value : ℕ) → value < 16 → KeepsPrefixes l count offsets buckets position Low value (get_or (get_or masks.low position []) value 0))
    → ((value : ℕ) → value < 16 → KeepsPrefixes l count offsets buckets position High value (get_or (get_or masks.high position []) value 0))
    → Agrees l.folding position byte (prefix_at l place (get_or offsets place 0)) → bit_at (value_at masks position byte) (get_or buckets place 0 % 8) ≡ 1
unfolding value_at
prefix-value l count offsets buckets masks position byte place small counted low high agrees =
    let prefix = prefix_at l place (get_or offsets place 0) in
    both_bits _ _ (get_or buckets place 0 % 8)
    (low (byte % 16) (omega arith) place counted (prefix-kept l.folding position byte Low prefix agrees))
    (high (byte / 16) (omega arith) place counted (prefix-kept l.folding position byte High prefix agrees))

-- so no occurrence goes past the tables by its prefix
pub covers_prefixes : (l : Literals) (count : ℕ) (offsets buckets : List ℕ) (masks : Masks) → HaveEntries (KeepsPrefixes l count offsets buckets) masks → CoversPrefixes l count offsets masks
unfolding table_value
covers_prefixes l count offsets buckets masks have text place end bytes counted short occurs =
    let offset : ℕ = get_or offsets place 0 in
    let prefix : List ℕ = prefix_at l place offset in
    let before : List ℕ = 0 ∷ 0 ∷ [] in
    let p : ℕ = end - offset in
    let there : Occurs (alone l.folding prefix) text 0 p = prefix-occurs l text place end offset short occurs in
    let is : prefix ≡ there.literal = get_or_from_slice_get (prefix ∷ []) 0 there.literal [] there.stands in
    let agrees : (position i : ℕ) → position < 3 → i ≡ p + position - 1 → Agrees l.folding position (get_or (before ++ text) i 0) prefix = λ position i low at.
    subst (λ t. Agrees l.folding position (get_or (before ++ text) i 0) t) (sym is) (agrees-occurs (alone l.folding prefix) text before 0 p position i there refl low at) in
    let begins : length occurs.literal ≤ end = occurs.begins in
    let some : 1 ≤ p = omega (arith, short, begins, ap (λ (t : List ℕ). length t) (sym (ap (λ o. unwrap_or o []) occurs.stands) ∙ unwrap_or-slice_get l.texts place [])) in
    record {
      some = some;
      within = there.ends;
      marked = λ none.
          let bucket : ℕ = get_or buckets place 0 % 8 in
          let a = prefix-value l count offsets buckets masks 0 (get_or (before ++ text) (p - 1) 0) place (padded-lt text (p - 1) bytes) counted have.low_0 have.high_0 (agrees 0 (p - 1) (omega arith) (omega arith)) in
          let b = prefix-value l count offsets buckets masks 1 (get_or (before ++ text) p 0) place (padded-lt text p bytes) counted have.low_1 have.high_1 (agrees 1 p (omega arith) (omega arith)) in
          let d = prefix-value l count offsets buckets masks 2 (get_or (before ++ text) (p + 1) 0) place (padded-lt text (p + 1) bytes) counted have.low_2 have.high_2 (agrees 2 (p + 1) (omega arith) (omega arith)) in
          let set = both_bits _ _ bucket (both_bits _ _ bucket a b) d in
          absurd (omega (arith, set, ap (λ n. bit_at n bucket) none, bit_at-zero bucket));
    }
