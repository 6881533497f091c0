-- Where literals occur in a text and in its parts.
use Rattle.std.proofs.Common.{◌≡◌, ℕ, ◌+◌, ◌-◌, ◌≤◌, List, ◌++◌, length, take, drop, slice_range, sym, ap, ◌∙◌, arith}
use Rattle.std.proofs.Math.Seq.{drop-append-add}
use Rattle.std.proofs.lemmas.List.{length-append, length-drop, drop-append-le, take-append-le}
use Rattle.lit_base.specs.Folding.{folded_text}
use Rattle.lit_base.specs.Literals.{Literals}
use Rattle.lit_base.specs.Occurrences.{Occurs}

-- the last m of the bytes up to an end in the second text are the same in both
range_after : (a b : List ℕ) (m e : ℕ) → m ≤ e → slice_range (a ++ b) (length a + e - m) (length a + e) ≡ slice_range b (e - m) e
range_after a b m e fits =
    let at : length a + e - m ≡ length a + (e - m) = omega arith in
    let count : length a + e - (length a + (e - m)) ≡ e - (e - m) = omega arith in
    rw (at, count) (ap (take (e - (e - m))) (drop-append-add a b (e - m)))

-- the bytes up to an end in the first text are those of this text alone
range_before : (a b : List ℕ) (i e : ℕ) → i ≤ e → e ≤ length a → slice_range (a ++ b) i e ≡ slice_range a i e
range_before a b i e fits within =
    let start : i ≤ length a = omega arith in
    let room : e - i ≤ length (drop i a) = omega (arith, length-drop i a) in
    rw drop-append-le (take-append-le (e - i) (drop i a) b room)

-- an occurrence in a text is one in a longer text that ends with it
pub occurs_after : (l : Literals) (a b : List ℕ) (place e : ℕ) → Occurs l b place e → Occurs l (a ++ b) place (length a + e)
occurs_after l a b place e o = record {
  literal = o.literal;
  stands = o.stands;
  begins = omega (arith, o.begins);
  ends = omega (arith, o.ends, length-append a b);
  bytes = ap (folded_text l.folding) (range_after a b (length o.literal) e o.begins) ∙ o.bytes;
}

-- and the other way round, where the literal is no longer than the text in which it ends
pub occurs_in_rest : (l : Literals) (a b : List ℕ) (place e : ℕ) (o : Occurs l (a ++ b) place (length a + e)) → length o.literal ≤ e → Occurs l b place e
occurs_in_rest l a b place e o fits = record {
  literal = o.literal;
  stands = o.stands;
  begins = fits;
  ends = omega (arith, o.ends, length-append a b);
  bytes = ap (folded_text l.folding) (sym (range_after a b (length o.literal) e fits)) ∙ o.bytes;
}

-- an occurrence that ends within a prefix is one in the prefix
pub occurs_in_prefix : (l : Literals) (a b : List ℕ) (place e : ℕ) → e ≤ length a → Occurs l (a ++ b) place e → Occurs l a place e
occurs_in_prefix l a b place e within o = record {
  literal = o.literal;
  stands = o.stands;
  begins = o.begins;
  ends = within;
  bytes = ap (folded_text l.folding) (sym (range_before a b (e - length o.literal) e (omega arith) within)) ∙ o.bytes;
}

-- and the other way round
pub occurs_of_prefix : (l : Literals) (a b : List ℕ) (place e : ℕ) → Occurs l a place e → Occurs l (a ++ b) place e
occurs_of_prefix l a b place e o = record {
  literal = o.literal;
  stands = o.stands;
  begins = o.begins;
  ends = omega (arith, o.ends, length-append a b);
  bytes = ap (folded_text l.folding) (range_before a b (e - length o.literal) e (omega arith) o.ends) ∙ o.bytes;
}
