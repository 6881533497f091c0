-- Where two literals end together the shorter is a suffix of the longer. So the first of several is the shortest suffix
-- of each other.
use Rattle.std.proofs.Common.{◌≡◌, ℕ, Bool, true, false, ◌+◌, ◌-◌, ◌<◌, ◌≤◌, List, [], Some, All, inl, inr, length, drop, get_or, set, slice_range, sym, ap, ◌∙◌, subst, arith}
use native.Mathlib.Numerals.{unary_clauses}
use Rattle.std.specs.List.{slice_get}
use Rattle.std.proofs.lemmas.Bool.{cases_eq, cases_lt, true_from_ne_false}
use Rattle.std.proofs.lemmas.List.{get_or-set_other, get_or-set_same, length-set}
use Rattle.std.proofs.lemmas.Option.{get_or_from_slice_get, slice_get-get_or, slice_get_within}
use Rattle.std.proofs.lemmas.Slice.{between_to_end}
use Rattle.lit_base.specs.Folding.{folded_text}
use Rattle.lit_base.specs.Literals.{IsNormal, Literals, literal_at}
use Rattle.lit_base.specs.Occurrences.{IsFirstEnding, Occurs}
use Rattle.lit_base.proofs.LengthLemmas.{lengths_rise}
use Rattle.lit_base.proofs.NormalForms.{folded_text-folded_text}
use Rattle.list_index.proofs.ChainLemmas.{no_shorter}
use Rattle.list_index.proofs.SuffixLemmas.{bytes_before, literal_is}
use Rattle.list_index.specs.Alone.{SayAlone}

-- what holds of all literals holds of one
pub of_literal : (P : List ℕ → Type 0) (texts : List (List ℕ)) (place : ℕ) (literal : List ℕ) → All P texts → slice_get texts place ≡ Some literal → P literal
of_literal P texts place literal all stands =
    subst P (get_or_from_slice_get texts place literal literal stands) (all place literal (slice_get_within texts place literal stands))

module _ (l : Literals) (text : List ℕ) (long end : ℕ) (p : Occurs l text long end) where
  -- the last bytes of a literal that ends in the text are, folded, the folded bytes before its end
  folded_again : (len : ℕ) → len ≤ length p.literal → folded_text l.folding (slice_range p.literal (length p.literal - len) (length p.literal)) ≡ folded_text l.folding (slice_range text (end - len) end)
  folded_again len fits =
      ap (folded_text l.folding) (simp unary_clauses at (bytes_before l.folding text p.literal end len 0 (omega (arith, fits)) p.begins p.bytes))
      ∙ folded_text-folded_text l.folding (slice_range text (end - len) end)

  -- a shorter literal that ends where it does ends where it does itself, taken as a text
  ends_in_literal : (short : ℕ) (o : Occurs l text short end) → length o.literal ≤ length p.literal → Occurs l p.literal short (length p.literal)
  ends_in_literal short o fits = record {
    literal = o.literal;
    stands = o.stands;
    begins = fits;
    ends = omega arith;
    bytes = folded_again (length o.literal) fits ∙ o.bytes;
  }

  -- and the other way round
  ends_with_literal : (short : ℕ) → Occurs l p.literal short (length p.literal) → Occurs l text short end
  ends_with_literal short o = record {
    literal = o.literal;
    stands = o.stands;
    begins = omega (arith, o.begins, p.begins);
    ends = p.ends;
    bytes = sym (folded_again (length o.literal) o.begins) ∙ o.bytes;
  }

  -- the first of the literals that end together is the first that ends with each later one, taken as a text
  first_in_literal : IsNormal l → (place : ℕ) → place < long → IsFirstEnding l text 0 end place → IsFirstEnding l p.literal 0 (length p.literal) place
  first_in_literal normal place low first =
      let rises = no_shorter l (lengths_rise l normal) place long (omega (arith, low)) (slice_get_within l.texts long p.literal p.stands) in
      record {
        counted = omega arith;
        occurs = ends_in_literal place first.occurs
            (omega (arith, rises, ap (length {A = ℕ}) (literal_is l text place end first.occurs), ap (length {A = ℕ}) (literal_is l text long end p)));
        first = λ sooner _ before there. first.first sooner (omega arith) before (ends_with_literal sooner there);
      }

-- a literal ends with itself
ends_itself : (l : Literals) → IsNormal l → (place : ℕ) → place < length l.texts → Occurs l (literal_at l place) place (length (literal_at l place))
ends_itself l normal place within =
    let literal = literal_at l place in
    let none : length literal - length literal ≡ 0 = omega arith in
    record {
      literal = literal;
      stands = slice_get-get_or l.texts place [] within;
      begins = omega arith;
      ends = omega arith;
      bytes = ap (folded_text l.folding) (between_to_end literal (length literal - length literal) (length literal) (omega arith) ∙ ap (λ n. drop n literal) none)
          ∙ normal.folded place [] within;
    }

-- the literal at a place is the first to end where a later one does, taken as a text
abbrev pub IsShortestSuffix : Literals → ℕ → ℕ → Type 0
IsShortestSuffix l place longer = (place < longer) × IsFirstEnding l (literal_at l longer) 0 (length (literal_at l longer)) place

-- it is that of some literal of the list
pub record IsSuffixOfSome (l : Literals) (place : ℕ) : Type 0 where
  pub longer : ℕ
  pub within : longer < length l.texts
  pub suffix : IsShortestSuffix l place longer

-- the first that ends at a position is one
pub first_is_one : (l : Literals) (text : List ℕ) (end place other : ℕ) → IsFirstEnding l text 0 end place → IsFirstEnding l text 0 end other → place ≡ other
first_is_one l text end place other first second = elim (cases_lt place other) [
  | inl sooner ↦ absurd (second.first place (omega arith) sooner first.occurs)
  | inr not ↦ elim (cases_lt other place) [
    | inl later ↦ absurd (first.first other (omega arith) later second.occurs)
    | inr same ↦ omega (arith, not, same)
  ]
]

-- the shortest suffixes of the literals before a place have lost their flags, and no others
pub record AreCleared (l : Literals) (count : ℕ) (flags : List Bool) : Type 0 where
  pub all : length flags ≡ length l.texts
  pub cleared : (place longer : ℕ) → longer < count → IsShortestSuffix l place longer → get_or flags place false ≡ false
  pub only : (place : ℕ) → place < length l.texts → get_or flags place false ≡ false → IsSuffixOfSome l place

-- a literal that has no shortest suffix clears no flag
pub same_cleared : (l : Literals) (count : ℕ) (flags : List Bool) → ((place : ℕ) → ¬ IsShortestSuffix l place count) → AreCleared l count flags → AreCleared l (count + 1) flags
same_cleared l count flags none old = record {
  all = old.all;
  cleared = λ place longer low is. elim (cases_lt longer count) [
    | inl sooner ↦ old.cleared place longer sooner is
    | inr there ↦ absurd (none place (subst (IsShortestSuffix l place) (omega (arith, low, there)) is))
  ];
  only = old.only;
}

-- and otherwise that of its shortest suffix
pub one_cleared : (l : Literals) (count first : ℕ) (flags : List Bool) → count < length l.texts → IsShortestSuffix l first count → AreCleared l count flags → AreCleared l (count + 1) (set flags first false)
one_cleared l count first flags within is old =
    let room : first < length flags = omega (arith, is.0, within, old.all) in
    record {
      all = length-set flags first false ∙ old.all;
      cleared = λ place longer low suffix. elim (cases_eq place first) [
        | inl same ↦ ap (λ p. get_or (set flags first false) p false) same ∙ get_or-set_same flags first false false room
        | inr other ↦ get_or-set_other flags first place false false other ∙ elim (cases_lt longer count) [
          | inl sooner ↦ old.cleared place longer sooner suffix
          | inr there ↦
              let here : IsShortestSuffix l place count = subst (IsShortestSuffix l place) (omega (arith, low, there)) suffix in
              absurd (other (first_is_one l (literal_at l count) (length (literal_at l count)) place first here.1 is.1))
        ]
      ];
      only = λ place inside flag. elim (cases_eq place first) [
        | inl same ↦ record { longer = count; within = within; suffix = subst (λ p. IsShortestSuffix l p count) (sym same) is }
        | inr other ↦ old.only place inside (sym (get_or-set_other flags first place false false other) ∙ flag)
      ];
    }

-- so in the end the flags say which literals end alone
pub alone_said : (l : Literals) (flags : List Bool) → IsNormal l → AreCleared l (length l.texts) flags → SayAlone l flags
alone_said l flags normal are = record {
  all = are.all;
  said = λ place within. (
    λ flag text end first other low there.
        let suffix = first_in_literal l text other end there normal place (omega (arith, low)) first in
        let inside = slice_get_within l.texts other there.literal there.stands in
        let lost : get_or flags place false ≡ false =
        are.cleared place other inside (omega (arith, low), subst (λ t. IsFirstEnding l t 0 (length t) place) (literal_is l text other end there) suffix) in
        let no : true ≡ false = sym flag ∙ lost in
        (cc),
    λ alone. true_from_ne_false (get_or flags place false)
        (λ lost.
        let some = are.only place within lost in
        alone (literal_at l some.longer) (length (literal_at l some.longer)) some.suffix.1 some.longer (omega (arith, some.suffix.0)) (ends_itself l normal some.longer some.within)),
  );
}
