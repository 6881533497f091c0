-- Numbers with single spaces between them, read word by word.
use Rattle.std.proofs.Common.{◌≡◌, ℕ, ◌<◌, ◌≤◌, eqb, List, [], ◌∷◌, ◌++◌, length, get_or, map, All, Option, Some, None, sym, ap, ◌∙◌, length-append, arith}
use Rattle.std.specs.Iterator.{Yields}
use Rattle.std.specs.List.{join_with_byte, slice_split}
use Rattle.std.specs.Fmt.{decimal}
use Rattle.std.proofs.lemmas.List.{get_or-map, length-map, map_push}
use Rattle.std.proofs.lemmas.List.Elements.{All-push}
use Rattle.std.proofs.lemmas.List.Splits.{length-slice_split, join_with_byte-slice_split}
use Rattle.std.proofs.lemmas.Iterator.{YieldsList}
use Rattle.std.proofs.lemmas.Iterator.Consumers.{YieldsList-turn, YieldsList-end}
use Rattle.lit_cert.specs.Reading.{AreNumbers}
use Rattle.lit_cert.proofs.Lines.{lacks_decimals, split_join}

-- the words between single spaces
abbrev pub words_in : List ℕ → List (List ℕ)
words_in line = slice_split (λ b. eqb b 32) line

-- std's law on a turn of a `for`, with the facts of the loop first
pub yielded_next : {S A B : Type 0} {steps : S → Option A → S → Type 0} {s : S} (xs : List A) (t : S) (y : Yields steps s xs t) (r : Option A) (u : S) (x : A) → r ≡ Some x → steps t r u → (v : A → B) (all : List B) (e : YieldsList steps v s all) → (length xs < length all) × (v x ≡ get_or all (length xs) (v x))
yielded_next xs t y r u x some step v all e = YieldsList-turn e xs t y r u x some step

-- std's law on the end of a `for`, with the facts of the loop first
pub yielded_all : {S A B : Type 0} {steps : S → Option A → S → Type 0} {s : S} (xs : List A) (t : S) (y : Yields steps s xs t) (r : Option A) (u : S) → r ≡ None → steps t r u → (v : A → B) (all : List B) (e : YieldsList steps v s all) → map v xs ≡ all
yielded_all xs t y r u none step v all e = (YieldsList-end e xs t y r u none step).0

-- the words so far are these numbers, below the limit, and at most `most`
pub record ReadsTo (words : List (List ℕ)) (numbers : List ℕ) (most limit : ℕ) : Type 0 where
  pub words_are : words ≡ map decimal numbers
  pub few : length numbers ≤ most
  pub small : All (λ x. x < limit) numbers

-- one word more
pub reads_more : (words : List (List ℕ)) (numbers : List ℕ) (most limit : ℕ) (word : List ℕ) (x : ℕ) → ReadsTo words numbers most limit → word ≡ decimal x → x < limit → length numbers < most → ReadsTo (words ++ word ∷ []) (numbers ++ x ∷ []) most limit
reads_more words numbers most limit word x so_far is small room = record {
  words_are = ap (λ (ws : List (List ℕ)). ws ++ word ∷ []) so_far.words_are ∙ ap (λ (w : List ℕ). map decimal numbers ++ w ∷ []) is ∙ sym (map_push decimal numbers x);
  few = omega (arith, length-append numbers (x ∷ []));
  small = All-push (λ y. y < limit) numbers x so_far.small small;
}

-- as many words as numbers
pub same_count : (words : List (List ℕ)) (numbers : List ℕ) (most limit : ℕ) → ReadsTo words numbers most limit → length words ≡ length numbers
same_count words numbers most limit so_far = ap length so_far.words_are ∙ length-map numbers decimal

-- all words
pub reads_all : (line : List ℕ) (words : List (List ℕ)) (numbers : List ℕ) (most limit : ℕ) → ReadsTo words numbers most limit → words ≡ words_in line → (1 ≤ length numbers) × (line ≡ join_with_byte 32 (map decimal numbers))
reads_all line words numbers most limit so_far all =
    let count = same_count words numbers most limit so_far in
    let some = length-slice_split (λ b. eqb b 32) line in
    (omega (arith, ap length all), sym (join_with_byte-slice_split 32 line) ∙ ap (join_with_byte 32) (sym all ∙ so_far.words_are))

-- numbers that are joined are the words
pub words_of_numbers : (line xs : List ℕ) → 1 ≤ length xs → AreNumbers xs → line ≡ join_with_byte 32 (map decimal xs) → words_in line ≡ map decimal xs
words_of_numbers line [] some small e = absurd (omega arith)
words_of_numbers line (x ∷ xs) some small e = ap words_in e ∙ split_join 32 (decimal x) (map decimal xs) (lacks_decimals 32 (x ∷ xs) (omega arith) small)

-- a word of numbers that are joined is the number at its place
pub word_at : (line xs : List ℕ) (i : ℕ) (word : List ℕ) → 1 ≤ length xs → AreNumbers xs → line ≡ join_with_byte 32 (map decimal xs) → i < length (words_in line) → word ≡ get_or (words_in line) i word → (i < length xs) × (word ≡ decimal (get_or xs i 0))
word_at line xs i word some small e lt is =
    let all = words_of_numbers line xs some small e in
    let within : i < length xs = omega (arith, ap length all, length-map xs decimal) in
    (within, is ∙ ap (λ (ws : List (List ℕ)). get_or ws i word) all ∙ get_or-map decimal xs i 0 word within)
