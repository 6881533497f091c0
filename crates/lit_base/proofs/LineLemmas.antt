-- Lines: the first one is what stands before the first newline.
use Rattle.std.proofs.Common.{◌≡◌, ◌≢◌, ℕ, ◌+◌, ◌<◌, ◌≤◌, Bool, true, false, not, cond, eqb, get_or, List, [], ◌∷◌, ◌++◌, length, take, drop, All, Some, None, inl, inr, refl, sym, ap, subst, ◌∙◌, arith}
use Rattle.std.specs.List.{slice_split, before_first, after_first, position_or_len, position, onto_first, join_with_byte}
use Rattle.std.proofs.lemmas.Bool.{cases_lt, lt-ltb, le-ltb, ne_eqb, eqb-false, not-true}
use Rattle.std.proofs.lemmas.List.Sums.{prefix_len_passes}
use Rattle.std.proofs.lemmas.List.Splits.{slice_split_at, slice_split_first, slice_split_none, length-slice_split}
use Rattle.std.proofs.lemmas.List.Elements.{All-nil, All-cons, All-head, All-tail}
use Rattle.lit_base.specs.Lines.{IsOnePiece, lines, pieces, without_empty_last}

-- a piece that others follow stays
without_empty_last-cons : (p : List ℕ) (ps : List (List ℕ)) → 0 < length ps → without_empty_last (p ∷ ps) ≡ p ∷ without_empty_last ps
without_empty_last-cons p [] h = absurd (omega arith)
without_empty_last-cons [] (q ∷ more) h = refl
without_empty_last-cons (b ∷ bs) (q ∷ more) h = refl

-- a lone piece that is not empty stays
one : (p : List ℕ) → 0 < length p → without_empty_last (p ∷ []) ≡ p ∷ []
one [] h = absurd (omega arith)
one (b ∷ bs) h = refl

-- a list that is not empty has elements
length-positive : (xs : List ℕ) → xs ≢ [] → 0 < length xs
length-positive [] h = absurd (h refl)
length-positive (x ∷ xs) h = omega arith

-- an empty text has no line
pub lines-nil : lines [] ≡ []
unfolding lines
lines-nil = refl

-- after a newline that is there, the other lines follow
lines-cut : (text : List ℕ) → position_or_len (λ b. eqb b 10) text < length text → lines text ≡ before_first (λ b. eqb b 10) text ∷ lines (after_first (λ b. eqb b 10) text)
unfolding lines
lines-cut text h =
    ap without_empty_last (slice_split_first (λ b. eqb b 10) text 0 h)
    ∙ without_empty_last-cons (before_first (λ b. eqb b 10) text) (slice_split (λ b. eqb b 10) (after_first (λ b. eqb b 10) text))
    (omega (arith, length-slice_split (λ b. eqb b 10) (after_first (λ b. eqb b 10) text)))

-- a text without a newline is one line
lines-whole : (text : List ℕ) → 0 < length text → length text ≤ position_or_len (λ b. eqb b 10) text → lines text ≡ text ∷ []
unfolding lines
lines-whole text some h =
    let none : All (λ b. eqb b 10 ≡ false) text =
    λ k d inside. not-true _ (prefix_len_passes (λ b. not (eqb b 10)) text k d (omega arith)) in
    ap without_empty_last (slice_split_none (λ b. eqb b 10) text none) ∙ one text some

-- a newline that is there stands inside, at the first place that passes
first_place : (text : List ℕ) (at : ℕ) → Some at ≡ position (λ b. eqb b 10) text → (at ≡ position_or_len (λ b. eqb b 10) text) × (at < length text)
first_place text at e = elim (cases_lt (position_or_len (λ b. eqb b 10) text) (length text)) [
  | inl inside ↦ let here : position (λ b. eqb b 10) text ≡ Some (position_or_len (λ b. eqb b 10) text) = rw (lt-ltb _ _ inside) refl in
      let same : at ≡ position_or_len (λ b. eqb b 10) text = (cc) in (same, omega (arith, inside))
  | inr past ↦ let none : position (λ b. eqb b 10) text ≡ None = rw (le-ltb _ _ past) refl in (cc)
]

-- where there is none, no place passes
no_place : (text : List ℕ) → None ≡ position (λ b. eqb b 10) text → length text ≤ position_or_len (λ b. eqb b 10) text
no_place text e = elim (cases_lt (position_or_len (λ b. eqb b 10) text) (length text)) [
  | inl inside ↦ let here : position (λ b. eqb b 10) text ≡ Some (position_or_len (λ b. eqb b 10) text) = rw (lt-ltb _ _ inside) refl in (cc)
  | inr past ↦ past
]

-- a text's first line stands before its first newline, and the other lines after that
pub lines-at : (text : List ℕ) (at : ℕ) → Some at ≡ position (λ b. eqb b 10) text → lines text ≡ take at text ∷ lines (drop (at + 1) text)
lines-at text at e =
    let p = first_place text at e in
    let whole : position_or_len (λ b. eqb b 10) text < length text = omega (arith, p.0, p.1) in
    subst (λ k. lines text ≡ take k text ∷ lines (drop (k + 1) text)) (sym p.0) (lines-cut text whole)

-- a nonempty text without a newline is its one line
pub lines-none : (text rest : List ℕ) → text ≢ [] → None ≡ position (λ b. eqb b 10) text → rest ≡ [] → lines text ≡ text ∷ lines rest
lines-none text rest some e empty =
    lines-whole text (length-positive text some) (no_place text e) ∙ ap (λ ls. text ∷ ls) (sym lines-nil ∙ ap lines (sym empty))

-- a text without a newline has no byte that passes
pub none_passes : (piece : List ℕ) → IsOnePiece piece → All (λ b. eqb b 10 ≡ false) piece
none_passes piece one k d inside = ne_eqb (get_or piece k d) 10 (one k d inside)

-- a newline ends a line
pub lines-ended : (line rest : List ℕ) → IsOnePiece line → lines (line ++ 10 ∷ rest) ≡ line ∷ lines rest
unfolding lines
lines-ended line rest one =
    ap without_empty_last (slice_split_at (λ b. eqb b 10) line 10 rest (none_passes line one) refl)
    ∙ without_empty_last-cons line (slice_split (λ b. eqb b 10) rest) (omega (arith, length-slice_split (λ b. eqb b 10) rest))

-- a last line has none
pub lines-last : (line : List ℕ) → line ≢ [] → IsOnePiece line → lines line ≡ line ∷ []
unfolding lines
lines-last line some one_piece =
    ap without_empty_last (slice_split_none (λ b. eqb b 10) line (none_passes line one_piece)) ∙ one line (length-positive line some)

-- pieces without a newline, joined by newlines, are the pieces of the joined text
pub pieces-joined : (parts : List (List ℕ)) → parts ≢ [] → All IsOnePiece parts → pieces (join_with_byte 10 parts) ≡ parts
pieces-joined [] some apart = absurd (some refl)
pieces-joined (p ∷ []) some apart = slice_split_none (λ b. eqb b 10) p (none_passes p (All-head IsOnePiece p [] apart))
pieces-joined (p ∷ q ∷ more) some apart =
    slice_split_at (λ b. eqb b 10) p 10 (join_with_byte 10 (q ∷ more)) (none_passes p (All-head IsOnePiece p (q ∷ more) apart)) refl
    ∙ ap (λ ps. p ∷ ps) (pieces-joined (q ∷ more) (λ e. absurd (cc)) (All-tail IsOnePiece p (q ∷ more) apart))

-- a byte that is no newline, in front of the first piece
onto_apart : (b : ℕ) (ps : List (List ℕ)) → b ≢ 10 → All IsOnePiece ps → All IsOnePiece (onto_first b ps)
onto_apart b [] other all = All-cons IsOnePiece (b ∷ []) [] (All-cons (λ c. c ≢ 10) b [] other (All-nil (λ c. c ≢ 10))) (All-nil IsOnePiece)
onto_apart b (p ∷ ps) other all =
    All-cons IsOnePiece (b ∷ p) ps (All-cons (λ c. c ≢ 10) b p other (All-head IsOnePiece p ps all)) (All-tail IsOnePiece p ps all)

-- no piece holds a newline
pub pieces-apart : (text : List ℕ) → All IsOnePiece (pieces text)
pieces-apart [] = All-cons IsOnePiece [] [] (All-nil (λ c. c ≢ 10)) (All-nil IsOnePiece)
pieces-apart (b ∷ bs) = by (pieces-apart bs) (eqb b 10) refl
  where
    by : All IsOnePiece (pieces bs) → (here : Bool) → eqb b 10 ≡ here → All IsOnePiece (cond here ([] ∷ pieces bs) (onto_first b (pieces bs)))
    by rest true e = All-cons IsOnePiece [] (pieces bs) (All-nil (λ c. c ≢ 10)) rest
    by rest false e = onto_apart b (pieces bs) (eqb-false b 10 e) rest
