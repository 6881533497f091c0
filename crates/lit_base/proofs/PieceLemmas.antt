-- Pieces: they are the lines, and after them a null piece where the text is empty or ends in a newline.
use Rattle.std.proofs.Common.{◌≡◌, ◌≢◌, ℕ, suc, ◌-◌, ◌<◌, Bool, true, false, cond, eqb, List, [], ◌∷◌, ◌++◌, length, get_or, refl, sym, ap, ◌∙◌, arith}
use Rattle.std.specs.List.{onto_first}
use Rattle.std.proofs.lemmas.List.Splits.{length-slice_split}
use Rattle.lit_base.specs.Lines.{pieces, lines, without_empty_last}

-- whether a text is empty or ends in a newline
abbrev pub is_open : List ℕ → Bool
is_open [] = true
is_open (b ∷ []) = eqb b 10
is_open (b ∷ c ∷ cs) = is_open (c ∷ cs)

-- a null piece, where one is due
abbrev pub null_if : Bool → List (List ℕ)
null_if due = cond due ([] ∷ []) []

-- there is always a piece
pub some_piece : (text : List ℕ) → 0 < length (pieces text)
some_piece text = omega (arith, length-slice_split (λ b. eqb b 10) text)

not_none : (text : List ℕ) → pieces text ≢ []
not_none text e = absurd (omega (arith, some_piece text, ap length e))

-- a text that is not empty has more than one null piece: by whether its first byte is a newline
not_null_by : (c : ℕ) (here : Bool) (ps : List (List ℕ)) → ps ≢ [] → cond here ([] ∷ ps) (onto_first c ps) ≢ [] ∷ []
not_null_by c true ps some e = some (cc)
not_null_by c false [] some e = some refl
not_null_by c false (p ∷ ps) some e = (cc)

not_null : (c : ℕ) (cs : List ℕ) → pieces (c ∷ cs) ≢ [] ∷ []
not_null c cs = not_null_by c (eqb c 10) (pieces cs) (not_none cs)

-- a newline in front puts a null piece in front
after_newline : (ps tail : List (List ℕ)) → ps ≢ [] → ps ≡ without_empty_last ps ++ tail → [] ∷ ps ≡ without_empty_last ([] ∷ ps) ++ tail
after_newline [] tail some e = absurd (some refl)
after_newline (p ∷ ps) tail some e = ap (λ qs. [] ∷ qs) e

-- another byte in front goes onto the first piece
after_byte : (b : ℕ) (ps tail : List (List ℕ)) → ps ≢ [] → ps ≢ [] ∷ [] → ps ≡ without_empty_last ps ++ tail → onto_first b ps ≡ without_empty_last (onto_first b ps) ++ tail
after_byte b [] tail some more e = absurd (some refl)
after_byte b ([] ∷ []) tail some more e = absurd (more refl)
after_byte b ((x ∷ xs) ∷ []) tail some more e = let none : [] ≡ tail = (cc) in ap (λ qs. (b ∷ x ∷ xs) ∷ qs) none
after_byte b ([] ∷ q ∷ qs) tail some more e = let rest : q ∷ qs ≡ without_empty_last (q ∷ qs) ++ tail = (cc) in ap (λ rs. (b ∷ []) ∷ rs) rest
after_byte b ((x ∷ xs) ∷ q ∷ qs) tail some more e = let rest : q ∷ qs ≡ without_empty_last (q ∷ qs) ++ tail = (cc) in ap (λ rs. (b ∷ x ∷ xs) ∷ rs) rest

-- the pieces are the lines, and a null one where the text is open
pieces_split : (text : List ℕ) → pieces text ≡ without_empty_last (pieces text) ++ null_if (is_open text)
pieces_split [] = refl
pieces_split (b ∷ []) = elim (eqb b 10) as (λ t. cond t ([] ∷ [] ∷ []) ((b ∷ []) ∷ []) ≡ without_empty_last (cond t ([] ∷ [] ∷ []) ((b ∷ []) ∷ [])) ++ null_if t) [ true ↦ refl | false ↦ refl ]
pieces_split (b ∷ c ∷ cs) =
    let ps : List (List ℕ) = pieces (c ∷ cs) in
    let tail : List (List ℕ) = null_if (is_open (c ∷ cs)) in
    let e = pieces_split (c ∷ cs) in
    elim (eqb b 10) as (λ t. cond t ([] ∷ ps) (onto_first b ps) ≡ without_empty_last (cond t ([] ∷ ps) (onto_first b ps)) ++ tail) [
      | true ↦ after_newline ps tail (not_none (c ∷ cs)) e
      | false ↦ after_byte b ps tail (not_none (c ∷ cs)) (not_null c cs) e
    ]

pub pieces-lines : (text : List ℕ) → pieces text ≡ lines text ++ null_if (is_open text)
unfolding lines
pieces-lines text = pieces_split text

-- a text that is not empty is open where its last byte is a newline
pub is_open-last : (text : List ℕ) → 0 < length text → is_open text ≡ eqb (get_or text (length text - 1) 0) 10
is_open-last [] some = absurd (omega arith)
is_open-last (b ∷ []) some = refl
is_open-last (b ∷ c ∷ cs) some =
    let at : length (c ∷ cs) - 1 ≡ length cs = omega arith in
    let last : length (b ∷ c ∷ cs) - 1 ≡ suc (length cs) = omega arith in
    is_open-last (c ∷ cs) (omega arith) ∙ ap (λ i. eqb (get_or (c ∷ cs) i 0) 10) at ∙ sym (ap (λ i. eqb (get_or (b ∷ c ∷ cs) i 0) 10) last)
