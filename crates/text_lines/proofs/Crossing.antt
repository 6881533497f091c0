-- Slices of a text of lines: one without a newline crosses none.
use Rattle.std.proofs.Common.{◌≡◌, ◌≢◌, ℕ, ◌+◌, ◌<◌, ◌≤◌, Bool, true, false, cond, eqb, List, [], ◌∷◌, ◌++◌, length, All, ◌⊎◌, inl, inr, refl, sym, ap, subst, arith}
use Rattle.std.specs.List.{onto_first}
use Rattle.std.specs.Str.Iter.{HasSubslice}
use Rattle.std.proofs.lemmas.Bool.{eqb-true}
use Rattle.std.proofs.lemmas.List.Elements.{All-nil, All-cons, All-head, All-tail, All-weaker}
use Rattle.lit_base.specs.Lines.{IsOnePiece, ended_lines, last_piece, open_rest, pieces}
use Rattle.lit_base.proofs.EndedLemmas.{All-without_last}
use Rattle.lit_base.proofs.PieceLemmas.{some_piece}

-- a slice without a newline stands before a newline or after it
pub crossing : (u v a t b : List ℕ) → IsOnePiece t → u ++ 10 ∷ v ≡ a ++ (t ++ b) → (length a + length t ≤ length u) ⊎ (length u < length a)
crossing [] v [] [] b one e = inl (omega arith)
crossing [] v [] (c ∷ t) b one e = let newline : c ≡ 10 = (cc) in absurd (All-head (λ x. x ≢ 10) c t one newline)
crossing [] v (x ∷ a) t b one e = inr (omega arith)
crossing (y ∷ u) v [] [] b one e = inl (omega arith)
crossing (y ∷ u) v [] (c ∷ t) b one e =
    let rest : u ++ 10 ∷ v ≡ [] ++ (t ++ b) = (cc) in
    elim (crossing u v [] t b (All-tail (λ x. x ≢ 10) c t one) rest) [ inl before ↦ inl (omega (arith, before)) | inr after ↦ absurd (omega (arith, after)) ]
crossing (y ∷ u) v (x ∷ a) t b one e =
    let rest : u ++ 10 ∷ v ≡ a ++ (t ++ b) = (cc) in
    elim (crossing u v a t b one rest) [ inl before ↦ inl (omega (arith, before)) | inr after ↦ inr (omega (arith, after)) ]

-- a text of ended lines is empty or ends in a newline: a byte in front
closed_byte : (b : ℕ) (bs : List ℕ) (ps : List (List ℕ)) → pieces bs ≡ ps → last_piece (onto_first b ps) ≡ [] → last_piece ps ≡ []
closed_byte b bs [] e closed = (cc)
closed_byte b bs (p ∷ []) e closed = absurd (cc)
closed_byte b bs (p ∷ q ∷ more) e closed = closed

closed_after : (b : ℕ) (bs : List ℕ) (here : Bool) → eqb b 10 ≡ here → 0 < length bs → last_piece (cond here ([] ∷ pieces bs) (onto_first b (pieces bs))) ≡ [] → last_piece (pieces bs) ≡ []
closed_after b bs true e some closed = by (pieces bs) (some_piece bs) closed
  where
    by : (ps : List (List ℕ)) → 0 < length ps → last_piece ([] ∷ ps) ≡ [] → last_piece ps ≡ []
    by [] none h = absurd (omega arith)
    by (p ∷ ps) none h = h
closed_after b bs false e some closed = closed_byte b bs (pieces bs) refl closed

closed_one : (b : ℕ) (here : Bool) → eqb b 10 ≡ here → last_piece (cond here ([] ∷ [] ∷ []) ((b ∷ []) ∷ [])) ≡ [] → b ≡ 10
closed_one b true e closed = eqb-true b 10 e
closed_one b false e closed = absurd (cc)

pub ends_in_newline : (text : List ℕ) → open_rest text ≡ [] → (text ≡ []) ⊎ ((prefix : List ℕ) × (text ≡ prefix ++ 10 ∷ []))
unfolding open_rest
ends_in_newline [] closed = inl refl
ends_in_newline (b ∷ []) closed = inr ([], ap (λ x. x ∷ []) (closed_one b (eqb b 10) refl closed))
ends_in_newline (b ∷ c ∷ cs) closed =
    elim (ends_in_newline (c ∷ cs) (closed_after b (c ∷ cs) (eqb b 10) refl (omega arith) closed)) [
      | inl none ↦ absurd (cc)
      | inr w ↦ inr (b ∷ w.0, ap (λ l. b ∷ l) w.1)
    ]

-- a slice of a text is one of a longer text
further : (b : ℕ) (bs x : List ℕ) → HasSubslice bs x → HasSubslice (b ∷ bs) x
further b bs x w = (b ∷ w.0, w.1, ap (λ l. b ∷ l) w.2)

-- the first piece stands in front, and each piece is a slice
record Sliced (text : List ℕ) (ps : List (List ℕ)) : Type 0 where
  first : List ℕ
  others : List (List ℕ)
  rest : List ℕ
  parts : ps ≡ first ∷ others
  prefix : text ≡ first ++ rest
  each : All (HasSubslice text) others

sliced_more : (b : ℕ) (bs : List ℕ) (ps : List (List ℕ)) (here : Bool) → Sliced bs ps → Sliced (b ∷ bs) (cond here ([] ∷ ps) (onto_first b ps))
sliced_more b bs ps true s = record {
  first = [];
  others = ps;
  rest = b ∷ bs;
  parts = refl;
  prefix = refl;
  each = subst (All (HasSubslice (b ∷ bs))) (sym s.parts) (All-cons (HasSubslice (b ∷ bs)) s.first s.others (b ∷ [], s.rest, ap (λ l. b ∷ l) s.prefix)
      (All-weaker (HasSubslice bs) (HasSubslice (b ∷ bs)) (further b bs) s.others s.each));
}
sliced_more b bs ps false s = record {
  first = b ∷ s.first;
  others = s.others;
  rest = s.rest;
  parts = ap (onto_first b) s.parts;
  prefix = ap (λ l. b ∷ l) s.prefix;
  each = All-weaker (HasSubslice bs) (HasSubslice (b ∷ bs)) (further b bs) s.others s.each;
}

pieces-sliced : (text : List ℕ) → Sliced text (pieces text)
pieces-sliced [] = record { first = []; others = []; rest = []; parts = refl; prefix = refl; each = All-nil (HasSubslice []) }
pieces-sliced (b ∷ bs) = sliced_more b bs (pieces bs) (eqb b 10) (pieces-sliced bs)

-- each ended line is a slice of the text
pub ended_lines-slices : (text : List ℕ) → All (HasSubslice text) (ended_lines text)
unfolding ended_lines
ended_lines-slices text =
    let s = pieces-sliced text in
    All-without_last (HasSubslice text) (pieces text) (subst (All (HasSubslice text)) (sym s.parts) (All-cons (HasSubslice text) s.first s.others ([], s.rest, s.prefix) s.each))
