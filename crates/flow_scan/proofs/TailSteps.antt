-- The last bytes of a text determine the hits that a piece after it adds, piece by piece.
use Rattle.std.proofs.Common.{◌≡◌, ℕ, ◌+◌, ◌-◌, ◌≤◌, List, [], ◌∷◌, ◌++◌, length, take, drop, refl, sym, ap, ◌∙◌, subst, arith}
use Rattle.std.specs.List.{concat}
use Rattle.std.proofs.Math.Seq.{take-append-add}
use Rattle.std.proofs.lemmas.List.Folds.{concat-append}
use Rattle.std.proofs.lemmas.List.{append-nil, append_assoc, length-append, length-take, take-append-drop, take_at, drop_at, drop-append-le, drop-drop}
use Rattle.lit_base.specs.Literals.{Literals}
use Rattle.lit_base.specs.NextEnds.{NoEndAfter}
use Rattle.flow_scan.specs.Tails.{AreAdded, AreSteps, GainsHits, last_bytes}
use Rattle.text_ends.specs.HitsAfter.{AreHitsAfter}
use Rattle.lit_plan.specs.Bounds.{HasBounds, carry_of}
use Rattle.flow_scan.proofs.LastBytes.{last_len, occurs_after_all, occurs_after_last}
use Rattle.text_ends.proofs.Occurring.{occurs_after}
use Rattle.text_ends.proofs.HitLists.{hits_joined, hits_none, none_in_prefix, none_past}

-- the hits that a piece adds after the last bytes of a text are those that it adds after the text
pub added_after_all : (l : Literals) (text piece : List ℕ) (at : ℕ) (found : List (ℕ × ℕ)) → HasBounds l → AreAdded l (last_bytes (carry_of l) text) piece at found → AreAdded l text piece at found
added_after_all l text piece at found b added = record {
  rising = added.rising;
  members = λ place end. (
    λ inside. let w = (added.members place end).0 inside in (w.0, occurs_after_all l (carry_of l) text piece place (end - at) w.1),
    λ w. (added.members place end).1 (w.0, occurs_after_last l text piece place (end - at) b (omega (arith, w.0)) w.1),
  );
}

-- two pieces add the hits of the first, and then the hits of the second after both
pub added_joined : (l : Literals) (text first second : List ℕ) (at : ℕ) (found rest : List (ℕ × ℕ)) → AreAdded l text first at found → AreAdded l (text ++ first) second (at + length first) rest → AreAdded l text (first ++ second) at (found ++ rest)
added_joined l text first second at found rest early late =
    let whole : List ℕ = text ++ first ++ second in
    let m = length (text ++ first) in
    let prefix : take m whole ≡ text ++ first = take_at (text ++ first) second m refl in
    let known : at + length first ≡ at + (m - length text) = omega (arith, length-append text first) in
    let all : AreHitsAfter l whole (length text) at (found ++ rest) =
    hits_joined l whole (length text) m at found rest (omega (arith, length-append text first)) (omega (arith, length-append (text ++ first) second))
    (subst (λ t. AreHitsAfter l t (length text) at found) (sym prefix) early)
    (subst (λ x. AreHitsAfter l whole m x rest) known late) in
    subst (λ t. AreHitsAfter l t (length text) at (found ++ rest)) (append_assoc text first second) all

-- the last bytes of a text and a piece depend on the text's last bytes and the piece alone
pub last_of_last : (most : ℕ) (text piece : List ℕ) → last_bytes most (last_bytes most text ++ piece) ≡ last_bytes most (text ++ piece)
last_of_last most text piece =
    let skip = length text - most in
    let prefix : drop skip (text ++ piece) ≡ last_bytes most text ++ piece = drop-append-le skip text piece (omega arith) in
    let more = length (last_bytes most text ++ piece) - most in
    let count : skip + more ≡ length (text ++ piece) - most =
    omega (arith, length-append text piece, length-append (last_bytes most text) piece, last_len most text) in
    ap (drop more) (sym prefix) ∙ drop-drop more skip (text ++ piece) ∙ ap (λ n. drop n (text ++ piece)) count

-- the last bytes of a text that is no longer are the text
pub last_of_short : (most : ℕ) (text : List ℕ) → length text ≤ most → last_bytes most text ≡ text
last_of_short most text short = let none : length text - most ≡ 0 = omega arith in rw none refl

-- a text after nothing
pub added_nothing : (l : Literals) (text : List ℕ) (at : ℕ) → AreAdded l text [] at []
added_nothing l text at = hits_none l (text ++ []) (length text) at (none_past l (text ++ []) (length text) (omega (arith, length-append text [])))

-- steps from the last bytes of a text on give the hits that the joined pieces add after the text
pub steps_after : (l : Literals) (text : List ℕ) (at : ℕ) (pieces : List (List ℕ)) (hits : List (ℕ × ℕ)) → HasBounds l → AreSteps l (last_bytes (carry_of l) text) at pieces hits → AreAdded l text (concat pieces) at hits
steps_after l text at [] hits b none = subst (AreAdded l text [] at) (sym none) (added_nothing l text at)
steps_after l text at (piece ∷ pieces) hits b s =
    let next : AreSteps l (last_bytes (carry_of l) (text ++ piece)) (at + length piece) pieces s.1 =
    subst (λ t. AreSteps l t (at + length piece) pieces s.1) (last_of_last (carry_of l) text piece) s.4 in
    subst (AreAdded l text (piece ++ concat pieces) at) (sym s.2)
    (added_joined l text piece (concat pieces) at s.0 s.1 (added_after_all l text piece at s.0 b s.3) (steps_after l (text ++ piece) (at + length piece) pieces s.1 b next))

-- steps from no bytes on give the hits of the pieces joined, counted from where the steps begin
pub steps_are_hits : (l : Literals) (base : ℕ) (pieces : List (List ℕ)) (hits : List (ℕ × ℕ)) → HasBounds l → AreSteps l [] base pieces hits → AreHitsAfter l (concat pieces) 0 base hits
steps_are_hits l base pieces hits b s = steps_after l [] base pieces hits b (subst (λ t. AreSteps l t base pieces hits) (sym (last_of_short (carry_of l) [] (omega arith))) s)

-- of a longer piece: the hits that its first bytes add after a tail, and then the hits of the piece alone after them
pub added_in_place : (l : Literals) (tail piece : List ℕ) (at : ℕ) (found rest : List (ℕ × ℕ)) → HasBounds l → carry_of l ≤ length piece → AreAdded l tail (take (carry_of l) piece) at found → AreHitsAfter l piece (carry_of l) (at + carry_of l) rest → AreAdded l tail piece at (found ++ rest)
added_in_place l tail piece at found rest b long early late =
    let carry = carry_of l in
    let prefix = take carry piece in
    let back = drop carry piece in
    let whole : prefix ++ back ≡ piece = take-append-drop carry piece in
    let len : length prefix ≡ carry = omega (arith, length-take carry piece) in
    let skip : length (tail ++ prefix) - carry ≡ length tail = omega (arith, length-append tail prefix, len) in
    let last : last_bytes carry (tail ++ prefix) ≡ prefix = ap (λ n. drop n (tail ++ prefix)) skip ∙ drop_at tail prefix (length tail) refl in
    let here : AreHitsAfter l (prefix ++ back) (length prefix) (at + length prefix) rest =
    subst (λ n. AreHitsAfter l (prefix ++ back) n (at + n) rest) (sym len) (subst (λ t. AreHitsAfter l t carry (at + carry) rest) (sym whole) late) in
    let after : AreAdded l (tail ++ prefix) back (at + length prefix) rest =
    added_after_all l (tail ++ prefix) back (at + length prefix) rest b (subst (λ t. AreAdded l t back (at + length prefix) rest) (sym last) here) in
    subst (λ t. AreAdded l tail t at (found ++ rest)) whole (added_joined l tail prefix back at found rest early after)

-- where nothing ends in a piece, nothing ends in its first bytes
pub quiet_prefix : (l : Literals) (tail piece : List ℕ) (n : ℕ) → NoEndAfter l (tail ++ piece) (length tail) → NoEndAfter l (tail ++ take n piece) (length tail)
quiet_prefix l tail piece n none =
    subst (λ t. NoEndAfter l t (length tail)) (take-append-add tail piece n)
    (none_in_prefix l (tail ++ piece) (length tail) (length tail) (length tail + n) (omega arith) none)

-- nor in the piece alone
pub quiet_rest : (l : Literals) (tail piece : List ℕ) (n : ℕ) → NoEndAfter l (tail ++ piece) (length tail) → NoEndAfter l piece n
quiet_rest l tail piece n none end later here =
    none (length tail + end) (omega (arith, later)) (here.0, occurs_after l tail piece here.0 end here.1)

-- the hits of a text, and those that a piece adds after its last bytes, are the hits of both
pub hits_fed : (l : Literals) (text piece : List ℕ) (place : ℕ) (old new : List (ℕ × ℕ)) → HasBounds l → place ≡ length text → AreHitsAfter l text 0 0 old → GainsHits l (last_bytes (carry_of l) text) piece place old new → AreHitsAfter l (text ++ piece) 0 0 new
hits_fed l text piece place old new b reached before gains =
    let whole : List ℕ = text ++ piece in
    let more : AreAdded l text piece place gains.found = added_after_all l text piece place gains.found b gains.added in
    let known : place ≡ 0 + (length text - 0) = omega (arith, reached) in
    subst (AreHitsAfter l whole 0 0) (sym gains.grown)
    (hits_joined l whole 0 (length text) 0 old gains.found (omega arith) (omega (arith, length-append text piece))
    (subst (λ t. AreHitsAfter l t 0 0 old) (sym (take_at text piece (length text) refl)) before)
    (subst (λ x. AreHitsAfter l whole (length text) x gains.found) known more))

-- one more piece, joined
pub concat_push : (pieces : List (List ℕ)) (piece : List ℕ) → concat (pieces ++ piece ∷ []) ≡ concat pieces ++ piece
concat_push pieces piece = concat-append pieces (piece ∷ []) ∙ ap (λ t. concat pieces ++ t) (append-nil piece)
