-- Texts cut at a byte: a line at a newline, and its words at spaces.
use Rattle.std.proofs.Common.{◌≡◌, ◌≢◌, ℕ, ◌^◌, ◌<◌, ◌≤◌, true, false, not, eqb, List, [], ◌∷◌, ◌++◌, length, take, drop, map, All, refl, sym, ap, subst, ◌∙◌, append_assoc, length-append, codes, arith}
use Rattle.std.specs.List.{join_with_byte, slice_split, list_all}
use Rattle.std.specs.Fmt.{decimal}
use Rattle.std.proofs.lemmas.Bool.{eq-eqb, ne_eqb, eqb-false, and_parts, not-true, both_ways}
use Rattle.std.proofs.lemmas.Slice.Eq.{bytes_eq-Decides}
use Rattle.std.specs.Cmp.Lexicographic.{pointwise}
use Rattle.std.proofs.lemmas.List.{get_or_at, take-append-drop}
use Rattle.std.proofs.lemmas.List.Elements.{All-nil, All-cons, All-head, All-tail, All-append, All-map, All-weaker, All-from_get_or}
use Rattle.std.proofs.lemmas.List.Splits.{slice_split_none, slice_split_at}
use Rattle.lit_cert.specs.Spelling.{line_text, ends_words}
use Rattle.lit_cert.specs.Reading.{AreNumbers}
use Rattle.lit_cert.proofs.Numbers.{decimal_digits}

-- the byte is not in the text
abbrev pub Lacks : ℕ → List ℕ → Type 0
Lacks c text = All (λ b. b ≢ c) text

-- a text that has the byte does not lack it
pub lacks_not : (c : ℕ) (text a y : List ℕ) → Lacks c text → text ≡ a ++ c ∷ y → ⊥
lacks_not c text a y lacks e =
    let here : Lacks c (a ++ c ∷ y) = subst (Lacks c) e lacks in
    here (length a) 0 (omega (arith, length-append a (c ∷ y))) (get_or_at a c y 0 (length a) refl)

-- a text is cut at its first such byte in one way
pub same_cut : (c : ℕ) (a x b y : List ℕ) → Lacks c a → Lacks c b → a ++ c ∷ x ≡ b ++ c ∷ y → (a ≡ b) × (x ≡ y)
same_cut c [] x [] y la lb e = (refl, cc)
same_cut c [] x (d ∷ b) y la lb e = absurd (All-head (λ b. b ≢ c) d b lb cc)
same_cut c (d ∷ a) x [] y la lb e = absurd (All-head (λ b. b ≢ c) d a la cc)
same_cut c (d ∷ a) x (f ∷ b) y la lb e =
    let heads : d ≡ f = cc in
    let tails : a ++ c ∷ x ≡ b ++ c ∷ y = cc in
    let rest = same_cut c a x b y (All-tail (λ b. b ≢ c) d a la) (All-tail (λ b. b ≢ c) f b lb) tails in
    let one = rest.0 in
    (cc, rest.1)

-- words without the byte, joined by another one
pub lacks_join : (c s : ℕ) (ws : List (List ℕ)) → s ≢ c → All (Lacks c) ws → Lacks c (join_with_byte s ws)
lacks_join c s [] ne h = All-nil (λ b. b ≢ c)
lacks_join c s (w ∷ []) ne h = All-head (Lacks c) w [] h
lacks_join c s (w ∷ v ∷ ws) ne h =
    All-append (λ b. b ≢ c) w (s ∷ join_with_byte s (v ∷ ws)) (All-head (Lacks c) w (v ∷ ws) h)
    (All-cons (λ b. b ≢ c) s (join_with_byte s (v ∷ ws)) ne (lacks_join c s (v ∷ ws) ne (All-tail (Lacks c) w (v ∷ ws) h)))

-- a number has digits alone
pub lacks_decimal : (c n : ℕ) → c < 48 → n < 2 ^ 64 → Lacks c (decimal n)
lacks_decimal c n low small = All-from_get_or (λ b. b ≢ c) (decimal n) 0 (λ i lt e. let digit = decimal_digits n small i lt in omega arith)

-- numbers have digits alone
pub lacks_decimals : (c : ℕ) (xs : List ℕ) → c < 48 → AreNumbers xs → All (Lacks c) (map decimal xs)
lacks_decimals c xs low h = All-map (Lacks c) decimal xs (All-weaker (λ x. x < 2 ^ 64) (λ x. Lacks c (decimal x)) (λ x small. lacks_decimal c x low small) xs h)

-- words that are joined are cut again
pub split_join : (s : ℕ) (w : List ℕ) (ws : List (List ℕ)) → All (Lacks s) (w ∷ ws) → slice_split (λ b. eqb b s) (join_with_byte s (w ∷ ws)) ≡ w ∷ ws
split_join s w [] h = slice_split_none (λ b. eqb b s) w (All-weaker (λ b. b ≢ s) (λ b. eqb b s ≡ false) (λ b ne. ne_eqb b s ne) w (All-head (Lacks s) w [] h))
split_join s w (v ∷ ws) h =
    slice_split_at (λ b. eqb b s) w s (join_with_byte s (v ∷ ws)) (All-weaker (λ b. b ≢ s) (λ b. eqb b s ≡ false) (λ b ne. ne_eqb b s ne) w (All-head (Lacks s) w (v ∷ ws) h)) (eq-eqb s s refl)
    ∙ ap (λ (t : List (List ℕ)). w ∷ t) (split_join s v ws (All-tail (Lacks s) w (v ∷ ws) h))

-- ---- the first line of a text

-- a text without a newline has no line
pub no_line_alone : (text : List ℕ) (ws : List (List ℕ)) (rest : List ℕ) → Lacks 10 text → text ≢ line_text ws ++ rest
no_line_alone text ws rest lacks e = lacks_not 10 text (join_with_byte 32 ws) rest lacks (e ∙ append_assoc (join_with_byte 32 ws) (10 ∷ []) rest)

-- the first line is the words, if a line of words stands in front
pub line_is : (text line rest : List ℕ) (ws : List (List ℕ)) (after : List ℕ) → text ≡ line ++ 10 ∷ rest → Lacks 10 line → All (Lacks 10) ws → text ≡ line_text ws ++ after → (line ≡ join_with_byte 32 ws) × (rest ≡ after)
line_is text line rest ws after is lacks plain e =
    same_cut 10 line rest (join_with_byte 32 ws) after lacks (lacks_join 10 32 ws (λ k. absurd (omega arith)) plain) (sym is ∙ e ∙ append_assoc (join_with_byte 32 ws) (10 ∷ []) after)

-- a line of words stands in front, if the first line is the words
pub is_line : (text line rest : List ℕ) (ws : List (List ℕ)) → text ≡ line ++ 10 ∷ rest → line ≡ join_with_byte 32 ws → text ≡ line_text ws ++ rest
is_line text line rest ws is e = is ∙ ap (λ (t : List ℕ). t ++ 10 ∷ rest) e ∙ sym (append_assoc (join_with_byte 32 ws) (10 ∷ []) rest)

-- a word lacks a byte where a test that computes says so
pub lacks_by_test : (c : ℕ) (w : List ℕ) → list_all (λ b. not (eqb b c)) w ≡ true → Lacks c w
lacks_by_test c [] e = All-nil (λ b. b ≢ c)
lacks_by_test c (b ∷ w) e =
    let parts = and_parts (not (eqb b c)) (list_all (λ d. not (eqb d c)) w) e in
    All-cons (λ b. b ≢ c) b w (eqb-false b c (not-true (eqb b c) parts.0)) (lacks_by_test c w parts.1)

-- a word and a number are without newlines
pub plain_number : (w : List ℕ) (n : ℕ) → Lacks 10 w → n < 2 ^ 64 → All (Lacks 10) (w ∷ decimal n ∷ [])
plain_number w n lacks small = All-cons (Lacks 10) w (decimal n ∷ []) lacks (All-cons (Lacks 10) (decimal n) [] (lacks_decimal 10 n (omega arith) small) (All-nil (Lacks 10)))

-- the rest of the line after a prefix of it
pub after_prefix : (k : ℕ) (line prefix word : List ℕ) → pointwise eqb (take k line) prefix ≡ true → word ≡ drop k line → line ≡ prefix ++ word
after_prefix k line prefix word same e =
    let prefix_is : take k line ≡ prefix = (bytes_eq-Decides (take k line) prefix).0 same in
    sym (take-append-drop k line) ∙ ap (λ (t : List ℕ). t ++ drop k line) prefix_is ∙ ap (λ (t : List ℕ). prefix ++ t) (sym e)

-- lists that compare as different are different
pub not_same : (xs ys : List ℕ) → false ≡ pointwise eqb xs ys → xs ≢ ys
not_same xs ys e same = both_ways (pointwise eqb xs ys) (sym e) ((bytes_eq-Decides xs ys).1 same)

-- ends are without newlines
pub plain_ends : (ends : List ℕ) → All (λ e. e < 2 ^ 16) ends → All (Lacks 10) (ends_words ends)
plain_ends ends small = All-cons (Lacks 10) (codes "ends") (map decimal ends) (lacks_by_test 10 (codes "ends") refl) (lacks_decimals 10 ends (omega arith) (All-weaker (λ e. e < 2 ^ 16) (λ x. x < 2 ^ 64) (λ e lt. omega arith) ends small))

-- ends after their word, where there are some
pub ends_join : (ends : List ℕ) → 1 ≤ length ends → join_with_byte 32 (ends_words ends) ≡ codes "ends " ++ join_with_byte 32 (map decimal ends)
ends_join [] some = absurd (omega arith)
ends_join (e ∷ ends) some = refl
