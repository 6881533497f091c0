-- Literals one after the other: a text is one list of them, or is known to be none.
use Rattle.std.proofs.Common.{◌≡◌, ◌≢◌, ℕ, ◌+◌, ◌^◌, ◌<◌, ◌≤◌, List, [], ◌∷◌, ◌++◌, length, drop, All, refl, sym, ap, subst, ◌∙◌, append_assoc, arith}
use Rattle.std.specs.List.{flat_map}
use Rattle.std.proofs.lemmas.List.{append-nil, length-append, drop_at}
use Rattle.std.proofs.lemmas.List.Elements.{All-head, All-push, All-tail}
use Rattle.lit_base.specs.Flags.{flags_of}
use Rattle.lit_base.specs.declared.fold.Fold.{Fold}
use Rattle.lit_base.specs.declared.profile.Profile.{Profile}
use Rattle.scan_wire.specs.declared.fault.Cause.TheVariants.{Payload}
use Rattle.scan_wire.specs.declared.fault.Fault.{Fault}
use Rattle.scan_wire.specs.declared.fault.Fault.TheVariants.{OutOfMemory, BadFrame}
use Rattle.scan_wire.specs.Causes.{IfBadFrame}
use Rattle.scan_wire.specs.Frames.{literal_text}
use Rattle.scan_wire.specs.Numbers.{u16_text}
use Rattle.scan_wire.specs.Reading.{NoList, NoLiteral, NoLiterals}
use Rattle.scan_wire.proofs.NumberLemmas.{length-u16_text, u16_same}

-- a literal's length fits two bytes
abbrev pub IsShort : List ℕ → Type 0
IsShort literal = length literal < 2 ^ 16

-- fewer than two bytes are no literal
pub none_short : (bytes : List ℕ) → length bytes < 2 → NoLiteral bytes
none_short bytes short literal rest lt e =
    omega (arith, ap length e, length-append (u16_text (length literal) ++ literal) rest, length-append (u16_text (length literal)) literal, length-u16_text (length literal))

-- fewer bytes than the length says are no literal
pub none_cut : (bytes : List ℕ) (n : ℕ) (cut : List ℕ) → n < 2 ^ 16 → bytes ≡ u16_text n ++ cut → length cut < n → NoLiteral bytes
none_cut bytes n cut ln is few literal rest lt e =
    let same = u16_same n (length literal) cut (literal ++ rest) ln lt (sym is ∙ e ∙ append_assoc (u16_text (length literal)) literal rest) in
    omega (arith, same.number, ap length same.rest, length-append literal rest)

-- two texts that begin with a literal and are one have one rest
rest_same : (x y s t : List ℕ) → IsShort x → IsShort y → (literal_text x ++ s) ≡ literal_text y ++ t → s ≡ t
rest_same x y s t sx sy e =
    let same = u16_same (length x) (length y) (x ++ s) (y ++ t) sx sy (sym (append_assoc (u16_text (length x)) x s) ∙ e ∙ append_assoc (u16_text (length y)) y t) in
    sym (drop_at x s (length y) same.number) ∙ ap (λ (w : List ℕ). drop (length y) w) same.rest ∙ drop_at y t (length y) refl

-- what stands after the first literals of a text that is a list of literals
pub record After (xs ys : List (List ℕ)) (rest : List ℕ) : Type 0 where
  pub others : List (List ℕ)
  pub count : length others + length xs ≡ length ys
  pub short : All IsShort others
  pub rest_is : rest ≡ flat_map literal_text others

pub after : (xs ys : List (List ℕ)) (rest : List ℕ) → All IsShort xs → All IsShort ys → length xs ≤ length ys → flat_map literal_text xs ++ rest ≡ flat_map literal_text ys → After xs ys rest
after [] ys rest sx sy le e = record { others = ys; count = omega arith; short = sy; rest_is = e }
after (x ∷ xs) [] rest sx sy le e = absurd (omega arith)
after (x ∷ xs) (y ∷ ys) rest sx sy le e =
    let next = rest_same x y (flat_map literal_text xs ++ rest) (flat_map literal_text ys) (All-head IsShort x xs sx) (All-head IsShort y ys sy) (sym (append_assoc (literal_text x) (flat_map literal_text xs) rest) ∙ e) in
    let b = after xs ys rest (All-tail IsShort x xs sx) (All-tail IsShort y ys sy) (omega arith) next in
    record { others = b.others; count = omega (arith, b.count); short = b.short; rest_is = b.rest_is }

-- where the next literal is missing, there is no such list
pub no_next : (count : ℕ) (bytes : List ℕ) (xs : List (List ℕ)) (rest : List ℕ) → All IsShort xs → length xs < count → bytes ≡ flat_map literal_text xs ++ rest → NoLiteral rest → NoLiterals count bytes
no_next count bytes xs rest sx lt e none ys are =
    let b = after xs ys rest sx are.are_literals.lengths (omega (arith, are.count_is)) (sym e ∙ are.text_is) in
    no_next_of b.others rest (omega (arith, b.count, are.count_is)) b.short b.rest_is none
  where
    no_next_of : (zs : List (List ℕ)) (text : List ℕ) → 0 < length zs → All IsShort zs → text ≡ flat_map literal_text zs → NoLiteral text → ⊥
    no_next_of [] text some short is none = absurd (omega arith)
    no_next_of (z ∷ zs) text some short is none = none z (flat_map literal_text zs) (All-head IsShort z zs short) is

-- where bytes follow the last literal, there is no such list
pub no_more : (count : ℕ) (bytes : List ℕ) (xs : List (List ℕ)) (rest : List ℕ) → All IsShort xs → length xs ≡ count → bytes ≡ flat_map literal_text xs ++ rest → rest ≢ [] → NoLiterals count bytes
no_more count bytes xs rest sx len e some ys are =
    let b = after xs ys rest sx are.are_literals.lengths (omega (arith, are.count_is)) (sym e ∙ are.text_is) in
    some (b.rest_is ∙ none_of b.others (omega (arith, b.count, are.count_is)))
  where
    none_of : (zs : List (List ℕ)) → length zs ≡ 0 → flat_map literal_text zs ≡ []
    none_of [] h = refl
    none_of (z ∷ zs) h = absurd (omega arith)

-- one more literal
pub one_more : (bytes : List ℕ) (xs : List (List ℕ)) (x rest later : List ℕ) → bytes ≡ flat_map literal_text xs ++ rest → rest ≡ literal_text x ++ later → bytes ≡ flat_map literal_text (xs ++ x ∷ []) ++ later
one_more bytes xs x rest later e n =
    e ∙ ap (λ (w : List ℕ). flat_map literal_text xs ++ w) n ∙ sym (append_assoc (flat_map literal_text xs) (literal_text x) later) ∙ ap (λ (w : List ℕ). w ++ later) (sym (pushed xs))
  where
    pushed : (zs : List (List ℕ)) → flat_map literal_text (zs ++ x ∷ []) ≡ flat_map literal_text zs ++ literal_text x
    pushed [] = append-nil (literal_text x)
    pushed (z ∷ zs) = ap (λ (w : List ℕ). literal_text z ++ w) (pushed zs) ∙ sym (append_assoc (literal_text z) (flat_map literal_text zs) (literal_text x))

-- the `count` literals that were read, and the bytes after them
pub record SoFar (count : ℕ) (bytes : List ℕ) (xs : List (List ℕ)) (rest : List ℕ) : Type 0 where
  pub count_is : length xs ≡ count
  pub short : All IsShort xs
  pub text_is : bytes ≡ flat_map literal_text xs ++ rest

-- one more is read
pub so_far_more : (count : ℕ) (bytes : List ℕ) (xs ys : List (List ℕ)) (x rest later : List ℕ) → SoFar count bytes xs rest → IsShort x → rest ≡ literal_text x ++ later → ys ≡ xs ++ x ∷ [] → SoFar (count + 1) bytes ys later
so_far_more count bytes xs ys x rest later s short n is = record {
  count_is = omega (arith, s.count_is, ap length is, length-append xs (x ∷ []));
  short = subst (λ (w : List (List ℕ)). All IsShort w) (sym is) (All-push IsShort xs x s.short short);
  text_is = one_more bytes xs x rest later s.text_is n ∙ ap (λ (w : List (List ℕ)). flat_map literal_text w ++ later) (sym is);
}

-- where the literals after its head are none, a payload is no list
no_list : (payload : List ℕ) (fold : Fold) (profile : Profile) (count : ℕ) (rest : List ℕ) → count < 2 ^ 16 → payload ≡ flags_of fold profile ∷ (u16_text count ++ rest) → NoLiterals count rest → NoList payload
no_list payload fold profile count rest small is none other_fold other_profile literals are e =
    let same = u16_same count (length literals) rest (flat_map literal_text literals) small are.count (ap (λ (x : List ℕ). drop 1 x) (sym is ∙ e)) in
    none literals (record { are_literals = are; count_is = sym same.number; text_is = same.rest })

-- the same of the fault for it
pub list_wrong : (payload : List ℕ) (fold : Fold) (profile : Profile) (count : ℕ) (rest : List ℕ) (e : Fault) → count < 2 ^ 16 → payload ≡ flags_of fold profile ∷ (u16_text count ++ rest) → IfBadFrame (λ cause. (cause ≡ Payload) × NoLiterals count rest) e → IfBadFrame (λ cause. (cause ≡ Payload) × NoList payload) e
list_wrong payload fold profile count rest OutOfMemory small is h = tt
list_wrong payload fold profile count rest (BadFrame cause) small is h = (h.0, no_list payload fold profile count rest small is h.1)

-- fewer than two bytes after the flags are no list
pub no_head : (payload : List ℕ) (flag : ℕ) (rest : List ℕ) → payload ≡ flag ∷ rest → length rest < 2 → NoList payload
no_head payload flag rest is short fold profile literals are e =
    omega (arith, ap length is, ap length e, length-append (u16_text (length literals)) (flat_map literal_text literals), length-u16_text (length literals))
