-- Parts of a boundary's room, before and after a write.
use Rattle.std.proofs.Common.{◌≡◌, ℕ, ◌+◌, ◌-◌, ◌≤◌, List, ◌++◌, length, take, drop, sym, ap, ◌∙◌, arith}
use Rattle.std.specs.List.{copy_within}
use Rattle.std.proofs.Math.Seq.{drop-append-add, take-add, take-append-add}
use Rattle.std.proofs.lemmas.List.{length-append, length-drop, length-take, length-take-le, take_at, take-take, drop-drop, drop-take}
use Rattle.flow_scan.specs.Boundaries.{Joining}
use Rattle.flow_scan.specs.Tails.{last_bytes}
use Rattle.flow_scan.proofs.LastBytes.{last_len}
use Rattle.flow_scan.proofs.TailSteps.{last_of_short}

-- two boundaries with the same parts are equal
pub same_joining : (s t : Joining) → s.carry ≡ t.carry → s.tail ≡ t.tail → s.prefix ≡ t.prefix → s ≡ t
same_joining s t p q r = λ i. record { carry = p i; tail = q i; prefix = r i }

-- a slice across a position
part_two : (start held ahead : ℕ) (xs : List ℕ) → start ≤ held → take (held + ahead - start) (drop start xs) ≡ drop start (take held xs) ++ take ahead (drop held xs)
part_two start held ahead xs before =
    let m = held - start in
    let count : held + ahead - start ≡ m + ahead = omega arith in
    let all : start + m ≡ held = omega arith in
    let prefix : take m (drop start xs) ≡ drop start (take held xs) = sym (drop-take start m xs) ∙ ap (λ n. drop start (take n xs)) all in
    let rest : drop m (drop start xs) ≡ drop held xs = drop-drop m start xs ∙ ap (λ n. drop n xs) all in
    ap (λ n. take n (drop start xs)) count ∙ take-add m ahead (drop start xs)
    ∙ ap (λ ys. ys ++ take ahead (drop m (drop start xs))) prefix ∙ ap (λ ys. drop start (take held xs) ++ take ahead ys) rest

-- the slice from the tail on is the tail and the offered bytes
pub text_of : (carry held ahead len : ℕ) (xs : List ℕ) → held ≤ length xs → len ≡ length (last_bytes carry (take held xs)) → take (held + ahead - (held - len)) (drop (held - len) xs) ≡ last_bytes carry (take held xs) ++ take ahead (drop held xs)
text_of carry held ahead len xs fits is_len =
    let prefix = length-take-le held xs fits in
    let start : held - len ≡ length (take held xs) - carry = omega (arith, is_len, prefix, last_len carry (take held xs)) in
    ap (λ n. take (held + ahead - n) (drop n xs)) start
    ∙ part_two (length (take held xs) - carry) held ahead xs (omega (arith, prefix))

-- the tail, moved to the start
pub tail_moved : (carry held : ℕ) (xs : List ℕ) → carry ≤ held → held ≤ length xs → last_bytes carry (take carry (copy_within xs (held - carry) held 0)) ≡ last_bytes carry (take held xs)
tail_moved carry held xs more fits =
    let start = held - carry in
    let all : start + carry ≡ held = omega arith in
    let count : held - start ≡ carry = omega arith in
    let rest = drop (0 + (held - start)) xs in
    let moved : List ℕ = take carry (drop start xs) in
    let len : length moved ≡ carry = omega (arith, length-take carry (drop start xs), length-drop start xs) in
    let here : take carry (copy_within xs start held 0) ≡ moved =
    ap (λ n. take carry (take n (drop start xs) ++ rest)) count ∙ take_at moved rest carry len in
    let there : last_bytes carry (take held xs) ≡ moved =
    ap (λ n. drop (n - carry) (take held xs)) (length-take-le held xs fits) ∙ ap (λ n. drop start (take n xs)) (sym all) ∙ drop-take start carry xs in
    ap (last_bytes carry) here ∙ last_of_short carry moved (omega (arith, len)) ∙ sym there

-- a piece that stands whole after the held bytes
pub kept_short : (held : ℕ) (xs piece : List ℕ) → take (length piece) (drop held xs) ≡ piece → take (held + length piece) xs ≡ take held xs ++ piece
kept_short held xs piece prefix = take-add held (length piece) xs ∙ ap (λ ys. take held xs ++ ys) prefix

-- of a longer piece, only the last bytes count
pub kept_long : (carry : ℕ) (xs rest piece : List ℕ) → carry ≤ length piece → last_bytes carry (take carry (last_bytes carry piece ++ rest)) ≡ last_bytes carry (xs ++ piece)
kept_long carry xs rest piece long =
    let last = last_bytes carry piece in
    let len : length last ≡ carry = omega (arith, last_len carry piece) in
    let skip : length (xs ++ piece) - carry ≡ length xs + (length piece - carry) = omega (arith, length-append xs piece) in
    ap (last_bytes carry) (take_at last rest carry len) ∙ last_of_short carry last (omega (arith, len))
    ∙ sym (ap (λ n. drop n (xs ++ piece)) skip ∙ drop-append-add xs piece (length piece - carry))

-- if offered bytes of a piece stand after the held bytes, so do fewer bytes of it
pub offered_prefix : (count ahead : ℕ) (held piece : List ℕ) → take ahead held ≡ take ahead piece → count ≤ ahead → take count held ≡ take count piece
offered_prefix count ahead held piece offered few =
    sym (take-take count ahead held few) ∙ ap (take count) offered ∙ take-take count ahead piece few

-- the prefix of a text that begins with a tail
pub prefix_after : (tail piece : List ℕ) (carry stop : ℕ) → length tail ≤ stop → stop ≤ length (tail ++ take carry piece) → take stop (tail ++ take carry piece) ≡ tail ++ take (stop - length tail) piece
prefix_after tail piece carry stop after within =
    let count = stop - length tail in
    let at : length tail + count ≡ stop = omega (arith, after) in
    let fits : count ≤ carry = omega (arith, within, length-append tail (take carry piece), length-take carry piece) in
    ap (λ n. take n (tail ++ take carry piece)) (sym at) ∙ take-append-add tail (take carry piece) count ∙ ap (λ xs. tail ++ xs) (take-take count carry piece fits)
