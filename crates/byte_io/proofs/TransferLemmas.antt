-- Lemmas on what moves between a device and a list of bytes in many calls.
use Rattle.std.proofs.Common.{◌≡◌, ℕ, ◌+◌, ◌<◌, ◌≤◌, List, [], ◌++◌, Option, None, Some, Result, Ok, Err, IfSome, OnErr, refl, sym, ap, ◌∙◌, subst, append_assoc, append-nil, add-zero, length, length-append, take, drop, take-append-drop, arith}
use Rattle.std.proofs.lemmas.List.{take_at, take-take, take-append-le}
use Rattle.std.proofs.Math.Seq.{take-append-add}
use Rattle.std.specs.Io.KnownBytes.{Appends, Keeps}
use Rattle.std.proofs.KnownBytes.{Appends-trans, Appends-kept}
use Rattle.byte_io.specs.declared.device.Failed.{Failed}
use Rattle.byte_io.specs.Devices.{Faulty, Coming, Gives, ReadGives, IfKnown}
use Rattle.byte_io.specs.Transfers.{AppendsPart, FaultFollows, ReadsAll, ReadsInto}
use Rattle.byte_io.proofs.KnownLemmas.{IfKnown-then, IfKnown-weaker}

-- a fact that holds whatever is answered
pub OnErr-any : {T E P : Type 0} (r : Result T E) → P → OnErr r P
OnErr-any (Ok x) p = tt
OnErr-any (Err e) p = p

-- a prefix of the piece was written, and this rest remains
pub record WritesPrefix (old new : Option (List ℕ)) (piece rest : List ℕ) : Type 0 where
  pub done : List ℕ
  pub split : piece ≡ done ++ rest
  pub text : Appends old new done

-- one more call takes the prefix of the rest
pub WritesPrefix-more : {a b : Option (List ℕ)} (c : Option (List ℕ)) {piece rest : List ℕ} (n : ℕ) → WritesPrefix a b piece rest → Appends b c (take n rest) → WritesPrefix a c piece (drop n rest)
WritesPrefix-more {a} {b} c {piece} {rest} n w p = record {
  done = w.done ++ take n rest;
  split = w.split ∙ ap (λ l. w.done ++ l) (sym (take-append-drop n rest)) ∙ sym (append_assoc w.done (take n rest) (drop n rest));
  text = Appends-trans a b c _ _ w.text p;
}

-- with a rest a part of the piece is written
pub WritesPrefix-part : {a b : Option (List ℕ)} (c : Option (List ℕ)) {piece rest : List ℕ} → WritesPrefix a b piece rest → Keeps b c → 0 < length rest → AppendsPart a c piece
WritesPrefix-part {a} {b} c {piece} {rest} w kept some = record {
  count = length w.done;
  fewer = omega (arith, ap length w.split, length-append w.done rest);
  text = subst (Appends a c) (sym (ap (take (length w.done)) w.split ∙ take_at w.done rest (length w.done) refl)) (Appends-kept a b c w.done w.text kept);
}

-- before the first read nothing is gained
pub ReadsInto-none : (a : Option Coming) (xs : List ℕ) → ReadsInto a a xs xs
ReadsInto-none None xs = record { bytes = []; text = sym (append-nil xs); given = tt }
ReadsInto-none (Some x) xs = record { bytes = []; text = sym (append-nil xs); given = record { text = refl; ending = refl } }

-- bytes that were given, and then others
Gives-trans : (a b c : Option Coming) (bs cs : List ℕ) → IfKnown a b (λ x y. Gives x y bs) → IfKnown b c (λ x y. Gives x y cs) → IfKnown a c (λ x y. Gives x y (bs ++ cs))
Gives-trans a b c bs cs p q =
    IfKnown-then a b c (λ x y. Gives x y bs) (λ x y. Gives x y cs) (λ x y. Gives x y (bs ++ cs)) p q
    (λ x y z p q. record { text = p.text ∙ ap (λ l. bs ++ l) q.text ∙ sym (append_assoc bs cs z.text); ending = q.ending ∙ p.ending })

-- bytes gained in two steps are gained in one
pub ReadsInto-more : {a b : Option Coming} (c : Option Coming) {xs ys zs : List ℕ} → ReadsInto a b xs ys → ReadsInto b c ys zs → ReadsInto a c xs zs
ReadsInto-more {a} {b} c {xs} {ys} {zs} r s = record {
  bytes = r.bytes ++ s.bytes;
  text = s.text ∙ ap (λ l. l ++ s.bytes) r.text ∙ append_assoc xs r.bytes s.bytes;
  given = Gives-trans a b c r.bytes s.bytes r.given s.given;
}

-- no fault follows a text that was read to its end
pub no_fault : (Q : Coming → Type 0) (limit : ℕ) (old : Option Coming) (before text : List ℕ) → IfSome old (ReadsAll limit before text) → IfSome old (λ x. x.ending ≡ Faulty → Q x)
no_fault Q limit None before text all = tt
no_fault Q limit (Some x) before text all = λ faulty. absurd (all.ending faulty)

-- at least as many bytes were to come as were gained
pub ReadsInto-many : (a b : Option Coming) (xs ys : List ℕ) (limit most : ℕ) → ReadsInto a b xs ys → most + length xs ≤ length ys → IfSome a (λ c. length c.text < most → FaultFollows limit xs ys c)
ReadsInto-many None b xs ys limit most r many = tt
ReadsInto-many (Some x) None xs ys limit most r many = absurd r.given
ReadsInto-many (Some x) (Some y) xs ys limit most r many =
    λ few. absurd (omega (arith, ap length r.text, length-append xs r.bytes, ap length r.given.text, length-append r.bytes y.text))

-- the kept part of a list, where the part after `old` was filled and only its first k bytes count
take-filled : (old buf whole post rest : List ℕ) (start len k : ℕ) → start ≡ length old → take start whole ≡ old → k ≤ length buf → start + length buf ≤ len
    → take (start + k) (take len (take start whole ++ (buf ++ post) ++ rest)) ≡ old ++ take k buf
take-filled old buf whole post rest start len k at prefix some fits =
    take-take (start + k) len _ (omega arith)
    ∙ ap (λ l. take (start + k) (l ++ (buf ++ post) ++ rest)) prefix
    ∙ ap (λ l. take (start + k) l) (append_assoc old (buf ++ post) rest)
    ∙ ap (λ i. take (i + k) (old ++ ((buf ++ post) ++ rest))) at
    ∙ take-append-add old ((buf ++ post) ++ rest) k
    ∙ ap (λ l. old ++ l) (take-append-le k (buf ++ post) rest (omega (arith, length-append buf post)) ∙ take-append-le k buf post some)

-- a read into the room after the text, which keeps the bytes that were read
pub ReadsInto-read : (a b : Option Coming) (old now buf whole post rest : List ℕ) (start len n : ℕ) → IfKnown a b (λ x y. ReadGives x y (Ok n) buf)
    → now ≡ take (start + n) (take len (take start whole ++ (buf ++ post) ++ rest)) → start ≡ length old → take start whole ≡ old → n ≤ length buf → start + length buf ≤ len
    → ReadsInto a b old now
ReadsInto-read a b old now buf whole post rest start len n read kept at prefix some fits = record {
  bytes = take n buf;
  text = kept ∙ take-filled old buf whole post rest start len n at prefix some fits;
  given = IfKnown-weaker a b _ _ read (λ x y p. p.0);
}

-- a read that failed, after which nothing of the room is kept
pub ReadsInto-failed : (a b : Option Coming) (old now buf whole post rest : List ℕ) (start len : ℕ) (e : Failed) → IfKnown a b (λ x y. ReadGives x y (Err e) buf)
    → now ≡ take start (take len (take start whole ++ (buf ++ post) ++ rest)) → start ≡ length old → take start whole ≡ old → start + length buf ≤ len
    → ReadsInto a b old now
ReadsInto-failed a b old now buf whole post rest start len e read kept at prefix fits = record {
  bytes = [];
  text = kept ∙ ap (λ i. take i (take len (take start whole ++ (buf ++ post) ++ rest))) (sym (add-zero start)) ∙ take-filled old buf whole post rest start len 0 at prefix (omega arith) fits;
  given = IfKnown-weaker a b (λ x y. ReadGives x y (Err e) buf) (λ x y. Gives x y []) read (λ x y p. record { text = ap (λ c. c.text) (sym p.1); ending = ap (λ c. c.ending) p.1 });
}
