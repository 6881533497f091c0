-- What a loop has read, and what is left to read.
use Rattle.std.proofs.Common.{◌≡◌, ℕ, suc, ◌-◌, ◌+◌, ◌≤◌, ◌<◌, List, [], ◌∷◌, ◌++◌, length, sum_by, Result, Ok, Err, refl, sym, ap, subst, ◌∙◌, append_assoc, arith}
use Rattle.std.specs.Int.{Width}
use Rattle.std.proofs.lemmas.List.{append-nil, length-append}
use Rattle.std.proofs.lemmas.List.Sums.{sum_by-cons}
use Rattle.lit_base.specs.declared.fold.Fold.{Fold}
use Rattle.lit_base.specs.declared.limits.TheConstants.{MAX_LIST_LEN}
use Rattle.plan_file.specs.declared.fault.Stop.{Stop}
use Rattle.plan_file.specs.declared.fault.Stop.TheVariants as stop
use Rattle.plan_file.specs.declared.fault.Wrong.{Wrong}
use Rattle.plan_file.specs.Faults.{IfWrong}
use Rattle.plan_file.specs.Reading.{◌>>=◌, number_at, numbers_at, literal_at, literals_at}

-- ---- items

-- items that were read, continued by those that are read of the rest
abbrev pub continued : {A : Type 0} → List A → Result (List A × List ℕ) Wrong → Result (List A × List ℕ) Wrong
continued items read = read >>= λ others. Ok (items ++ others.0, others.1)

-- an item that was read passes from the others to the items before them
one_item : {A : Type 0} (items : List A) (item : A) (read : Result (List A × List ℕ) Wrong) → continued items (read >>= λ others. Ok (item ∷ others.0, others.1)) ≡ continued (items ++ item ∷ []) read
one_item items item (Err wrong) = refl
one_item {A} items item (Ok others) = ap (λ (all : List A). Ok (all, others.1)) (sym (append_assoc items (item ∷ []) others.0))

-- before the end of a loop one item and the later ones are left
one_left : (count i : ℕ) → i < count → count - i ≡ suc (count - (i + 1))
one_left count i more = omega (arith, more)

-- at the end of a loop nothing is left
none_left : (count i : ℕ) → count ≤ i → count - i ≡ 0
none_left count i end = omega (arith, end)

-- where reading one item stops, reading all of them stops at the same fault
pub stops : {A B : Type 0} (one : Result A Wrong) (all : Result B Wrong) (e : Stop) → ((wrong : Wrong) → one ≡ Err wrong → all ≡ Err wrong) → IfWrong (λ wrong. one ≡ Err wrong) e → IfWrong (λ wrong. all ≡ Err wrong) e
stops one all stop.OutOfMemory same is = tt
stops one all (stop.Wrong wrong) same is = same wrong is

-- ---- numbers

-- a number more is read
pub numbers_more : (w : Width) (items : List ℕ) (count i : ℕ) (bytes : List ℕ) (n : ℕ) (after : List ℕ) → i < count → number_at w bytes ≡ Ok (n, after)
    → continued items (numbers_at w (count - i) bytes) ≡ continued (items ++ n ∷ []) (numbers_at w (count - (i + 1)) after)
unfolding numbers_at
numbers_more w items count i bytes n after more is = rw (one_left count i more, is) (one_item items n (numbers_at w (count - (i + 1)) after))

-- a number is not read
pub numbers_stop : (w : Width) (items : List ℕ) (count i : ℕ) (bytes : List ℕ) (wrong : Wrong) → i < count → number_at w bytes ≡ Err wrong → continued items (numbers_at w (count - i) bytes) ≡ Err wrong
unfolding numbers_at
numbers_stop w items count i bytes wrong more is = rw (one_left count i more, is) refl

-- all numbers are read
pub numbers_all : (w : Width) (items : List ℕ) (count i : ℕ) (bytes : List ℕ) → count ≤ i → continued items (numbers_at w (count - i) bytes) ≡ Ok (items, bytes)
unfolding numbers_at
numbers_all w items count i bytes end = rw (none_left count i end) (ap (λ (all : List ℕ). Ok (all, bytes)) (append-nil items))

-- ---- literals

-- the literals that were read, the room that they leave, the last of them and the bytes after it
pub record Left (fold : Fold) (count i room : ℕ) (before rest : List ℕ) (texts : List (List ℕ)) (total : Result (List (List ℕ) × List ℕ) Wrong) : Type 0 where
  pub number : length texts ≡ i
  pub total_len : room + sum_by length texts ≡ MAX_LIST_LEN
  pub left : continued texts (literals_at fold (count - i) room before rest) ≡ total

-- the length of one more literal
sum_by-push : (ts : List (List ℕ)) (t : List ℕ) → sum_by length (ts ++ t ∷ []) ≡ sum_by length ts + length t
sum_by-push [] t = omega (arith, sum_by-cons {X = List ℕ} length t [])
sum_by-push (u ∷ us) t = omega (arith, sum_by-push us t, sum_by-cons {X = List ℕ} length u us, sum_by-cons {X = List ℕ} length u (us ++ t ∷ []))

-- a literal more is read
literals_more : (fold : Fold) (room : ℕ) (before : List ℕ) (texts : List (List ℕ)) (count i : ℕ) (bytes text after : List ℕ) → i < count → literal_at fold room before bytes ≡ Ok (text, after)
    → continued texts (literals_at fold (count - i) room before bytes) ≡ continued (texts ++ text ∷ []) (literals_at fold (count - (i + 1)) (room - length text) text after)
unfolding literals_at
literals_more fold room before texts count i bytes text after more is =
    rw (one_left count i more, is) (one_item texts text (literals_at fold (count - (i + 1)) (room - length text) text after))

-- a literal is not read
pub literals_stop : (fold : Fold) (room : ℕ) (before : List ℕ) (texts : List (List ℕ)) (count i : ℕ) (bytes : List ℕ) (wrong : Wrong) → i < count → literal_at fold room before bytes ≡ Err wrong → continued texts (literals_at fold (count - i) room before bytes) ≡ Err wrong
unfolding literals_at
literals_stop fold room before texts count i bytes wrong more is = rw (one_left count i more, is) refl

-- all literals are read
pub literals_all : (fold : Fold) (room : ℕ) (before : List ℕ) (texts : List (List ℕ)) (count i : ℕ) (bytes : List ℕ) → count ≤ i → continued texts (literals_at fold (count - i) room before bytes) ≡ Ok (texts, bytes)
unfolding literals_at
literals_all fold room before texts count i bytes end = rw (none_left count i end) (ap (λ (all : List (List ℕ)). Ok (all, bytes)) (append-nil texts))

-- a literal more was read
pub left_more : (fold : Fold) (room : ℕ) (before : List ℕ) (texts longer : List (List ℕ)) (count i : ℕ) (bytes text after : List ℕ) (total : Result (List (List ℕ) × List ℕ) Wrong) → length text ≤ room → i < count → literal_at fold room before bytes ≡ Ok (text, after)
    → Left fold count i room before bytes texts total → longer ≡ texts ++ text ∷ [] → Left fold count (i + 1) (room - length text) text after longer total
left_more fold room before texts longer count i bytes text after total fits more is so_far longer_is =
    subst (λ (ts : List (List ℕ)). Left fold count (i + 1) (room - length text) text after ts total) (sym longer_is) (record {
      number = omega (arith, length-append texts (text ∷ []), so_far.number);
      total_len = omega (arith, sum_by-push texts text, so_far.total_len, fits);
      left = sym (literals_more fold room before texts count i bytes text after more is) ∙ so_far.left;
    })
