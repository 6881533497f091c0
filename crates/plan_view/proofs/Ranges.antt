-- What one number more adds to a sum, and to the repeats.
use Rattle.std.proofs.Common.{◌≡◌, ℕ, zero, suc, ◌+◌, ◌*◌, ◌<◌, List, [], ◌∷◌, ◌++◌, sum_by, map, refl, sym, ap, ◌∙◌, arith, append-nil, Option}
use Rattle.std.specs.List.{flat_map, range_with_len}
use Rattle.std.proofs.Math.Nat.{mul_assoc, mul_comm, mul_left_comm}
use Rattle.std.proofs.lemmas.Grind.{flat_map-append}
use Rattle.std.proofs.lemmas.List.FromFn.{sum_by-map-range_with_len_more, map-range_with_len_more}
use Rattle.plan_view.specs.Repeats.{earlier, repeat_at, repeats}
use Rattle.plan_view.specs.Sums.{sum_below}
use Rattle.plan_view.specs.declared.repeats.Repeat.{Repeat}

-- a list is its own map
same_map : (xs : List ℕ) → map (λ x. x) xs ≡ xs
same_map [] = refl
same_map (x ∷ xs) = ap (λ ys. x ∷ ys) (same_map xs)

-- one number more at the end of the range
range_more : (n : ℕ) → range_with_len 0 (n + 1) ≡ range_with_len 0 n ++ n ∷ []
range_more n = sym (same_map (range_with_len 0 (n + 1))) ∙ map-range_with_len_more (λ x. x) 0 n n (omega arith) ∙ ap (λ xs. xs ++ n ∷ []) (same_map (range_with_len 0 n))

-- no number adds up to nothing
pub sum_none : (f : ℕ → ℕ) → sum_below 0 f ≡ 0
unfolding sum_below
sum_none f = refl

-- one number more adds its term
pub sum_more : (f : ℕ → ℕ) (n : ℕ) → sum_below (n + 1) f ≡ sum_below n f + f n
unfolding sum_below
sum_more f n =
    sym (ap (sum_by f) (same_map (range_with_len 0 (n + 1)))) ∙ sum_by-map-range_with_len_more f (λ x. x) 0 n n (omega arith)
    ∙ ap (λ xs. sum_by f xs + f n) (same_map (range_with_len 0 n))

sum_suc : (f : ℕ → ℕ) (n : ℕ) → sum_below (suc n) f ≡ sum_below n f + f n
sum_suc f n =
    let more : suc n ≡ n + 1 = omega arith in
    ap (λ m. sum_below m f) more ∙ sum_more f n

-- a product of a sum
spread : (a b k : ℕ) → a * k + b * k ≡ (a + b) * k
spread a b k = grind arith

-- a factor stands before the sum as well
scaled : (k : ℕ) (f : ℕ → ℕ) (n : ℕ) → sum_below n (λ x. f x * k) ≡ sum_below n f * k
scaled k f zero =
    let one : sum_below 0 (λ x. f x * k) ≡ 0 = sum_none (λ x. f x * k) in
    let whole : sum_below 0 f ≡ 0 = sum_none f in
    grind (arith, one, whole)
scaled k f (suc n) =
    let rest : sum_below n (λ x. f x * k) ≡ sum_below n f * k = scaled k f n in
    let one : sum_below (suc n) (λ x. f x * k) ≡ sum_below n (λ x. f x * k) + f n * k = sum_suc (λ x. f x * k) n in
    let whole : sum_below (suc n) f ≡ sum_below n f + f n = sum_suc f n in
    one ∙ (ap (λ s. s + f n * k) rest ∙ (spread (sum_below n f) (f n) k ∙ ap (λ s. s * k) (sym whole)))

-- sums of the same terms are the same
same_below : (f g : ℕ → ℕ) (n : ℕ) → ((x : ℕ) → x < n → f x ≡ g x) → sum_below n f ≡ sum_below n g
same_below f g zero h = sum_none f ∙ sym (sum_none g)
same_below f g (suc n) h =
    let rest : sum_below n f ≡ sum_below n g = same_below f g n (λ x p. h x (omega (arith, p))) in
    let last : f n ≡ g n = h n (omega arith) in
    sum_suc f n ∙ (ap (λ s. s + f n) rest ∙ (ap (λ t. sum_below n g + t) last ∙ sym (sum_suc g n)))

-- a sum of products, each of three factors, is a product of three sums
pub sum_of_products : (t : ℕ → ℕ → ℕ → ℕ) (f g h : ℕ → ℕ) (n : ℕ) → ((a b c : ℕ) → a < n → b < n → c < n → t a b c ≡ h c * (g b * f a))
    → sum_below n (λ a. sum_below n (λ b. sum_below n (λ c. t a b c))) ≡ (sum_below n f * sum_below n g) * sum_below n h
sum_of_products t f g h n same =
    let last : (a b : ℕ) → a < n → b < n → sum_below n (λ c. t a b c) ≡ g b * (sum_below n h * f a) =
    λ a b p q. same_below (λ c. t a b c) (λ c. h c * (g b * f a)) n (λ c r. same a b c p q r) ∙ (scaled (g b * f a) h n ∙ mul_left_comm (sum_below n h) (g b) (f a)) in
    let middle : (a : ℕ) → a < n → sum_below n (λ b. sum_below n (λ c. t a b c)) ≡ f a * (sum_below n g * sum_below n h) =
    λ a p. same_below (λ b. sum_below n (λ c. t a b c)) (λ b. g b * (sum_below n h * f a)) n (λ b q. last a b p q)
    ∙ (scaled (sum_below n h * f a) g n ∙ (sym (mul_assoc (sum_below n g) (sum_below n h) (f a)) ∙ mul_comm (sum_below n g * sum_below n h) (f a))) in
    same_below (λ a. sum_below n (λ b. sum_below n (λ c. t a b c))) (λ a. f a * (sum_below n g * sum_below n h)) n middle
    ∙ (scaled (sum_below n g * sum_below n h) f n ∙ sym (mul_assoc (sum_below n f) (sum_below n g) (sum_below n h)))

-- no pattern repeats none
pub no_repeats : (places : List (Option ℕ)) → repeats places 0 ≡ []
unfolding repeats
no_repeats places = refl

-- one pattern more adds itself where it repeats one
pub repeats_more : (places : List (Option ℕ)) (n : ℕ) → repeats places (n + 1) ≡ repeats places n ++ repeat_at n (earlier places n)
unfolding repeats
repeats_more places n =
    let f : ℕ → List Repeat = λ k. repeat_at k (earlier places k) in
    ap (flat_map f) (range_more n) ∙ (flat_map-append f (range_with_len 0 n) (n ∷ []) ∙ ap (λ xs. flat_map f (range_with_len 0 n) ++ xs) (append-nil (f n)))
