-- Texts that were appended one after another.
use Rattle.std.proofs.Common.{◌≡◌, ℕ, ◌++◌, List, ap, ◌∙◌, append_assoc}

-- two of them
pub two_appended : (old a b x y : List ℕ) → a ≡ old ++ x → b ≡ a ++ y → b ≡ old ++ (x ++ y)
two_appended old a b x y e f = f ∙ (ap (λ t. t ++ y) e ∙ append_assoc old x y)

-- three of them
pub three_appended : (old a b c x y z : List ℕ) → a ≡ old ++ x → b ≡ a ++ y → c ≡ b ++ z → c ≡ old ++ (x ++ (y ++ z))
three_appended old a b c x y z e f g =
    g ∙ (ap (λ t. t ++ z) (f ∙ ap (λ t. t ++ y) e) ∙ (append_assoc (old ++ x) y z ∙ append_assoc old x (y ++ z)))

-- four of them
pub four_appended : (old a b c d x y z w : List ℕ) → a ≡ old ++ x → b ≡ a ++ y → c ≡ b ++ z → d ≡ c ++ w → d ≡ old ++ (x ++ (y ++ (z ++ w)))
four_appended old a b c d x y z w e f g h =
    three_appended a b c d y z w f g h ∙ (ap (λ t. t ++ (y ++ (z ++ w))) e ∙ append_assoc old x (y ++ (z ++ w)))

-- five of them
pub five_appended : (old a b c d k x y z w v : List ℕ) → a ≡ old ++ x → b ≡ a ++ y → c ≡ b ++ z → d ≡ c ++ w → k ≡ d ++ v → k ≡ old ++ (x ++ (y ++ (z ++ (w ++ v))))
five_appended old a b c d k x y z w v e f g h j =
    four_appended a b c d k y z w v f g h j ∙ (ap (λ t. t ++ (y ++ (z ++ (w ++ v)))) e ∙ append_assoc old x (y ++ (z ++ (w ++ v))))

-- six of them
pub six_appended : (old a b c d k m x y z w v u : List ℕ) → a ≡ old ++ x → b ≡ a ++ y → c ≡ b ++ z → d ≡ c ++ w → k ≡ d ++ v → m ≡ k ++ u → m ≡ old ++ (x ++ (y ++ (z ++ (w ++ (v ++ u)))))
six_appended old a b c d k m x y z w v u e f g h j n =
    five_appended a b c d k m y z w v u f g h j n ∙ (ap (λ t. t ++ (y ++ (z ++ (w ++ (v ++ u))))) e ∙ append_assoc old x (y ++ (z ++ (w ++ (v ++ u)))))
