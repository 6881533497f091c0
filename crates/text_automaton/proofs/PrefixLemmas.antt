-- Prefixes of literals, and the states to which they lead. Prefixes and texts stand with their last byte first, so the
-- end of a text begins it here.
use Rattle.std.proofs.Common.{◌≡◌, ℕ, zero, suc, ◌+◌, ◌*◌, ◌<◌, ◌≤◌, List, [], ◌∷◌, inl, inr, length, slice_index, refl, sym, ap, ◌∙◌, subst, arith}
use Rattle.std.proofs.lemmas.Bool.{cases_lt}
use Rattle.text_automaton.specs.Prefixes.{Begins, IsNextShorter, Leads}
use Rattle.text_automaton.specs.Tables.{AreSized, IsChild, IsKnown, IsPath, IsState, count_of, state_of, step}
use Rattle.text_automaton.specs.declared.tables.Tables.{Tables}
use Rattle.text_automaton.specs.declared.tables.TheConstants.{CLASSES}

pub begins_refl : (w : List ℕ) → Begins w w
begins_refl [] = tt
begins_refl (b ∷ w) = (refl, begins_refl w)

pub begins_trans : (v w r : List ℕ) → Begins v w → Begins w r → Begins v r
begins_trans [] w r p q = tt
begins_trans (a ∷ v) [] r p q = elim p [ ]
begins_trans (a ∷ v) (b ∷ w) [] p q = elim q [ ]
begins_trans (a ∷ v) (b ∷ w) (c ∷ r) p q = (p.0 ∙ q.0, begins_trans v w r p.1 q.1)

-- what begins some bytes is no longer than they
pub begins_short : (w r : List ℕ) → Begins w r → length w ≤ length r
begins_short [] r p = omega arith
begins_short (b ∷ w) [] p = elim p [ ]
begins_short (b ∷ w) (c ∷ r) p = let rest = begins_short w r p.1 in omega (arith, rest)

-- and is all of them where it is as long
pub begins_whole : (w r : List ℕ) → Begins w r → length r ≤ length w → w ≡ r
begins_whole [] [] p q = refl
begins_whole [] (c ∷ r) p q = absurd (omega (arith, q))
begins_whole (b ∷ w) [] p q = elim p [ ]
begins_whole (b ∷ w) (c ∷ r) p q = ap (λ x. x ∷ w) p.0 ∙ ap (λ x. c ∷ x) (begins_whole w r p.1 (omega (arith, q)))

-- the longest path after one more byte is found from the longest path before it
pub leads_on : (t : Tables) (b : ℕ) (r s to : List ℕ) → Leads t r s → Leads t (b ∷ s) to → Leads t (b ∷ r) to
leads_on t b r s to old new = record {
  path = new.path;
  ends = begins_trans to (b ∷ s) (b ∷ r) new.ends (refl, old.ends);
  longest = λ w path ends. further w path ends;
}
  where
    further : (w : List ℕ) → IsPath t w → Begins w (b ∷ r) → Begins w to
    further [] path ends = tt
    further (c ∷ w) path ends = new.longest (c ∷ w) path (ends.0, old.longest w path.0 ends.1)

-- nothing read leads to the empty path
pub leads_none : (t : Tables) → Leads t [] []
leads_none t = record { path = tt; ends = tt; longest = λ w path ends. ends }

-- the state of a path is a state
pub state_small : (t : Tables) (s : List ℕ) → AreSized t → IsPath t s → state_of t s < count_of t
state_small t [] sized p = sized.many.some
state_small t (b ∷ s) sized p =
    let before = state_small t s sized p.0 in
    sized.stepped (CLASSES * state_of t s + slice_index t.classes b) (omega (arith, before, p.1.class, sized.many.rows))

-- the first state belongs to the empty path alone
pub state_zero : (t : Tables) (s : List ℕ) → IsPath t s → state_of t s ≡ 0 → s ≡ []
state_zero t [] p none = refl
state_zero t (b ∷ s) p none = absurd (omega (arith, p.2.1, none))

-- two paths of one state are one
pub one_path : (t : Tables) (s w : List ℕ) → IsPath t s → IsPath t w → state_of t s ≡ state_of t w → s ≡ w
one_path t [] w p q same = sym (state_zero t w q (sym same))
one_path t (b ∷ s) [] p q same = absurd (omega (arith, p.2.1, same))
one_path t (b ∷ s) (c ∷ w) p q same =
    let before : state_of t s ≡ state_of t w = sym p.2.2 ∙ ap (slice_index t.parents.items) same ∙ q.2.2 in
    let classes : slice_index t.classes b ≡ slice_index t.classes c = sym p.2.3 ∙ ap (slice_index t.lasts.items) same ∙ q.2.3 in
    let bytes : b ≡ c = sym (p.1.own p.2.0) ∙ ap (slice_index t.bytes) classes ∙ q.1.own q.2.0 in
    ap (λ x. x ∷ s) bytes ∙ ap (λ x. c ∷ x) (one_path t s w p.0 q.0 before)

module _ (t : Tables) (count : ℕ) (sized : AreSized t) (states : (state : ℕ) → state < count_of t → IsState t count state) where
  -- where a byte leads from a path: to the longest path after it
  abbrev Goes : List ℕ → ℕ → Type 0
  Goes s b = (to : List ℕ) × (state_of t to ≡ step t (state_of t s) (slice_index t.classes b)) × Leads t (b ∷ s) to

  -- the next shorter path, by the state that is kept
  abbrev Falls : List ℕ → Type 0
  Falls s = (f : List ℕ) × (state_of t f ≡ slice_index t.fails.items (state_of t s)) × IsNextShorter t s f

  -- no longer path follows the byte
  apart : (s : List ℕ) (b : ℕ) (c : ℕ) (w : List ℕ) → (IsChild t (state_of t s) (slice_index t.classes b) (step t (state_of t s) (slice_index t.classes b)) → ⊥)
      → IsPath t (c ∷ w) → c ≡ b → Begins w s → length s ≤ length w → ⊥
  apart s b c w not path same ends long =
      let whole : w ≡ s = begins_whole w s ends long in
      not (subst (λ x. IsChild t (state_of t s) (slice_index t.classes x) (step t (state_of t s) (slice_index t.classes x))) same
      (subst (λ y. IsChild t (state_of t y) (slice_index t.classes c) (step t (state_of t y) (slice_index t.classes c))) whole path.2))

  -- from the next shorter path, where no prefix is longer by the byte
  goes_shorter : (s f : List ℕ) (b : ℕ) (to : List ℕ) → (IsChild t (state_of t s) (slice_index t.classes b) (step t (state_of t s) (slice_index t.classes b)) → ⊥)
      → IsNextShorter t s f → Leads t (b ∷ f) to → Leads t (b ∷ s) to
  goes_shorter s f b to not falls leads = record {
    path = leads.path;
    ends = begins_trans to (b ∷ f) (b ∷ s) leads.ends (refl, falls.ends);
    longest = λ w path ends. further w path ends;
  }
    where
      further : (w : List ℕ) → IsPath t w → Begins w (b ∷ s) → Begins w to
      further [] path ends = tt
      further (c ∷ w) path ends = elim (cases_lt (length w) (length s)) [
        | inl short ↦ leads.longest (c ∷ w) path (ends.0, falls.longest w path.0 ends.1 short)
        | inr long ↦ absurd (apart s b c w not path ends.0 ends.1 long)
      ]

  -- from the empty path, where no prefix begins with the byte
  goes_nowhere : (b : ℕ) → (IsChild t 0 (slice_index t.classes b) (step t 0 (slice_index t.classes b)) → ⊥) → Leads t (b ∷ []) []
  goes_nowhere b not = record { path = tt; ends = tt; longest = λ w path ends. further w path ends }
    where
      further : (w : List ℕ) → IsPath t w → Begins w (b ∷ []) → Begins w []
      further [] path ends = tt
      further (c ∷ w) path ends = absurd (apart [] b c w not path ends.0 ends.1 (omega arith))

  -- where no byte was read, the state is the first
  empty : (s : List ℕ) → length s ≤ 0 → 0 < state_of t s → ⊥
  empty [] none some = omega (arith, some)
  empty (b ∷ s) none some = omega (arith, none)

  -- where a byte leads, if the next shorter path is known and where the byte leads from it
  goes : (s : List ℕ) (b : ℕ) → IsPath t s → IsKnown t b → (0 < length s → (down : Falls s) × Goes down.0 b) → Goes s b
  goes s b path known shorter = elim ((states (state_of t s) (state_small t s sized path)).steps (slice_index t.classes b) known.class) [
    | inl child ↦ (b ∷ s, refl, record { path = (path, known, child); ends = begins_refl (b ∷ s); longest = λ w path ends. ends })
    | inr other ↦ elim other.1 [
      | inl first ↦
          let none : s ≡ [] = state_zero t s path first.0 in
          ([], sym first.1, subst (λ y. Leads t (b ∷ y) []) (sym none) (goes_nowhere b (subst (λ y. IsChild t (state_of t y) (slice_index t.classes b) (step t (state_of t y) (slice_index t.classes b)) → ⊥) none other.0)))
      | inr after ↦ elim (cases_lt 0 (length s)) [
        | inl some ↦
            let found = shorter some in
            let down = found.0 in
            let to = found.1 in
            (to.0, to.1 ∙ ap (λ x. step t x (slice_index t.classes b)) down.1 ∙ sym after.1, goes_shorter s down.0 b to.0 other.0 down.2 to.2)
        | inr none ↦ absurd (empty s (omega (arith, none)) after.0)
      ]
    ]
  ]

  -- the next shorter path of one byte is empty
  falls_first : (x : ℕ) → IsNextShorter t (x ∷ []) []
  falls_first x = record { path = tt; ends = tt; shorter = omega arith; longest = λ w path ends short. further w ends short }
    where
      further : (w : List ℕ) → Begins w (x ∷ []) → length w < 1 → Begins w []
      further [] ends short = tt
      further (c ∷ w) ends short = absurd (omega (arith, short))

  -- and of more bytes where the last one leads from the next shorter one of the others
  falls_further : (x : ℕ) (s f to : List ℕ) → IsNextShorter t s f → Leads t (x ∷ f) to → IsNextShorter t (x ∷ s) to
  falls_further x s f to falls leads = record {
    path = leads.path;
    ends = begins_trans to (x ∷ f) (x ∷ s) leads.ends (refl, falls.ends);
    shorter = let short = begins_short to (x ∷ f) leads.ends in omega (arith, short, falls.shorter);
    longest = λ w path ends short. further w path ends short;
  }
    where
      further : (w : List ℕ) → IsPath t w → Begins w (x ∷ s) → length w < length (x ∷ s) → Begins w to
      further [] path ends short = tt
      further (c ∷ w) path ends short = leads.longest (c ∷ w) path (ends.0, falls.longest w path.0 ends.1 (omega (arith, short)))

  -- the next shorter path, given the one for the path before the last byte, and where the byte leads from it
  falls : (x : ℕ) (s : List ℕ) → IsPath t (x ∷ s) → (0 < length s → (down : Falls s) × Goes down.0 x) → Falls (x ∷ s)
  falls x s path before =
      let child = path.2 in
      let parent : slice_index t.parents.items (state_of t (x ∷ s)) ≡ state_of t s = child.2 in
      let last : slice_index t.lasts.items (state_of t (x ∷ s)) ≡ slice_index t.classes x = child.3 in
      elim (states (state_of t (x ∷ s)) (state_small t (x ∷ s) sized path)).fail [
        | inl first ↦
            let none : s ≡ [] = state_zero t s path.0 (sym parent ∙ first.0) in
            ([], sym first.1, subst (λ y. IsNextShorter t (x ∷ y) []) (sym none) (falls_first x))
        | inr further ↦ elim (cases_lt 0 (length s)) [
          | inl some ↦
              let found = before some in
              let down = found.0 in
              let to = found.1 in
              let same : step t (state_of t down.0) (slice_index t.classes x) ≡ slice_index t.fails.items (state_of t (x ∷ s)) =
              ap (λ y. step t y (slice_index t.classes x)) (down.1 ∙ ap (slice_index t.fails.items) (sym parent)) ∙ ap (step t (slice_index t.fails.items (slice_index t.parents.items (state_of t (x ∷ s))))) (sym last) ∙ sym further.1 in
              (to.0, to.1 ∙ same, falls_further x s down.0 to.0 down.2 to.2)
          | inr none ↦ absurd (empty s (omega (arith, none)) (omega (arith, further.0, parent)))
        ]
      ]

  -- both, for paths of bounded length
  known : (n : ℕ) (s : List ℕ) → length s ≤ n → IsPath t s → (0 < length s → Falls s) × ((b : ℕ) → IsKnown t b → Goes s b)
  known n [] short path = (λ some. absurd (omega (arith, some)), λ b is. goes [] b path is (λ some. absurd (omega (arith, some))))
  known zero (x ∷ s) short path = absurd (omega (arith, short))
  known (suc n) (x ∷ s) short path =
      let fall : Falls (x ∷ s) = falls x s path (λ more.
      let down = (known n s (omega (arith, short)) path.0).0 more in
      (down, (known n down.0 (omega (arith, short, down.2.shorter)) down.2.path).1 x path.1)) in (
        λ some. fall,
        λ b is. goes (x ∷ s) b path is (λ some. (fall, (known n fall.0 (omega (arith, short, fall.2.shorter)) fall.2.path).1 b is)),
      )

  -- where a byte leads from a path
  pub goes_on : (s : List ℕ) (b : ℕ) → IsPath t s → IsKnown t b → (to : List ℕ) × (state_of t to ≡ step t (state_of t s) (slice_index t.classes b)) × Leads t (b ∷ s) to
  goes_on s b path is = (known (length s) s (omega arith) path).1 b is

  -- the next shorter path of one
  pub falls_to : (s : List ℕ) → 0 < length s → IsPath t s → (f : List ℕ) × (state_of t f ≡ slice_index t.fails.items (state_of t s)) × IsNextShorter t s f
  falls_to s some path = (known (length s) s (omega arith) path).0 some
