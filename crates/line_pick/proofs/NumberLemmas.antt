-- Lines that are emitted without their numbers.
use Rattle.std.proofs.Common.{◌≡◌, ℕ, ◌+◌, Bool, true, false, cond, List, [], ◌∷◌, map, Result, Ok, refl, ap, subst}
use Rattle.line_pick.specs.declared.fault.Fault.{Fault}
use Rattle.line_pick.specs.declared.sink.Next.{Next}
use Rattle.line_pick.specs.declared.sink.Next.TheVariants.{More}
use Rattle.line_pick.specs.Emitting.{Emits, EmitsOrAll, EmitsOrNone, Emitted, Begun, NotBegun, NoneLeft, OneMore, LastOne, Whole, StarvedFirst, StarvedLast, Refused, as_numbered, numbered}
use Rattle.line_pick.proofs.EmittedLemmas.{EmittedOn}

-- lines without their numbers
abbrev pub bare : List (ℕ × List ℕ) → List (List ℕ)
bare lines = map (λ l. l.1) lines

-- the same lines are numbered from any number on
pub bare-numbered : (test : List ℕ → Bool) (a b : ℕ) (lines : List (List ℕ)) → bare (numbered test a lines) ≡ bare (numbered test b lines)
bare-numbered test a b [] = refl
bare-numbered test a b (line ∷ lines) =
    let rest = bare-numbered test (a + 1) (b + 1) lines in
    elim (test line) as (λ p. bare (cond p ((a + 1, line) ∷ numbered test (a + 1) lines) (numbered test (a + 1) lines)) ≡ bare (cond p ((b + 1, line) ∷ numbered test (b + 1) lines) (numbered test (b + 1) lines))) [
      | true ↦ ap (λ ls. line ∷ ls) rest
      | false ↦ rest
    ]

-- where a line that is taken by one way is taken by another, whatever its number there, lines are emitted by the other
-- way under other numbers
pub Emitted-renumbered : {S : Type 0} {takes others : S → ℕ → List ℕ → Result Next Fault → S → Type 0} (P : S → Type 0)
    → ((s t : S) (n m : ℕ) (line : List ℕ) (answer : Result Next Fault) → P s → takes s n line answer t → others s m line answer t × P t)
    → {s t : S} {lines : List (ℕ × List ℕ)} {answer : Result Next Fault} (under : List (ℕ × List ℕ)) → bare lines ≡ bare under → P s → Emitted takes s lines answer t → Emitted others s under answer t
Emitted-renumbered P step [] same p NoneLeft = NoneLeft
Emitted-renumbered P step (x ∷ under) same p NoneLeft = absurd (cc)
Emitted-renumbered P step [] same p (OneMore h rest) = absurd (cc)
Emitted-renumbered {others = others} P step ((m, line') ∷ under) same p (OneMore {s = s} {t = mid} {number = number} {line = line} h rest) =
    let next = step s mid number m line (Ok More) p h in
    let is : line ≡ line' = (cc) in
    OneMore (subst (λ l. others s m l (Ok More) mid) is next.0) (Emitted-renumbered P step under (cc) next.1 rest)
Emitted-renumbered P step [] same p (LastOne h last) = absurd (cc)
Emitted-renumbered {others = others} P step ((m, line') ∷ under) same p (LastOne {s = s} {t = t} {number = number} {line = line} {answer = answer} h last) =
    let is : line ≡ line' = (cc) in
    LastOne (subst (λ l. others s m l answer t) is (step s t number m line answer p h).0) last

module _ {S : Type 0} (takes : S → ℕ → List ℕ → Result Next Fault → S → Type 0) where
  -- lines that are emitted under their numbers are emitted
  pub Emitted-taken : (is_numbered : Bool) {s t : S} {lines : List (ℕ × List ℕ)} {answer : Result Next Fault} → Emitted takes s lines answer t → Emitted (as_numbered is_numbered takes) s lines answer t
  Emitted-taken true h = h
  Emitted-taken false NoneLeft = NoneLeft
  Emitted-taken false (OneMore {number = number} h rest) = OneMore (number, h) (Emitted-taken false rest)
  Emitted-taken false (LastOne {number = number} h last) = LastOne (number, h) last

  pub OrNone-taken : (is_numbered : Bool) {s t : S} {lines : List (ℕ × List ℕ)} {answer : Result Next Fault} → EmitsOrNone takes s lines answer t → EmitsOrNone (as_numbered is_numbered takes) s lines answer t
  OrNone-taken is_numbered (Begun h) = Begun (Emitted-taken is_numbered h)
  OrNone-taken is_numbered NotBegun = NotBegun

  -- lines are numbered or not as they were
  pub OrAll-same : {old new : Bool} {left : List ℕ} {s t : S} {lines : List (ℕ × List ℕ)} {answer : Result Next Fault} → new ≡ old → EmitsOrAll (as_numbered new takes) left s lines answer t → EmitsOrAll (as_numbered old takes) left s lines answer t
  OrAll-same {left = left} {s = s} {t = t} {lines = lines} {answer = answer} e h = subst (λ k. EmitsOrAll (as_numbered k takes) left s lines answer t) e h

  -- lines that are emitted under some numbers are emitted under any
  Emitted-under : {s t : S} {lines : List (ℕ × List ℕ)} {answer : Result Next Fault} (under : List (ℕ × List ℕ)) → bare lines ≡ bare under → Emitted (as_numbered false takes) s lines answer t → Emitted (as_numbered false takes) s under answer t
  Emitted-under under same h = Emitted-renumbered (λ _. Unit {0}) (λ s t n m line answer _ taken. (taken, tt)) under same tt h

  Emits-under : {held left : List ℕ} {s t : S} {lines : List (ℕ × List ℕ)} {answer : Result Next Fault} (under : List (ℕ × List ℕ)) → bare lines ≡ bare under → Emits (as_numbered false takes) held left s lines answer t → Emits (as_numbered false takes) held left s under answer t
  Emits-under under same (Whole h) = Whole (Emitted-under under same h)
  Emits-under under same (StarvedFirst some) = StarvedFirst some
  Emits-under under same (StarvedLast some h) = StarvedLast some (Emitted-under under same h)
  Emits-under under same Refused = Refused

  module _ (test : List ℕ → Bool) (a b : ℕ) (lines : List (List ℕ)) where
    -- lines are emitted after another number of lines, if this is the same one where they are numbered
    pub Emitted-moved : (is_numbered : Bool) → (is_numbered ≡ true → a ≡ b) → {s t : S} {answer : Result Next Fault} → Emitted (as_numbered is_numbered takes) s (numbered test a lines) answer t → Emitted (as_numbered is_numbered takes) s (numbered test b lines) answer t
    Emitted-moved true same {s} {t} {answer} h = subst (λ n. Emitted takes s (numbered test n lines) answer t) (same refl) h
    Emitted-moved false same h = Emitted-under (numbered test b lines) (bare-numbered test a b lines) h

    pub Emits-moved : (is_numbered : Bool) → (is_numbered ≡ true → a ≡ b) → {held left : List ℕ} {s t : S} {answer : Result Next Fault} → Emits (as_numbered is_numbered takes) held left s (numbered test a lines) answer t → Emits (as_numbered is_numbered takes) held left s (numbered test b lines) answer t
    Emits-moved true same {held} {left} {s} {t} {answer} h = subst (λ n. Emits takes held left s (numbered test n lines) answer t) (same refl) h
    Emits-moved false same h = Emits-under (numbered test b lines) (bare-numbered test a b lines) h

    -- and so are the remaining lines
    pub EmittedOn-moved : (is_numbered : Bool) → (is_numbered ≡ true → a ≡ b) → {s t : S} {whole : List (ℕ × List ℕ)} → EmittedOn (as_numbered is_numbered takes) s whole t (numbered test b lines) → EmittedOn (as_numbered is_numbered takes) s whole t (numbered test a lines)
    EmittedOn-moved is_numbered same p = record { go = λ answer u later. p.go answer u (Emitted-moved is_numbered same later) }

-- the number of lines as shown: 0 where lines are not numbered
pub shown-same : (is_numbered : Bool) (n : ℕ) → is_numbered ≡ true → n ≡ cond is_numbered n 0
shown-same true n e = refl
shown-same false n e = (cc)

-- the same after more lines
pub shown-more : (is_numbered : Bool) (old new more : ℕ) → (is_numbered ≡ true → new ≡ old + more) → cond is_numbered new 0 ≡ cond is_numbered (cond is_numbered old 0 + more) 0
shown-more true old new more e = e refl
shown-more false old new more e = refl
