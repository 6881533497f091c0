-- Lines that are emitted one after another.
use Rattle.std.proofs.Common.{◌≡◌, ◌≢◌, ℕ, suc, ◌+◌, ◌<◌, Bool, true, false, cond, List, [], ◌∷◌, ◌++◌, length, Result, Ok, Err, IsOk, OnOk, OnErr, refl, sym, ap, ◌∙◌, subst, append_assoc, arith, All}
use Rattle.std.proofs.lemmas.Bool.{false≢true}
use Rattle.std.proofs.lemmas.List.{length-append}
use Rattle.std.proofs.lemmas.List.Elements.{All-head, All-tail}
use Rattle.lit_base.specs.Lines.{IsOnePiece, ended_lines}
use Rattle.lit_base.proofs.EndedLemmas.{ended_lines-newline, ended_lines-none}
use Rattle.text_lines.specs.Cutting.{IsFirstLine}
use Rattle.line_pick.specs.declared.fault.Fault.{Fault}
use Rattle.line_pick.specs.declared.fault.Fault.TheVariants.{OutOfMemory, StreamTooLong}
use Rattle.line_pick.specs.declared.halt.Halt.{Halt}
use Rattle.line_pick.specs.declared.halt.Halt.TheVariants.{Stopped, Failed}
use Rattle.line_pick.specs.declared.sink.Next.{Next}
use Rattle.line_pick.specs.declared.sink.Next.TheVariants.{More, Stop}
use Rattle.line_pick.specs.Emitting.{Emits, EmitsOrAll, EmitsOrNone, Emitted, Begun, Ended, NotBegun, NotHeld, NoneLeft, OneMore, LastOne, Whole, StarvedFirst, StarvedLast, Refused, answer_of, answer_to, numbered}

-- lines that pass come in their order, numbered on
pub numbered-cons : (test : List ℕ → Bool) (before : ℕ) (line : List ℕ) (lines : List (List ℕ)) → numbered test before (line ∷ lines) ≡ numbered test before (line ∷ []) ++ numbered test (before + 1) lines
numbered-cons test before line lines = elim (test line) as (λ b. cond b ((before + 1, line) ∷ numbered test (before + 1) lines) (numbered test (before + 1) lines) ≡ cond b ((before + 1, line) ∷ []) [] ++ numbered test (before + 1) lines) [
  | true ↦ refl
  | false ↦ refl
]

-- one line is numbered by what a test says of it
pub numbered-one : (test : List ℕ → Bool) (before : ℕ) (line : List ℕ) {selected : Bool} → selected ≡ test line → numbered (λ _. selected) before (line ∷ []) ≡ numbered test before (line ∷ [])
numbered-one test before line is = ap (λ b. cond b ((before + 1, line) ∷ []) []) is

-- tests that agree on the lines number the same lines
pub numbered-same : (test other : List ℕ → Bool) (before : ℕ) (lines : List (List ℕ)) → All (λ line. test line ≡ other line) lines → numbered test before lines ≡ numbered other before lines
numbered-same test other before [] agree = refl
numbered-same test other before (line ∷ lines) agree =
    let rest = numbered-same test other (before + 1) lines (All-tail (λ l. test l ≡ other l) line lines agree) in
    ap (λ b. cond b ((before + 1, line) ∷ numbered test (before + 1) lines) (numbered test (before + 1) lines)) (All-head (λ l. test l ≡ other l) line lines agree)
    ∙ ap (λ ls. cond (other line) ((before + 1, line) ∷ ls) ls) rest

-- where none passes, none is numbered
pub numbered-none : (before : ℕ) (lines : List (List ℕ)) → numbered (λ _. false) before lines ≡ []
numbered-none before [] = refl
numbered-none before (line ∷ lines) = numbered-none (before + 1) lines

-- the numbers go on after lines
pub numbered-append : (test : List ℕ → Bool) (before : ℕ) (lines more : List (List ℕ)) → numbered test before (lines ++ more) ≡ numbered test before lines ++ numbered test (before + length lines) more
numbered-append test before [] more = ap (λ n. numbered test n more) (omega arith)
numbered-append test before (line ∷ lines) more =
    let on : (before + 1) + length lines ≡ before + length (line ∷ lines) = omega arith in
    numbered-cons test before line (lines ++ more)
    ∙ ap (λ ls. numbered test before (line ∷ []) ++ ls) (numbered-append test (before + 1) lines more ∙ ap (λ n. numbered test (before + 1) lines ++ numbered test n more) on)
    ∙ sym (append_assoc (numbered test before (line ∷ [])) (numbered test (before + 1) lines) (numbered test (before + length (line ∷ lines)) more))
    ∙ ap (λ ls. ls ++ numbered test (before + length (line ∷ lines)) more) (sym (numbered-cons test before line lines))

module _ {S : Type 0} {takes : S → ℕ → List ℕ → Result Next Fault → S → Type 0} where
  -- one line is emitted
  pub Emitted-one : {s t : S} {number : ℕ} {line : List ℕ} (answer : Result Next Fault) → takes s number line answer t → Emitted takes s ((number, line) ∷ []) answer t
  Emitted-one (Ok More) h = OneMore h NoneLeft
  Emitted-one (Ok Stop) h = LastOne h (λ e. (cc))
  Emitted-one (Err fault) h = LastOne h (λ e. (cc))

  -- after the last line emitted, others may follow that are not
  pub Emitted-halted : {s t : S} {lines : List (ℕ × List ℕ)} {answer : Result Next Fault} (more : List (ℕ × List ℕ)) → Emitted takes s lines answer t → answer ≢ Ok More → Emitted takes s (lines ++ more) answer t
  Emitted-halted more NoneLeft halted = absurd (halted refl)
  Emitted-halted more (OneMore h rest) halted = OneMore h (Emitted-halted more rest halted)
  Emitted-halted more (LastOne h last) halted = LastOne h last

  -- lines after lines that were all taken
  pub Emitted-join : {s t u : S} {lines more : List (ℕ × List ℕ)} {answer : Result Next Fault} → Emitted takes s lines (Ok More) t → Emitted takes t more answer u → Emitted takes s (lines ++ more) answer u
  Emitted-join NoneLeft later = later
  Emitted-join (OneMore h rest) later = OneMore h (Emitted-join rest later)
  Emitted-join (LastOne h last) later = absurd (last refl)

  pub OrNone-halted : {s t : S} {lines : List (ℕ × List ℕ)} {answer : Result Next Fault} (more : List (ℕ × List ℕ)) → EmitsOrNone takes s lines answer t → answer ≢ Ok More → EmitsOrNone takes s (lines ++ more) answer t
  OrNone-halted more (Begun h) halted = Begun (Emitted-halted more h halted)
  OrNone-halted more NotBegun halted = NotBegun

  pub OrAll-join : {left : List ℕ} {s t u : S} {lines more : List (ℕ × List ℕ)} {answer : Result Next Fault} → Emitted takes s lines (Ok More) t → EmitsOrAll takes left t more answer u → EmitsOrAll takes left s (lines ++ more) answer u
  OrAll-join h (Ended later) = Ended (Emitted-join h later)
  OrAll-join h (NotHeld some later) = NotHeld some (Emitted-join h later)

  -- the lines of a text, from those of a part
  pub Emits-from_none : {held left : List ℕ} {s t : S} {lines : List (ℕ × List ℕ)} {answer : Result Next Fault} → 0 < length held → EmitsOrNone takes s lines answer t → Emits takes held left s lines answer t
  Emits-from_none some (Begun h) = Whole h
  Emits-from_none some NotBegun = StarvedFirst some

  pub Emits-from_all : {held left : List ℕ} {s t : S} {lines : List (ℕ × List ℕ)} {answer : Result Next Fault} → EmitsOrAll takes left s lines answer t → Emits takes held left s lines answer t
  Emits-from_all (Ended h) = Whole h
  Emits-from_all (NotHeld some h) = StarvedLast some h

  -- where the sink wants more, all lines were emitted
  pub Emitted-from_Emits : {held left : List ℕ} {s t : S} {lines : List (ℕ × List ℕ)} → Emits takes held left s lines (Ok More) t → Emitted takes s lines (Ok More) t
  Emitted-from_Emits (Whole h) = h

  pub Emitted-from_none : {s t : S} {lines : List (ℕ × List ℕ)} → EmitsOrNone takes s lines (Ok More) t → Emitted takes s lines (Ok More) t
  Emitted-from_none (Begun h) = h

-- a halt is no call for more
pub answer_to-More : (halt : Halt) → answer_to halt ≢ Ok More
answer_to-More Stopped = λ e. (cc)
answer_to-More (Failed fault) = λ e. (cc)

-- where no line is emitted, the answer is More
pub Emitted-nothing : {S : Type 0} {takes : S → ℕ → List ℕ → Result Next Fault → S → Type 0} {s t : S} {lines : List (ℕ × List ℕ)} {answer : Result Next Fault} → lines ≡ [] → Emitted takes s lines answer t → answer ≡ Ok More
Emitted-nothing nothing NoneLeft = refl
Emitted-nothing nothing (OneMore taken rest) = absurd (cc)
Emitted-nothing nothing (LastOne taken other) = absurd (cc)

-- emitting that did not end is answered by More
pub answer_of-IsOk : {T : Type 0} (r : Result T Halt) → IsOk r → answer_of r ≡ Ok More
answer_of-IsOk (Ok x) ok = refl
answer_of-IsOk (Err halt) ok = absurd (false≢true ok)

-- where a growth was refused, nothing more is emitted
pub OrNone-starved : {S T : Type 0} {takes : S → ℕ → List ℕ → Result Next Fault → S → Type 0} {s : S} (lines : List (ℕ × List ℕ)) (r : Result T Halt) → r ≡ Err (Failed OutOfMemory) → EmitsOrNone takes s lines (answer_of r) s
OrNone-starved {takes = takes} {s = s} lines r e = subst (λ q. EmitsOrNone takes s lines (answer_of q) s) (sym e) NotBegun

-- nor where it was refused after all lines
pub OrAll-held : {S T : Type 0} {takes : S → ℕ → List ℕ → Result Next Fault → S → Type 0} {left : List ℕ} {s t : S} {lines : List (ℕ × List ℕ)} (r : Result T Halt) → Emitted takes s lines (Ok More) t → OnErr r (r ≡ Err (Failed OutOfMemory)) → OnErr r (0 < length left)
    → EmitsOrAll takes left s lines (answer_of r) t
OrAll-held (Ok x) h starved some = Ended h
OrAll-held {takes = takes} {left = left} {s = s} {t = t} {lines = lines} (Err halt) h starved some = subst (λ q. EmitsOrAll takes left s lines (answer_of q) t) (sym starved) (NotHeld some h)

-- nor where there are none
pub Emits-held : {S T : Type 0} {takes : S → ℕ → List ℕ → Result Next Fault → S → Type 0} {held left : List ℕ} {s : S} {lines : List (ℕ × List ℕ)} (r : Result T Halt) → 0 < length held → Emitted takes s lines (Ok More) s → OnErr r (r ≡ Err (Failed OutOfMemory))
    → Emits takes held left s lines (answer_of r) s
Emits-held (Ok x) some h starved = Whole h
Emits-held {takes = takes} {held = held} {left = left} {s = s} {lines = lines} (Err halt) some h starved = subst (λ q. Emits takes held left s lines (answer_of q) s) (sym starved) (StarvedFirst some)

-- nor where the stream would become too long
pub Emits-refused : {S T : Type 0} {takes : S → ℕ → List ℕ → Result Next Fault → S → Type 0} {held left : List ℕ} {s : S} (lines : List (ℕ × List ℕ)) (r : Result T Halt) → r ≡ Err (Failed StreamTooLong) → Emits takes held left s lines (answer_of r) s
Emits-refused {takes = takes} {held = held} {left = left} {s = s} lines r e = subst (λ q. Emits takes held left s lines (answer_of q) s) (sym e) Refused

-- lines that are the same are emitted alike
pub Emitted-lines : {S : Type 0} {takes : S → ℕ → List ℕ → Result Next Fault → S → Type 0} {s t : S} {lines others : List (ℕ × List ℕ)} {answer : Result Next Fault} → lines ≡ others → Emitted takes s lines answer t → Emitted takes s others answer t
Emitted-lines {takes = takes} {s = s} {t = t} {answer = answer} e h = subst (λ ls. Emitted takes s ls answer t) e h

pub Emits-lines : {S : Type 0} {takes : S → ℕ → List ℕ → Result Next Fault → S → Type 0} {held left : List ℕ} {s t : S} {lines others : List (ℕ × List ℕ)} {answer : Result Next Fault} → lines ≡ others → Emits takes held left s lines answer t → Emits takes held left s others answer t
Emits-lines {takes = takes} {held = held} {left = left} {s = s} {t = t} {answer = answer} e h = subst (λ ls. Emits takes held left s ls answer t) e h

pub OrAll-lines : {S : Type 0} {takes : S → ℕ → List ℕ → Result Next Fault → S → Type 0} {left : List ℕ} {s t : S} {lines others : List (ℕ × List ℕ)} {answer : Result Next Fault} → lines ≡ others → EmitsOrAll takes left s lines answer t → EmitsOrAll takes left s others answer t
OrAll-lines {takes = takes} {left = left} {s = s} {t = t} {answer = answer} e h = subst (λ ls. EmitsOrAll takes left s ls answer t) e h

-- and so where the bytes that remain are the same
pub Emits-rest : {S : Type 0} {takes : S → ℕ → List ℕ → Result Next Fault → S → Type 0} {held left other : List ℕ} {s t : S} {lines : List (ℕ × List ℕ)} {answer : Result Next Fault} → left ≡ other → Emits takes held left s lines answer t → Emits takes held other s lines answer t
Emits-rest {takes = takes} {held = held} {s = s} {t = t} {lines = lines} {answer = answer} e h = subst (λ rest. Emits takes held rest s lines answer t) e h

-- what holds in any case, holds where the answer is so
pub OnOk-any : {T E P : Type 0} (r : Result T E) → P → OnOk r P
OnOk-any (Ok x) p = p
OnOk-any (Err e) p = tt

-- lines that are emitted from one state on are emitted from an earlier one
pub record EmittedOn {S : Type 0} (takes : S → ℕ → List ℕ → Result Next Fault → S → Type 0) (s : S) (lines : List (ℕ × List ℕ)) (t : S) (rest : List (ℕ × List ℕ)) : Type 0 where
  pub go : (answer : Result Next Fault) (u : S) → Emitted takes t rest answer u → Emitted takes s lines answer u

module _ (test : List ℕ → Bool) (before : ℕ) (text line rest : List ℕ) (cut : IsFirstLine text line rest) where
  -- the lines of a text are its first one and those after it
  pub numbered-first : numbered test before (ended_lines text) ≡ numbered test before (line ∷ []) ++ numbered test (before + 1) (ended_lines rest)
  numbered-first = ap (λ t. numbered test before (ended_lines t)) cut.whole ∙ ap (numbered test before) (ended_lines-newline line rest cut.one) ∙ numbered-cons test before line (ended_lines rest)

  -- how long it is, and how many lines it has
  pub length-first : length text ≡ length line + suc (length rest)
  length-first = ap length cut.whole ∙ length-append line (10 ∷ rest)

  pub count-first : length (ended_lines text) ≡ suc (length (ended_lines rest))
  count-first = ap (λ t. length (ended_lines t)) cut.whole ∙ ap length (ended_lines-newline line rest cut.one)

-- a prefix of the remaining lines was taken
pub EmittedOn-prefix : {S : Type 0} {takes : S → ℕ → List ℕ → Result Next Fault → S → Type 0} {s t u : S} {whole all prefix rest : List (ℕ × List ℕ)} → EmittedOn takes s whole t all → all ≡ prefix ++ rest → Emitted takes t prefix (Ok More) u → EmittedOn takes s whole u rest
EmittedOn-prefix {takes = takes} {t = t} p parts h = record { go = λ answer v later. p.go answer v (subst (λ ls. Emitted takes t ls answer v) (sym parts) (Emitted-join h later)) }

-- one of its lines was the last
pub EmittedOn-last : {S : Type 0} {takes : S → ℕ → List ℕ → Result Next Fault → S → Type 0} {s t u : S} {whole all prefix : List (ℕ × List ℕ)} {answer : Result Next Fault} (rest : List (ℕ × List ℕ)) → EmittedOn takes s whole t all → all ≡ prefix ++ rest → Emitted takes t prefix answer u → answer ≢ Ok More → Emitted takes s whole answer u
EmittedOn-last {takes = takes} {t = t} {u = u} {answer = answer} rest p parts h halted = p.go answer u (subst (λ ls. Emitted takes t ls answer u) (sym parts) (Emitted-halted rest h halted))

-- with no newline left, all lines were taken
pub EmittedOn-end : {S : Type 0} {takes : S → ℕ → List ℕ → Result Next Fault → S → Type 0} {s t : S} {whole : List (ℕ × List ℕ)} (test : List ℕ → Bool) (before : ℕ) (text : List ℕ) → IsOnePiece text
    → EmittedOn takes s whole t (numbered test before (ended_lines text)) → Emitted takes s whole (Ok More) t
EmittedOn-end {takes = takes} {t = t} test before text one p = p.go (Ok More) t (subst (λ ls. Emitted takes t (numbered test before ls) (Ok More) t) (sym (ended_lines-none text one)) NoneLeft)

pub count-none : (text : List ℕ) → IsOnePiece text → length (ended_lines text) ≡ 0
count-none text one = ap length (ended_lines-none text one)
