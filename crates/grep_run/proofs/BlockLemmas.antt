-- A block as its lines come.
use Rattle.std.proofs.Common.{◌≡◌, ℕ, ◌+◌, ◌-◌, ◌^◌, ◌<◌, Bool, true, false, ◌||◌, not, cond, List, [], ◌∷◌, ◌++◌, flat_map, length, min, Result, Ok, Err, refl, sym, ap, ◌∙◌, append_assoc, append-nil, length-append, arith, codes}
use Rattle.std.proofs.lemmas.Bool.{lt-ltb}
use Rattle.std.specs.Prelude.{decimal, nat_lt}
use Rattle.line_pick.specs.Emitting.{Emitted, NoneLeft, OneMore, LastOne, as_numbered}
use Rattle.line_pick.specs.declared.fault.Fault.{Fault}
use Rattle.line_pick.specs.declared.sink.Next.{Next}
use Rattle.line_pick.specs.declared.sink.Next.TheVariants.{More, Stop}
use Rattle.grep_run.specs.declared.block.Block.{Block}
use Rattle.grep_run.specs.declared.options.GrepOptions.{GrepOptions}
use Rattle.grep_run.specs.Blocks.{block_of, has_any, prefix_of, written_line}
use Rattle.grep_run.specs.Growing.{AddsLine, TakesLine, added_line, are_shown, ending_of, next_of}

-- no byte
abbrev nothing : List ℕ
nothing = []

-- lines that add nothing
flat_map-none : {X : Type 0} (xs : List X) → flat_map (λ (x : X). nothing) xs ≡ nothing
flat_map-none [] = refl
flat_map-none (x ∷ xs) = flat_map-none xs

-- what all selected lines add, and the end, are the block
pub block-parts : (o : GrepOptions) (name : List ℕ) (emitted : List (ℕ × List ℕ)) → flat_map (added_line o name) emitted ++ ending_of o name (length emitted) ≡ block_of o name emitted
block-parts o name emitted =
    elim o.quiet as (λ q. flat_map (λ n. cond (q || (o.list || o.count)) [] (written_line o name n)) emitted ++ (cond q [] (cond o.list (cond (nat_lt 0 (length emitted)) (name ++ codes "\n") []) (cond o.count (prefix_of o name ++ (decimal (length emitted) ++ codes "\n")) [])))
    ≡ cond q [] (cond o.list (cond (has_any emitted) (name ++ codes "\n") []) (cond o.count (prefix_of o name ++ (decimal (length emitted) ++ codes "\n")) (flat_map (written_line o name) emitted)))) [
      | true ↦ append-nil _ ∙ flat_map-none emitted
      | false ↦ elim o.list as (λ l. flat_map (λ n. cond (l || o.count) [] (written_line o name n)) emitted ++ (cond l (cond (nat_lt 0 (length emitted)) (name ++ codes "\n") []) (cond o.count (prefix_of o name ++ (decimal (length emitted) ++ codes "\n")) []))
          ≡ cond l (cond (has_any emitted) (name ++ codes "\n") []) (cond o.count (prefix_of o name ++ (decimal (length emitted) ++ codes "\n")) (flat_map (written_line o name) emitted))) [
            | true ↦ ap (λ t. t ++ cond (nat_lt 0 (length emitted)) (name ++ codes "\n") []) (flat_map-none emitted)
            | false ↦ elim o.count as (λ k. flat_map (λ n. cond k [] (written_line o name n)) emitted ++ cond k (prefix_of o name ++ (decimal (length emitted) ++ codes "\n")) []
                ≡ cond k (prefix_of o name ++ (decimal (length emitted) ++ codes "\n")) (flat_map (written_line o name) emitted)) [
                  | true ↦ ap (λ t. t ++ (prefix_of o name ++ (decimal (length emitted) ++ codes "\n"))) (flat_map-none emitted)
                  | false ↦ append-nil _
                ]
          ]
    ]

-- where no line is wanted after the first, nothing is written of lines
none-wanted : (quiet list count : Bool) (text : List ℕ) → (quiet || list) ≡ true → cond (quiet || (list || count)) [] text ≡ []
none-wanted true list count text e = refl
none-wanted false true count text e = refl
none-wanted false false count text e = (cc)

-- and the end says only that there is one
pub ending-any : (o : GrepOptions) (name : List ℕ) (count : ℕ) (emitted : List (ℕ × List ℕ)) → (o.quiet || o.list) ≡ true → nat_lt 0 count ≡ has_any emitted → ending_of o name count ≡ block_of o name emitted
ending-any o name count emitted e any =
    elim o.quiet as (λ q. (q || o.list) ≡ true → cond q [] (cond o.list (cond (nat_lt 0 count) (name ++ codes "\n") []) (cond o.count (prefix_of o name ++ (decimal count ++ codes "\n")) []))
    ≡ cond q [] (cond o.list (cond (has_any emitted) (name ++ codes "\n") []) (cond o.count (prefix_of o name ++ (decimal (length emitted) ++ codes "\n")) (flat_map (written_line o name) emitted)))) [
      | true ↦ λ _. refl
      | false ↦ elim o.list as (λ l. (false || l) ≡ true → cond l (cond (nat_lt 0 count) (name ++ codes "\n") []) (cond o.count (prefix_of o name ++ (decimal count ++ codes "\n")) [])
          ≡ cond l (cond (has_any emitted) (name ++ codes "\n") []) (cond o.count (prefix_of o name ++ (decimal (length emitted) ++ codes "\n")) (flat_map (written_line o name) emitted))) [
            | true ↦ λ _. ap (λ b. cond b (name ++ codes "\n") []) any
            | false ↦ λ wrong. cc
          ]
    ] e

-- one of the earlier lines is one of all
pub any-after : (emitted more : List (ℕ × List ℕ)) → 0 < length emitted → has_any (emitted ++ more) ≡ true
any-after emitted more some = lt-ltb 0 (length (emitted ++ more)) (omega (arith, length-append emitted more))

-- a block that wants no line more is one of -q or -l
pub wants-none : (quiet list : Bool) → cond (quiet || list) Stop More ≡ Stop → (quiet || list) ≡ true
wants-none true list e = refl
wants-none false true e = refl
wants-none false false e = (cc)

-- where no numbers are written, a line adds the same under each
added-bare : (o : GrepOptions) (name : List ℕ) (n m : ℕ) (line : List ℕ) → o.number ≡ false → added_line o name (n, line) ≡ added_line o name (m, line)
added-bare o name n m line none =
    let shown : Bool → ℕ → List ℕ = λ k number. cond (o.quiet || (o.list || o.count)) [] (prefix_of o name ++ (cond k (decimal number ++ codes ":") [] ++ (line ++ codes "\n"))) in
    ap (λ k. shown k n) none ∙ sym (ap (λ k. shown k m) none)

-- and is taken alike
pub takes-bare : (old new : Block) (n m : ℕ) (line : List ℕ) (answer : Result Next Fault) → old.options.now.number ≡ false → as_numbered false TakesLine old n line answer new → TakesLine old m line answer new × (new.options.now.number ≡ false)
takes-bare old new n m line (Ok next) none w =
    let h : AddsLine old w.0 line next new = w.1 in
    (record { text = h.text ∙ ap (λ added. old.text.items ++ added) (added-bare old.options.now old.name.now w.0 m line none); count = h.count; next = h.next; options = h.options; name = h.name }, ap (λ o. o.number) h.options ∙ none)
takes-bare old new n m line (Err fault) none w = (w.1, ap (λ o. o.number) w.1.1.0 ∙ none)

-- where no lines are written, a line adds nothing
hidden : (b : Bool) (text : List ℕ) → not b ≡ false → cond b [] text ≡ []
hidden true text e = refl
hidden false text e = (cc)

-- and any other is taken alike
takes-unseen : (old new : Block) (n m : ℕ) (line other : List ℕ) (answer : Result Next Fault) → are_shown old.options.now ≡ false → TakesLine old n line answer new → TakesLine old m other answer new × (are_shown new.options.now ≡ false)
takes-unseen old new n m line other (Ok next) none h =
    let o = old.options.now in
    let b = o.quiet || (o.list || o.count) in
    let same = hidden b (written_line o old.name.now (n, line)) none ∙ sym (hidden b (written_line o old.name.now (m, other)) none) in
    (record { text = h.text ∙ ap (λ added. old.text.items ++ added) same; count = h.count; next = h.next; options = h.options; name = h.name }, ap are_shown h.options ∙ none)
takes-unseen old new n m line other (Err fault) none h = (h, ap are_shown h.1.0 ∙ none)

-- so as many other lines are
pub emitted-unseen : {old new : Block} {lines : List (ℕ × List ℕ)} {answer : Result Next Fault} (others : List (ℕ × List ℕ)) → length lines ≡ length others → are_shown old.options.now ≡ false → Emitted TakesLine old lines answer new → Emitted TakesLine old others answer new
emitted-unseen [] same none NoneLeft = NoneLeft
emitted-unseen (x ∷ others) same none NoneLeft = absurd (omega (arith, same))
emitted-unseen [] same none (OneMore h rest) = absurd (omega (arith, same))
emitted-unseen ((m, other) ∷ others) same none (OneMore {s = s} {t = mid} {number = number} {line = line} h rest) =
    let next = takes-unseen s mid number m line other (Ok More) none h in
    OneMore next.0 (emitted-unseen others (omega (arith, same)) next.1 rest)
emitted-unseen [] same none (LastOne h last) = absurd (omega (arith, same))
emitted-unseen ((m, other) ∷ others) same none (LastOne {s = s} {t = t} {number = number} {line = line} {answer = answer} h last) = LastOne (takes-unseen s t number m line other answer none h).0 last

-- a block that has taken lines and wants more
pub record HasMore (o : GrepOptions) (name : List ℕ) (lines : List (ℕ × List ℕ)) (old new : Block) : Type 0 where
  pub options : new.options.now ≡ o
  pub called : new.name.now ≡ name
  pub text : new.text.items ≡ old.text.items ++ flat_map (added_line o name) lines
  pub count : (n : ℕ) → old.count ≡ min n (2 ^ 64 - 1) → new.count ≡ min (n + length lines) (2 ^ 64 - 1)
  pub unwanted : next_of o ≡ Stop → lines ≡ []

-- one more, where numbers stop at their greatest
one-more : (n : ℕ) → min (min n (2 ^ 64 - 1) + 1) (2 ^ 64 - 1) ≡ min (n + 1) (2 ^ 64 - 1)
one-more n = omega arith

-- what one line adds, by the options and the name of all
adds-same : (o : GrepOptions) (name : List ℕ) {old new : Block} (number : ℕ) (line : List ℕ) (answer : Next) → AddsLine old number line answer new → old.options.now ≡ o → old.name.now ≡ name
    → new.text.items ≡ old.text.items ++ added_line o name (number, line)
adds-same o name {old} {new} number line answer h same named =
    h.text ∙ ap (λ p. old.text.items ++ added_line p old.name.now (number, line)) same ∙ ap (λ n. old.text.items ++ added_line o n (number, line)) named

pub emitted-more : (o : GrepOptions) (name : List ℕ) {old new : Block} {lines : List (ℕ × List ℕ)} → Emitted TakesLine old lines (Ok More) new → old.options.now ≡ o → old.name.now ≡ name → HasMore o name lines old new
emitted-more o name {old} NoneLeft same named = record {
  options = same;
  called = named;
  text = sym (append-nil old.text.items);
  count = λ n is. is ∙ ap (λ k. min k (2 ^ 64 - 1)) (omega arith);
  unwanted = λ stop. refl;
}
emitted-more o name {old} {new} (OneMore {t = mid} {number = number} {line = line} {rest = rest} first others) same named =
    let then = emitted-more o name others (first.options ∙ same) (first.name ∙ named) in
    record {
      options = then.options;
      called = then.called;
      text = then.text ∙ ap (λ t. t ++ flat_map (added_line o name) rest) (adds-same o name number line More first same named) ∙ append_assoc old.text.items (added_line o name (number, line)) (flat_map (added_line o name) rest);
      count = λ n is. then.count (n + 1) (first.count ∙ ap (λ k. min (k + 1) (2 ^ 64 - 1)) is ∙ one-more n) ∙ ap (λ k. min k (2 ^ 64 - 1)) (omega arith);
      unwanted = λ stop. let wrong : More ≡ Stop = first.next ∙ ap next_of same ∙ stop in (cc);
    }
emitted-more o name (LastOne last other) same named = absurd (other refl)

-- a block that wants no line any more has taken one
pub record HasStopped (o : GrepOptions) (name : List ℕ) (lines : List (ℕ × List ℕ)) (new : Block) : Type 0 where
  pub options : new.options.now ≡ o
  pub called : new.name.now ≡ name
  pub stop : next_of o ≡ Stop
  pub some : 0 < length lines
  pub count : 0 < new.count

pub emitted-stop : (o : GrepOptions) (name : List ℕ) {old new : Block} {lines : List (ℕ × List ℕ)} → Emitted TakesLine old lines (Ok Stop) new → old.options.now ≡ o → old.name.now ≡ name → HasStopped o name lines new
emitted-stop o name (OneMore first others) same named =
    let then = emitted-stop o name others (first.options ∙ same) (first.name ∙ named) in
    let wrong : More ≡ Stop = first.next ∙ ap next_of same ∙ then.stop in (cc)
emitted-stop o name (LastOne last other) same named = record {
  options = last.options ∙ same;
  called = last.name ∙ named;
  stop = sym (last.next ∙ ap next_of same);
  some = omega arith;
  count = omega (arith, last.count);
}

-- and it holds the same text
pub emitted-stop-text : (o : GrepOptions) (name : List ℕ) {old new : Block} {lines : List (ℕ × List ℕ)} → Emitted TakesLine old lines (Ok Stop) new → old.options.now ≡ o → old.name.now ≡ name → new.text.items ≡ old.text.items ++ nothing
emitted-stop-text o name (OneMore first others) same named =
    let then = emitted-stop o name others (first.options ∙ same) (first.name ∙ named) in
    let wrong : More ≡ Stop = first.next ∙ ap next_of same ∙ then.stop in (cc)
emitted-stop-text o name {old} (LastOne {number = number} {line = line} last other) same named =
    adds-same o name number line Stop last same named
    ∙ ap (λ t. old.text.items ++ t) (none-wanted o.quiet o.list o.count (written_line o name (number, line)) (wants-none o.quiet o.list (sym (last.next ∙ ap next_of same))))
