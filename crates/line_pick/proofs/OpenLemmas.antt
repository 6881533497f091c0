-- What decides an open line.
use Rattle.std.proofs.Common.{◌≡◌, ◌≢◌, ℕ, ◌+◌, ◌-◌, ◌<◌, ◌≤◌, Bool, true, false, not, cond, eqb, min, List, [], ◌∷◌, ◌++◌, length, take, drop, slice_range, All, MatchOption, Option, None, Some, inl, inr, refl, sym, ap, ◌∙◌, subst, append_assoc, append-nil, take-append-drop, arith}
use Rattle.std.specs.Cmp.{both_ways}
use Rattle.std.specs.Option.{is_some, option_copied}
use Rattle.std.proofs.lemmas.Bool.{cases_lt, eqb-false, eqb-true}
use Rattle.std.proofs.lemmas.List.{length-append, length-drop, length-map, length-take, take_all}
use Rattle.std.proofs.lemmas.List.Elements.{All-append, All-cons, All-nil}
use Rattle.std.proofs.lemmas.Option.{get_or_from_slice_get, slice_get_within}
use Rattle.lit_base.specs.Lines.{IsOnePiece, ended_lines, last_line, open_rest}
use Rattle.lit_base.specs.Literals.{Literals, IsNormal, lengths}
use Rattle.lit_base.specs.Occurrences.{HasEnd, IsFirstEnding, NoneEnds, Occurs}
use Rattle.lit_base.specs.NextEnds.{IsNextEnd, NoEndAfter}
use Rattle.lit_base.specs.Selected.{is_selected, matches}
use Rattle.lit_base.proofs.EndedLemmas.{ended_lines-newline, ended_lines-none, open_rest-apart, open_rest-newline, open_rest-none}
use Rattle.lit_base.proofs.MatchLemmas.{matching}
use Rattle.lit_base.proofs.PieceLemmas.{null_if}
use Rattle.lit_plan.specs.Plans.{Plan}
use Rattle.text_ends.proofs.Occurring.{occurs_after, occurs_in_prefix, occurs_in_rest, occurs_of_prefix}
use Rattle.line_pick.specs.Emitting.{numbered}
use Rattle.line_pick.specs.declared.matcher.Matcher.{Matcher}
use Rattle.line_pick.specs.Matching.{fold_of, literals_of, literals_and_null, picks}
use Rattle.line_pick.specs.OpenLines.{Decides, IsDecided, IsDecidingPart}
use Rattle.line_pick.proofs.AroundHitLines.{picks-literals, picks-none, picks-null}
use Rattle.line_pick.proofs.Literals.{own_length, too-long}
use Rattle.text_lines.proofs.LiteralParts.{end-from_match, match-from_end, own_some}
use Rattle.text_lines.proofs.Newlines.{one-append}

-- a line decides itself, and what decides a text that decides a line decides the line
pub decides-itself : (test : List ℕ → Bool) (line : List ℕ) → IsOnePiece line → Decides test line line
decides-itself test line one = record { same = λ more. refl; one = one; few = omega arith; some = λ some. some }

pub decides-on : {test : List ℕ → Bool} {kept text line : List ℕ} → Decides test kept text → Decides test text line → Decides test kept line
decides-on d e = record {
  same = λ more. d.same more ∙ e.same more;
  one = d.one;
  few = omega (arith, d.few, e.few);
  some = λ some. d.some (e.some some);
}

-- a line in three parts
three-parts : (line : List ℕ) (start end : ℕ) → line ≡ take start line ++ (slice_range line start end ++ drop (end - start) (drop start line))
three-parts line start end =
    sym (take-append-drop start line) ∙ ap (λ t. take start line ++ t) (sym (take-append-drop (end - start) (drop start line)))

-- the null pattern is shorter than a line of some bytes
null-short : (has_empty : Bool) (line : List ℕ) → 0 < length line → All (λ (t : List ℕ). length t < length line) (null_if has_empty)
null-short true line some = All-cons (λ (t : List ℕ). length t < length line) [] [] some (All-nil (λ (t : List ℕ). length t < length line))
null-short false line some = All-nil (λ (t : List ℕ). length t < length line)

-- and so is each literal than a line that is longer than the longest
all-short : (texts : List (List ℕ)) (has_empty : Bool) (longest : ℕ) (line : List ℕ) → All (λ t. length t ≤ longest) texts → longest < length line → All (λ t. length t < length line) (texts ++ null_if has_empty)
all-short texts has_empty longest line bound long =
    All-append (λ t. length t < length line) texts (null_if has_empty) (λ k d inside. omega (arith, bound k d inside)) (null-short has_empty line (omega arith))

-- the test of a picker, by whether a line matches
pub tested : (invert : Bool) {m n : Bool} → m ≡ n → cond invert (not m) m ≡ cond invert (not n) n
tested invert e = ap (λ m. cond invert (not m) m) e

module _ (l : Literals) (normal : IsNormal l) where
  -- a literal that ends at the end of a text is there however the text goes on
  pub end-stays : (line more : List ℕ) (end : ℕ) → HasEnd l line end → matches l.folding false l.texts (line ++ more) ≡ true
  end-stays line more end h =
      (matching.matches l.folding false l.texts (line ++ more)).1 (match-from_end l normal (line ++ more) end (h.0, occurs_of_prefix l line more h.0 end h.1))

  -- one that a search finds there
  pub found-stays : (line more : List ℕ) (found : Option ℕ) → MatchOption found (NoneEnds l line 0 (length line)) (IsFirstEnding l line 0 (length line)) → is_some found ≡ true → matches l.folding false l.texts (line ++ more) ≡ true
  found-stays line more None none is = absurd (cc)
  found-stays line more (Some place) first is = end-stays line more (length line) (place, first.occurs)

module _ (l : Literals) (normal : IsNormal l) (longest : ℕ) (bound : All (λ len. len ≤ longest) (lengths l)) where
  -- no literal is longer
  fits : (text : List ℕ) (place end : ℕ) (o : Occurs l text place end) → length o.literal ≤ longest
  fits text place end o =
      let inside = slice_get_within l.texts place o.literal o.stands in
      omega (arith, bound place 0 (omega (arith, inside, length-map l.texts (length {A = ℕ}))), own_length l normal text place o.literal o.stands)

  -- it stands in the last bytes before its end
  end-in-part : (line : List ℕ) (end : ℕ) → end ≤ length line → HasEnd l line end → HasEnd l (slice_range line (end - longest) end) (length (slice_range line (end - longest) end))
  end-in-part line end within h =
      let start = end - longest in
      let a = take start line in
      let kept = slice_range line start end in
      let b = drop (end - start) (drop start line) in
      let low : length a ≡ start = omega (arith, length-take start line) in
      let size : length kept ≡ end - start = omega (arith, length-take (end - start) (drop start line), length-drop start line) in
      let at : end ≡ length a + length kept = omega (arith, low, size) in
      let moved : Occurs l (a ++ (kept ++ b)) h.0 (length a + length kept) = subst (λ t. Occurs l t h.0 (length a + length kept)) (three-parts line start end) (subst (λ e. Occurs l line h.0 e) at h.1) in
      let small : length moved.literal ≤ length kept = omega (arith, fits (a ++ (kept ++ b)) h.0 (length a + length kept) moved, moved.begins, low, size, at) in
      (h.0, occurs_in_prefix l kept b h.0 (length kept) (omega arith) (occurs_in_rest l a (kept ++ b) h.0 (length kept) moved small))

  -- there is a literal where one ends
  some-literal : (line : List ℕ) (end : ℕ) → HasEnd l line end → 0 < longest
  some-literal line end h =
      let o = h.1 in
      let inside = slice_get_within l.texts h.0 o.literal o.stands in
      let here = get_or_from_slice_get l.texts h.0 o.literal o.literal o.stands in
      omega (arith, fits line h.0 end o, own_some l normal line h.0 o.literal inside here)

  -- the last bytes up to the end of a literal decide the line
  pub hit-part : (line : List ℕ) (start end : ℕ) → start ≡ end - longest → IsNextEnd l line 0 end → IsDecidingPart (matches l.folding false l.texts) longest line start end
  hit-part line start end is n =
      let h = end-in-part line end n.within n.here in
      let some = some-literal line end n.here in
      subst (λ s. IsDecidingPart (matches l.folding false l.texts) longest line s end) (sym is) (record {
        same = λ more. end-stays l normal (slice_range line (end - longest) end) more (length (slice_range line (end - longest) end)) h ∙ sym (end-stays l normal line more end n.here);
        ordered = omega arith;
        within = n.within;
        few = omega arith;
        some = λ _. omega (arith, n.after, some);
      })

  -- where none ends in a line, its last bytes decide it: what ends later begins in them
  module _ (line : List ℕ) (keep : ℕ) (long : longest ≤ keep + 1) (none : NoEndAfter l line 0) where
    abbrev start : ℕ
    start = length line - keep

    abbrev tail : List ℕ
    tail = slice_range line start (length line)

    abbrev before : List ℕ
    before = take start line

    tail-whole : line ≡ before ++ tail
    tail-whole =
        sym (take-append-drop start line) ∙ ap (λ t. take start line ++ t) (sym (take_all (length line - start) (drop start line) (omega (arith, length-drop start line))))

    before-len : length before ≡ start
    before-len = omega (arith, length-take start line)

    grown : (more : List ℕ) → before ++ (tail ++ more) ≡ line ++ more
    grown more = sym (append_assoc before tail more) ∙ ap (λ t. t ++ more) (sym tail-whole)

    -- what ends after the last bytes ends after the line
    later-line : (more : List ℕ) → matches l.folding false l.texts (tail ++ more) ≡ true → matches l.folding false l.texts (line ++ more) ≡ true
    later-line more e =
        let w = end-from_match l normal (tail ++ more) ((matching.matches l.folding false l.texts (tail ++ more)).0 e) in
        let moved : HasEnd l (line ++ more) (length before + w.0) = subst (λ t. HasEnd l t (length before + w.0)) (grown more) (w.2.0, occurs_after l before (tail ++ more) w.2.0 w.0 w.2.1) in
        (matching.matches l.folding false l.texts (line ++ more)).1 (match-from_end l normal (line ++ more) (length before + w.0) moved)

    -- and the other way
    later-tail : (more : List ℕ) → matches l.folding false l.texts (line ++ more) ≡ true → matches l.folding false l.texts (tail ++ more) ≡ true
    later-tail more e =
        let w = end-from_match l normal (line ++ more) ((matching.matches l.folding false l.texts (line ++ more)).0 e) in
        let late : length line < w.0 = elim (cases_lt (length line) w.0) [
          | inl after ↦ after
          | inr within ↦ absurd (none w.0 w.1 (w.2.0, occurs_in_prefix l line more w.2.0 w.0 within w.2.1))
        ] in
        let at : w.0 ≡ length before + (w.0 - start) = omega (arith, before-len, late) in
        let moved : Occurs l (before ++ (tail ++ more)) w.2.0 (length before + (w.0 - start)) =
        subst (λ t. Occurs l t w.2.0 (length before + (w.0 - start))) (sym (grown more)) (subst (λ n. Occurs l (line ++ more) w.2.0 n) at w.2.1) in
        let small : length moved.literal ≤ w.0 - start = omega (arith, fits (before ++ (tail ++ more)) w.2.0 (length before + (w.0 - start)) moved, moved.begins, before-len, late, long) in
        (matching.matches l.folding false l.texts (tail ++ more)).1 (match-from_end l normal (tail ++ more) (w.0 - start) (w.2.0, occurs_in_rest l before (tail ++ more) w.2.0 (w.0 - start) moved small))

    pub tail-part : (from end : ℕ) → from ≡ start → end ≡ length line → 0 < keep → keep ≤ longest + 1 → IsDecidingPart (matches l.folding false l.texts) longest line from end
    tail-part from end is_start is_end some few =
        subst (λ s. IsDecidingPart (matches l.folding false l.texts) longest line s end) (sym is_start) (subst (λ e. IsDecidingPart (matches l.folding false l.texts) longest line start e) (sym is_end) (record {
          same = λ more. both_ways (matches l.folding false l.texts (tail ++ more)) (matches l.folding false l.texts (line ++ more)) (later-line more) (later-tail more);
          ordered = omega arith;
          within = omega arith;
          few = omega (arith, few);
          some = λ more. omega (arith, some, more);
        }))

-- a prefix of a line that is longer than `most` bytes, or the line itself, is a part that decides it where the test
-- says the same after it
pub prefix-part : (test : List ℕ → Bool) (longest most : ℕ) (line : List ℕ) (start end : ℕ) → ((more : List ℕ) → test (take end line ++ more) ≡ test (line ++ more))
    → start ≡ 0 → end ≡ min (length line) (most + 1) → most ≤ longest → IsDecidingPart test longest line start end
prefix-part test longest most line start end same low is few =
    let prefix : slice_range line start end ≡ take end line = ap (λ s. take (end - s) (drop s line)) low ∙ ap (λ n. take n line) (omega arith) in
    record {
      same = λ more. ap (λ k. test (k ++ more)) prefix ∙ same more;
      ordered = omega (arith, low);
      within = omega (arith, is);
      few = omega (arith, is, low, few);
      some = λ some. omega (arith, is, low, some);
    }

module _ (m : Matcher) (whole : m.rule.whole ≡ true) (longest : ℕ) (bound : All (λ t. length t ≤ longest) (literals_of (option_copied m.plan))) where
  -- under -x a line that is longer than each pattern matches none
  long-picked : (line : List ℕ) → longest < length line → picks m line ≡ cond m.rule.invert (not false) false
  long-picked line long =
      let p = option_copied m.plan in
      ap (λ w. is_selected (fold_of p) w m.rule.invert (literals_and_null p m.has_empty) line) whole
      ∙ tested m.rule.invert (too-long (fold_of p) (literals_and_null p m.has_empty) line (all-short (literals_of p) m.has_empty longest line bound long))

  pub decided-long : (line : List ℕ) → longest < length line → IsDecided (picks m) line
  decided-long line long = record {
    some = omega (arith, long);
    same = λ more. long-picked (line ++ more) (omega (arith, long, length-append line more)) ∙ sym (long-picked line long);
  }

  -- a prefix of it that is longer than each pattern is selected as it is
  pub prefix-picked : (line : List ℕ) (end : ℕ) → end ≡ min (length line) (longest + 1) → (more : List ℕ) → picks m (take end line ++ more) ≡ picks m (line ++ more)
  prefix-picked line end is more = elim (cases_lt longest (length line)) [
    | inl long ↦ long-picked (take end line ++ more) (omega (arith, is, long, length-take end line, length-append (take end line) more)) ∙ sym (long-picked (line ++ more) (omega (arith, long, length-append line more)))
    | inr short ↦ ap (λ t. picks m (t ++ more)) (take_all end line (omega (arith, is, short)))
  ]

module _ (m : Matcher) where
  -- without -x all lines are selected alike where there is the null pattern, or no pattern
  pub null-picked : m.rule.whole ≡ false → m.has_empty ≡ true → (a b : List ℕ) → picks m a ≡ picks m b
  null-picked part is a b = sym (picks-null m a part is) ∙ picks-null m b part is

  pub none-picked : m.has_empty ≡ false → option_copied m.plan ≡ None → (a b : List ℕ) → picks m a ≡ picks m b
  none-picked null none a b = sym (picks-none m a null none) ∙ picks-none m b null none

  -- without the null pattern the literals decide
  pub literals-picked : (q : Plan) → option_copied m.plan ≡ Some q → m.rule.whole ≡ false → m.has_empty ≡ false → (a b : List ℕ)
      → matches q.literals.folding false q.literals.texts a ≡ matches q.literals.folding false q.literals.texts b → picks m a ≡ picks m b
  literals-picked q known part null a b same =
      let by : (line : List ℕ) → is_selected q.literals.folding false m.rule.invert q.literals.texts line ≡ picks m line =
      λ line. ap (λ w. is_selected q.literals.folding w m.rule.invert q.literals.texts line) (sym part) ∙ picks-literals m line q null known in
      sym (by a) ∙ tested m.rule.invert same ∙ by b

  -- and a literal at the end of a line decides it
  pub decided-hit : (q : Plan) (line : List ℕ) → option_copied m.plan ≡ Some q → m.rule.whole ≡ false → m.has_empty ≡ false → 0 < length line
      → ((more : List ℕ) → matches q.literals.folding false q.literals.texts (line ++ more) ≡ true) → IsDecided (picks m) line
  decided-hit q line known part null some stays = record {
    some = some;
    same = λ more. literals-picked q known part null (line ++ more) line (stays more ∙ sym (stays []) ∙ ap (matches q.literals.folding false q.literals.texts) (append-nil line));
  }

-- a line of some bytes is decided where all are selected alike
pub decided-any : (test : List ℕ → Bool) (line : List ℕ) → 0 < length line → ((a b : List ℕ) → test a ≡ test b) → IsDecided test line
decided-any test line some same = record { some = some; same = λ more. same (line ++ more) line }

-- a part that decides by one test decides by another that says as much
pub part-weaker : (test other : List ℕ → Bool) (longest most : ℕ) (line : List ℕ) (start end : ℕ) → ((a b : List ℕ) → test a ≡ test b → other a ≡ other b) → longest ≡ most → IsDecidingPart test longest line start end → IsDecidingPart other most line start end
part-weaker test other longest most line start end more_general is p = record {
  same = λ more. more_general (slice_range line start end ++ more) (line ++ more) (p.same more);
  ordered = p.ordered;
  within = p.within;
  few = omega (arith, p.few, is);
  some = p.some;
}

-- texts that go on alike: their lines are selected alike, and what is kept of one's open rest decides the other's
pub record Alike (test : List ℕ → Bool) (text other : List ℕ) : Type 0 where
  pub count : length (ended_lines text) ≡ length (ended_lines other)
  pub picked : (n : ℕ) → length (numbered test n (ended_lines text)) ≡ length (numbered test n (ended_lines other))
  pub rest : Decides test (open_rest text) (open_rest other)

module _ (test : List ℕ → Bool) where
  -- one more byte, which is no newline
  one-byte : (b : ℕ) (line : List ℕ) → b ≢ 10 → IsOnePiece line → IsOnePiece (line ++ b ∷ [])
  one-byte b line other one = one-append line (b ∷ []) one (All-cons (λ c. c ≢ 10) b [] other (All-nil (λ c. c ≢ 10)))

  decides-byte : (b : ℕ) (kept line : List ℕ) → b ≢ 10 → Decides test kept line → Decides test (kept ++ b ∷ []) (line ++ b ∷ [])
  decides-byte b kept line other d = record {
    same = λ more. ap test (append_assoc kept (b ∷ []) more) ∙ d.same (b ∷ more) ∙ sym (ap test (append_assoc line (b ∷ []) more));
    one = one-byte b kept other d.one;
    few = omega (arith, d.few, length-append kept (b ∷ []), length-append line (b ∷ []));
    some = λ _. omega (arith, length-append kept (b ∷ []));
  }

  -- a line is selected or not, and the lines after it
  first-picked : (n : ℕ) (first other : List ℕ) (lines : List (List ℕ)) → test first ≡ test other → length (numbered test n (first ∷ lines)) ≡ length (numbered test n (other ∷ lines))
  first-picked n first other lines same =
      let count : Bool → ℕ = λ b. cond b (length (numbered test (n + 1) lines) + 1) (length (numbered test (n + 1) lines)) in
      length-picked n first lines ∙ ap count same ∙ sym (length-picked n other lines)
    where
      length-picked : (n : ℕ) (line : List ℕ) (lines : List (List ℕ)) → length (numbered test n (line ∷ lines)) ≡ cond (test line) (length (numbered test (n + 1) lines) + 1) (length (numbered test (n + 1) lines))
      length-picked n line lines = elim (test line) as (λ b. length (cond b ((n + 1, line) ∷ numbered test (n + 1) lines) (numbered test (n + 1) lines)) ≡ cond b (length (numbered test (n + 1) lines) + 1) (length (numbered test (n + 1) lines))) [
        | true ↦ omega arith
        | false ↦ refl
      ]

  -- a newline ends both lines, and another byte goes on in both
  alike-byte : (b : ℕ) (kept line more : List ℕ) → IsOnePiece line → Decides test kept line → (is : Bool) → eqb b 10 ≡ is → (b ≢ 10 → Alike test ((kept ++ b ∷ []) ++ more) ((line ++ b ∷ []) ++ more)) → Alike test (kept ++ b ∷ more) (line ++ b ∷ more)
  alike-byte b kept line more one d true e then =
      let here : b ≡ 10 = eqb-true b 10 e in
      let same : test kept ≡ test line = ap test (sym (append-nil kept)) ∙ d.same [] ∙ ap test (append-nil line) in
      subst (λ c. Alike test (kept ++ c ∷ more) (line ++ c ∷ more)) (sym here) (record {
        count = ap length (ended_lines-newline kept more d.one) ∙ sym (ap length (ended_lines-newline line more one));
        picked = λ n. ap (λ ls. length (numbered test n ls)) (ended_lines-newline kept more d.one) ∙ first-picked n kept line (ended_lines more) same ∙ sym (ap (λ ls. length (numbered test n ls)) (ended_lines-newline line more one));
        rest = subst (λ r. Decides test r (open_rest (line ++ 10 ∷ more))) (sym (open_rest-newline kept more d.one))
            (subst (λ r. Decides test (open_rest more) r) (sym (open_rest-newline line more one)) (decides-itself test (open_rest more) (open_rest-apart more)));
      })
  alike-byte b kept line more one d false e then =
      subst (λ t. Alike test t (line ++ b ∷ more)) (append_assoc kept (b ∷ []) more) (subst (λ t. Alike test ((kept ++ b ∷ []) ++ more) t) (append_assoc line (b ∷ []) more) (then (eqb-false b 10 e)))

  -- what decides an open line stands for it, whatever follows
  pub alike : (kept line more : List ℕ) → IsOnePiece line → Decides test kept line → Alike test (kept ++ more) (line ++ more)
  alike kept line [] one d =
      let k : kept ++ [] ≡ kept = append-nil kept in
      let l : line ++ [] ≡ line = append-nil line in
      rw (k, l) (record {
        count = ap length (ended_lines-none kept d.one) ∙ sym (ap length (ended_lines-none line one));
        picked = λ n. ap (λ ls. length (numbered test n ls)) (ended_lines-none kept d.one ∙ sym (ended_lines-none line one));
        rest = rw (open_rest-none kept d.one, open_rest-none line one) d;
      })
  alike kept line (b ∷ more) one d = alike-byte b kept line more one d (eqb b 10) refl (λ other. alike (kept ++ b ∷ []) (line ++ b ∷ []) more (one-byte b line other one) (decides-byte b kept line other d))

  -- the open line itself, at the end of a text
  pub last-picked : (n : ℕ) (kept line : List ℕ) → Decides test kept line → length (numbered test n (last_line kept)) ≡ length (numbered test n (last_line line))
  last-picked n [] [] d = refl
  last-picked n [] (b ∷ bs) d = absurd (omega (arith, d.some (omega arith)))
  last-picked n (b ∷ bs) [] d = absurd (omega (arith, d.few))
  last-picked n (b ∷ bs) (x ∷ xs) d = first-picked n (b ∷ bs) (x ∷ xs) [] (ap test (sym (append-nil (b ∷ bs))) ∙ d.same [] ∙ ap test (append-nil (x ∷ xs)))
