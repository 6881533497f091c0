-- One input, piece by piece: where picker and block stand, and what they come to.
use Rattle.std.proofs.Common.{◌≡◌, ◌≢◌, ℕ, ◌+◌, ◌-◌, ◌^◌, ◌≤◌, ◌<◌, Bool, true, false, ◌||◌, ◌&&◌, not, cond, List, [], ◌∷◌, ◌++◌, eqb, flat_map, length, min, Option, None, Some, Result, Ok, Err, refl, sym, ap, ◌∙◌, subst, append_assoc, append-nil, length-append, length-take-le, take, arith}
use Rattle.byte_io.specs.Sources.{Content, IsShort, coming_of}
use Rattle.std.proofs.Math.Bool.{and-false}
use Rattle.std.proofs.lemmas.Bool.{lt-ltb}
use Rattle.std.proofs.lemmas.List.Concat.{flat_map-append}
use Rattle.std.proofs.lemmas.List.FromFn.{length-enumerate_from}
use Rattle.std.proofs.lemmas.List.Sums.{count_by-le-length, length-filter}
use Rattle.std.specs.List.{enumerate_from}
use Rattle.std.specs.Prelude.{nat_lt}
use Rattle.byte_io.specs.Devices.{Coming, EndsHere, Ending, Faulty, MayFail, ReadGives, IfKnown}
use Rattle.byte_io.specs.Devices as Devices
use Rattle.byte_io.specs.declared.device.Failed.{Failed}
use Rattle.lit_base.specs.Lines.{ended_lines, last_line, lines, open_rest}
use Rattle.lit_base.proofs.EndedLemmas.{ended_lines-append, ended_lines-none, lines-ended_open, open_rest-apart, open_rest-append}
use Rattle.line_pick.proofs.CutLemmas.{length-ended_lines}
use Rattle.text_lines.proofs.Newlines.{open_rest-nil}
use Rattle.std.proofs.lemmas.List.Elements.{All-nil}
use Rattle.line_pick.specs.declared.state.State.TheVariants.{Running}
use Rattle.line_pick.proofs.EmittedLemmas.{Emitted-from_Emits, numbered-append}
use Rattle.line_pick.proofs.NumberLemmas.{Emitted-renumbered, bare, bare-numbered}
use Rattle.line_pick.proofs.OpenLemmas.{alike, decides-itself, decides-on, last-picked}
use Rattle.line_pick.specs.Feeding.{Feeds, Finishes, IsFed, picked}
use Rattle.line_pick.specs.Emitting.{Emits, Emitted, Whole, as_numbered, numbered}
use Rattle.line_pick.specs.OpenLines.{Decides, IsKept, Keeps, most_kept}
use Rattle.line_pick.specs.Picking.{Picking}
use Rattle.line_pick.specs.declared.fault.Fault.{Fault as Failure}
use Rattle.line_pick.specs.declared.fault.Fault.TheVariants.{StreamTooLong}
use Rattle.line_pick.specs.declared.sink.Next.{Next}
use Rattle.line_pick.specs.declared.sink.Next.TheVariants.{More, Stop}
use Rattle.grep_run.specs.declared.block.Block.{Block}
use Rattle.grep_run.specs.declared.options.GrepOptions.{GrepOptions}
use Rattle.grep_run.specs.declared.request.End.TheVariants.{Clean, Fault}
use Rattle.grep_run.specs.Blocks.{block_in, block_of, has_any, is_trouble, lines_of, message_in}
use Rattle.grep_run.specs.Messages.{unreadable}
use Rattle.grep_run.specs.Growing.{IsSameBlock, TakesLine, added_line, are_shown, ending_of}
use Rattle.grep_run.specs.Scanning.{FeedsPiece, picked_by, HasFed, HasRead, HasTaken, IsHalted, StandsAfter, ended_in, is_fault}
use Rattle.grep_run.specs.declared.request.End.{End}
use Rattle.grep_run.specs.Searching.{IsCut, IsSearched}
use Rattle.grep_run.specs.Writers.{Writer, Writes, WritesPrefix}
use Rattle.grep_run.proofs.BlockLemmas.{HasMore, any-after, block-parts, ending-any, emitted-more, emitted-stop, emitted-stop-text, emitted-unseen, takes-bare, wants-none}
use Rattle.grep_run.proofs.WriterLemmas.{Writes-nil, Writes-trans, WritesPrefix-all, WritesPrefix-after, WritesPrefix-more, WritesPrefix-none, apart}

-- the selected lines among lines that follow a text
abbrev pub picked_after : (List ℕ → Bool) → List ℕ → List (List ℕ) → List (ℕ × List ℕ)
picked_after test text lines = numbered test (length (ended_lines text)) lines

-- the selected lines of a text and of what follows it
module _ (test : List ℕ → Bool) (text more : List ℕ) where
  pub ended-more : ended_in test (text ++ more) ≡ ended_in test text ++ picked_after test text (ended_lines (open_rest text ++ more))
  ended-more =
      ap (numbered test 0) (ended_lines-append text more) ∙ numbered-append test 0 (ended_lines text) (ended_lines (open_rest text ++ more))
      ∙ ap (λ n. ended_in test text ++ numbered test n (ended_lines (open_rest text ++ more))) (omega arith)

  pub all-lines : numbered test 0 (lines text) ≡ ended_in test text ++ picked_after test text (last_line (open_rest text))
  all-lines =
      ap (numbered test 0) (lines-ended_open text) ∙ numbered-append test 0 (ended_lines text) (last_line (open_rest text))
      ∙ ap (λ n. ended_in test text ++ numbered test n (last_line (open_rest text))) (omega arith)

-- what is kept of an open line, where its bytes are seen and where they are not
kept-whole : (test : List ℕ → Bool) (most : ℕ) {kept line : List ℕ} (has_bytes : Bool) → has_bytes ≡ true → Keeps has_bytes test most kept line → kept ≡ line
kept-whole test most true e k = k
kept-whole test most false e k = absurd (cc)

kept-short : (test : List ℕ → Bool) (most : ℕ) {kept line : List ℕ} (has_bytes : Bool) → has_bytes ≡ false → Keeps has_bytes test most kept line → IsKept test most kept line
kept-short test most true e k = absurd (cc)
kept-short test most false e k = k

-- lines that follow a text are emitted to a block under their numbers and with their bytes, or it writes none
module _ {o : GrepOptions} {test : List ℕ → Bool} {name text : List ℕ} {p : Picking} {b : Block} {before now : Writer} (s : StandsAfter o test name text p b before now) (lines others : List (List ℕ)) where
  emitted-by : (is_numbered : Bool) → p.is_numbered ≡ is_numbered → {t : Block} {answer : Result Next Failure} → Emitted (as_numbered is_numbered TakesLine) b (picked p lines) answer t → Emitted TakesLine b (picked_after test text lines) answer t
  emitted-by true e {t} {answer} h =
      subst (λ ls. Emitted TakesLine b ls answer t) (ap (λ pass. numbered pass p.lines lines) s.fed.tests ∙ ap (λ n. numbered test n lines) (s.fed.lines e)) h
  emitted-by false e h =
      Emitted-renumbered (λ block. block.options.now.number ≡ false) takes-bare (picked_after test text lines)
      (ap (λ pass. bare (numbered pass p.lines lines)) s.fed.tests ∙ bare-numbered test p.lines (length (ended_lines text)) lines)
      (ap (λ options. options.number) s.taken.options ∙ sym s.numbers ∙ e) h

  -- the lines themselves, or others of which as many are selected
  emitted-as : (has_bytes : Bool) → p.has_bytes ≡ has_bytes → (has_bytes ≡ true → lines ≡ others) → (has_bytes ≡ false → (n : ℕ) → length (numbered test n lines) ≡ length (numbered test n others))
      → {t : Block} {answer : Result Next Failure} → Emitted TakesLine b (picked_after test text lines) answer t → Emitted TakesLine b (picked_after test text others) answer t
  emitted-as true e same count {t} {answer} h = subst (λ ls. Emitted TakesLine b (picked_after test text ls) answer t) (same refl) h
  emitted-as false e same count h = emitted-unseen (picked_after test text others) (count refl (length (ended_lines text))) (ap are_shown s.taken.options ∙ sym s.seen ∙ e) h

  emitted-after : (p.has_bytes ≡ true → lines ≡ others) → (p.has_bytes ≡ false → (n : ℕ) → length (numbered test n lines) ≡ length (numbered test n others))
      → {t : Block} {answer : Result Next Failure} → Emitted (as_numbered p.is_numbered TakesLine) b (picked p lines) answer t → Emitted TakesLine b (picked_after test text others) answer t
  emitted-after same count h = emitted-as p.has_bytes refl same count (emitted-by p.is_numbered refl h)

module _ {o : GrepOptions} {test : List ℕ → Bool} {name text : List ℕ} {p : Picking} {b : Block} {before now : Writer} (s : StandsAfter o test name text p b before now) where
  -- the lines that a piece ends
  emitted-piece : (piece : List ℕ) → {t : Block} {answer : Result Next Failure} → Emitted (as_numbered p.is_numbered TakesLine) b (picked p (ended_lines (p.held ++ piece))) answer t
      → Emitted TakesLine b (picked_after test text (ended_lines (open_rest text ++ piece))) answer t
  emitted-piece piece h =
      emitted-after s (ended_lines (p.held ++ piece)) (ended_lines (open_rest text ++ piece)) (λ e. ap (λ held. ended_lines (held ++ piece)) (kept-whole test (most_kept p.plan) p.has_bytes e s.fed.held))
      (λ e n. (alike test p.held (open_rest text) piece (open_rest-apart text) (kept-short test (most_kept p.plan) p.has_bytes e s.fed.held).decides).picked n) h

  -- and the last line
  emitted-last : {t : Block} {answer : Result Next Failure} → Emitted (as_numbered p.is_numbered TakesLine) b (picked p (last_line p.held)) answer t → Emitted TakesLine b (picked_after test text (last_line (open_rest text))) answer t
  emitted-last h =
      emitted-after s (last_line p.held) (last_line (open_rest text)) (λ e. ap last_line (kept-whole test (most_kept p.plan) p.has_bytes e s.fed.held))
      (λ e n. last-picked test n p.held (open_rest text) (kept-short test (most_kept p.plan) p.has_bytes e s.fed.held).decides) h

module _ (test : List ℕ → Bool) (most : ℕ) (text piece held : List ℕ) where
  -- what is kept after one more piece is kept of all the text
  keeps-more : (has_bytes : Bool) (new : List ℕ) → Keeps has_bytes test most held (open_rest text) → Keeps has_bytes test most new (open_rest (held ++ piece)) → Keeps has_bytes test most new (open_rest (text ++ piece))
  keeps-more true new old k = k ∙ ap (λ h. open_rest (h ++ piece)) old ∙ sym (open_rest-append text piece)
  keeps-more false new old k = record {
    decides = subst (Decides test new) (sym (open_rest-append text piece)) (decides-on k.decides (alike test held (open_rest text) piece (open_rest-apart text) old.decides).rest);
    short = k.short;
  }

  -- and as many lines are ended
  ended-count : (has_bytes : Bool) → Keeps has_bytes test most held (open_rest text) → length (ended_lines (held ++ piece)) ≡ length (ended_lines (open_rest text ++ piece))
  ended-count true old = ap (λ h. length (ended_lines (h ++ piece))) old
  ended-count false old = (alike test held (open_rest text) piece (open_rest-apart text) old.decides).count

-- the picker after one more piece
fed-more : (test : List ℕ → Bool) (text piece : List ℕ) (p new : Picking) → HasFed test text p → IsFed p piece new → HasFed test (text ++ piece) new
fed-more test text piece p new f e = subst (HasFed test (text ++ piece)) (sym e.rest) (record {
  tests = f.tests;
  held = keeps-more test (most_kept p.plan) text piece p.held p.has_bytes new.held f.held (subst (λ pass. Keeps p.has_bytes pass (most_kept p.plan) new.held (open_rest (p.held ++ piece))) f.tests e.held);
  lines = λ e. ap (λ k. cond k (p.lines + length (ended_lines (p.held ++ piece))) 0) e ∙ ap (λ n. n + length (ended_lines (p.held ++ piece))) (f.lines e)
      ∙ ap (λ n. length (ended_lines text) + n) (ended-count test (most_kept p.plan) text piece p.held p.has_bytes f.held)
      ∙ sym (length-append (ended_lines text) (ended_lines (open_rest text ++ piece))) ∙ ap length (sym (ended_lines-append text piece));
  bytes = ap (λ n. n + length piece) f.bytes ∙ sym (length-append text piece);
  state = f.state;
})

-- what a block holds that held nothing, after lines that it took
held-lines : (o : GrepOptions) (name : List ℕ) (before_lines more : List (ℕ × List ℕ)) (old mid : Block) (before now : Writer) → HasTaken o name before_lines old before now → HasMore o name more old mid
    → mid.text.items ≡ flat_map (added_line o name) more
held-lines o name before_lines more old mid before now t m = m.text ∙ ap (λ held. held ++ flat_map (added_line o name) more) t.empty

-- what all lines add, by those before and those after
added-all : (o : GrepOptions) (name : List ℕ) (before_lines more all : List (ℕ × List ℕ)) → all ≡ before_lines ++ more
    → flat_map (added_line o name) all ≡ flat_map (added_line o name) before_lines ++ flat_map (added_line o name) more
added-all o name before_lines more all e = ap (flat_map (added_line o name)) e ∙ flat_map-append (added_line o name) before_lines more

-- more lines were taken, and written
taken-more : (o : GrepOptions) (name : List ℕ) (before_lines more all : List (ℕ × List ℕ)) (old mid new : Block) (before now further : Writer) → HasTaken o name before_lines old before now
    → HasMore o name more old mid → all ≡ before_lines ++ more → Writes now further mid.text.items → new.text.items ≡ [] → IsSameBlock mid new → HasTaken o name all new before further
taken-more o name before_lines more all old mid new before now further t m e passed none same = record {
  options = same.options ∙ m.options;
  called = same.name ∙ m.called;
  count = same.count ∙ m.count (length before_lines) t.count ∙ ap (λ n. min n (2 ^ 64 - 1)) (sym (length-append before_lines more)) ∙ ap (λ ls. min (length ls) (2 ^ 64 - 1)) (sym e);
  written = subst (Writes before further) (sym (added-all o name before_lines more all e))
      (Writes-trans before now further _ _ t.written (subst (Writes now further) (held-lines o name before_lines more old mid before now t m) passed));
  empty = none;
  unwanted = λ stop. e ∙ ap (λ ls. ls ++ more) (t.unwanted stop) ∙ m.unwanted stop;
}

-- an emission that stopped emitted its lines
emitted-stopped : {takes : Block → ℕ → List ℕ → Result Next Failure → Block → Type 0} {held left : List ℕ} {s t : Block} {lines : List (ℕ × List ℕ)} → Emits takes held left s lines (Ok Stop) t → Emitted takes s lines (Ok Stop) t
emitted-stopped (Whole h) = h

module _ {o : GrepOptions} {test : List ℕ → Bool} {name text : List ℕ} (piece : List ℕ) {p : Picking} (new_p : Picking) {b : Block} (mid : Block) {before : Writer} (now : Writer)
    (s : StandsAfter o test name text p b before now) where
  -- the lines of a piece stand after the earlier lines
  piece-lines : ended_in test (text ++ piece) ≡ ended_in test text ++ picked_after test text (ended_lines (open_rest text ++ piece))
  piece-lines = ended-more test text piece

  -- they are taken
  more-lines : Feeds TakesLine p piece b (Ok More) new_p mid → Emitted TakesLine b (picked_after test text (ended_lines (open_rest text ++ piece))) (Ok More) mid
  more-lines f = emitted-piece s piece (Emitted-from_Emits f.emitted)

  -- a piece whose lines are all taken and written
  pub fed-on : (new : Block) (further : Writer) → Feeds TakesLine p piece b (Ok More) new_p mid → Writes now further mid.text.items → new.text.items ≡ [] → IsSameBlock mid new
      → StandsAfter o test name (text ++ piece) new_p new before further
  fed-on new further f passed none same = record {
    fed = fed-more test text piece p new_p s.fed (f.more refl);
    numbers = ap (λ q. q.is_numbered) (f.more refl).rest ∙ s.numbers;
    seen = ap (λ q. q.has_bytes) (f.more refl).rest ∙ s.seen;
    taken = taken-more o name (ended_in test text) (picked_after test text (ended_lines (open_rest text ++ piece))) (ended_in test (text ++ piece)) b mid new before now further s.taken
        (emitted-more o name (more-lines f) s.taken.options s.taken.called) piece-lines passed none same;
  }

  -- all that lines of both add
  all-added : flat_map (added_line o name) (ended_in test (text ++ piece)) ≡ flat_map (added_line o name) (ended_in test text) ++ flat_map (added_line o name) (picked_after test text (ended_lines (open_rest text ++ piece)))
  all-added = added-all o name (ended_in test text) (picked_after test text (ended_lines (open_rest text ++ piece))) (ended_in test (text ++ piece)) piece-lines

  -- where their writing is cut, a prefix of all is written
  pub fed-cut : (further : Writer) → Feeds TakesLine p piece b (Ok More) new_p mid → WritesPrefix now further mid.text.items
      → WritesPrefix before further (flat_map (added_line o name) (ended_in test (text ++ piece)))
  fed-cut further f cut =
      let m = emitted-more o name (more-lines f) s.taken.options s.taken.called in
      subst (WritesPrefix before further) (sym all-added)
      (WritesPrefix-after before now further _ _ s.taken.written (subst (WritesPrefix now further) (held-lines o name (ended_in test text) (picked_after test text (ended_lines (open_rest text ++ piece))) b mid before now s.taken m) cut))

  -- where memory runs out, the text written is a prefix of all
  pub fed-starved : WritesPrefix before now (flat_map (added_line o name) (ended_in test (text ++ piece)))
  fed-starved = subst (WritesPrefix before now) (sym all-added)
      (WritesPrefix-more before now (flat_map (added_line o name) (ended_in test text)) (flat_map (added_line o name) (picked_after test text (ended_lines (open_rest text ++ piece)))) (WritesPrefix-all before now _ s.taken.written))

  -- where no line is wanted any more, one was taken
  stopped-lines : Feeds TakesLine p piece b (Ok Stop) new_p mid → Emitted TakesLine b (picked_after test text (ended_lines (open_rest text ++ piece))) (Ok Stop) mid
  stopped-lines f = emitted-piece s piece (emitted-stopped f.emitted)

  -- which adds nothing
  pub fed-halted : Feeds TakesLine p piece b (Ok Stop) new_p mid → IsHalted o name (ended_in test (text ++ piece)) mid before now
  fed-halted f =
      let h = emitted-stop o name (stopped-lines f) s.taken.options s.taken.called in
      let none : ended_in test text ≡ [] = s.taken.unwanted h.stop in
      record {
        options = h.options;
        called = h.called;
        stop = h.stop;
        some = subst (λ ls. 0 < length ls) (sym piece-lines) (omega (arith, h.some, length-append (ended_in test text) (picked_after test text (ended_lines (open_rest text ++ piece)))));
        count = h.count;
        written = subst (Writes before now) (ap (flat_map (added_line o name)) none) s.taken.written;
        empty = emitted-stop-text o name (stopped-lines f) s.taken.options s.taken.called ∙ ap (λ (held : List ℕ). held ++ []) s.taken.empty;
      }

  -- too many bytes
  pub fed-long : Feeds TakesLine p piece b (Err StreamTooLong) new_p mid → 2 ^ 64 ≤ length text + length piece
  fed-long f = subst (λ n. 2 ^ 64 ≤ n + length piece) s.fed.bytes (f.too_long.0 refl)

-- no more lines of a text are selected than it has bytes
few-numbered : (test : List ℕ → Bool) (ls : List (List ℕ)) → length (numbered test 0 ls) ≤ length ls
few-numbered test ls = omega (arith, length-filter (λ l. test l.1) (enumerate_from 1 ls), count_by-le-length (λ l. test l.1) (enumerate_from 1 ls), length-enumerate_from 1 ls)

few-ended : (text : List ℕ) → length (ended_lines text) ≤ length text
few-ended text = omega (arith, length-ended_lines text, count_by-le-length (λ b. eqb b 10) text)

few-last : (rest : List ℕ) → length (last_line rest) ≤ 1
few-last [] = omega arith
few-last (b ∷ bs) = omega arith

few-lines : (text : List ℕ) → length (lines text) ≤ length text + 1
few-lines text = omega (arith, ap length (lines-ended_open text), length-append (ended_lines text) (last_line (open_rest text)), few-ended text, few-last (open_rest text))

-- the block of a content, where all its lines have come and are written or held
pub read-whole : (o : GrepOptions) (test : List ℕ → Bool) (name : List ℕ) (c : Content) (b : Block) (before out : Writer) (texts : List (List ℕ)) (came held : List (ℕ × List ℕ)) → lines_of c ≡ texts → length texts < 2 ^ 64 - 1
    → numbered test 0 texts ≡ came ++ held → b.options.now ≡ o → b.name.now ≡ name → b.count ≡ min (length (numbered test 0 texts)) (2 ^ 64 - 1)
    → Writes before out (flat_map (added_line o name) came) → b.text.items ≡ flat_map (added_line o name) held
    → (end : End) → is_fault end ≡ is_trouble o test (Some c) → HasRead o test name c end b before out
read-whole o test name c b before out texts came held e few parts options named count written text end error =
    let exact : b.count ≡ length (numbered test 0 texts) = omega (arith, count, few-numbered test texts) in
    record {
      options = options;
      called = named;
      lines = flat_map (added_line o name) came;
      written = written;
      whole =
          ap (λ t. flat_map (added_line o name) came ++ (t ++ ending_of o name b.count)) text
          ∙ sym (append_assoc (flat_map (added_line o name) came) (flat_map (added_line o name) held) (ending_of o name b.count))
          ∙ ap (λ t. t ++ ending_of o name b.count) (sym (added-all o name came held (numbered test 0 texts) parts))
          ∙ ap (λ n. flat_map (added_line o name) (numbered test 0 texts) ++ ending_of o name n) exact ∙ block-parts o name (numbered test 0 texts) ∙ ap (λ ls. block_of o name (numbered test 0 ls)) (sym e);
      any = ap (nat_lt 0) exact ∙ ap (λ ls. has_any (numbered test 0 ls)) (sym e);
      error = error;
    }

-- the block of a content, where no line is wanted after those that came
pub read-halted : (o : GrepOptions) (test : List ℕ → Bool) (name : List ℕ) (c : Content) (b : Block) (before out : Writer) (came more : List (ℕ × List ℕ)) → numbered test 0 (lines_of c) ≡ came ++ more
    → IsHalted o name came b before out → HasRead o test name c Clean b before out
read-halted o test name c b before out came more e h =
    let wanted : (o.quiet || o.list) ≡ true = wants-none o.quiet o.list h.stop in
    let any : has_any (numbered test 0 (lines_of c)) ≡ true = ap has_any e ∙ any-after came more h.some in
    let both : nat_lt 0 b.count ≡ has_any (numbered test 0 (lines_of c)) = lt-ltb 0 b.count h.count ∙ sym any in
    record {
      options = h.options;
      called = h.called;
      lines = [];
      written = h.written;
      whole = ap (λ t. t ++ ending_of o name b.count) h.empty ∙ ending-any o name b.count (numbered test 0 (lines_of c)) wanted both;
      any = both;
      error = sym (ap (λ w. c.is_faulty && not (w && has_any (numbered test 0 (lines_of c)))) wanted ∙ ap (λ a. c.is_faulty && not a) any ∙ and-false c.is_faulty);
    }

-- the text written is a prefix of the block
pub read-prefix : (o : GrepOptions) (test : List ℕ → Bool) (name : List ℕ) (c : Content) (before out : Writer) (came more : List (ℕ × List ℕ)) → numbered test 0 (lines_of c) ≡ came ++ more
    → WritesPrefix before out (flat_map (added_line o name) came) → WritesPrefix before out (block_in o test name (Some c))
read-prefix o test name c before out came more e p =
    let all = numbered test 0 (lines_of c) in
    let tail = flat_map (added_line o name) more ++ ending_of o name (length all) in
    let parts : block_of o name all ≡ flat_map (added_line o name) came ++ tail =
    sym (block-parts o name all) ∙ ap (λ t. t ++ ending_of o name (length all)) (added-all o name came more all e)
    ∙ append_assoc (flat_map (added_line o name) came) (flat_map (added_line o name) more) (ending_of o name (length all)) in
    subst (WritesPrefix before out) (sym parts) (WritesPrefix-more before out (flat_map (added_line o name) came) tail p)

-- the answer is the known answer
pub feeds-as : {p new_p : Picking} {b new_b : Block} {piece : List ℕ} {answer known : Next} → answer ≡ known → Feeds TakesLine p piece b (Ok answer) new_p new_b → Feeds TakesLine p piece b (Ok known) new_p new_b
feeds-as {p} {new_p} {b} {new_b} {piece} e f = subst (λ n. Feeds TakesLine p piece b (Ok n) new_p new_b) e f

-- the last line of a content was taken, or none stands there
module _ {o : GrepOptions} {test : List ℕ → Bool} {name : List ℕ} (c : Content) {p : Picking} (new_p : Picking) {b : Block} (new : Block) {before now : Writer}
    (clean : c.is_faulty ≡ false) (short : IsShort c) (s : StandsAfter o test name c.text p b before now) where
  -- its lines
  clean-lines : lines_of c ≡ lines c.text
  clean-lines = ap (λ f. cond f (ended_lines c.text) (lines c.text)) clean

  clean-numbered : numbered test 0 (lines_of c) ≡ ended_in test c.text ++ picked_after test c.text (last_line (open_rest c.text))
  clean-numbered = ap (numbered test 0) clean-lines ∙ all-lines test c.text []

  -- it is no error
  clean-error : false ≡ is_trouble o test (Some c)
  clean-error = sym (ap (λ f. f && not ((o.quiet || o.list) && has_any (numbered test 0 (lines_of c)))) clean)

  pub ended-whole : Finishes TakesLine p b (Ok More) new_p new → HasRead o test name c Clean new before now
  ended-whole f =
      let m = emitted-more o name (emitted-last s f.emitted) s.taken.options s.taken.called in
      let all : numbered test 0 (lines c.text) ≡ ended_in test c.text ++ picked_after test c.text (last_line (open_rest c.text)) = all-lines test c.text [] in
      read-whole o test name c new before now (lines c.text) (ended_in test c.text) (picked_after test c.text (last_line (open_rest c.text))) clean-lines (omega (arith, few-lines c.text)) all m.options m.called
      (m.count (length (ended_in test c.text)) s.taken.count ∙ ap (λ n. min n (2 ^ 64 - 1)) (sym (length-append (ended_in test c.text) (picked_after test c.text (last_line (open_rest c.text))))) ∙ ap (λ ls. min (length ls) (2 ^ 64 - 1)) (sym all))
      s.taken.written (held-lines o name (ended_in test c.text) (picked_after test c.text (last_line (open_rest c.text))) b new before now s.taken m) Clean clean-error

  pub ended-halted : Finishes TakesLine p b (Ok Stop) new_p new → HasRead o test name c Clean new before now
  ended-halted f =
      let h = emitted-stop o name (emitted-last s f.emitted) s.taken.options s.taken.called in
      let none : ended_in test c.text ≡ [] = s.taken.unwanted h.stop in
      read-halted o test name c new before now (ended_in test c.text ++ picked_after test c.text (last_line (open_rest c.text))) [] (clean-numbered ∙ sym (append-nil (ended_in test c.text ++ picked_after test c.text (last_line (open_rest c.text))))) (record {
        options = h.options;
        called = h.called;
        stop = h.stop;
        some = omega (arith, h.some, length-append (ended_in test c.text) (picked_after test c.text (last_line (open_rest c.text))));
        count = h.count;
        written = subst (Writes before now) (ap (flat_map (added_line o name)) none) s.taken.written;
        empty = emitted-stop-text o name (emitted-last s f.emitted) s.taken.options s.taken.called ∙ ap (λ (held : List ℕ). held ++ []) s.taken.empty;
      })

  pub ended-starved : WritesPrefix before now (block_in o test name (Some c))
  ended-starved = read-prefix o test name c before now (ended_in test c.text) (picked_after test c.text (last_line (open_rest c.text))) clean-numbered (WritesPrefix-all before now _ s.taken.written)

-- whether lines come to an end at the last one
pub ended-any : {o : GrepOptions} {test : List ℕ → Bool} {name : List ℕ} (c : Content) {p : Picking} (new_p : Picking) {b : Block} (new : Block) {before now : Writer} (answer : Next)
    → c.is_faulty ≡ false → IsShort c → StandsAfter o test name c.text p b before now → Finishes TakesLine p b (Ok answer) new_p new → HasRead o test name c Clean new before now
ended-any c new_p new More clean short s f = ended-whole c new_p new clean short s f
ended-any c new_p new Stop clean short s f = ended-halted c new_p new clean short s f

-- where no line is wanted after the first, none came
not-ended : (quiet list : Bool) (came : List (ℕ × List ℕ)) → (cond (quiet || list) Stop More ≡ Stop → came ≡ []) → not ((quiet || list) && has_any came) ≡ true
not-ended true list came none = ap (λ ls. not (has_any ls)) (none refl)
not-ended false true came none = ap (λ ls. not (has_any ls)) (none refl)
not-ended false false came none = refl

-- a content whose reading ended in a fault after all its bytes
pub read-fault : {o : GrepOptions} {test : List ℕ → Bool} {name : List ℕ} (c : Content) {p : Picking} {b : Block} {before now : Writer} → c.is_faulty ≡ true → IsShort c
    → StandsAfter o test name c.text p b before now → HasRead o test name c Fault b before now
read-fault {o} {test} {name} c {p} {b} {before} {now} faulty short s =
    let lines-are : lines_of c ≡ ended_lines c.text = ap (λ f. cond f (ended_lines c.text) (lines c.text)) faulty in
    read-whole o test name c b before now (ended_lines c.text) (ended_in test c.text) [] lines-are (omega (arith, few-ended c.text)) (sym (append-nil (ended_in test c.text))) s.taken.options s.taken.called s.taken.count
    s.taken.written s.taken.empty
    Fault (sym (ap (λ f. f && not ((o.quiet || o.list) && has_any (numbered test 0 (lines_of c)))) faulty ∙ ap (λ ls. not ((o.quiet || o.list) && has_any (numbered test 0 ls))) lines-are
    ∙ not-ended o.quiet o.list (ended_in test c.text) s.taken.unwanted))

known-step : {T : Type 0} (b : Option T) (P : T → T → Type 0) (x : T) → IfKnown (Some x) b P → (y : T) × ((b ≡ Some y) × P x y)
known-step None P x t = absurd t
known-step (Some y) P x t = (y, (refl, t))

-- the value after a step, where the value before is known
reported-at : {T : Type 0} (a b : Option T) (P : T → T → Type 0) (x : T) → IfKnown a b P → a ≡ Some x → (y : T) × ((b ≡ Some y) × P x y)
reported-at a b P x t e = known-step b P x (subst (λ k. IfKnown k b P) e t)

-- the bytes so far of a content are dealt with, and the rest remains
pub record ReadSoFar (o : GrepOptions) (test : List ℕ → Bool) (name : List ℕ) (c : Content) (coming : Option Coming) (p : Picking) (b : Block) (turn : ℕ) (before now : Writer) : Type 0 where
  pub done : List ℕ
  pub rest : List ℕ
  pub parts : c.text ≡ done ++ rest
  pub left : coming ≡ Some (coming_of (record { text = rest; is_faulty = c.is_faulty }))
  pub stands : StandsAfter o test name done p b before now
  pub turns : turn ≤ length done

-- the rest comes as it came
same-coming : (y : Coming) (is_faulty : Bool) → y.ending ≡ cond is_faulty Faulty (Devices.Clean) → y ≡ coming_of (record { text = y.text; is_faulty = is_faulty })
same-coming y is_faulty e = ap (λ (ending : Ending). let same : Coming = record { text = y.text; ending = ending } in same) e

-- the lines of a content that a prefix of its text ends come first
lines-prefix : (test : List ℕ → Bool) (c : Content) (prefix rest : List ℕ) → c.text ≡ prefix ++ rest → (more : List (ℕ × List ℕ)) × (numbered test 0 (lines_of c) ≡ ended_in test prefix ++ more)
lines-prefix test c prefix rest e =
    let after : List (List ℕ) = ended_lines (open_rest prefix ++ rest) in
    let ended : ended_lines c.text ≡ ended_lines prefix ++ after = ap ended_lines e ∙ ended_lines-append prefix rest in
    elim c.is_faulty as (λ f. (more : List (ℕ × List ℕ)) × (numbered test 0 (cond f (ended_lines c.text) (lines c.text)) ≡ ended_in test prefix ++ more)) [
      | true ↦ (numbered test (0 + length (ended_lines prefix)) after, ap (numbered test 0) ended ∙ numbered-append test 0 (ended_lines prefix) after)
      | false ↦ (
        numbered test (0 + length (ended_lines prefix)) (after ++ last_line (open_rest c.text)),
        ap (numbered test 0) (lines-ended_open c.text ∙ ap (λ ls. ls ++ last_line (open_rest c.text)) ended ∙ append_assoc (ended_lines prefix) after (last_line (open_rest c.text)))
            ∙ numbered-append test 0 (ended_lines prefix) (after ++ last_line (open_rest c.text)),
      )
    ]

-- what follows a fault and a clean end
faulty-ending : (is_faulty : Bool) (text : List ℕ) → MayFail (coming_of (record { text = text; is_faulty = is_faulty })) → (is_faulty ≡ true) × (text ≡ [])
faulty-ending true text m = (refl, m.1 refl)
faulty-ending false text m = absurd (m.0 refl)

clean-ending : (is_faulty : Bool) (text : List ℕ) → EndsHere (coming_of (record { text = text; is_faulty = is_faulty })) → (is_faulty ≡ false) × (text ≡ [])
clean-ending true text h = absurd (h.ending refl)
clean-ending false text h = (refl, h.text)

module _ {o : GrepOptions} {test : List ℕ → Bool} {name : List ℕ} {c : Content} {coming : Option Coming} {p : Picking} {b : Block} {turn : ℕ} {before now : Writer}
    (later : Option Coming) (buf : List ℕ) (r : ReadSoFar o test name c coming p b turn before now) where
  -- where nothing remains, all bytes are after
  all-done : r.rest ≡ [] → StandsAfter o test name c.text p b before now
  all-done none = subst (λ t. StandsAfter o test name t p b before now) (sym (r.parts ∙ ap (λ t. r.done ++ t) none ∙ append-nil r.done)) r.stands

  -- a read that fails
  pub so_far-fault : (error : Failed) → IfKnown coming later (λ x y. ReadGives x y (Err error) buf) → IsShort c → HasRead o test name c Fault b before now
  so_far-fault error t short =
      let step = reported-at coming later _ _ t r.left in
      let ends = faulty-ending c.is_faulty r.rest step.1.1.0 in
      read-fault c ends.0 short (all-done ends.1)

  -- a read that finds the end
  pub so_far-end : (count : ℕ) → count ≡ 0 → 0 < length buf → IfKnown coming later (λ x y. ReadGives x y (Ok count) buf) → (c.is_faulty ≡ false) × StandsAfter o test name c.text p b before now
  so_far-end count none room t =
      let step = reported-at coming later _ _ t r.left in
      let ends = clean-ending c.is_faulty r.rest (step.1.1.1 none room) in
      (ends.0, all-done ends.1)

  -- the bytes after a read, and the rest of them
  pub so_far-rest : (count : ℕ) → IfKnown coming later (λ x y. ReadGives x y (Ok count) buf) → (rest : List ℕ) × ((r.rest ≡ take count buf ++ rest) × (later ≡ Some (coming_of (record { text = rest; is_faulty = c.is_faulty }))))
  so_far-rest count t =
      let step = reported-at coming later _ _ t r.left in
      (step.0.text, (step.1.1.0.text, step.1.0 ∙ ap Some (same-coming step.0 c.is_faulty step.1.1.0.ending)))

  -- one piece more
  pub so_far-more : (count : ℕ) (new_p : Picking) (new : Block) (further : Writer) → IfKnown coming later (λ x y. ReadGives x y (Ok count) buf) → 0 < count → count ≤ length buf
      → StandsAfter o test name (r.done ++ take count buf) new_p new before further → ReadSoFar o test name c later new_p new (turn + 1) before further
  so_far-more count new_p new further t some within s =
      let found = so_far-rest count t in
      record {
        done = r.done ++ take count buf;
        rest = found.0;
        parts = r.parts ∙ ap (λ x. r.done ++ x) found.1.0 ∙ sym (append_assoc r.done (take count buf) found.0);
        left = found.1.1;
        stands = s;
        turns = omega (arith, r.turns, length-append r.done (take count buf), length-take-le count buf within);
      }

  -- all selected lines, after the lines of the bytes up to one piece more
  prefix-of-all : (piece rest : List ℕ) → r.rest ≡ piece ++ rest → (more : List (ℕ × List ℕ)) × (numbered test 0 (lines_of c) ≡ ended_in test (r.done ++ piece) ++ more)
  prefix-of-all piece rest e = lines-prefix test c (r.done ++ piece) rest (r.parts ∙ ap (λ x. r.done ++ x) e ∙ sym (append_assoc r.done piece rest))

  -- a piece after which no line is wanted
  pub so_far-halted : (count : ℕ) (new : Block) (further : Writer) → IfKnown coming later (λ x y. ReadGives x y (Ok count) buf)
      → IsHalted o name (ended_in test (r.done ++ take count buf)) new before further → HasRead o test name c Clean new before further
  so_far-halted count new further t h =
      let found = so_far-rest count t in
      let prefix = prefix-of-all (take count buf) found.0 found.1.0 in
      read-halted o test name c new before further (ended_in test (r.done ++ take count buf)) prefix.0 prefix.1 h

  -- a piece that was cut
  pub so_far-cut : (count : ℕ) (further : Writer) → IfKnown coming later (λ x y. ReadGives x y (Ok count) buf)
      → WritesPrefix before further (flat_map (added_line o name) (ended_in test (r.done ++ take count buf))) → WritesPrefix before further (block_in o test name (Some c))
  so_far-cut count further t cut =
      let found = so_far-rest count t in
      let prefix = prefix-of-all (take count buf) found.0 found.1.0 in
      read-prefix o test name c before further (ended_in test (r.done ++ take count buf)) prefix.0 prefix.1 cut

  -- there are never too many bytes
  pub so_far-long : {A : Type 0} (count : ℕ) → IfKnown coming later (λ x y. ReadGives x y (Ok count) buf) → IsShort c → 2 ^ 64 ≤ length r.done + length (take count buf) → A
  so_far-long count t short long =
      let found = so_far-rest count t in
      absurd (omega (arith, ap length r.parts, length-append r.done r.rest, ap length found.1.0, length-append (take count buf) found.0))

  -- a piece that is the last one
  pub so_far-ended : (count : ℕ) (end : End) (piece : List ℕ) (new_p : Picking) (new : Block) (further : Writer) → IfKnown coming later (λ x y. ReadGives x y (Ok count) buf) → IsShort c → piece ≡ take count buf
      → FeedsPiece o test name r.done piece (Ok (Some end)) new_p new before further → HasRead o test name c end new before further
  so_far-ended count Clean piece new_p new further t short e f = so_far-halted count new further t (subst (λ x. IsHalted o name (ended_in test (r.done ++ x)) new before further) e f)
  so_far-ended count Fault piece new_p new further t short e f = so_far-long count t short (subst (λ x. 2 ^ 64 ≤ length r.done + length x) e f)

  -- nor too many turns
  pub so_far-turns : {A : Type 0} → IsShort c → 2 ^ 40 ≤ turn → A
  so_far-turns short many = absurd (omega (arith, r.turns, ap length r.parts, length-append r.done r.rest))

-- a picker before any text
pub fed-none : (test : List ℕ → Bool) (p : Picking) → picked_by p ≡ test → p.has_bytes ≡ true → p.held ≡ [] → p.lines ≡ 0 → p.bytes ≡ 0 → p.state ≡ Running → HasFed test [] p
fed-none test p tests seen held none_lines none_bytes state = record {
  tests = tests;
  held = subst (λ b. Keeps b test (most_kept p.plan) p.held (open_rest [])) (sym seen) (held ∙ sym open_rest-nil);
  lines = λ _. none_lines ∙ sym (ap length (ended_lines-none [] (All-nil (λ b. b ≢ 10))));
  bytes = none_bytes;
  state = state;
}

-- one without numbers has been fed the same
pub fed-bare : (test : List ℕ → Bool) (text : List ℕ) (p : Picking) → HasFed test text p → HasFed test text (record p { is_numbered = false; lines = 0 })
fed-bare test text p f = record { tests = f.tests; held = f.held; lines = λ e. (cc); bytes = f.bytes; state = f.state }

-- nor does it matter that one keeps only what decides an open line
pub fed-unseen : (test : List ℕ → Bool) (p : Picking) → p.has_bytes ≡ true → HasFed test [] p → HasFed test [] (record p { has_bytes = false })
fed-unseen test p seen f =
    let none : p.held ≡ [] = kept-whole test (most_kept p.plan) p.has_bytes seen f.held ∙ open_rest-nil in
    let kept : IsKept test (most_kept p.plan) [] [] = record { decides = decides-itself test [] (All-nil (λ b. b ≢ 10)); short = omega arith } in
    record {
      tests = f.tests;
      held = subst (λ k. IsKept test (most_kept p.plan) k (open_rest [])) (sym none) (subst (λ r. IsKept test (most_kept p.plan) [] r) (sym open_rest-nil) kept);
      lines = f.lines;
      bytes = f.bytes;
      state = f.state;
    }

-- whether a picker has a finder does not change where it stands
pub stands-tuned : {o : GrepOptions} {test : List ℕ → Bool} {name text : List ℕ} {p q : Picking} {b : Block} {before now : Writer} → q ≡ record p { tunes = q.tunes } → StandsAfter o test name text p b before now → StandsAfter o test name text q b before now
stands-tuned {o} {test} {name} {text} {p} {q} {b} {before} {now} same s =
    subst (λ (x : Picking). StandsAfter o test name text x b before now) (sym same) record {
      fed = record { tests = s.fed.tests; held = s.fed.held; lines = s.fed.lines; bytes = s.fed.bytes; state = s.fed.state };
      numbers = s.numbers;
      seen = s.seen;
      taken = s.taken;
    }

-- at first picker and block stand before the content
pub begin-stands : {o : GrepOptions} {test : List ℕ → Bool} {name : List ℕ} {p : Picking} {b : Block} (out : Writer) → HasFed test [] p → p.is_numbered ≡ o.number → p.has_bytes ≡ are_shown o
    → b.options.now ≡ o → b.name.now ≡ name → b.count ≡ 0 → b.text.items ≡ [] → StandsAfter o test name [] p b out out
begin-stands {o} {test} {name} {p} {b} out f numbers seen options called count empty =
    let none : ended_in test [] ≡ [] = ap (numbered test 0) (ended_lines-none [] (All-nil (λ b. b ≢ 10))) in
    record {
      fed = f;
      numbers = numbers;
      seen = seen;
      taken = record {
        options = options;
        called = called;
        count = count ∙ ap (λ ls. min (length ls) (2 ^ 64 - 1)) (sym none);
        written = subst (Writes out out) (sym (ap (flat_map (added_line o name)) none)) (Writes-nil out);
        empty = empty;
        unwanted = λ stop. none;
      };
    }

-- where the block was cut there is no message
pub search-cut : (o : GrepOptions) (test : List ℕ → Bool) (name : List ℕ) (c : Content) (out_old out_new err : Writer)
    → WritesPrefix out_old out_new (block_in o test name (Some c)) → IsCut o test name (Some c) out_old out_new err err
search-cut o test name c out_old out_new err p = record {
  output = p;
  messages = WritesPrefix-none err (message_in o test name (Some c));
  quiet = λ clear set. Writes-nil err;
  starved = λ clear. Writes-nil err;
  loud = λ none. absurd (cc);
}

module _ {o : GrepOptions} {test : List ℕ → Bool} {name : List ℕ} {c : Content} {end : End} {b : Block} {before now : Writer} (h : HasRead o test name c end b before now) (further : Writer) where
  -- the text at the end, by the options and the name of all
  abbrev ended : List ℕ
  ended = b.text.items ++ ending_of b.options.now b.name.now b.count

  end-same : h.lines ++ ended ≡ block_of o name (numbered test 0 (lines_of c))
  end-same = ap (λ p. h.lines ++ (b.text.items ++ ending_of p b.name.now b.count)) h.options ∙ ap (λ n. h.lines ++ (b.text.items ++ ending_of o n b.count)) h.called ∙ h.whole

  -- the block that was read, with its end
  pub finished-cut : (err : Writer) → WritesPrefix now further ended → IsCut o test name (Some c) before further err err
  finished-cut err cut = search-cut o test name c before further err (subst (WritesPrefix before further) end-same (WritesPrefix-after before now further h.lines ended h.written cut))

  finished : Writes now further ended → Writes before further (block_in o test name (Some c))
  finished all = subst (Writes before further) end-same (Writes-trans before now further h.lines ended h.written all)

  module _ (is_selected is_error : Bool) (err_old err_new : Writer) (all : Writes now further ended) (selected : is_selected ≡ nat_lt 0 b.count) (error : is_error ≡ is_fault end) where
    same-message : cond (is_error && not o.silent) (unreadable name) [] ≡ message_in o test name (Some c)
    same-message = ap (λ f. cond (f && not o.silent) (unreadable name) []) (error ∙ h.error)

    -- a prefix of the message was written
    pub message-cut : WritesPrefix err_old err_new (cond (is_error && not o.silent) (unreadable name) []) → (err_new.has_failed ≡ false → Writes err_old err_new []) → IsCut o test name (Some c) before further err_old err_new
    message-cut q starved = record {
      output = WritesPrefix-all before further _ (finished all);
      messages = subst (WritesPrefix err_old err_new) same-message q;
      quiet = λ clear set. apart further.has_failed set ((finished all).flag ∙ clear);
      starved = starved;
      loud = λ none. absurd (cc);
    }

    -- the message was written, if there is one
    pub message-whole : Writes err_old err_new (cond (is_error && not o.silent) (unreadable name) []) → IsSearched o test name (Some c) (record { is_selected = is_selected; is_error = is_error }) before further err_old err_new
    message-whole q = record { output = finished all; messages = subst (Writes err_old err_new) same-message q; selected = selected ∙ h.any; error = error ∙ h.error }
