-- Inputs one after another: the text written, the findings, and the asks.
use Rattle.std.proofs.Common.{◌≡◌, ◌≢◌, ℕ, ◌+◌, ◌<◌, String, string_bytes, length, get_or, drop, Bool, true, false, ◌||◌, ◌&&◌, cond, List, [], ◌∷◌, ◌++◌, map, flat_map, None, Option, Result, refl, sym, ap, ◌∙◌, subst, append_assoc, append-nil, arith}
use Rattle.byte_io.specs.Sources.{AreShort, Ask, Sources, after, after_all, ask_of, taken_by}
use Rattle.std.specs.List.{list_any}
use Rattle.std.proofs.Math.Bool.{or-false}
use Rattle.std.proofs.lemmas.List.{drop_more, map-append}
use Rattle.std.proofs.lemmas.List.Concat.{flat_map-append}
use Rattle.std.proofs.lemmas.List.Elements.{All-cons, All-nil}
use Rattle.std.proofs.lemmas.List.Folds.{list_any-append}
use Rattle.byte_io.specs.Devices.{IfKnown}
use Rattle.byte_io.proofs.KnownLemmas.{IfKnown-none, IfKnown-then}
use Rattle.grep_run.specs.declared.options.GrepOptions.{GrepOptions}
use Rattle.grep_run.specs.declared.request.Found.{Found}
use Rattle.grep_run.specs.declared.request.Request.{Request}
use Rattle.grep_run.specs.declared.status.Stop.{Stop}
use Rattle.grep_run.specs.Blocks.{block, has_selected, is_error, message}
use Rattle.grep_run.specs.Grep.{answer_to, asks, searched}
use Rattle.grep_run.specs.Searching.{AreSearched, IsCut, IsSearched, SearchesAsk, StopsAt}
use Rattle.grep_run.specs.Sources.{Input, found, name_of}
use Rattle.grep_run.specs.Writers.{Writer, Writes, WritesPrefix}
use Rattle.byte_io.proofs.OpenerLemmas.{after_all-one, short-after}
use Rattle.grep_run.proofs.WriterLemmas.{Writes-nil, Writes-trans, WritesPrefix-none}

-- what one input more gives
flat_map-one : {X : Type 0} (f : X → List ℕ) (xs : List X) (x : X) → flat_map f (xs ++ x ∷ []) ≡ flat_map f xs ++ f x
flat_map-one f xs x = flat_map-append f xs (x ∷ []) ∙ ap (λ t. flat_map f xs ++ t) (append-nil (f x))

list_any-one : {X : Type 0} (p : X → Bool) (xs : List X) (x : X) → list_any p (xs ++ x ∷ []) ≡ (list_any p xs || p x)
list_any-one p xs x = list_any-append p xs (x ∷ []) ∙ ap (λ b. list_any p xs || b) (or-false (p x))

-- the asks before the remaining asks are made, and the inputs that they found are searched
pub record InputsSoFar (o : GrepOptions) (test : List ℕ → Bool) (all rest : List Ask) (s left : Sources) (what : Found) (out_old out_new err_old err_new : Writer) : Type 0 where
  pub done : List Input
  pub prefix : searched o test (found all s) ≡ done ++ searched o test (found rest left)
  pub asked : left ≡ after_all (asks done) s
  pub short : AreShort left
  pub so_far : AreSearched (answer_to o test done) what out_old out_new err_old err_new

-- at first none is
pub InputsSoFar-none : (o : GrepOptions) (test : List ℕ → Bool) (all : List Ask) (s : Sources) (what : Found) (out err : Writer) → what.is_selected ≡ false → what.is_error ≡ false → AreShort s
    → InputsSoFar o test all all s s what out out err err
InputsSoFar-none o test all s what out err selected error short = record {
  done = [];
  prefix = refl;
  asked = refl;
  short = short;
  so_far = record { output = Writes-nil out; messages = Writes-nil err; selected = selected; error = error };
}

module _ {o : GrepOptions} {test : List ℕ → Bool} {all : List Ask} {s mid : Sources} {what : Found} {out_old out_mid err_old err_mid : Writer} (ask : Ask) (rest : List Ask) (left : Sources)
    (p : InputsSoFar o test all (ask ∷ rest) s mid what out_old out_mid err_old err_mid) (e : left ≡ after ask mid) where
  -- what the next ask finds
  abbrev next : Input
  next = record { ask = ask; source = taken_by ask mid }

  -- what those after it find, if they are made
  abbrev following : List Input
  following = searched o test (found rest (after ask mid))

  -- and with it all asks so far
  asked-one : left ≡ after_all (asks (p.done ++ next ∷ [])) s
  asked-one =
      e ∙ ap (after ask) p.asked ∙ sym (after_all-one (asks p.done) ask s)
      ∙ ap (λ made. after_all made s) (sym (map-append (λ (i : Input). i.ask) p.done (next ∷ [])))

  module _ (one more : Found) (out_new err_new : Writer) (q : IsSearched o test (name_of ask) (taken_by ask mid) one out_mid out_new err_mid err_new)
      (selected : more.is_selected ≡ (what.is_selected || one.is_selected)) (error : more.is_error ≡ (what.is_error || one.is_error)) where
    so_far-one : AreSearched (answer_to o test (p.done ++ next ∷ [])) more out_old out_new err_old err_new
    so_far-one = record {
      output = subst (Writes out_old out_new) (sym (flat_map-one (block o test) p.done next)) (Writes-trans out_old out_mid out_new (flat_map (block o test) p.done) (block o test next) p.so_far.output q.output);
      messages = subst (Writes err_old err_new) (sym (flat_map-one (message o test) p.done next)) (Writes-trans err_old err_mid err_new (flat_map (message o test) p.done) (message o test next) p.so_far.messages q.messages);
      selected = selected ∙ ap (λ b. b || one.is_selected) p.so_far.selected ∙ ap (λ b. list_any (has_selected test) p.done || b) q.selected ∙ sym (list_any-one (has_selected test) p.done next);
      error = error ∙ ap (λ b. b || one.is_error) p.so_far.error ∙ ap (λ b. list_any (is_error o test) p.done || b) q.error ∙ sym (list_any-one (is_error o test) p.done next);
    }

    -- an input that is not the last
    pub InputsSoFar-more : (o.quiet && one.is_selected) ≡ false → InputsSoFar o test all rest s left more out_old out_new err_old err_new
    InputsSoFar-more goes =
        let ends : (o.quiet && has_selected test next) ≡ false = ap (λ b. o.quiet && b) (sym q.selected) ∙ goes in
        let here : searched o test (found (ask ∷ rest) mid) ≡ next ∷ following = ap (λ b. next ∷ cond b [] following) ends in
        let there : following ≡ searched o test (found rest left) = ap (λ m. searched o test (found rest m)) (sym e) in
        record {
          done = p.done ++ next ∷ [];
          prefix = p.prefix ∙ ap (λ is. p.done ++ is) here ∙ sym (append_assoc p.done (next ∷ []) following) ∙ ap (λ is. (p.done ++ next ∷ []) ++ is) there;
          asked = asked-one;
          short = subst AreShort (sym e) (short-after ask mid p.short);
          so_far = so_far-one;
        }

    -- under -q a selected line makes its input the last
    pub InputsSoFar-last : (o.quiet && one.is_selected) ≡ true
        → (left ≡ after_all (asks (searched o test (found all s))) s) × AreSearched (answer_to o test (searched o test (found all s))) more out_old out_new err_old err_new
    InputsSoFar-last ends =
        let stops : (o.quiet && has_selected test next) ≡ true = ap (λ b. o.quiet && b) (sym q.selected) ∙ ends in
        let here : searched o test (found all s) ≡ p.done ++ next ∷ [] = p.prefix ∙ ap (λ b. p.done ++ (next ∷ cond b [] following)) stops in (
          asked-one ∙ ap (λ is. after_all (asks is) s) (sym here),
          subst (λ is. AreSearched (answer_to o test is) more out_old out_new err_old err_new) (sym here) so_far-one,
        )

  -- where it is cut, prefixes of both its texts are written
  pub InputsSoFar-cut : (out_new err_new : Writer) → IsCut o test (name_of ask) (taken_by ask mid) out_mid out_new err_mid err_new → StopsAt o test (searched o test (found all s)) s left out_old out_new err_old err_new
  InputsSoFar-cut out_new err_new q = record {
    done = p.done;
    last = next ∷ [];
    rest = cond (o.quiet && has_selected test next) [] following;
    parts = p.prefix;
    one = omega arith;
    asked = asked-one;
    output = record { between = out_mid; whole = p.so_far.output; prefix = subst (WritesPrefix out_mid out_new) (sym (append-nil (block o test next))) q.output };
    messages = record { between = err_mid; whole = p.so_far.messages; prefix = subst (WritesPrefix err_mid err_new) (sym (append-nil (message o test next))) q.messages };
    quiet = λ clear set.
        subst (Writes err_old err_new) (append-nil (flat_map (message o test) p.done))
        (Writes-trans err_old err_mid err_new (flat_map (message o test) p.done) [] p.so_far.messages (q.quiet (p.so_far.output.flag ∙ clear) set));
    starved = λ clear.
        subst (Writes err_old err_new) (append-nil (flat_map (message o test) p.done))
        (Writes-trans err_old err_mid err_new (flat_map (message o test) p.done) [] p.so_far.messages (q.starved clear));
    loud = All-cons (λ (input : Input). input.source ≡ None → o.silent ≢ true) next [] q.loud (All-nil (λ (input : Input). input.source ≡ None → o.silent ≢ true));
  }

-- where no input remains, all are searched
pub InputsSoFar-all : {o : GrepOptions} {test : List ℕ → Bool} {all : List Ask} {s left : Sources} {out_old out_new err_old err_new : Writer} (what : Found)
    → InputsSoFar o test all [] s left what out_old out_new err_old err_new
    → (left ≡ after_all (asks (searched o test (found all s))) s) × AreSearched (answer_to o test (searched o test (found all s))) what out_old out_new err_old err_new
InputsSoFar-all {o} {test} {all} {s} {left} {out_old} {out_new} {err_old} {err_new} what p =
    let here : searched o test (found all s) ≡ p.done = p.prefix ∙ append-nil p.done in (
      p.asked ∙ ap (λ is. after_all (asks is) s) (sym here),
      subst (λ is. AreSearched (answer_to o test is) what out_old out_new err_old err_new) (sym here) p.so_far,
    )

-- where there is no ask, nothing is written
pub StopsAt-none : (o : GrepOptions) (test : List ℕ → Bool) (inputs : List Input) (s : Sources) (out err : Writer) → StopsAt o test inputs s s out out err err
StopsAt-none o test inputs s out err = record {
  done = [];
  last = [];
  rest = inputs;
  parts = refl;
  one = omega arith;
  asked = refl;
  output = record { between = out; whole = Writes-nil out; prefix = WritesPrefix-none out [] };
  messages = record { between = err; whole = Writes-nil err; prefix = WritesPrefix-none err [] };
  quiet = λ clear set. Writes-nil err;
  starved = λ clear. Writes-nil err;
  loud = All-nil (λ (input : Input). input.source ≡ None → o.silent ≢ true);
}

-- the asks for the operands from a place on
pub operands-at : {Z : Type 0} (operands items : List (String Z)) (place : ℕ) (operand : String Z) (text : List ℕ) → items ≡ operands → place < length items → operand ≡ get_or items place operand → text ≡ string_bytes operand
    → map ask_of (map string_bytes (drop place operands)) ≡ ask_of text ∷ map ask_of (map string_bytes (drop (place + 1) operands))
operands-at operands items place operand text e inside there same =
    let at : operand ≡ get_or operands place operand = there ∙ ap (λ xs. get_or xs place operand) e in
    ap (λ fs. map ask_of (map string_bytes fs)) (drop_more operands place operand (subst (λ xs. place < length xs) e inside))
    ∙ ap (λ n. ask_of n ∷ map ask_of (map string_bytes (drop (place + 1) operands))) (sym (same ∙ ap string_bytes at))

module _ (o : GrepOptions) (test : List ℕ → Bool) (known mid left : Option Sources) (all here rest : List Ask) (ask : Ask) (what : Found)
    (out_old out_mid out_new err_old err_mid err_new : Writer) (e : here ≡ ask ∷ rest)
    (before : IfKnown known mid (λ s m. AreShort s → InputsSoFar o test all here s m what out_old out_mid err_old err_mid)) where
  -- the state before the next ask
  so_far : (s m : Sources) → InputsSoFar o test all here s m what out_old out_mid err_old err_mid → InputsSoFar o test all (ask ∷ rest) s m what out_old out_mid err_old err_mid
  so_far s m p = subst (λ asks. InputsSoFar o test all asks s m what out_old out_mid err_old err_mid) e p

  -- the loop goes on
  pub inputs-more : (one more : Found) → IfKnown mid left (λ m l. AreShort m → (l ≡ after ask m) × IsSearched o test (name_of ask) (taken_by ask m) one out_mid out_new err_mid err_new)
      → (o.quiet && one.is_selected) ≡ false → more.is_selected ≡ (what.is_selected || one.is_selected) → more.is_error ≡ (what.is_error || one.is_error)
      → IfKnown known left (λ s l. AreShort s → InputsSoFar o test all rest s l more out_old out_new err_old err_new)
  inputs-more one more step goes selected error =
      IfKnown-then known mid left _ _ (λ s l. AreShort s → InputsSoFar o test all rest s l more out_old out_new err_old err_new) before step (λ s m l p q short.
      let now = so_far s m (p short) in
      let taken = q now.short in
      InputsSoFar-more ask rest l now taken.0 one more out_new err_new taken.1 selected error goes)

  -- it ends under -q
  pub inputs-last : (one more : Found) → IfKnown mid left (λ m l. AreShort m → (l ≡ after ask m) × IsSearched o test (name_of ask) (taken_by ask m) one out_mid out_new err_mid err_new)
      → (o.quiet && one.is_selected) ≡ true → more.is_selected ≡ (what.is_selected || one.is_selected) → more.is_error ≡ (what.is_error || one.is_error)
      → IfKnown known left (λ s l. AreShort s → (l ≡ after_all (asks (searched o test (found all s))) s) × AreSearched (answer_to o test (searched o test (found all s))) more out_old out_new err_old err_new)
  inputs-last one more step ends selected error =
      IfKnown-then known mid left _ _ (λ s l. AreShort s → (l ≡ after_all (asks (searched o test (found all s))) s) × AreSearched (answer_to o test (searched o test (found all s))) more out_old out_new err_old err_new) before step (λ s m l p q short.
      let now = so_far s m (p short) in
      let taken = q now.short in
      InputsSoFar-last ask rest l now taken.0 one more out_new err_new taken.1 selected error ends)

  -- it stops
  pub inputs-cut : IfKnown mid left (λ m l. AreShort m → (l ≡ after ask m) × IsCut o test (name_of ask) (taken_by ask m) out_mid out_new err_mid err_new)
      → IfKnown known left (λ s l. AreShort s → StopsAt o test (searched o test (found all s)) s l out_old out_new err_old err_new)
  inputs-cut step =
      IfKnown-then known mid left _ _ (λ s l. AreShort s → StopsAt o test (searched o test (found all s)) s l out_old out_new err_old err_new) before step (λ s m l p q short.
      let now = so_far s m (p short) in
      let taken = q now.short in
      InputsSoFar-cut ask rest l now taken.0 out_new err_new taken.1)

-- at first no input is searched
pub inputs-none : (o : GrepOptions) (test : List ℕ → Bool) (known : Option Sources) (all : List Ask) (what : Found) (out err : Writer) → what.is_selected ≡ false → what.is_error ≡ false
    → IfKnown known known (λ s l. AreShort s → InputsSoFar o test all all s l what out out err err)
inputs-none o test known all what out err selected error =
    IfKnown-none known (λ s l. AreShort s → InputsSoFar o test all all s l what out out err err) (λ s short. InputsSoFar-none o test all s what out err selected error short)

-- a searcher that keeps its request searches by it
pub at-request : (known left : Option Sources) (r kept : Request) (ask : Ask) (result : Result Found Stop) (out_old out_new err_old err_new : Writer) → kept ≡ r
    → IfKnown known left (SearchesAsk kept ask result out_old out_new err_old err_new) → IfKnown known left (SearchesAsk r ask result out_old out_new err_old err_new)
at-request known left r kept ask result out_old out_new err_old err_new same p = subst (λ request. IfKnown known left (SearchesAsk request ask result out_old out_new err_old err_new)) same p
