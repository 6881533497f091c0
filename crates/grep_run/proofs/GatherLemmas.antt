-- Pattern files one after another: what their patterns, their messages and their asks are.
use Rattle.std.proofs.Common.{◌≡◌, ◌≢◌, ℕ, ◌+◌, ◌<◌, true, cond, String, string_bytes, length, get_or, drop, List, [], ◌∷◌, ◌++◌, map, flat_map, Option, None, Some, is_some, refl, sym, ap, ◌∙◌, subst, append_assoc}
use Rattle.std.specs.Option.{option_map, option_or}
use Rattle.std.proofs.lemmas.List.{drop_more}
use Rattle.byte_io.specs.Devices.{IfKnown}
use Rattle.byte_io.specs.Sources.{AreShort, Ask, Named, Sources, after, after_all, source_of}
use Rattle.byte_io.proofs.KnownLemmas.{IfKnown-then, IfKnown-weaker}
use Rattle.byte_io.proofs.OpenerLemmas.{after_all-one, short-after}
use Rattle.lit_base.specs.declared.fault.Fault.{Fault}
use Rattle.lit_base.specs.declared.fault.Fault.TheVariants.{OutOfMemory}
use Rattle.line_pick.specs.Matching.{StandsFor}
use Rattle.grep_run.specs.declared.compiled_patterns.CompiledPatterns.{CompiledPatterns}
use Rattle.grep_run.specs.declared.options.GrepOptions.{GrepOptions}
use Rattle.grep_run.specs.declared.patterns.NoPatterns.{NoPatterns}
use Rattle.grep_run.specs.declared.patterns.NoPatterns.TheVariants.{Unreadable, Refused}
use Rattle.grep_run.specs.Gathering.{Explains, HasPatterns, StopsAtFile, TakesAllFiles}
use Rattle.grep_run.specs.Grep.{asks}
use Rattle.grep_run.specs.Messages.{patterns_refused}
use Rattle.grep_run.specs.Options.{asks_for, lists_of}
use Rattle.grep_run.specs.Patterns.{content_message, files_asked, files_message, files_read, lists_refusal, pattern_files, patterns_from, patterns_in}
use Rattle.grep_run.specs.Sources.{Input, found}

-- the patterns of files
abbrev pub all_from : List Input → List (List ℕ)
all_from files = flat_map (λ file. patterns_from file.source) files

-- the files before the remaining files are read, and gave these patterns
pub record FilesSoFar (old now : List (List ℕ)) (all rest : List Ask) (s left : Sources) : Type 0 where
  pub message : files_message old (found all s) ≡ files_message now (found rest left)
  pub patterns : old ++ all_from (found all s) ≡ now ++ all_from (found rest left)
  pub made : List Ask
  pub prefix : asks (files_read old (found all s)) ≡ made ++ asks (files_read now (found rest left))
  pub after : left ≡ after_all made s
  pub short : AreShort left

-- a message that there is not: what stands after it counts
following-none : (message second : Option (List ℕ)) → message ≡ None → option_or message second ≡ second
following-none None second e = refl
following-none (Some text) second e = (cc)

-- a test that fails: the other files count
rest-read : (message : Option (List ℕ)) (files : List Input) → message ≡ None → cond (is_some message) [] files ≡ files
rest-read None files e = refl
rest-read (Some text) files e = (cc)

-- one ask more, after those that were made
made-more : (made : List Ask) (a : Ask) (rest : List Ask) → made ++ (a ∷ rest) ≡ (made ++ a ∷ []) ++ rest
made-more made a rest = sym (append_assoc made (a ∷ []) rest)

-- and one file more
pub FilesSoFar-more : {old now : List (List ℕ)} {all : List Ask} {s mid : Sources} (new : List (List ℕ)) (name : List ℕ) (rest : List Ask) (left : Sources)
    → FilesSoFar old now all (Named name ∷ rest) s mid → left ≡ after (Named name) mid → content_message now name (source_of name mid.named) ≡ None
    → new ≡ now ++ patterns_from (source_of name mid.named) → FilesSoFar old new all rest s left
FilesSoFar-more {old} {now} {all} {s} {mid} new name rest left p e none grown =
    let file : Input = record { ask = Named name; source = source_of name mid.named } in
    let following : List Input = found rest (after (Named name) mid) in
    let same : found rest (after (Named name) mid) ≡ found rest left = ap (found rest) (sym e) in
    let more : List (List ℕ) = now ++ patterns_from (source_of name mid.named) in
    record {
      message = p.message ∙ following-none _ _ none ∙ ap (λ ps. files_message ps following) (sym grown) ∙ ap (files_message new) same;
      patterns = p.patterns ∙ sym (append_assoc now (patterns_from (source_of name mid.named)) (all_from following)) ∙ ap (λ ps. ps ++ all_from following) (sym grown) ∙ ap (λ fs. new ++ all_from fs) same;
      made = p.made ++ Named name ∷ [];
      prefix = p.prefix ∙ ap (λ fs. p.made ++ (Named name ∷ asks fs)) (rest-read _ (files_read more following) none ∙ ap (λ ps. files_read ps following) (sym grown) ∙ ap (files_read new) same)
          ∙ made-more p.made (Named name) (asks (files_read new (found rest left)));
      after = e ∙ ap (after (Named name)) p.after ∙ sym (after_all-one p.made (Named name) s);
      short = subst AreShort (sym e) (short-after (Named name) mid p.short);
    }

-- a text that explains a message explains the first of it and another
Explains-first : (why : NoPatterns) (message second : Option (List ℕ)) → Explains why message → Explains why (option_or message second)
Explains-first (Unreadable name) message second e = ap (λ m. option_or m second) e
Explains-first (Refused fault) message second e = λ other. ap (λ m. option_or m second) (e other)

-- unless memory ran out, there is a message
has-message : (why : NoPatterns) (message : Option (List ℕ)) → why ≢ Refused OutOfMemory → Explains why message → is_some message ≡ true
has-message (Unreadable name) message other e = ap is_some e
has-message (Refused fault) message other e = ap is_some (e (λ memory. other (ap Refused memory)))

-- where a file gives no patterns, it is the last that is opened
pub FilesSoFar-stop : {old now : List (List ℕ)} {all : List Ask} {s mid : Sources} (name : List ℕ) (rest : List Ask) (left : Sources) (why : NoPatterns)
    → FilesSoFar old now all (Named name ∷ rest) s mid → left ≡ after (Named name) mid → Explains why (content_message now name (source_of name mid.named))
    → StopsAtFile old s left (found all s) why
FilesSoFar-stop {old} {now} {all} {s} {mid} name rest left why p e explains =
    let message : Option (List ℕ) = content_message now name (source_of name mid.named) in
    let following : List Input = files_read (now ++ patterns_from (source_of name mid.named)) (found rest (after (Named name) mid)) in
    let here : left ≡ after_all (p.made ++ Named name ∷ []) s = e ∙ ap (after (Named name)) p.after ∙ sym (after_all-one p.made (Named name) s) in
    record {
      message = subst (Explains why) (sym p.message) (Explains-first why message _ explains);
      prefix = record {
        made = p.made ++ Named name ∷ [];
        rest = asks (cond (is_some message) [] following);
        parts = p.prefix ∙ made-more p.made (Named name) (asks (cond (is_some message) [] following));
        after = here;
      };
      after = λ other.
          let last : asks (files_read old (found all s)) ≡ p.made ++ Named name ∷ [] =
          p.prefix ∙ ap (λ b. p.made ++ (Named name ∷ asks (cond b [] following))) (has-message why message other explains) in
          here ∙ ap (λ made. after_all made s) (sym last);
    }

-- where no list is refused, the files count
none-refused : (refusal : Option Fault) (second : Option (List ℕ)) → refusal ≡ None → option_or (option_map patterns_refused refusal) second ≡ second
none-refused None second e = refl
none-refused (Some fault) second e = (cc)

all-read : (refusal : Option Fault) (files : List Input) → refusal ≡ None → cond (is_some refusal) [] files ≡ files
all-read None files e = refl
all-read (Some fault) files e = (cc)

files-asked : (o : GrepOptions) (s : Sources) → lists_refusal [] (lists_of o) ≡ None → files_asked o s ≡ files_read (patterns_in (lists_of o)) (pattern_files o s)
files-asked o s e = all-read (lists_refusal [] (lists_of o)) _ e

pub patterns-had : (o : GrepOptions) (s left : Sources) (patterns : List (List ℕ)) (compiled : CompiledPatterns) → lists_refusal [] (lists_of o) ≡ None
    → TakesAllFiles (patterns_in (lists_of o)) patterns s left (pattern_files o s) → StandsFor o.fold patterns compiled.plan compiled.has_empty
    → HasPatterns o s left compiled
patterns-had o s left patterns compiled none p stands = record {
  message = none-refused (lists_refusal [] (lists_of o)) _ none ∙ p.message;
  stands = subst (λ ps. StandsFor o.fold ps compiled.plan compiled.has_empty) p.patterns stands;
  after = p.after ∙ ap (λ fs. after_all (asks fs) s) (sym (files-asked o s none));
}

-- the asks for the files from a place on
pub asks-at : {Z : Type 0} (files : List (String Z)) (place : ℕ) (file : String Z) (name : List ℕ) → place < length files → file ≡ get_or files place file → name ≡ string_bytes file
    → asks_for (map string_bytes (drop place files)) ≡ Named name ∷ asks_for (map string_bytes (drop (place + 1) files))
asks-at files place file name inside at same =
    ap (λ fs. asks_for (map string_bytes fs)) (drop_more files place file inside)
    ∙ ap (λ n. Named n ∷ asks_for (map string_bytes (drop (place + 1) files))) (sym (same ∙ ap string_bytes at))

-- the loop goes on
pub files-more : (known mid left : Option Sources) (old now new : List (List ℕ)) (name : List ℕ) (all : List Ask) {here rest : List Ask} → here ≡ Named name ∷ rest
    → IfKnown known mid (λ s m. AreShort s → FilesSoFar old now all here s m)
    → IfKnown mid left (λ m l. AreShort m → (l ≡ after (Named name) m) × ((content_message now name (source_of name m.named) ≡ None) × (new ≡ now ++ patterns_from (source_of name m.named))))
    → IfKnown known left (λ s l. AreShort s → FilesSoFar old new all rest s l)
files-more known mid left old now new name all {here} {rest} e before step =
    IfKnown-then known mid left _ _ (λ s l. AreShort s → FilesSoFar old new all rest s l) before step (λ s m l p q short.
    let so_far : FilesSoFar old now all (Named name ∷ rest) s m = subst (λ asks. FilesSoFar old now all asks s m) e (p short) in
    let taken = q so_far.short in
    FilesSoFar-more new name rest l so_far taken.0 taken.1.0 taken.1.1)

-- and it stops
pub files-stop : (known mid left : Option Sources) (old now : List (List ℕ)) (name : List ℕ) (all : List Ask) {here rest : List Ask} (why : NoPatterns) → here ≡ Named name ∷ rest
    → IfKnown known mid (λ s m. AreShort s → FilesSoFar old now all here s m)
    → IfKnown mid left (λ m l. AreShort m → (l ≡ after (Named name) m) × Explains why (content_message now name (source_of name m.named)))
    → IfKnown known left (λ s l. AreShort s → StopsAtFile old s l (found all s) why)
files-stop known mid left old now name all {here} {rest} why e before step =
    IfKnown-then known mid left _ _ (λ s l. AreShort s → StopsAtFile old s l (found all s) why) before step (λ s m l p q short.
    let so_far : FilesSoFar old now all (Named name ∷ rest) s m = subst (λ asks. FilesSoFar old now all asks s m) e (p short) in
    let taken = q so_far.short in
    FilesSoFar-stop name rest l why so_far taken.0 taken.1)

-- all patterns are had
pub had-all : (o : GrepOptions) (known left : Option Sources) (start patterns : List (List ℕ)) (compiled : CompiledPatterns) → lists_refusal [] (lists_of o) ≡ None → start ≡ patterns_in (lists_of o)
    → IfKnown known left (λ s l. AreShort s → TakesAllFiles start patterns s l (pattern_files o s)) → StandsFor o.fold patterns compiled.plan compiled.has_empty
    → IfKnown known left (λ s l. AreShort s → HasPatterns o s l compiled)
had-all o known left start patterns compiled none e taken stands =
    IfKnown-weaker known left _ (λ s l. AreShort s → HasPatterns o s l compiled) taken (λ s l t short.
    patterns-had o s l patterns compiled none (subst (λ ps. TakesAllFiles ps patterns s l (pattern_files o s)) e (t short)) stands)
