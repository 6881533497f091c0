-- The answer of a run, from its patterns and its inputs.
use Rattle.std.proofs.Common.{◌≡◌, ◌≢◌, ◌⊎◌, inl, inr, ℕ, Bool, true, false, IfOk, OnOk, OnErr, ◌||◌, List, [], Option, Some, Result, Ok, Err, refl, sym, ap, ◌∙◌, subst, unwrap_or}
use Rattle.byte_io.specs.Sources.{AreShort, Sources, after_all}
use Rattle.std.proofs.Math.Bool.{or-false, or-true}
use Rattle.byte_io.specs.Devices.{IfKnown}
use Rattle.lit_base.specs.declared.fault.Fault.{Fault}
use Rattle.lit_base.specs.declared.fault.Fault.TheVariants.{OutOfMemory, TooManyPatterns, LiteralTooLong, TooManyLiterals, ListTooLarge}
use Rattle.line_pick.proofs.Standing.{standing}
use Rattle.grep_run.specs.declared.compiled_patterns.CompiledPatterns.{CompiledPatterns}
use Rattle.grep_run.specs.declared.options.GrepOptions.{GrepOptions}
use Rattle.grep_run.specs.declared.patterns.NoPatterns.{NoPatterns}
use Rattle.grep_run.specs.declared.patterns.NoPatterns.TheVariants.{Unreadable, Refused}
use Rattle.grep_run.specs.declared.request.Found.{Found}
use Rattle.grep_run.specs.declared.status.Status.{Status}
use Rattle.grep_run.specs.declared.status.Status.TheVariants.{Trouble}
use Rattle.grep_run.specs.declared.status.Stop.{Stop}
use Rattle.grep_run.specs.declared.status.Stop.TheVariants as stop
use Rattle.grep_run.specs.Blocks.{selects}
use Rattle.grep_run.specs.Gathering.{Explains, HasPatterns, IsRefusal, IsRefusalCut, LacksPatterns, Refuses, text_of}
use Rattle.grep_run.specs.Grep.{answer_to, answer_where, asks, asks_of, asks_where, after_files, grep, inputs_of, refused_with, searched, status_where}
use Rattle.grep_run.specs.Messages.{out_of_memory}
use Rattle.grep_run.specs.Options.{searched_of}
use Rattle.grep_run.specs.Patterns.{files_asked, patterns_message, all_patterns}
use Rattle.grep_run.specs.Requests.{tested_by}
use Rattle.grep_run.specs.Running.{RunsTo, Ends, OverInputs, OverPatterns, Starved}
use Rattle.grep_run.specs.Searching.{SearchesAll}
use Rattle.grep_run.specs.Sources.{found}
use Rattle.grep_run.specs.Writers.{Writer, Writes, WritesPrefix, is_write_fault}
use Rattle.byte_io.proofs.KnownLemmas.{IfKnown-then, IfKnown-weaker}
use Rattle.byte_io.proofs.OpenerLemmas.{after_all-append, short-after_all}
use Rattle.grep_run.proofs.WriterLemmas.{Writes-nil, WritesPrefix-nothing}

-- tests that agree on each line are one
same-function : (f h : List ℕ → Bool) → ((line : List ℕ) → f line ≡ h line) → f ≡ h
same-function f h agree = λ i line. agree line i

-- what stands for the patterns selects the lines that they select
same-test : (o : GrepOptions) (s mid : Sources) (compiled : CompiledPatterns) → HasPatterns o s mid compiled → tested_by o compiled ≡ selects o (all_patterns o s)
same-test o s mid compiled had = same-function _ _ (λ line. standing.selected o.fold (all_patterns o s) compiled.plan compiled.has_empty (record { invert = o.invert; whole = o.whole }) line had.stands)

module _ (o : GrepOptions) (s mid left : Sources) (compiled : CompiledPatterns) (had : HasPatterns o s mid compiled) (out_old out_new err_old err_new : Writer) where
  -- so the search is the run's search
  same-search : (r : Result Found Stop) → SearchesAll o (tested_by o compiled) (searched o (tested_by o compiled) (found (searched_of o) mid)) mid left r out_old out_new err_old err_new
      → SearchesAll o (selects o (all_patterns o s)) (inputs_of o s) (after_files o s) left r out_old out_new err_old err_new
  same-search r p =
      subst (λ m. SearchesAll o (selects o (all_patterns o s)) (searched o (selects o (all_patterns o s)) (found (searched_of o) m)) m left r out_old out_new err_old err_new) had.after
      (subst (λ test. SearchesAll o test (searched o test (found (searched_of o) mid)) mid left r out_old out_new err_old err_new) (same-test o s mid compiled had) p)

  same-answer : answer_to o (selects o (all_patterns o s)) (inputs_of o s) ≡ grep o s
  same-answer = ap (λ m. answer_where m o s) (sym had.message)

  searched-whole : (what : Found) (status : Status) → status ≡ status_where o.quiet what.is_selected what.is_error
      → SearchesAll o (selects o (all_patterns o s)) (inputs_of o s) (after_files o s) left (Ok what) out_old out_new err_old err_new → RunsTo o s left (Ok status) out_old out_new err_old err_new
  searched-whole what status e p = (
    p.0 ∙ sym (after_all-append (asks (files_asked o s)) (asks (inputs_of o s)) s) ∙ ap (λ m. after_all (asks_where m o s) s) (sym had.message),
    record {
      output = subst (λ a. Writes out_old out_new a.output) same-answer p.1.output;
      messages = subst (λ a. Writes err_old err_new a.messages) same-answer p.1.messages;
      answer = e ∙ ap (λ b. status_where o.quiet b what.is_error) (p.1.selected ∙ ap (λ a. a.has_selected) same-answer) ∙ ap (λ b. status_where o.quiet (grep o s).has_selected b) (p.1.error ∙ ap (λ a. a.has_error) same-answer);
    },
  )

-- the run where its inputs were searched
pub answers-searched : (o : GrepOptions) (known mid left : Option Sources) (compiled : CompiledPatterns) (what : Found) (status : Status) (out_old out_new err_old err_new : Writer)
    → status ≡ status_where o.quiet what.is_selected what.is_error → IfKnown known mid (λ s m. AreShort s → HasPatterns o s m compiled)
    → IfKnown mid left (λ m l. AreShort m → SearchesAll o (tested_by o compiled) (searched o (tested_by o compiled) (found (searched_of o) m)) m l (Ok what) out_old out_new err_old err_new)
    → IfKnown known left (λ s l. AreShort s → RunsTo o s l (Ok status) out_old out_new err_old err_new)
answers-searched o known mid left compiled what status out_old out_new err_old err_new e p q =
    IfKnown-then known mid left _ _ (λ s l. AreShort s → RunsTo o s l (Ok status) out_old out_new err_old err_new) p q (λ s m l had all short.
    let h = had short in
    searched-whole o s m l compiled h out_old out_new err_old err_new what status e (same-search o s m l compiled h out_old out_new err_old err_new (Ok what) (all (subst AreShort (sym h.after) (short-after_all (asks (files_asked o s)) s short)))))

pub answers-cut : (o : GrepOptions) (known mid left : Option Sources) (compiled : CompiledPatterns) (stop stop' : Stop) (out_old out_new err_old err_new : Writer)
    → IfKnown known mid (λ s m. AreShort s → HasPatterns o s m compiled)
    → IfKnown mid left (λ m l. AreShort m → SearchesAll o (tested_by o compiled) (searched o (tested_by o compiled) (found (searched_of o) m)) m l (Err stop) out_old out_new err_old err_new)
    → IfKnown known left (λ s l. AreShort s → RunsTo o s l (Err stop') out_old out_new err_old err_new)
answers-cut o known mid left compiled stop stop' out_old out_new err_old err_new p q =
    IfKnown-then known mid left _ _ (λ s l. AreShort s → RunsTo o s l (Err stop') out_old out_new err_old err_new) p q (λ s m l had all short.
    let h = had short in
    OverInputs h.message (same-search o s m l compiled h out_old out_new err_old err_new (Err stop) (all (subst AreShort (sym h.after) (short-after_all (asks (files_asked o s)) s short)))))

-- a message that the patterns have is on why they are refused
message-of : (why : NoPatterns) (message : Option (List ℕ)) → why ≢ Refused OutOfMemory → Explains why message → message ≡ Some (text_of why)
message-of (Unreadable name) message other e = e
message-of (Refused fault) message other e = e (λ memory. other (ap Refused memory))

-- and then the asks are those for pattern files
asks-refused : (o : GrepOptions) (s : Sources) (text : List ℕ) → patterns_message o s ≡ Some text → asks_of o s ≡ asks (files_asked o s)
asks-refused o s text e = ap (λ m. asks_where m o s) e

-- whatever -q says, an error without a selected line is trouble
trouble : (quiet : Bool) → Trouble ≡ status_where quiet false true
trouble true = refl
trouble false = refl

-- the run where there are no patterns
refused-whole : (o : GrepOptions) (s left : Sources) (why : NoPatterns) (out : Writer) {err_old err_new : Writer} → LacksPatterns o s left why → IsRefusal why err_old err_new
    → RunsTo o s left (Ok Trouble) out out err_old err_new
refused-whole o s left why out {err_old} {err_new} p q =
    let message : patterns_message o s ≡ Some (text_of why) = message-of why (patterns_message o s) q.memory p.message in
    let same : refused_with (text_of why) ≡ grep o s = ap (λ m. answer_where m o s) (sym message) in (
      p.after q.memory ∙ ap (λ made. after_all made s) (sym (asks-refused o s (text_of why) message)),
      record {
        output = subst (λ a. Writes out out a.output) same (Writes-nil out);
        messages = subst (λ a. Writes err_old err_new a.messages) same q.reported;
        answer = trouble o.quiet ∙ ap (λ a. status_where o.quiet a.has_selected a.has_error) same;
      },
    )

-- whether memory ran out
is_memory : Fault → Bool
is_memory OutOfMemory = true
is_memory TooManyPatterns = false
is_memory (LiteralTooLong place) = false
is_memory TooManyLiterals = false
is_memory ListTooLarge = false

is_memory_of : NoPatterns → Bool
is_memory_of (Unreadable name) = false
is_memory_of (Refused fault) = is_memory fault

memory-is : (why : NoPatterns) → is_memory_of why ≡ true → why ≡ Refused OutOfMemory
unfolding is_memory_of is_memory
memory-is (Unreadable name) e = (cc)
memory-is (Refused OutOfMemory) e = refl
memory-is (Refused TooManyPatterns) e = (cc)
memory-is (Refused (LiteralTooLong place)) e = (cc)
memory-is (Refused TooManyLiterals) e = (cc)
memory-is (Refused ListTooLarge) e = (cc)

memory-not : (why : NoPatterns) → is_memory_of why ≡ false → why ≢ Refused OutOfMemory
unfolding is_memory_of is_memory
memory-not why e same = let both : true ≡ false = sym (ap is_memory_of same) ∙ e in (cc)

-- a prefix of the message stands there
message-prefix : (o : GrepOptions) (s left : Sources) (why : NoPatterns) (is_memory : Bool) {err_old err_new : Writer} → LacksPatterns o s left why → IsRefusalCut why err_old err_new → is_memory_of why ≡ is_memory
    → WritesPrefix err_old err_new (unwrap_or (patterns_message o s) [])
message-prefix o s left why true {err_old} {err_new} p q e = WritesPrefix-nothing err_old err_new _ (q.unreported (memory-is why e))
message-prefix o s left why false {err_old} {err_new} p q e =
    subst (λ m. WritesPrefix err_old err_new (unwrap_or m [])) (sym (message-of why (patterns_message o s) (memory-not why e) p.message)) q.prefix

refused-cut : (o : GrepOptions) (s left : Sources) (why : NoPatterns) (stop : Stop) (out : Writer) {err_old err_new : Writer} → LacksPatterns o s left why → IsRefusalCut why err_old err_new
    → RunsTo o s left (Err stop) out out err_old err_new
refused-cut o s left why stop out p q = OverPatterns (record { asked = p.prefix; output = Writes-nil out; messages = message-prefix o s left why (is_memory_of why) p q refl; starved = q.starved })

pub answers-refused : (o : GrepOptions) (known left : Option Sources) (why : NoPatterns) (r : Result Status Stop) (out err_old err_new : Writer) → IfOk r (λ status. status ≡ Trouble)
    → IfKnown known left (λ s l. AreShort s → LacksPatterns o s l why) → Refuses why r err_old err_new → IfKnown known left (λ s l. AreShort s → RunsTo o s l r out out err_old err_new)
answers-refused o known left why (Ok status) out err_old err_new e p q =
    IfKnown-weaker known left _ (λ s l. AreShort s → RunsTo o s l (Ok status) out out err_old err_new) p (λ s l lacks short.
    subst (λ st. RunsTo o s l (Ok st) out out err_old err_new) (sym e) (refused-whole o s l why out (lacks short) q))
answers-refused o known left why (Err stop) out err_old err_new e p q =
    IfKnown-weaker known left _ (λ s l. AreShort s → RunsTo o s l (Err stop) out out err_old err_new) p (λ s l lacks short. refused-cut o s l why stop out (lacks short) q)

-- a call that failed set the flag
set-flag : {T : Type 0} (r : Result T Stop) (before after : Bool) → r ≡ Err stop.WriteFault → after ≡ (before || is_write_fault r) → after ≡ true
set-flag r before after fault flag = flag ∙ ap (λ x. before || is_write_fault x) fault ∙ or-true before

-- the message on want of memory is written, or a prefix of it where its writing failed
last-message : (r : Result (Unit {0}) Stop) (between err_new : Writer) → OnOk r (Writes between err_new out_of_memory) → OnErr r (WritesPrefix between err_new out_of_memory)
    → OnErr r (r ≡ Err stop.WriteFault) → err_new.has_failed ≡ (between.has_failed || is_write_fault r)
    → Writes between err_new out_of_memory ⊎ ((err_new.has_failed ≡ true) × WritesPrefix between err_new out_of_memory)
last-message (Ok u) between err_new whole prefix fault flag = inl whole
last-message (Err e) between err_new whole prefix fault flag = inr (set-flag (Err e) between.has_failed err_new.has_failed fault flag, prefix)

-- the end of a run for want of memory
pub ends-starved : (o : GrepOptions) (known left : Option Sources) (why : Stop) (r : Result (Unit {0}) Stop) (out_old out_new err_old between err_new : Writer) → why ≡ stop.OutOfMemory
    → IfKnown known left (λ s l. AreShort s → RunsTo o s l (Err why) out_old out_new err_old between)
    → (out_new.has_failed || between.has_failed) ≡ (out_old.has_failed || err_old.has_failed || is_write_fault {T = Status} (Err why))
    → OnOk r (Writes between err_new out_of_memory) → OnErr r (WritesPrefix between err_new out_of_memory) → OnErr r (r ≡ Err stop.WriteFault)
    → err_new.has_failed ≡ (between.has_failed || is_write_fault r)
    → IfKnown known left (λ s l. AreShort s → Ends o s l Trouble out_old out_new err_old err_new)
ends-starved o known left why r out_old out_new err_old between err_new memory p flags whole prefix fault flag =
    IfKnown-weaker known left _ (λ s l. AreShort s → Ends o s l Trouble out_old out_new err_old err_new) p (λ s l h short.
    Starved refl (record {
      between = between;
      stopped = h short;
      sound = flags ∙ ap (λ s. out_old.has_failed || err_old.has_failed || is_write_fault {T = Status} (Err s)) memory ∙ or-false (out_old.has_failed || err_old.has_failed);
      reported = last-message r between err_new whole prefix fault flag;
    }))
