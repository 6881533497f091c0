-- What gathering the patterns of a run gives: the patterns, or why there are none.
use Rattle.std.specs.Prelude.{◌≡◌, ◌≢◌, ℕ, false, List, [], ◌++◌, flat_map, Option, Some, None, Result, Ok, Err}
use Rattle.byte_io.specs.Sources.{AsksPrefix, Content, Sources, after_all}
use Rattle.lit_base.specs.declared.fault.Fault.TheVariants.{OutOfMemory}
use Rattle.line_pick.specs.Matching.{StandsFor}
use Rattle.grep_run.specs.declared.compiled_patterns.CompiledPatterns.{CompiledPatterns}
use Rattle.grep_run.specs.declared.options.GrepOptions.{GrepOptions}
use Rattle.grep_run.specs.declared.patterns.NoPatterns.{NoPatterns}
use Rattle.grep_run.specs.declared.patterns.NoPatterns.TheVariants.{Unreadable, Refused}
use Rattle.grep_run.specs.declared.status.Stop.{Stop}
use Rattle.grep_run.specs.Grep.{asks, after_files}
use Rattle.grep_run.specs.Messages.{patterns_refused, unreadable}
use Rattle.grep_run.specs.Patterns.{content_message, files_asked, files_message, files_read, patterns_from, patterns_message, all_patterns}
use Rattle.grep_run.specs.Sources.{Input}
use Rattle.grep_run.specs.Writers.{Writer, Writes, WritesPrefix}

-- the message is on this, or memory ran out before
abbrev pub Explains : NoPatterns → Option (List ℕ) → Type 0
Explains (Unreadable name) message = message ≡ Some (unreadable name.now)
Explains (Refused fault) message = fault ≢ OutOfMemory → message ≡ Some (patterns_refused fault)

-- one pattern file: its patterns are added, or it gives none
abbrev pub TakesFile : {T : Type 0} → List ℕ → List (List ℕ) → List (List ℕ) → Option Content → Result T NoPatterns → Type 0
TakesFile name old new source (Ok _) = (content_message old name source ≡ None) × (new ≡ old ++ patterns_from source)
TakesFile name old new source (Err why) = Explains why (content_message old name source)

-- several files: the patterns of all are added
pub record TakesAllFiles (old new : List (List ℕ)) (s left : Sources) (files : List Input) : Type 0 where
  pub message : files_message old files ≡ None
  pub patterns : new ≡ old ++ flat_map (λ file. patterns_from file.source) files
  pub after : left ≡ after_all (asks (files_read old files)) s

-- or the first file that gives none ends it
pub record StopsAtFile (old : List (List ℕ)) (s left : Sources) (files : List Input) (why : NoPatterns) : Type 0 where
  pub message : Explains why (files_message old files)
  pub prefix : AsksPrefix (asks (files_read old files)) s left
  pub after : why ≢ Refused OutOfMemory → left ≡ after_all (asks (files_read old files)) s

-- several files, by the result
abbrev pub TakesFiles : {T : Type 0} → List (List ℕ) → List (List ℕ) → Sources → Sources → List Input → Result T NoPatterns → Type 0
TakesFiles old new s left files (Ok _) = TakesAllFiles old new s left files
TakesFiles old new s left files (Err why) = StopsAtFile old s left files why

-- all patterns of the options: what stands for them is there
pub record HasPatterns (o : GrepOptions) (s left : Sources) (compiled : CompiledPatterns) : Type 0 where
  pub message : patterns_message o s ≡ None
  pub stands : StandsFor o.fold (all_patterns o s) compiled.plan compiled.has_empty
  pub after : left ≡ after_files o s

-- or a message says why not
pub record LacksPatterns (o : GrepOptions) (s left : Sources) (why : NoPatterns) : Type 0 where
  pub message : Explains why (patterns_message o s)
  pub prefix : AsksPrefix (asks (files_asked o s)) s left
  pub after : why ≢ Refused OutOfMemory → left ≡ after_files o s

-- all patterns of the options, by the result
abbrev pub TakesPatterns : GrepOptions → Sources → Sources → Result CompiledPatterns NoPatterns → Type 0
TakesPatterns o s left (Ok compiled) = HasPatterns o s left compiled
TakesPatterns o s left (Err why) = LacksPatterns o s left why

-- the message on why there are no patterns
abbrev pub text_of : NoPatterns → List ℕ
text_of (Unreadable name) = unreadable name.now
text_of (Refused fault) = patterns_refused fault

-- it is written
pub record IsRefusal (why : NoPatterns) (err_old err_new : Writer) : Type 0 where
  pub memory : why ≢ Refused OutOfMemory
  pub reported : Writes err_old err_new (text_of why)

-- a prefix of it is written; nothing for want of memory, for the patterns or for the message
pub record IsRefusalCut (why : NoPatterns) (err_old err_new : Writer) : Type 0 where
  pub prefix : WritesPrefix err_old err_new (text_of why)
  pub unreported : why ≡ Refused OutOfMemory → Writes err_old err_new []
  pub starved : err_new.has_failed ≡ false → Writes err_old err_new []

-- the message on why there are no patterns, by the result of writing it
abbrev pub Refuses : {T : Type 0} → NoPatterns → Result T Stop → Writer → Writer → Type 0
Refuses why (Ok _) = IsRefusal why
Refuses why (Err stop) = IsRefusalCut why
