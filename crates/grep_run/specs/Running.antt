-- How a run ends, against what grep writes and answers.
use Rattle.std.specs.Prelude.{◌≡◌, ◌||◌, ◌⊎◌, true, false, [], None, Result, Ok, Err, unwrap_or}
use Rattle.byte_io.specs.Sources.{AsksPrefix, Sources}
use Rattle.grep_run.specs.declared.options.GrepOptions.{GrepOptions}
use Rattle.grep_run.specs.declared.status.Status.{Status}
use Rattle.grep_run.specs.declared.status.Status.TheVariants.{Trouble}
use Rattle.grep_run.specs.declared.status.Stop.{Stop}
use Rattle.grep_run.specs.Blocks.{selects}
use Rattle.grep_run.specs.Grep.{Answer, asks, after_files, grep, inputs_of, left_of, status_of}
use Rattle.grep_run.specs.Messages.{out_of_memory}
use Rattle.grep_run.specs.Patterns.{files_asked, patterns_message, all_patterns}
use Rattle.grep_run.specs.Searching.{StopsAt}
use Rattle.grep_run.specs.Writers.{Writer, Writes, WritesPrefix}

-- all was written, and this is the status
pub record IsAnswered (o : GrepOptions) (a : Answer) (status : Status) (out_old out_new err_old err_new : Writer) : Type 0 where
  pub output : Writes out_old out_new a.output
  pub messages : Writes err_old err_new a.messages
  pub answer : status ≡ status_of o a

-- a run that stopped over its patterns wrote a prefix of the message on them, and none of it where no write failed; it
-- asked for no file to search
pub record StopsEarly (o : GrepOptions) (s left : Sources) (out_old out_new err_old err_new : Writer) : Type 0 where
  pub asked : AsksPrefix (asks (files_asked o s)) s left
  pub output : Writes out_old out_new []
  pub messages : WritesPrefix err_old err_new (unwrap_or (patterns_message o s) [])
  pub starved : err_new.has_failed ≡ false → Writes err_old err_new []

-- a run that stopped did so over its patterns, or over its inputs
pub data Stops (o : GrepOptions) (s left : Sources) (out_old out_new err_old err_new : Writer) : Type 0 where
  OverPatterns : StopsEarly o s left out_old out_new err_old err_new → Stops o s left out_old out_new err_old err_new
  OverInputs : patterns_message o s ≡ None → StopsAt o (selects o (all_patterns o s)) (inputs_of o s) (after_files o s) left out_old out_new err_old err_new
      → Stops o s left out_old out_new err_old err_new

-- a run that went to its end, and a run that stopped
abbrev pub RunsTo : GrepOptions → Sources → Sources → Result Status Stop → Writer → Writer → Writer → Writer → Type 0
RunsTo o s left (Ok status) out_old out_new err_old err_new = (left ≡ left_of o s) × IsAnswered o (grep o s) status out_old out_new err_old err_new
RunsTo o s left (Err stop) out_old out_new err_old err_new = Stops o s left out_old out_new err_old err_new

-- memory ran out where no call had failed; then the message on it is written, or a prefix of it where its writing fails
pub record IsStarved (o : GrepOptions) (s left : Sources) (out_old out_new err_old err_new : Writer) : Type 0 where
  pub between : Writer
  pub stopped : Stops o s left out_old out_new err_old between
  pub sound : (out_new.has_failed || between.has_failed) ≡ (out_old.has_failed || err_old.has_failed)
  pub reported : Writes between err_new out_of_memory ⊎ ((err_new.has_failed ≡ true) × WritesPrefix between err_new out_of_memory)

-- how a run ends: whole, at a write that failed, or for want of memory
pub data Ends (o : GrepOptions) (s left : Sources) (status : Status) (out_old out_new err_old err_new : Writer) : Type 0 where
  Whole : left ≡ left_of o s → IsAnswered o (grep o s) status out_old out_new err_old err_new → Ends o s left status out_old out_new err_old err_new
  Broken : (out_new.has_failed || err_new.has_failed) ≡ true → status ≡ Trouble → Stops o s left out_old out_new err_old err_new → Ends o s left status out_old out_new err_old err_new
  Starved : status ≡ Trouble → IsStarved o s left out_old out_new err_old err_new → Ends o s left status out_old out_new err_old err_new
