-- What searching inputs writes and finds.
use Rattle.std.specs.Prelude.{◌≡◌, ◌≢◌, ℕ, ◌≤◌, All, Bool, true, false, List, [], ◌++◌, length, Option, None, Result, Ok, Err}
use Rattle.byte_io.specs.Sources.{AreShort, Ask, Content, Sources, after, after_all, taken_by}
use Rattle.grep_run.specs.declared.options.GrepOptions.{GrepOptions}
use Rattle.grep_run.specs.declared.request.Found.{Found}
use Rattle.grep_run.specs.declared.request.Request.{Request}
use Rattle.grep_run.specs.declared.status.Stop.{Stop}
use Rattle.grep_run.specs.Blocks.{block_in, has_any, is_trouble, message_in, selected_in}
use Rattle.grep_run.specs.Grep.{Answer, answer_to, asks, searched}
use Rattle.grep_run.specs.Requests.{test_of}
use Rattle.grep_run.specs.Sources.{Input, found, name_of}
use Rattle.grep_run.specs.Writers.{Writer, Writes, WritesPrefix, WritesUpTo}

-- one input: its block and its message are written, and this was found
pub record IsSearched (o : GrepOptions) (test : List ℕ → Bool) (name : List ℕ) (source : Option Content) (found : Found) (out_old out_new err_old err_new : Writer) : Type 0 where
  pub output : Writes out_old out_new (block_in o test name source)
  pub messages : Writes err_old err_new (message_in o test name source)
  pub selected : found.is_selected ≡ has_any (selected_in test source)
  pub error : found.is_error ≡ is_trouble o test source

-- prefixes of both are written, and no message where the output failed, nor where no message did. An input that cannot
-- be opened is cut only in its message, so not where -s drops it
pub record IsCut (o : GrepOptions) (test : List ℕ → Bool) (name : List ℕ) (source : Option Content) (out_old out_new err_old err_new : Writer) : Type 0 where
  pub output : WritesPrefix out_old out_new (block_in o test name source)
  pub messages : WritesPrefix err_old err_new (message_in o test name source)
  pub quiet : out_old.has_failed ≡ false → out_new.has_failed ≡ true → Writes err_old err_new []
  pub starved : err_new.has_failed ≡ false → Writes err_old err_new []
  pub loud : source ≡ None → o.silent ≢ true

-- one input, by the result
abbrev pub Searches : GrepOptions → (List ℕ → Bool) → List ℕ → Option Content → Result Found Stop → Writer → Writer → Writer → Writer → Type 0
Searches o test name source (Ok found) = IsSearched o test name source found
Searches o test name source (Err stop) = IsCut o test name source

-- what a request finds by one ask
abbrev pub SearchesAsk : Request → Ask → Result Found Stop → Writer → Writer → Writer → Writer → Sources → Sources → Type 0
SearchesAsk r ask result out_old out_new err_old err_new s left =
    AreShort s → (left ≡ after ask s) × Searches r.options.now (test_of r) (name_of ask) (taken_by ask s) result out_old out_new err_old err_new

-- several inputs: all is written, and this was found
pub record AreSearched (a : Answer) (found : Found) (out_old out_new err_old err_new : Writer) : Type 0 where
  pub output : Writes out_old out_new a.output
  pub messages : Writes err_old err_new a.messages
  pub selected : found.is_selected ≡ a.has_selected
  pub error : found.is_error ≡ a.has_error

-- Searching stopped at the last input that was asked for, if any was. The inputs before it are written in full, and of
-- the last input a prefix of its block and a prefix of its message. If the output failed, or no message did, there is
-- no message on the last input. With -s the last input could be opened.
pub record StopsAt (o : GrepOptions) (test : List ℕ → Bool) (inputs : List Input) (s left : Sources) (out_old out_new err_old err_new : Writer) : Type 0 where
  pub done : List Input
  pub last : List Input
  pub rest : List Input
  pub parts : inputs ≡ done ++ (last ++ rest)
  pub one : length last ≤ 1
  pub asked : left ≡ after_all (asks (done ++ last)) s
  pub output : WritesUpTo out_old out_new (answer_to o test done).output (answer_to o test last).output
  pub messages : WritesUpTo err_old err_new (answer_to o test done).messages (answer_to o test last).messages
  pub quiet : out_old.has_failed ≡ false → out_new.has_failed ≡ true → Writes err_old err_new (answer_to o test done).messages
  pub starved : err_new.has_failed ≡ false → Writes err_old err_new (answer_to o test done).messages
  pub loud : All (λ (input : Input). input.source ≡ None → o.silent ≢ true) last

-- several inputs, by the result
abbrev pub SearchesAll : GrepOptions → (List ℕ → Bool) → List Input → Sources → Sources → Result Found Stop → Writer → Writer → Writer → Writer → Type 0
SearchesAll o test inputs s left (Ok found) out_old out_new err_old err_new =
    (left ≡ after_all (asks inputs) s) × AreSearched (answer_to o test inputs) found out_old out_new err_old err_new
SearchesAll o test inputs s left (Err stop) out_old out_new err_old err_new =
    StopsAt o test inputs s left out_old out_new err_old err_new

-- what a request finds by one ask after another
abbrev pub SearchesAsks : Request → List Ask → Result Found Stop → Writer → Writer → Writer → Writer → Sources → Sources → Type 0
SearchesAsks r all result out_old out_new err_old err_new s left =
    AreShort s → SearchesAll r.options.now (test_of r) (searched r.options.now (test_of r) (found all s)) s left result out_old out_new err_old err_new
