-- Plans published from a plan file before anything is served, and the messages about it.
use Rattle.std.specs.Prelude.{◌≡◌, ◌≢◌, ℕ, ◌^◌, ◌<◌, Bool, true, false, List, [], ◌∷◌, ◌++◌, ◌⊎◌, All, IfSome, MatchOption, Option, Some, Result, Ok, Err, IsOk, ⊤, codes, decimal, flat_map, length, map, take}
use Rattle.std.specs.Io.KnownBytes.{Appends}
use Rattle.boxcar.specs.Table.{Shelves}
use Rattle.byte_io.specs.Devices.{Clean, Coming, EndsHere, Faulty, IfKnown}
use Rattle.byte_io.specs.Sources.{Sources, coming_of, source_of}
use Rattle.byte_io.specs.Transfers.{AppendsPart}
use Rattle.lit_plan.specs.Plans.{Plan}
use Rattle.plan_file.specs.declared.fault.Cause.{Cause}
use Rattle.plan_file.specs.declared.fault.Fault.{Fault}
use Rattle.plan_file.specs.declared.fault.Fault.TheVariants.{OutOfMemory, BadPlanFile, ReadFault, WriteFault}
use Rattle.plan_file.specs.FirstFaults.{IsFirstFault}
use Rattle.plan_file.specs.Spelling.{IsFile}
use Rattle.plan_store.specs.Tickets as tickets

-- ---- the messages

-- the line of a plan that was published
abbrev pub plan_line : ℕ → List ℕ
plan_line number = codes "scand: plan " ++ (decimal number ++ codes "\n")

-- the lines of published plans, by their tickets
abbrev pub plan_lines : List tickets.TicketParts → List ℕ
plan_lines published = flat_map (λ ticket. plan_line ticket.number) published

-- why a file is not loaded; where a write failed, no more is said
abbrev pub reason_of : Fault → List ℕ
reason_of OutOfMemory = codes ": refused (1)\n"
reason_of (BadPlanFile place cause) = codes ": refused (10)\n"
reason_of ReadFault = codes ": cannot be read\n"
reason_of WriteFault = []

-- the message on a file of this name
abbrev pub message_on : List ℕ → Fault → List ℕ
message_on name OutOfMemory = codes "scand: " ++ (name ++ reason_of OutOfMemory)
message_on name (BadPlanFile place cause) = codes "scand: " ++ (name ++ reason_of (BadPlanFile place cause))
message_on name ReadFault = codes "scand: " ++ (name ++ reason_of ReadFault)
message_on name WriteFault = []

-- all that is said where loading comes to this answer: a line for each published plan, and the message
abbrev pub said_of : List ℕ → List tickets.TicketParts → Result (Unit {0}) Fault → List ℕ
said_of name published (Ok _) = plan_lines published
said_of name published (Err fault) = plan_lines published ++ message_on name fault

-- a text was written, and of one after it a prefix that is not all of it
pub record AppendsUpTo (old new : Option (List ℕ)) (text after : List ℕ) : Type 0 where
  pub count : ℕ
  pub fewer : count < length after
  pub grown : Appends old new (text ++ take count after)

-- the lines of plans were written, but of the plan published last a prefix, and not all
pub record EndsInLine (published : List tickets.TicketParts) (old new : Option (List ℕ)) : Type 0 where
  pub before : List tickets.TicketParts
  pub last : tickets.TicketParts
  pub all : published ≡ before ++ last ∷ []
  pub said : AppendsUpTo old new (plan_lines before) (plan_line last.number)

-- All of it was said. Or a write failed: in the message after all lines, or in the line of the plan published last, at
-- which loading then stops.
pub data IsSaid (name : List ℕ) (published : List tickets.TicketParts) (answer result : Result (Unit {0}) Fault) (err_old err_new : Option (List ℕ)) : Type 0 where
  Whole : result ≡ answer → answer ≢ Err WriteFault → Appends err_old err_new (said_of name published answer) → IsSaid name published answer result err_old err_new
  InMessage : (fault : Fault) → answer ≡ Err fault → result ≡ Err WriteFault → AppendsUpTo err_old err_new (plan_lines published) (message_on name fault)
      → IsSaid name published answer result err_old err_new
  InLine : answer ≡ Err WriteFault → result ≡ Err WriteFault → EndsInLine published err_old err_new → IsSaid name published answer result err_old err_new

-- ---- the published plans

-- the plans that tickets show
abbrev pub plans_of : List tickets.TicketParts → List Plan
plans_of published = map (λ ticket. ticket.plan) published

-- the bytes of a reader, to its end, are a file of the plans, in one of its versions
abbrev pub IsFileOf : Option Coming → Option Coming → List Plan → Type 0
IsFileOf old new plans = IfKnown old new (λ x y. IsFile x.text plans × EndsHere y)

-- and of the plans and more
abbrev pub IsFileOfMore : Option Coming → Option Coming → List Plan → Type 0
IsFileOfMore old new plans = (more : List Plan) × IsFileOf old new (plans ++ more)

-- A text has this first fault; and where a read fault comes after the text, whatever might have followed has it too.
pub record IsShownFault (coming : Coming) (place : ℕ) (cause : Cause) : Type 0 where
  pub first : IsFirstFault coming.text place cause
  pub whatever : coming.ending ≡ Faulty → (more : List ℕ) → IsFirstFault (coming.text ++ more) place cause

-- Which plans were published for each answer of loading: all of the file, in order; none; where memory ran out, the
-- first, but not all; or, where a line could not be written, the first.
abbrev pub Publishes : Option Coming → Option Coming → List Plan → Result (Unit {0}) Fault → Type 0
Publishes old new plans (Ok _) = IsFileOf old new plans
Publishes old new plans (Err OutOfMemory) = (plans ≡ []) ⊎ ((more : List Plan) × (more ≢ []) × IsFileOf old new (plans ++ more))
Publishes old new plans (Err (BadPlanFile place cause)) = (plans ≡ []) × IfSome old (λ x. IsShownFault x place cause)
Publishes old new plans (Err ReadFault) = plans ≡ []
Publishes old new plans (Err WriteFault) = IsFileOfMore old new plans

-- A file of this text that ends cleanly is judged by it: it is loaded where it is the file of some plans, and else
-- refused with its first fault.
pub record IsJudged (text : List ℕ) (result : Result (Unit {0}) Fault) : Type 0 where
  pub loaded : (plans : List Plan) → IsFile text plans → IsOk result
  pub refused : (place : ℕ) (cause : Cause) → IsFirstFault text place cause → result ≡ Err (BadPlanFile place cause)
  pub read : result ≢ Err ReadFault

-- A file that ends cleanly is judged by its text, unless memory runs out or a write fails. No file is loaded whose
-- bytes end in a read fault.
abbrev pub Judges : Coming → Result (Unit {0}) Fault → Type 0
Judges x result =
    (IsOk result → x.ending ≢ Faulty)
    × (x.ending ≡ Clean → length x.text < 2 ^ 40 → result ≢ Err OutOfMemory → result ≢ Err WriteFault → IsJudged x.text result)

-- Tickets of the store were gained, which show the plans that were published. Where a write failed, the answer is the
-- answer that loading had before it.
pub record Loads (store : Shelves) (name : List ℕ) (coming_old coming_new : Option Coming) (tickets_old tickets_new : List tickets.TicketParts) (err_old err_new : Option (List ℕ)) (result : Result (Unit {0}) Fault) : Type 0 where
  pub published : List tickets.TicketParts
  pub answer : Result (Unit {0}) Fault
  pub grown : tickets_new ≡ tickets_old ++ published
  pub here : All (tickets.IsOf store) published
  pub plans : Publishes coming_old coming_new (plans_of published) answer
  pub said : IsSaid name published answer result err_old err_new

-- the same where nobody keeps the tickets
abbrev pub LoadsAll : Shelves → List ℕ → Option Coming → Option Coming → Option (List ℕ) → Option (List ℕ) → Result (Unit {0}) Fault → Type 0
LoadsAll store name coming_old coming_new err_old err_new result =
    (gained : List tickets.TicketParts) × Loads store name coming_old coming_new [] gained err_old err_new result

-- the answer where a file cannot be read: that, or that it could not be said
abbrev pub IsUnread : Result (Unit {0}) Fault → Type 0
IsUnread result = (result ≡ Err ReadFault) ⊎ (result ≡ Err WriteFault)

-- a file that cannot be opened counts as unreadable, and no ticket is gained, whether or not that could be written
pub record IsUnopened (tickets_old tickets_new : List tickets.TicketParts) (answer result : Result (Unit {0}) Fault) : Type 0 where
  pub reported : answer ≡ Err ReadFault
  pub unread : IsUnread result
  pub none : tickets_new ≡ tickets_old

-- The file that an opener gives under a name was loaded; where its content is known, it is judged by that.
pub record LoadsNamed (store : Shelves) (name : List ℕ) (sources : Option Sources) (tickets_old tickets_new : List tickets.TicketParts) (err_old err_new : Option (List ℕ)) (result : Result (Unit {0}) Fault) : Type 0 where
  pub coming_old : Option Coming
  pub coming_new : Option Coming
  pub loads : Loads store name coming_old coming_new tickets_old tickets_new err_old err_new result
  pub source : IfSome sources (λ s. MatchOption (source_of name s.named) (IsUnopened tickets_old tickets_new loads.answer result) (λ c. (coming_old ≡ Some (coming_of c)) × Judges (coming_of c) result))

-- ---- inside the crate: lines before a message

-- the lines of plans were written; or, where a write failed, all before the last line and a prefix of it
abbrev pub SaysLines : List tickets.TicketParts → Result (Unit {0}) Fault → Option (List ℕ) → Option (List ℕ) → Type 0
SaysLines published (Ok _) old new = Appends old new (plan_lines published)
SaysLines published (Err OutOfMemory) old new = Appends old new (plan_lines published)
SaysLines published (Err (BadPlanFile place cause)) old new = Appends old new (plan_lines published)
SaysLines published (Err ReadFault) old new = Appends old new (plan_lines published)
SaysLines published (Err WriteFault) old new = EndsInLine published old new

-- the message on a fault was written, or a prefix of it that is not all, since a write failed
pub data IsMessage (text : List ℕ) (fault result : Fault) (old new : Option (List ℕ)) : Type 0 where
  Written : result ≡ fault → Appends old new text → IsMessage text fault result old new
  Cut : result ≡ WriteFault → AppendsPart old new text → IsMessage text fault result old new

-- which plans may be left where publishing comes to this answer: none, some, or any
abbrev pub MayLeave : List Plan → Result (Unit {0}) Fault → Type 0
MayLeave more (Ok _) = more ≡ []
MayLeave more (Err OutOfMemory) = more ≢ []
MayLeave more (Err (BadPlanFile place cause)) = ⊥
MayLeave more (Err ReadFault) = ⊥
MayLeave more (Err WriteFault) = ⊤

-- of plans the first were published, each with its line
pub record PublishesPrefix (store : Shelves) (plans : List Plan) (tickets_old tickets_new : List tickets.TicketParts) (err_old err_new : Option (List ℕ)) (result : Result (Unit {0}) Fault) : Type 0 where
  pub published : List tickets.TicketParts
  pub more : List Plan
  pub grown : tickets_new ≡ tickets_old ++ published
  pub here : All (tickets.IsOf store) published
  pub parts : plans ≡ plans_of published ++ more
  pub left : MayLeave more result
  pub said : SaysLines published result err_old err_new

-- plans of a file were published, each with its line, before anything is said of a fault
pub record LoadsFile (store : Shelves) (coming_old coming_new : Option Coming) (tickets_old tickets_new : List tickets.TicketParts) (err_old err_new : Option (List ℕ)) (result : Result (Unit {0}) Fault) : Type 0 where
  pub published : List tickets.TicketParts
  pub grown : tickets_new ≡ tickets_old ++ published
  pub here : All (tickets.IsOf store) published
  pub plans : Publishes coming_old coming_new (plans_of published) result
  pub said : SaysLines published result err_old err_new

-- whether a write failed
abbrev pub is_write_fault : Result (Unit {0}) Fault → Bool
is_write_fault (Ok _) = false
is_write_fault (Err OutOfMemory) = false
is_write_fault (Err (BadPlanFile place cause)) = false
is_write_fault (Err ReadFault) = false
is_write_fault (Err WriteFault) = true
