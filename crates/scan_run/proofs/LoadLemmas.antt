-- Plans published one after the other, and their lines.
use Rattle.std.proofs.Common.{◌≡◌, ◌≢◌, ℕ, ◌+◌, ◌^◌, ◌<◌, List, [], ◌∷◌, ◌++◌, Option, Some, None, IfSome, Result, Ok, Err, OnErr, IsOk, IsOkAnd, MatchOption, inl, inr, length, refl, sym, ap, subst, ◌∙◌, append_assoc, append-nil, arith, take, length-append}
use Rattle.std.specs.Global.{Vec}
use Rattle.std.specs.Io.KnownBytes.{Appends}
use Rattle.std.proofs.KnownBytes.{Appends-nil, Appends-trans}
use Rattle.std.proofs.Math.Seq.{take-append-add}
use Rattle.std.proofs.lemmas.List.{take-append-le}
use Rattle.std.proofs.lemmas.List.Concat.{flat_map-append}
use Rattle.std.proofs.lemmas.List.Elements.{All-nil, All-cons, All-append}
use Rattle.boxcar.specs.Table.{Shelves}
use Rattle.byte_io.specs.Devices.{Clean, Coming, Faulty}
use Rattle.byte_io.specs.Sources.{Content, OpensAs, Sources, coming_of, source_of}
use Rattle.byte_io.specs.Transfers.{AppendsPart}
use Rattle.byte_io.specs.declared.opener.Missing.{Missing}
use Rattle.lit_plan.specs.Plans.{Plan}
use Rattle.lit_plan.specs.declared.compiled.Compiled.{Compiled}
use Rattle.plan_file.specs.declared.fault.Cause.{Cause}
use Rattle.plan_file.specs.declared.fault.Fault.{Fault}
use Rattle.plan_file.specs.declared.fault.Fault.TheVariants.{OutOfMemory, BadPlanFile, ReadFault, WriteFault}
use Rattle.plan_file.specs.Faults.{IsReadersFault}
use Rattle.plan_file.specs.FirstFaults.{IsFirstFault}
use Rattle.plan_file.specs.Spelling.{IsFile}
use Rattle.plan_store.specs.Tickets.{TicketParts, IsOf}
use Rattle.scan_run.specs.Loading.{AppendsUpTo, Cut, EndsInLine, InLine, InMessage, IsMessage, IsUnread, Judges, Loads, LoadsFile, MayLeave, PublishesPrefix, IsSaid, IsShownFault, IsUnopened, LoadsNamed, SaysLines, Whole, Written, message_on, plan_line, plan_lines, plans_of}

-- a prefix of a text, and not all of it, is one of a longer one
pub prefix-longer : {old new : Option (List ℕ)} {text : List ℕ} (more : List ℕ) → AppendsPart old new text → AppendsPart old new (text ++ more)
prefix-longer {old} {new} {text} more p = record {
  count = p.count;
  fewer = omega (arith, p.fewer, length-append text more);
  text = subst (Appends old new) (sym (take-append-le p.count text more (omega (arith, p.fewer)))) p.text;
}

-- and one of a text after another, which was written whole
pub prefix-after : (a b c : Option (List ℕ)) (done text : List ℕ) → Appends a b done → AppendsPart b c text → AppendsPart a c (done ++ text)
prefix-after a b c done text whole p = record {
  count = length done + p.count;
  fewer = omega (arith, p.fewer, length-append done text);
  text = subst (Appends a c) (sym (take-append-add done text p.count)) (Appends-trans a b c done (take p.count text) whole p.text);
}

-- what follows from a refusal
pub OnErr-then : {T E P Q : Type 0} (r : Result T E) → OnErr r P → (P → Q) → OnErr r Q
OnErr-then (Ok x) p then = tt
OnErr-then (Err e) p then = then p

-- a text and a prefix of one after it, after a text that was written whole
up-to-after : (a b c : Option (List ℕ)) (done text after : List ℕ) → Appends a b done → AppendsUpTo b c text after → AppendsUpTo a c (done ++ text) after
up-to-after a b c done text after whole part = record {
  count = part.count;
  fewer = part.fewer;
  grown = subst (Appends a c) (sym (append_assoc done text (take part.count after))) (Appends-trans a b c done (text ++ take part.count after) whole part.grown);
}

-- the lines of plans after others
lines_of-append : (xs ys : List TicketParts) → plan_lines (xs ++ ys) ≡ plan_lines xs ++ plan_lines ys
lines_of-append xs ys = flat_map-append (λ ticket. plan_line ticket.number) xs ys

lines-after : (a b c : Option (List ℕ)) (xs ys : List TicketParts) → Appends a b (plan_lines xs) → Appends b c (plan_lines ys) → Appends a c (plan_lines (xs ++ ys))
lines-after a b c xs ys whole said = subst (Appends a c) (sym (lines_of-append xs ys)) (Appends-trans a b c (plan_lines xs) (plan_lines ys) whole said)

-- lines after lines that were written whole
says-after : (a b c : Option (List ℕ)) (xs ys : List TicketParts) (r : Result (Unit {0}) Fault) → Appends a b (plan_lines xs) → SaysLines ys r b c → SaysLines (xs ++ ys) r a c
says-after a b c xs ys (Ok _) whole said = lines-after a b c xs ys whole said
says-after a b c xs ys (Err OutOfMemory) whole said = lines-after a b c xs ys whole said
says-after a b c xs ys (Err (BadPlanFile place cause)) whole said = lines-after a b c xs ys whole said
says-after a b c xs ys (Err ReadFault) whole said = lines-after a b c xs ys whole said
says-after a b c xs ys (Err WriteFault) whole ends = record {
  before = xs ++ ends.before;
  last = ends.last;
  all = ap (λ ts. xs ++ ts) ends.all ∙ sym (append_assoc xs ends.before (ends.last ∷ []));
  said = subst (λ t. AppendsUpTo a c t (plan_line ends.last.number)) (sym (lines_of-append xs ends.before))
      (up-to-after a b c (plan_lines xs) (plan_lines ends.before) (plan_line ends.last.number) whole ends.said);
}

plans_of-append : (xs ys : List TicketParts) → plans_of (xs ++ ys) ≡ plans_of xs ++ plans_of ys
plans_of-append [] ys = refl
plans_of-append (x ∷ xs) ys = ap (λ ps. x.plan ∷ ps) (plans_of-append xs ys)

-- there was no memory for a plan
pub published-not : (store : Shelves) (plan : Plan) (tickets : List TicketParts) (err : Option (List ℕ)) → PublishesPrefix store (plan ∷ []) tickets tickets err err (Err OutOfMemory)
published-not store plan tickets err = record {
  published = [];
  more = plan ∷ [];
  grown = sym (append-nil tickets);
  here = All-nil (IsOf store);
  parts = refl;
  left = λ e. (cc);
  said = Appends-nil err;
}

-- a plan was published, and its line written
pub published-reported : (store : Shelves) (ticket : TicketParts) (plan : Plan) (tickets : List TicketParts) (a b : Option (List ℕ)) → IsOf store ticket → ticket.plan ≡ plan
    → Appends a b (plan_line ticket.number) → PublishesPrefix store (plan ∷ []) tickets (tickets ++ ticket ∷ []) a b (Ok tt)
published-reported store ticket plan tickets a b here shows said = record {
  published = ticket ∷ [];
  more = [];
  grown = refl;
  here = All-cons (IsOf store) ticket [] here (All-nil (IsOf store));
  parts = ap (λ p. p ∷ []) (sym shows);
  left = refl;
  said = subst (Appends a b) (sym (append-nil (plan_line ticket.number))) said;
}

-- a plan was published, and its line not written
pub published-unsaid : (store : Shelves) (ticket : TicketParts) (plan : Plan) (tickets : List TicketParts) (a b : Option (List ℕ)) → IsOf store ticket → ticket.plan ≡ plan
    → AppendsPart a b (plan_line ticket.number) → PublishesPrefix store (plan ∷ []) tickets (tickets ++ ticket ∷ []) a b (Err WriteFault)
published-unsaid store ticket plan tickets a b here shows said = record {
  published = ticket ∷ [];
  more = [];
  grown = refl;
  here = All-cons (IsOf store) ticket [] here (All-nil (IsOf store));
  parts = ap (λ p. p ∷ []) (sym shows);
  left = tt;
  said = record { before = []; last = ticket; all = refl; said = record { count = said.count; fewer = said.fewer; grown = said.text } };
}

-- plans after others that were all published
pub published-then : (store : Shelves) (xs ys : List Plan) (ts us vs : List TicketParts) (a b c : Option (List ℕ)) (r : Result (Unit {0}) Fault)
    → PublishesPrefix store xs ts us a b (Ok tt) → PublishesPrefix store ys us vs b c r → PublishesPrefix store (xs ++ ys) ts vs a c r
published-then store xs ys ts us vs a b c r p q =
    let all : xs ≡ plans_of p.published = p.parts ∙ ap (λ m. plans_of p.published ++ m) p.left ∙ append-nil (plans_of p.published) in
    record {
      published = p.published ++ q.published;
      more = q.more;
      grown = q.grown ∙ ap (λ t. t ++ q.published) p.grown ∙ append_assoc ts p.published q.published;
      here = All-append (IsOf store) p.published q.published p.here q.here;
      parts = ap (λ t. t ++ ys) all ∙ ap (λ t. plans_of p.published ++ t) q.parts ∙ sym (append_assoc (plans_of p.published) (plans_of q.published) q.more)
          ∙ ap (λ t. t ++ q.more) (sym (plans_of-append p.published q.published));
      left = q.left;
      said = says-after a b c p.published q.published r p.said q.said;
    }

still-some : (xs ys : List Plan) → xs ≢ [] → xs ++ ys ≢ []
still-some [] ys some = λ _. some refl
still-some (x ∷ xs) ys some = λ e. (cc)

left-more : (xs ys : List Plan) (fault : Fault) → MayLeave xs (Err fault) → MayLeave (xs ++ ys) (Err fault)
left-more xs ys OutOfMemory left = still-some xs ys left
left-more xs ys (BadPlanFile place cause) left = left
left-more xs ys ReadFault left = left
left-more xs ys WriteFault left = tt

-- where publishing stopped, the later plans remain too
pub published-prefix : (store : Shelves) (xs ys : List Plan) (ts us : List TicketParts) (a b : Option (List ℕ)) (fault : Fault)
    → PublishesPrefix store xs ts us a b (Err fault) → PublishesPrefix store (xs ++ ys) ts us a b (Err fault)
published-prefix store xs ys ts us a b fault p = record {
  published = p.published;
  more = p.more ++ ys;
  grown = p.grown;
  here = p.here;
  parts = ap (λ t. t ++ ys) p.parts ∙ append_assoc (plans_of p.published) p.more ys;
  left = left-more p.more ys fault p.left;
  said = p.said;
}

-- ---- the messages

-- what loading answers
abbrev stopped : Fault → Result (Unit {0}) Fault
stopped fault = Err fault

-- a message after lines
message-after : (a b c : Option (List ℕ)) (name : List ℕ) (published : List TicketParts) (fault result : Fault) → Appends a b (plan_lines published) → fault ≢ WriteFault
    → IsMessage (message_on name fault) fault result b c → IsSaid name published (Err fault) (Err result) a c
message-after a b c name published fault result lines other (Written is all) =
    Whole (ap stopped is) (λ e. other (let same : fault ≡ WriteFault = cc in same)) (Appends-trans a b c (plan_lines published) (message_on name fault) lines all)
message-after a b c name published fault result lines other (Cut is part) =
    InMessage fault refl (ap stopped is) record {
      count = part.count;
      fewer = part.fewer;
      grown = Appends-trans a b c (plan_lines published) (take part.count (message_on name fault)) lines part.text;
    }

-- after a line that could not be written nothing more is said
line-still : (a b c : Option (List ℕ)) (published : List TicketParts) → EndsInLine published a b → Appends b c [] → EndsInLine published a c
line-still a b c published ends still = record {
  before = ends.before;
  last = ends.last;
  all = ends.all;
  said = record {
    count = ends.said.count;
    fewer = ends.said.fewer;
    grown = subst (Appends a c) (append-nil _) (Appends-trans a b c _ [] ends.said.grown still);
  };
}

says-message : (a b c : Option (List ℕ)) (name : List ℕ) (published : List TicketParts) (fault result : Fault) → SaysLines published (stopped fault) a b
    → IsMessage (message_on name fault) fault result b c → IsSaid name published (stopped fault) (stopped result) a c
says-message a b c name published OutOfMemory result said message = message-after a b c name published OutOfMemory result said (λ e. cc) message
says-message a b c name published (BadPlanFile place cause) result said message = message-after a b c name published (BadPlanFile place cause) result said (λ e. cc) message
says-message a b c name published ReadFault result said message = message-after a b c name published ReadFault result said (λ e. cc) message
says-message a b c name published WriteFault result said (Written is all) = InLine refl (ap stopped is) (line-still a b c published said all)
says-message a b c name published WriteFault result said (Cut is part) = absurd (omega (arith, part.fewer))

-- a file that was not loaded, and why
pub loads-refused : (store : Shelves) (name : List ℕ) (x y : Option Coming) (ts us : List TicketParts) (a b c : Option (List ℕ)) (fault result : Fault)
    → LoadsFile store x y ts us a b (Err fault) → IsMessage (message_on name fault) fault result b c → Loads store name x y ts us a c (Err result)
loads-refused store name x y ts us a b c fault result loads said = record {
  published = loads.published;
  answer = Err fault;
  grown = loads.grown;
  here = loads.here;
  plans = loads.plans;
  said = says-message a b c name loads.published fault result loads.said said;
}

-- a file that was loaded
pub loads-done : (store : Shelves) (name : List ℕ) (x y : Option Coming) (ts us : List TicketParts) (a b : Option (List ℕ)) → LoadsFile store x y ts us a b (Ok tt) → Loads store name x y ts us a b (Ok tt)
loads-done store name x y ts us a b loads = record {
  published = loads.published;
  answer = Ok tt;
  grown = loads.grown;
  here = loads.here;
  plans = loads.plans;
  said = Whole refl (λ e. cc) loads.said;
}

-- ---- from a file that was read, or not

-- what reading a file answers
abbrev unread : Fault → Result (Vec Compiled) Fault
unread fault = Err fault

abbrev as_read : Vec Compiled → Result (Vec Compiled) Fault
as_read plans = Ok plans

-- the first fault of a file, where one is reported
first-fault : (x : Option Coming) (fault : Fault) (place : ℕ) (cause : Cause) → fault ≡ BadPlanFile place cause
    → IfSome x (λ c. (p : ℕ) (q : Cause) → unread fault ≡ unread (BadPlanFile p q) → IsFirstFault c.text p q)
    → IfSome x (λ c. c.ending ≡ Faulty → (p : ℕ) (q : Cause) → unread fault ≡ unread (BadPlanFile p q) → (more : List ℕ) → IsFirstFault (c.text ++ more) p q)
    → IfSome x (λ c. IsShownFault c place cause)
first-fault None fault place cause is wrong shown = tt
first-fault (Some c) fault place cause is wrong shown = record {
  first = wrong place cause (ap unread is);
  whatever = λ faulty more. shown faulty place cause (ap unread is) more;
}

-- no plan of a file that was not read is published
pub loads-unread : (store : Shelves) (x y : Option Coming) (ts : List TicketParts) (err : Option (List ℕ)) (fault : Fault) → IsReadersFault fault
    → IfSome x (λ c. (p : ℕ) (q : Cause) → unread fault ≡ unread (BadPlanFile p q) → IsFirstFault c.text p q)
    → IfSome x (λ c. c.ending ≡ Faulty → (p : ℕ) (q : Cause) → unread fault ≡ unread (BadPlanFile p q) → (more : List ℕ) → IsFirstFault (c.text ++ more) p q)
    → LoadsFile store x y ts ts err err (stopped fault)
loads-unread store x y ts err OutOfMemory readers wrong shown = record {
  published = [];
  grown = sym (append-nil ts);
  here = All-nil (IsOf store);
  plans = inl refl;
  said = Appends-nil err;
}
loads-unread store x y ts err (BadPlanFile place cause) readers wrong shown = record {
  published = [];
  grown = sym (append-nil ts);
  here = All-nil (IsOf store);
  plans = (refl, first-fault x (BadPlanFile place cause) place cause refl wrong shown);
  said = Appends-nil err;
}
loads-unread store x y ts err ReadFault readers wrong shown = record {
  published = [];
  grown = sym (append-nil ts);
  here = All-nil (IsOf store);
  plans = refl;
  said = Appends-nil err;
}
loads-unread store x y ts err WriteFault readers wrong shown = absurd readers

-- one fault is another of either answer
as-unread : (a b : Fault) → stopped a ≡ stopped b → unread a ≡ unread b
as-unread a b e = let same : a ≡ b = cc in ap unread same

as-stopped : (a b : Fault) → unread a ≡ unread b → stopped a ≡ stopped b
as-stopped a b e = let same : a ≡ b = cc in ap stopped same

-- a file that was not read is judged so
pub judges-unread : (x : Option Coming) (fault : Fault)
    → IfSome x (λ c. c.ending ≡ Clean → (plans : List Plan) → IsFile c.text plans → unread fault ≢ unread OutOfMemory → IsOkAnd (unread fault) (λ v. v.items ≡ plans))
    → IfSome x (λ c. c.ending ≡ Clean → length c.text < 2 ^ 40 → (place : ℕ) (cause : Cause) → IsFirstFault c.text place cause → unread fault ≢ unread OutOfMemory → unread fault ≡ unread (BadPlanFile place cause))
    → IfSome x (λ c. c.ending ≡ Clean → length c.text < 2 ^ 40 → unread fault ≢ unread ReadFault) → IfSome x (λ c. Judges c (stopped fault))
judges-unread None fault only exact ends = tt
judges-unread (Some c) fault only exact ends = (
  λ loaded. absurd (cc),
  λ clean short memory write. record {
    loaded = λ plans file. absurd (only clean plans file (λ e. memory (as-stopped fault OutOfMemory e)));
    refused = λ place cause first. as-stopped fault (BadPlanFile place cause) (exact clean short place cause first (λ e. memory (as-stopped fault OutOfMemory e)));
    read = λ e. ends clean short (as-unread fault ReadFault e);
  },
)

-- publishing answers nothing else
is-loaded : (more : List Plan) (r : Result (Unit {0}) Fault) → MayLeave more r → r ≢ Err OutOfMemory → r ≢ Err WriteFault → IsOk r
is-loaded more (Ok u) left memory write = refl
is-loaded more (Err OutOfMemory) left memory write = absurd (memory refl)
is-loaded more (Err (BadPlanFile place cause)) left memory write = absurd left
is-loaded more (Err ReadFault) left memory write = absurd left
is-loaded more (Err WriteFault) left memory write = absurd (write refl)

was-read : (more : List Plan) (r : Result (Unit {0}) Fault) → MayLeave more r → r ≢ Err ReadFault
was-read more (Ok u) left = λ e. cc
was-read more (Err OutOfMemory) left = λ e. cc
was-read more (Err (BadPlanFile place cause)) left = absurd left
was-read more (Err ReadFault) left = absurd left
was-read more (Err WriteFault) left = λ e. cc

-- a file that was read is judged so
pub judges-read : (x : Option Coming) (v : Vec Compiled) (more : List Plan) (r : Result (Unit {0}) Fault)
    → IfSome x (λ c. c.ending ≡ Clean → length c.text < 2 ^ 40 → (place : ℕ) (cause : Cause) → IsFirstFault c.text place cause → as_read v ≢ unread OutOfMemory → as_read v ≡ unread (BadPlanFile place cause))
    → IfSome x (λ c. c.ending ≢ Faulty) → MayLeave more r → IfSome x (λ c. Judges c r)
judges-read None v more r exact whole left = tt
judges-read (Some c) v more r exact whole left = (
  λ loaded. whole,
  λ clean short memory write. record {
    loaded = λ plans file. is-loaded more r left memory write;
    refused = λ place cause first. let wrong : as_read v ≡ unread (BadPlanFile place cause) = exact clean short place cause first (λ e. cc) in absurd (cc);
    read = was-read more r left;
  },
)

-- ---- by name

-- what an opener answers
abbrev opened : {I : Type 0} → I → Result I Missing
opened input = Ok input

abbrev unopened : (I : Type 0) → Missing → Result I Missing
unopened I e = Err e

-- what an opener gave was loaded
source-loaded : {I : Type 0} (coming : I → Option Coming) (source : Option Content) (input : I) (Missed : Type 0) (r : Result (Unit {0}) Fault) → OpensAs coming source (opened input)
    → IfSome (coming input) (λ x. Judges x r) → MatchOption source Missed (λ c. (coming input ≡ Some (coming_of c)) × Judges (coming_of c) r)
source-loaded coming None input Missed r opens judged = absurd (cc)
source-loaded coming (Some c) input Missed r opens judged = (opens, subst (λ x. IfSome x (λ y. Judges y r)) opens judged)

pub named-loaded : {I : Type 0} (coming : I → Option Coming) (sources : Option Sources) (name : List ℕ) (input : I) (Missed : Type 0) (r : Result (Unit {0}) Fault)
    → IfSome sources (λ s. OpensAs coming (source_of name s.named) (opened input)) → IfSome (coming input) (λ x. Judges x r)
    → IfSome sources (λ s. MatchOption (source_of name s.named) Missed (λ c. (coming input ≡ Some (coming_of c)) × Judges (coming_of c) r))
named-loaded coming None name input Missed r opens judged = tt
named-loaded coming (Some s) name input Missed r opens judged = source-loaded coming (source_of name s.named) input Missed r opens judged

-- an opener that gives nothing has nothing under the name
source-missing : {I : Type 0} (coming : I → Option Coming) (source : Option Content) (e : Missing) (Missed : Type 0) (r : Result (Unit {0}) Fault) → OpensAs coming source (unopened I e)
    → Missed → MatchOption source Missed (λ c. (None ≡ Some (coming_of c)) × Judges (coming_of c) r)
source-missing coming None e Missed r opens missed = missed
source-missing coming (Some c) e Missed r opens missed = absurd opens

named-missing : {I : Type 0} (coming : I → Option Coming) (sources : Option Sources) (name : List ℕ) (e : Missing) (Missed : Type 0) (r : Result (Unit {0}) Fault)
    → IfSome sources (λ s. OpensAs coming (source_of name s.named) (unopened I e)) → Missed
    → IfSome sources (λ s. MatchOption (source_of name s.named) Missed (λ c. (None ≡ Some (coming_of c)) × Judges (coming_of c) r))
named-missing coming None name e Missed r opens missed = tt
named-missing coming (Some s) name e Missed r opens missed = source-missing coming (source_of name s.named) e Missed r opens missed

-- it was reported, or could not be
unread-said : (name : List ℕ) (a b : Option (List ℕ)) (result : Fault) → IsMessage (message_on name ReadFault) ReadFault result a b → IsUnread (stopped result)
unread-said name a b result (Written is all) = inl (ap stopped is)
unread-said name a b result (Cut is part) = inr (ap stopped is)

-- a message alone, where nothing was opened and so nothing loaded
pub missing-loads : {I : Type 0} (coming : I → Option Coming) (store : Shelves) (name : List ℕ) (sources : Option Sources) (ts : List TicketParts) (a b : Option (List ℕ)) (e : Missing) (result : Fault)
    → IfSome sources (λ s. OpensAs coming (source_of name s.named) (unopened I e)) → IsMessage (message_on name ReadFault) ReadFault result a b
    → LoadsNamed store name sources ts ts a b (stopped result)
missing-loads coming store name sources ts a b e result opens said =
    let loads : Loads store name None None ts ts a b (stopped result) = record {
      published = [];
      answer = Err ReadFault;
      grown = sym (append-nil ts);
      here = All-nil (IsOf store);
      plans = refl;
      said = says-message a a b name [] ReadFault result (Appends-nil a) said;
    } in
    record {
      coming_old = None;
      coming_new = None;
      loads = loads;
      source = named-missing coming sources name e (IsUnopened ts ts (Err ReadFault) (stopped result)) (stopped result) opens
          record { reported = refl; unread = unread-said name a b result said; none = refl };
    }
