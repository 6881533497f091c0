-- The known sources of an opener, from one ask to the next.
use Rattle.std.proofs.Common.{◌≡◌, ℕ, true, false, cond, List, [], ◌∷◌, ◌++◌, All, Option, None, Some, IfSome, Ok, Err, refl, lit<, arith}
use Rattle.std.specs.Str.{bytes_eq}
use Rattle.std.proofs.lemmas.List.Elements.{All-cons, All-tail}
use Rattle.byte_io.specs.Devices.{Coming, IfKnown}
use Rattle.byte_io.specs.Sources.{AreShort, Ask, Content, Created, IsShort, Named, OpensAs, Sources, Standard, after, after_all, after_first, coming_of, content_of, source_of, taken_by, without_first}
use Rattle.byte_io.specs.declared.opener.Missing.{Missing}

-- the content of an ask is short where all are
short-first : (contents : List Content) → All IsShort contents → IsShort (content_of contents)
short-first [] h = lit< tt
short-first (d ∷ rest) h = h 0 d (omega arith)

-- what stands under a name is short
abbrev IsShortEntry : List ℕ × Option Content → Type 0
IsShortEntry e = IfSome e.1 IsShort

-- the source of an ask for a name is short where all are
short-named : (name : List ℕ) (named : List (List ℕ × Option Content)) → All IsShortEntry named → IfSome (source_of name named) IsShort
short-named name [] h = tt
short-named name (e ∷ rest) h =
    elim (bytes_eq e.0 name) as (λ b. IfSome (cond b e.1 (source_of name rest)) IsShort) [
      | true ↦ h 0 e (omega arith)
      | false ↦ short-named name rest (All-tail IsShortEntry e rest h)
    ]

-- what any ask takes is short where all are
pub short-taken : (ask : Ask) (s : Sources) → AreShort s → IfSome (taken_by ask s) IsShort
short-taken (Named name) s h = short-named name s.named h.named
short-taken Standard s h = short-first s.standard h.standard
short-taken (Created name) s h = tt

-- the sources left by an ask are short where all are
short-rest : (name : List ℕ) (named : List (List ℕ × Option Content)) → All IsShortEntry named → All IsShortEntry (without_first name named)
short-rest name [] h = h
short-rest name (e ∷ rest) h =
    elim (bytes_eq e.0 name) as (λ b. All IsShortEntry (cond b rest (e ∷ without_first name rest))) [
      | true ↦ All-tail IsShortEntry e rest h
      | false ↦ All-cons IsShortEntry e (without_first name rest) (h 0 e (omega arith)) (short-rest name rest (All-tail IsShortEntry e rest h))
    ]

short-after_first : (contents : List Content) → All IsShort contents → All IsShort (after_first contents)
short-after_first [] h = h
short-after_first (d ∷ rest) h = All-tail IsShort d rest h

pub short-after : (ask : Ask) (s : Sources) → AreShort s → AreShort (after ask s)
short-after (Named name) s h = record { named = short-rest name s.named h.named; standard = h.standard }
short-after Standard s h = record { named = h.named; standard = short-after_first s.standard h.standard }
short-after (Created name) s h = record { named = h.named; standard = h.standard }

-- one ask after others
pub after_all-append : (asks more : List Ask) (s : Sources) → after_all (asks ++ more) s ≡ after_all more (after_all asks s)
after_all-append [] more s = refl
after_all-append (a ∷ asks) more s = after_all-append asks more (after a s)

pub after_all-one : (asks : List Ask) (a : Ask) (s : Sources) → after_all (asks ++ a ∷ []) s ≡ after a (after_all asks s)
after_all-one asks a s = after_all-append asks (a ∷ []) s

-- what holds of the content of an input that was opened holds of its source
opened-here : {I : Type 0} (f : I → Option Coming) (input : I) (source : Option Content) (R : Option Content → Type 0)
    → OpensAs {I = I} f source (Ok input) → IfSome source IsShort → ((c : Content) → f input ≡ Some (coming_of c) → IsShort c → R (Some c)) → R source
opened-here f input None R opens short h = let bad : false ≡ true = opens in (cc)
opened-here f input (Some c) R opens short h = h c opens short

pub opened : {I : Type 0} (f : I → Option Coming) (input : I) (known left : Option Sources) (ask : Ask) (R : Option Content → Type 0)
    → IfKnown known left (λ s l. l ≡ after ask s) → IfSome known (λ s. OpensAs {I = I} f (taken_by ask s) (Ok input))
    → ((c : Content) → f input ≡ Some (coming_of c) → IsShort c → R (Some c)) → IfKnown known left (λ s l. AreShort s → (l ≡ after ask s) × R (taken_by ask s))
opened f input None left ask R takes gives h = tt
opened f input (Some s) None ask R takes gives h = absurd takes
opened f input (Some s) (Some l) ask R takes gives h = λ short. (takes, opened-here f input (taken_by ask s) R gives (short-taken ask s short) h)

-- where it cannot be opened, what holds of no content holds
missing-here : {I : Type 0} (f : I → Option Coming) (error : Missing) (source : Option Content) (R : Option Content → Type 0) → OpensAs {I = I} f source (Err error) → R None → R source
missing-here f error None R opens h = h
missing-here f error (Some c) R opens h = absurd opens

pub missing : {I : Type 0} (f : I → Option Coming) (error : Missing) (known left : Option Sources) (ask : Ask) (R : Option Content → Type 0)
    → IfKnown known left (λ s l. l ≡ after ask s) → IfSome known (λ s. OpensAs {I = I} f (taken_by ask s) (Err error)) → R None
    → IfKnown known left (λ s l. AreShort s → (l ≡ after ask s) × R (taken_by ask s))
missing f error None left ask R takes gives h = tt
missing f error (Some s) None ask R takes gives h = absurd takes
missing f error (Some s) (Some l) ask R takes gives h = λ short. (takes, missing-here f error (taken_by ask s) R gives h)

-- the sources left by several asks are short where all are
pub short-after_all : (asks : List Ask) (s : Sources) → AreShort s → AreShort (after_all asks s)
short-after_all [] s h = h
short-after_all (a ∷ asks) s h = short-after_all asks (after a s) (short-after a s h)
