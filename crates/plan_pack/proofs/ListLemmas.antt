-- The refusal of a list: none where all is within its limits.
use Rattle.std.proofs.Common.{◌≡◌, ◌≢◌, ◌⊎◌, ℕ, true, false, List, IfErr, IfSome, Option, None, Some, Ok, Err, Result, inl, inr, ap, refl, subst, sym}
use Rattle.std.specs.List.{AllZip}
use Rattle.byte_io.specs.Devices.{Coming, IfKnown}
use Rattle.byte_io.specs.Sources.{AreShort, Ask, Content, OpensAs, Sources, after, ask_of, taken_by}
use Rattle.byte_io.proofs.KnownLemmas.{IfKnown-weaker}
use Rattle.lit_base.specs.Faults.{RefusedBy}
use Rattle.lit_base.specs.Literals.{Literals}
use Rattle.lit_base.specs.NormalForm.{IsPlaceOf}
use Rattle.lit_base.specs.declared.fault.Fault.{Fault}
use Rattle.lit_base.specs.declared.fold.Fold.{Fold}
use Rattle.lit_base.specs.declared.lit_list.Normal.{Normal}
use Rattle.plan_pack.specs.Lists.{ArePlaces}
use Rattle.plan_pack.specs.Taken.{CanBeOpened, NamesStop, OpensBeforeMemory, TakesList, TakesPlaces}
use Rattle.plan_pack.specs.declared.notation.Reading.{Reading}
use Rattle.plan_pack.specs.declared.stop.Refusal.TheVariants.{NoLiterals}
use Rattle.plan_pack.specs.declared.stop.Stop.{Stop}
use Rattle.plan_pack.specs.declared.stop.Stop.TheVariants.{OutOfMemory, Refused}

-- a call that was done is not refused
pub not-refused : (refusal : Option Fault) (r : Result (Unit {0}) Fault) → RefusedBy refusal r → r ≡ Ok tt → refusal ≡ None
not-refused None r a done = refl
not-refused (Some fault) r a done = (cc)

-- places in the list of a fold are places in the list
pub placed : (fold : Fold) (texts : List (List ℕ)) (list : Literals) (patterns raw : List (List ℕ)) (places : List (Option ℕ)) → list ≡ record { folding = fold; texts = texts } → raw ≡ patterns
    → AllZip (IsPlaceOf fold list.texts) raw places → ArePlaces list patterns places
placed fold texts list patterns raw places e same p =
    subst (λ f. AllZip (IsPlaceOf f list.texts) patterns places) (sym (ap (λ (l : Literals). l.folding) e)) (subst (λ xs. AllZip (IsPlaceOf fold list.texts) xs places) same p)

-- a list that is had with its places is had
pub without-places : (reading : Reading) (file : List ℕ) (known mid : Option Sources) (list : Literals) (normal : Normal)
    → IfKnown known mid (λ s left. AreShort s → (left ≡ after (ask_of file) s) × TakesPlaces reading file (taken_by (ask_of file) s) (Ok (list, normal)))
    → IfKnown known mid (λ s left. AreShort s → (left ≡ after (ask_of file) s) × TakesList reading file (taken_by (ask_of file) s) (Ok list))
without-places reading file known mid list normal reads =
    IfKnown-weaker known mid _ (λ s left. AreShort s → (left ≡ after (ask_of file) s) × TakesList reading file (taken_by (ask_of file) s) (Ok list)) reads (λ s left h short.
    let taken = h short in
    (taken.0, (taken.1.0, taken.1.1)))

-- where a list is refused, the refusal names the pattern
pub named-reported : {T : Type 0} (reading : Reading) (file : List ℕ) (known left : Option Sources) (r : Result T Stop)
    → IfKnown known left (λ s l. AreShort s → (l ≡ after (ask_of file) s) × IfErr r (NamesStop reading (taken_by (ask_of file) s)))
    → IfErr r (λ stop. IfKnown known left (λ s l. AreShort s → NamesStop reading (taken_by (ask_of file) s) stop))
named-reported reading file known left (Ok list) named = tt
named-reported reading file known left (Err stop) named =
    IfKnown-weaker known left _ (λ s l. AreShort s → NamesStop reading (taken_by (ask_of file) s) stop) named (λ s l h short. (h short).1)

-- where a list that was had is refused, it has no literal, and no pattern is named
pub none-named : {T : Type 0} (reading : Reading) (file : List ℕ) (known mid : Option Sources) (P : Sources → Sources → Type 0) (r : Result T Stop)
    → IfErr r (λ stop. (stop ≡ Refused NoLiterals) ⊎ (stop ≡ OutOfMemory)) → IfKnown known mid P
    → IfErr r (λ stop. IfKnown known mid (λ s left. AreShort s → NamesStop reading (taken_by (ask_of file) s) stop))
none-named reading file known mid P (Ok x) why reads = tt
none-named reading file known mid P (Err stop) (inl is) reads =
    IfKnown-weaker known mid P (λ s left. AreShort s → NamesStop reading (taken_by (ask_of file) s) stop) reads (λ s left h short. subst (NamesStop reading (taken_by (ask_of file) s)) (sym is) tt)
none-named reading file known mid P (Err stop) (inr is) reads =
    IfKnown-weaker known mid P (λ s left. AreShort s → NamesStop reading (taken_by (ask_of file) s) stop) reads (λ s left h short. subst (NamesStop reading (taken_by (ask_of file) s)) (sym is) tt)

-- what was opened can be opened
opens-some : {I : Type 0} (f : I → Option Coming) (input : I) (source : Option Content) → OpensAs {I = I} f source (Ok input) → source ≢ None
opens-some f input None opens = λ none. (let bad : false ≡ true = opens in (cc))
opens-some f input (Some c) opens = λ none. (cc)

can-open : {I : Type 0} (f : I → Option Coming) (input : I) (known : Option Sources) (ask : Ask) → IfSome known (λ s. OpensAs {I = I} f (taken_by ask s) (Ok input)) → CanBeOpened known ask
can-open f input None ask opens = tt
can-open f input (Some s) ask opens = opens-some f input (taken_by ask s) opens

-- so whatever came of it came after that
pub open-before-memory : {T : Type 0} (known : Option Sources) (ask : Ask) (r : Result T Stop) → CanBeOpened known ask → OpensBeforeMemory known ask r
open-before-memory known ask (Ok x) there = there
open-before-memory known ask (Err stop) there = λ memory. there

pub opened-before-memory : {I T : Type 0} (f : I → Option Coming) (input : I) (known : Option Sources) (ask : Ask) (r : Result T Stop)
    → IfSome known (λ s. OpensAs {I = I} f (taken_by ask s) (Ok input)) → OpensBeforeMemory known ask r
opened-before-memory f input known ask r opens = open-before-memory known ask r (can-open f input known ask opens)
