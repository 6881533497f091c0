-- A `Result` made an `Option` by `ok()`.
use Rattle.std.proofs.Common.{◌≡◌, ℕ, Option, Some, None, Result, Ok, Err, refl, subst, sym, ◌∙◌}
use Rattle.std.specs.Result.{IfErr, IsErrAnd, result_ok}
use Rattle.std.specs.Option.{ok_or, IfSome, IfNone}
use Rattle.lit_cert.specs.declared.fault.Fault.{Fault}
use Rattle.lit_cert.specs.declared.fault.Fault.TheVariants.{OutOfMemory, BadCertText, ReadFault, WriteFault}
use Rattle.lit_cert.specs.Reading.{IsBadLine}

-- the value is the value of the call, which did not fail
pub ok_is : {T E : Type 0} (r : Result T E) (x : T) → Some x ≡ result_ok r → r ≡ Ok x
ok_is (Ok y) x e = cc
ok_is (Err d) x e = absurd cc

-- with no value the call failed
pub ok_is_not : {T E : Type 0} (r : Result T E) (x : T) → None ≡ result_ok r → r ≡ Ok x → ⊥
ok_is_not (Ok y) x e is = cc
ok_is_not (Err d) x e is = cc

-- the exit of a `?` that follows `ok_or`: the fault is the given one, and there was no value
pub from_none : {A T : Type 0} (res : Result T Fault) (o : Option A) (d e : Fault) (P : Fault → Type 0) → IsErrAnd res (λ y. y ≡ d) → Err d ≡ ok_or o e → (o ≡ None → P e) → IfErr res P
from_none (Ok x) o d e P h is p = tt
from_none (Err y) (Some a) d e P h is p = absurd cc
from_none (Err y) None d e P h is p =
    let given : y ≡ e = h ∙ cc in
    subst P (sym given) (p refl)

-- what an option says of no value
pub at_none : {A : Type 0} (o : Option A) (P : Type 0) → o ≡ None → IfNone o P → P
at_none None P e h = h
at_none (Some a) P e h = absurd cc

-- the exit of a `?` that passes on a fault
pub from_same : {T : Type 0} (res : Result T Fault) (d : Fault) (P : Fault → Type 0) → IsErrAnd res (λ y. y ≡ d) → P d → IfErr res P
from_same (Ok x) d P h p = tt
from_same (Err y) d P h p = subst P (sym h) p

-- the same line is wrong for a weaker reason
pub bad_line_weaker : (k : ℕ) (A B : Type 0) (e : Fault) → (A → B) → IsBadLine k A e → IsBadLine k B e
bad_line_weaker k A B OutOfMemory f h = tt
bad_line_weaker k A B (BadCertText line) f h = (h.0, f h.1)
bad_line_weaker k A B ReadFault f h = h
bad_line_weaker k A B WriteFault f h = h

-- what an option says of its value, past the `?` that follows `ok_or`
pub from_some : {A : Type 0} (P : A → Type 0) (o : Option A) (x : A) (e : Fault) → Ok x ≡ ok_or o e → IfSome o P → P x
from_some P None x e is h = absurd cc
from_some {A} P (Some a) x e is h =
    let same : a ≡ x = cc in
    subst P same h
