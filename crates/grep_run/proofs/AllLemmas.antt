-- All inputs of a run: of its operands, or standard input alone.
use Rattle.std.proofs.Common.{◌≡◌, ℕ, ◌<◌, Bool, true, false, ◌&&◌, List, [], ◌∷◌, map, length, Option, Result, Ok, Err, eqb, refl, arith}
use Rattle.byte_io.specs.Sources.{AreShort, Ask, Sources, after, ask_of, taken_by}
use Rattle.std.proofs.lemmas.List.{length-map}
use Rattle.std.proofs.lemmas.Bool.Decides.{nat_tests}
use Rattle.byte_io.specs.Devices.{IfKnown}
use Rattle.byte_io.proofs.KnownLemmas.{IfKnown-none, IfKnown-weaker}
use Rattle.grep_run.specs.declared.options.GrepOptions.{GrepOptions}
use Rattle.grep_run.specs.declared.request.Found.{Found}
use Rattle.grep_run.specs.declared.status.Stop.{Stop}
use Rattle.grep_run.specs.Grep.{searched}
use Rattle.grep_run.specs.Options.{asks_or_standard}
use Rattle.grep_run.specs.Searching.{Searches, SearchesAll, StopsAt}
use Rattle.grep_run.specs.Sources.{found, name_of}
use Rattle.grep_run.specs.Writers.{Writer}
use Rattle.grep_run.proofs.SearchLemmas.{InputsSoFar-all, InputsSoFar-cut, InputsSoFar-last, InputsSoFar-more, InputsSoFar-none, StopsAt-none}

-- the findings in no input
abbrev nothing : Found
nothing = record { is_selected = false; is_error = false }

-- one input alone
one-alone : (o : GrepOptions) (test : List ℕ → Bool) (ask : Ask) (s left : Sources) (r : Result Found Stop) (out_old out_new err_old err_new : Writer) → AreShort s → left ≡ after ask s
    → Searches o test (name_of ask) (taken_by ask s) r out_old out_new err_old err_new → SearchesAll o test (searched o test (found (ask ∷ []) s)) s left r out_old out_new err_old err_new
one-alone o test ask s left (Ok one) out_old out_new err_old err_new short e p =
    let first = InputsSoFar-none o test (ask ∷ []) s nothing out_old err_old refl refl short in
    elim (o.quiet && one.is_selected) as (λ b. (o.quiet && one.is_selected) ≡ b → SearchesAll o test (searched o test (found (ask ∷ []) s)) s left (Ok one) out_old out_new err_old err_new) [
      | true ↦ λ ends. InputsSoFar-last ask [] left first e one one out_new err_new p refl refl ends
      | false ↦ λ goes. InputsSoFar-all one (InputsSoFar-more ask [] left first e one one out_new err_new p refl refl goes)
    ] refl
one-alone o test ask s left (Err stop) out_old out_new err_old err_new short e p =
    InputsSoFar-cut ask [] left (InputsSoFar-none o test (ask ∷ []) s nothing out_old err_old refl refl short) e out_new err_new p

pub search-alone : (o : GrepOptions) (test : List ℕ → Bool) (ask : Ask) (known left : Option Sources) (r : Result Found Stop) (out_old out_new err_old err_new : Writer)
    → IfKnown known left (λ s l. AreShort s → (l ≡ after ask s) × Searches o test (name_of ask) (taken_by ask s) r out_old out_new err_old err_new)
    → IfKnown known left (λ s l. AreShort s → SearchesAll o test (searched o test (found (ask ∷ []) s)) s l r out_old out_new err_old err_new)
search-alone o test ask known left r out_old out_new err_old err_new p =
    IfKnown-weaker known left _ (λ s l. AreShort s → SearchesAll o test (searched o test (found (ask ∷ []) s)) s l r out_old out_new err_old err_new) p
    (λ s l h short. let both = h short in one-alone o test ask s l r out_old out_new err_old err_new short both.0 both.1)

-- where there are operands, their inputs are all
pub asks-some : (operands : List (List ℕ)) → 0 < length operands → asks_or_standard operands ≡ map ask_of operands
asks-some [] some = absurd (omega arith)
asks-some (operand ∷ operands) some = refl

-- what a test for no operand says of them
is-zero : (n : ℕ) → true ≡ eqb n 0 → n ≡ 0
is-zero n e = grind (arith, nat_tests)

is-positive : (n : ℕ) → false ≡ eqb n 0 → 0 < n
is-positive n e = grind (arith, nat_tests)

pub map-none : {X : Type 0} (f : X → List ℕ) (xs : List X) → true ≡ eqb (length xs) 0 → map f xs ≡ []
map-none f [] e = refl
map-none f (x ∷ xs) e = absurd (omega (arith, is-zero (length (x ∷ xs)) e))

pub map-some : {X : Type 0} (f : X → List ℕ) (xs : List X) → false ≡ eqb (length xs) 0 → 0 < length (map f xs)
map-some f xs e = omega (arith, is-positive (length xs) e, length-map xs f)

-- where there is no memory to begin, there is no ask and nothing is written
pub search-none : (o : GrepOptions) (test : List ℕ → Bool) (all : List Ask) (known : Option Sources) (out err : Writer)
    → IfKnown known known (λ s l. AreShort s → StopsAt o test (searched o test (found all s)) s l out out err err)
search-none o test all known out err =
    IfKnown-none known (λ s l. AreShort s → StopsAt o test (searched o test (found all s)) s l out out err err) (λ s short. StopsAt-none o test (searched o test (found all s)) s out err)
