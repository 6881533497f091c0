use Rattle.std.proofs.Common.{List, ℕ, ◌≡◌, ◌<◌, ◌^◌, ◌∙◌, ◌++◌, ap, sym, refl, drop, codes, ⊎_elim, arith}
use Rattle.std.specs.Fmt.{decimal}
use Rattle.lit_cert.specs.Spelling.{literals_words}
use Rattle.std.proofs.lemmas.Fmt.{decimal_injective}
use Rattle.lit_cert.proofs.Lines.{no_line_alone, line_is, is_line, after_prefix, plain_number, lacks_by_test}
use Rattle.lit_cert.proofs.parsing.literals_line.Goals as goal

pub returns-in_err-line-clause-none : goal.returns-in_err-line-clause-none
returns-in_err-line-clause-none c =
    rw c.from_residual.ensures (λ n rest count. no_line_alone c.args.text.now (literals_words n) rest c.in_err-line.ensures.none)

pub returns-in_err-n-clause-none : goal.returns-in_err-n-clause-none
returns-in_err-n-clause-none c =
    rw c.from_residual-in_err-n.ensures (λ n rest count e.
    let found = c.in_ok-line.ensures.found in
    let small : n < 2 ^ 64 = omega arith in
    let same = line_is c.args.text.now c.in_ok-line.line.now c.in_ok-line.rest.now (literals_words n) rest found.0 found.1 (plain_number (codes "literals") n (lacks_by_test 10 (codes "literals") refl) small) e in
    let word : c.in_ok-strip_prefix.field-0.now ≡ decimal n = c.in_ok-strip_prefix.ensures.cases.1 ∙ ap (λ (t : List ℕ). drop 9 t) same.0 in
    c.in_err-n.ensures.none n small word)

pub returns-then-n-lt1-clause-none : goal.returns-then-n-lt1-clause-none
returns-then-n-lt1-clause-none c n rest count e =
    let found = c.in_ok-line.ensures.found in
    let small : n < 2 ^ 64 = omega arith in
    let same = line_is c.args.text.now c.in_ok-line.line.now c.in_ok-line.rest.now (literals_words n) rest found.0 found.1 (plain_number (codes "literals") n (lacks_by_test 10 (codes "literals") refl) small) e in
    let word : c.in_ok-strip_prefix.field-0.now ≡ decimal n = c.in_ok-strip_prefix.ensures.cases.1 ∙ ap (λ (t : List ℕ). drop 9 t) same.0 in
    let value = c.in_ok-n.ensures.found.1 in
    let n-is : n ≡ c.in_ok-n.n = decimal_injective n c.in_ok-n.n small c.in_ok-n.ensures.found.0 (sym word ∙ value) in
    ⊎_elim (λ low. omega arith) (λ high. omega arith) c.then-n-lt1.either

pub returns-clause-found : goal.returns-clause-found
returns-clause-found c =
    let found = c.in_ok-line.ensures.found in
    let prefix = c.in_ok-strip_prefix.ensures.cases in
    let line = after_prefix 9 c.in_ok-line.line.now (codes "literals ") c.in_ok-strip_prefix.field-0.now prefix.0 prefix.1 ∙ ap (λ (t : List ℕ). codes "literals " ++ t) c.in_ok-n.ensures.found.1 in
    (record { some = omega arith; few = omega arith }, is_line c.args.text.now c.in_ok-line.line.now c.in_ok-line.rest.now (literals_words c.in_ok-n.n) found.0 line)
