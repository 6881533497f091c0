use Rattle.std.proofs.Common.{ℕ, ◌∙◌, List, sym, ap, get_or, arith}
use Rattle.std.specs.Prelude.{IfSome, IfNone}
use Rattle.std.proofs.lemmas.Fmt.{decimal_digit}
use Rattle.lit_cert.proofs.Numbers.{IsNumber, IsNoNumber, first_is_digit, zero_alone, parse_reads, first_byte, no_first_byte, one_byte, found_by, number_is_text, text_from_bytes, not_text_from_bytes}
use Rattle.lit_cert.proofs.parsing.number_of.Goals as goal

pub returns-in_err-first-clause-none : goal.returns-in_err-first-clause-none
returns-in_err-first-clause-none c = rw c.from_residual.ensures (λ n small e.
    let digit = first_is_digit c.args.word.now n small e in
    let empty = ap (λ (w : List ℕ). get_or w 0 0) (no_first_byte c.args.word.now c.in_err-first.ensures.value) in
    omega arith)

pub returns-then-word-eq1-clause-found : goal.returns-then-word-eq1-clause-found
returns-then-word-eq1-clause-found c =
    let first = first_byte c.args.word.now _ c.in_ok-first.ensures.value in
    (omega arith, one_byte c.args.word.now 48 (first ∙ c.if-first-eq48.true) c.if-word-eq1.true ∙ sym (decimal_digit 0 (omega arith)))

pub returns-else-word-eq1-clause-none : goal.returns-else-word-eq1-clause-none
returns-else-word-eq1-clause-none c n small e =
    let first = first_byte c.args.word.now _ c.in_ok-first.ensures.value in
    c.if-word-eq1.false (zero_alone c.args.word.now n small e (first ∙ c.if-first-eq48.true))

pub returns-then-first-eq43-clause-none : goal.returns-then-first-eq43-clause-none
returns-then-first-eq43-clause-none c n small e =
    let first = first_byte c.args.word.now _ c.in_ok-first.ensures.value in
    let digit = first_is_digit c.args.word.now n small e in
    omega arith

pub returns-in_err-ok-clause-none : goal.returns-in_err-ok-clause-none
returns-in_err-ok-clause-none c = rw c.from_residual-in_err-ok.ensures (λ n small e.
    not_text_from_bytes _ c.from_utf8.result c.args.word.now c.in_err-ok.ensures.value c.from_utf8.ensures.cases (number_is_text c.args.word.now n small e))

-- what the last call answers, of the word itself
parsed : (c : goal.After-ok-2) → IfSome c.ok-2.result (IsNumber c.args.word.now) × IfNone c.ok-2.result (IsNoNumber c.args.word.now)
parsed c =
    let text = text_from_bytes _ c.from_utf8.result c.in_ok-ok.field-0 c.args.word.now c.in_ok-ok.ensures.value c.from_utf8.ensures.cases in
    let first = first_byte c.args.word.now _ c.in_ok-first.ensures.value in
    let parses = rw text at c.parse.ensures.value.0 in
    found_by c.ok-2.result c.parse.result c.args.word.now c.ok-2.ensures.value (parse_reads c.args.word.now c.parse.result parses (λ e. c.if-first-eq43.false (sym first ∙ e)) (λ e. c.if-first-eq48.false (sym first ∙ e)))

pub returns-clause-found : goal.returns-clause-found
returns-clause-found c = (parsed c).0

pub returns-clause-none : goal.returns-clause-none
returns-clause-none c = (parsed c).1
