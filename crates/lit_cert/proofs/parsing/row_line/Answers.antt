use Rattle.std.proofs.Common.{◌≡◌, ◌≢◌, ◌∙◌, ◌+◌, ◌∷◌, ◌++◌, ℕ, List, Bor, All, sym, ap, refl, map, length, get_or, drop, arith}
use Rattle.std.specs.List.{join_with_byte}
use Rattle.std.specs.Fmt.{decimal}
use Rattle.std.proofs.lemmas.List.{get_or_read}
use Rattle.lit_cert.specs.Spelling.{row_words}
use Rattle.lit_cert.proofs.Lines.{is_line}
use Rattle.lit_cert.proofs.RowLines.{same_numbers, row_numbers, row_has_numbers, no_row, is_row}
use Rattle.lit_cert.proofs.Results.{from_same, from_some, bad_line_weaker}
use Rattle.lit_cert.proofs.parsing.row_line.Goals as goal
use Rattle.lit_cert.proofs.parsing.row_line.Goals.{then-len-n-via-then-len-n, then-len-n-via-else-len-n+then-index-from}

pub returns-in_err-numbers-clause-wrong : goal.returns-in_err-numbers-clause-wrong
returns-in_err-numbers-clause-wrong c =
    let found = from_some (λ (x : Bor (List ℕ) × Bor (List ℕ)). (c.args.text.now ≡ x.0.now ++ 10 ∷ x.1.now) × All (λ b. b ≢ 10) x.0.now) c.first_line.result (c.in_ok-line.line, c.in_ok-line.rest) _ c.in_ok-line.ensures.value c.first_line.ensures.found in
    from_same c.from_residual-in_err-numbers.result c.in_err-numbers.field-0.0 _ c.from_residual-in_err-numbers.ensures.1
    (bad_line_weaker (c.args.r + 5) _ _ c.in_err-numbers.field-0.0
    (λ none. no_row c.args.text.now c.in_ok-line.line.now c.in_ok-line.rest.now c.args.n (c.args.r + 1) (omega arith) found.0 found.1 (λ row is e. none ((c.args.r + 1) ∷ row) (row_has_numbers c.in_ok-line.line.now c.args.n (c.args.r + 1) row (omega arith) is e)))
    c.in_err-numbers.ensures.wrong)

pub returns-then-len-n-clause-wrong : goal.returns-then-len-n-clause-wrong
returns-then-len-n-clause-wrong c =
    let found = from_some (λ (x : Bor (List ℕ) × Bor (List ℕ)). (c.args.text.now ≡ x.0.now ++ 10 ∷ x.1.now) × All (λ b. b ≢ 10) x.0.now) c.first_line.result (c.in_ok-line.line, c.in_ok-line.rest) _ c.in_ok-line.ensures.value c.first_line.ensures.found in
    let read = c.in_ok-numbers.ensures.found in
    let numbers = c.in_ok-numbers.numbers.items in
    let numbers_len = c.in_ok-numbers.numbers.ok.0 in (
      refl,
      no_row c.args.text.now c.in_ok-line.line.now c.in_ok-line.rest.now c.args.n (c.args.r + 1) (omega arith) found.0 found.1 (λ row is e.
          let same = same_numbers c.in_ok-line.line.now numbers ((c.args.r + 1) ∷ row) read.some (omega arith) read.small (row_numbers c.args.n (c.args.r + 1) row (omega arith) is) read.line_is e in
          elim c.then-len-n.branch [
            | then-len-n-via-then-len-n w ↦ w.if-len-n.true (omega (arith, numbers_len, ap length same, is.len))
            | then-len-n-via-else-len-n+then-index-from w ↦ w.if-index-from.true (get_or_read numbers 0 w.index.result.now (omega arith) w.index.ensures 0 ∙ ap (λ (xs : List ℕ). get_or xs 0 0) same ∙ sym w.from.ensures)
          ]),
    )

pub returns-clause-found : goal.returns-clause-found
returns-clause-found c =
    let found = from_some (λ (x : Bor (List ℕ) × Bor (List ℕ)). (c.args.text.now ≡ x.0.now ++ 10 ∷ x.1.now) × All (λ b. b ≢ 10) x.0.now) c.first_line.result (c.in_ok-line.line, c.in_ok-line.rest) _ c.in_ok-line.ensures.value c.first_line.ensures.found in
    let read = c.in_ok-numbers.ensures.found in
    let numbers = c.in_ok-numbers.numbers.items in
    let first : get_or numbers 0 0 ≡ c.args.r + 1 = sym (get_or_read numbers 0 c.index.result.now read.some c.index.ensures 0) ∙ c.if-index-from.false ∙ c.from.ensures in
    let row = is_row numbers c.args.n (c.args.r + 1) (omega (arith, c.in_ok-numbers.numbers.ok.0)) first read.small in
    (drop 1 numbers, row.0, row.1, is_line c.args.text.now c.in_ok-line.line.now c.in_ok-line.rest.now (row_words (c.args.r + 1) (drop 1 numbers)) found.0 (read.line_is ∙ ap (λ (xs : List ℕ). join_with_byte 32 (map decimal xs)) row.1))
