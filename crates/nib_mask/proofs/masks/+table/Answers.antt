-- The first run's bits, and the rest of the runs.
use Rattle.std.proofs.Common.{◌≡◌, ◌≤◌, ◌-◌, ◌<◌, cond, length, get_or, take, drop, slice_range, subst, sym, ap, ◌∙◌, arith}
use Rattle.std.specs.Int.{bit_at}
use Rattle.std.proofs.lemmas.List.{get_or-replicate, take_all, length-drop}
use Rattle.nib_mask.specs.Runs.{runs_mask}
use Rattle.nib_mask.specs.Tables.{allows}
use Rattle.nib_mask.proofs.Buckets.{first-within, runs_mask-none, runs_mask-first, runs_mask-fifteen}
use Rattle.nib_mask.proofs.masks.+table.Goals as goal

pub kept_halves-kept-requires-clause-within : goal.kept_halves-kept-requires-clause-within
kept_halves-kept-requires-clause-within t c =
    let texts = c.args.list.now.texts in
    subst (λ end. end ≤ length texts) (sym c.from-end.ensures)
    (first-within (length texts) c.args.start c.args.ends.now c.requires.cuts c.in-len1-up.len_at_least)

pub with_first-requires : goal.with_first-requires
with_first-requires t c = λ value less.
    let ends = c.args.ends.now in
    let rest : take (length ends - 1) (drop 1 ends) ≡ drop 1 ends = take_all (length ends - 1) (drop 1 ends) (omega (arith, length-drop 1 ends)) in
    let few : length (take (length ends - 1) (drop 1 ends)) ≤ 15 = omega (arith, ap length rest, length-drop 1 ends, c.requires.few) in
    let is = c.table-later.ensures value less in
    let small = runs_mask-fifteen (allows c.args.list.now.folding c.args.position c.args.half value) c.args.list.now.texts c.from-end.result (take (length ends - 1) (drop 1 ends)) few in
    subst (λ n. n < 32768) (sym is) small

pub returns-in-empty : goal.returns-in-empty
returns-in-empty t c = λ value less.
    get_or-replicate 16 value 0 0 less
    ∙ sym (runs_mask-none (allows c.args.list.now.folding c.args.position c.args.half value) c.args.list.now.texts c.args.start c.args.ends.now c.in-empty.len_below)

pub returns-in-len1-up : goal.returns-in-len1-up
returns-in-len1-up t c = λ value less.
    let test = allows c.args.list.now.folding c.args.position c.args.half value in
    let texts = c.args.list.now.texts in
    let ends = c.args.ends.now in
    let is : c.from-end.result ≡ get_or ends 0 0 = c.from-end.ensures in
    let rest : take (length ends - 1) (drop 1 ends) ≡ drop 1 ends = take_all (length ends - 1) (drop 1 ends) (omega (arith, length-drop 1 ends)) in
    runs_mask-first test texts c.args.start ends (get_or c.with_first.result value 0) (bit_at c.kept_halves-kept.result value) (get_or c.table-later.result value 0)
    c.in-len1-up.len_at_least (c.with_first.ensures value less)
    (c.kept_halves-kept.ensures value less ∙ ap (λ end. cond (test (slice_range texts c.args.start end)) 1 0) is)
    (c.table-later.ensures value less ∙ (λ i. runs_mask test texts (is i) (rest i)))
