-- The walk goes along the chain of the text's key, and looks up each width among its literals.
use Rattle.std.proofs.Common.{◌≡◌, ℕ, ◌<◌, ◌≤◌, [], length, get_or, sym, ap, ◌∙◌, subst, arith}
use Rattle.std.proofs.lemmas.List.{get_or_read}
use Rattle.lit_base.proofs.LengthLemmas.{lengths_rise}
use Rattle.list_index.specs.Chains.{EndsKeyed}
use Rattle.list_index.specs.KeyChains.{Reaches, hash_at}
use Rattle.list_index.specs.LongChains.{IsFirstHashed, IsSkip, NoneHashedEnds, hashed_width, hashed_width_at, suffix_hash}
use Rattle.list_index.specs.Suffixes.{suffix_key}
use Rattle.list_index.proofs.ChainLemmas.{kept_key, no_shorter, reaches_first}
use Rattle.list_index.proofs.LongLemmas.{first_of_wide, hash_none, none_fits, reaches_skip}
use Rattle.list_index.proofs.SuffixLemmas.{AreBytes, are_bytes}
use Rattle.list_index.proofs.suffixes.long_chains.LongChains.next_keyed.Goals as goal
use Rattle.list_index.proofs.suffixes.long_chains.LongChains.next_keyed.Goals.{then-width-ge8+in_default, else-width-ge8}

pub loop-next-init : goal.loop-next-init
loop-next-init c =
    let l = c.args.literals.now in
    let text = c.args.text.now in
    let bytes : AreBytes text = are_bytes text c.type_inv.text in
    let key : c.suffix_key.result ≡ suffix_key l.folding text c.args.end 8 = c.suffix_key.ensures ∙ ap (λ f. suffix_key f text c.args.end 8) c.fold.ensures in
    let keyed : (place : ℕ) → EndsKeyed l text c.args.end 8 place → get_or c.args.short.now.keys.items place 0 ≡ c.suffix_key.result = λ place ends. kept_key l c.args.short.now c.requires.keyed text bytes c.args.end 8 (omega arith) place ends ∙ sym key in
    let sought = EndsKeyed l text c.args.end 8 in
    let first = c.first_with-next.ensures in
    record {
      reached = subst (λ k. Reaches c.args.short.now k sought c.args.from c.first_with-next.result) key
          (reaches_first c.args.short.now c.suffix_key.result sought keyed c.args.from c.first_with-next.result first.within first.skipped first.has);
      narrower = λ low. omega arith;
      hash = sym (hash_none l.folding text c.args.end);
    }

pub returns-then-end-width : goal.returns-then-end-width
returns-then-end-width c =
    let l = c.args.literals.now in
    let next = c.loop-next.next in
    let inside : next < length l.texts = omega (arith, c.loop-next-test.true, c.len.ensures.value) in
    let width : c.hashed_width-width.result ≡ hashed_width_at l next = c.hashed_width-width.ensures ∙ ap (λ t. hashed_width (length t)) (get_or_read l.texts next c.get.result.now inside c.get.ensures.value []) in
    none_fits l (lengths_rise l c.normal_law.ensures) c.args.text.now c.args.from c.args.end c.args.short.now (suffix_key l.folding c.args.text.now c.args.end 8) next inside c.loop-next.invariant.reached
    (omega (arith, width, c.if-end-width.true))

pub returns-in-Some : goal.returns-in-Some
returns-in-Some c =
    let l = c.args.literals.now in
    let text = c.args.text.now in
    let next = c.loop-next.next in
    let inside : next < length l.texts = omega (arith, c.loop-next-test.true, c.len.ensures.value) in
    let width : c.hashed_width-width.result ≡ hashed_width_at l next = c.hashed_width-width.ensures ∙ ap (λ t. hashed_width (length t)) (get_or_read l.texts next c.get.result.now inside c.get.ensures.value []) in
    first_of_wide l (lengths_rise l c.normal_law.ensures) text c.args.from c.args.end c.args.short.now (suffix_key l.folding text c.args.end 8) next inside c.loop-next.invariant.reached c.in-Some.place
    (omega (arith, width, c.if-width-ge8.true)) (subst (λ w. IsFirstHashed l text c.args.from c.args.end w c.in-Some.place) width c.in-Some.ensures)

pub loop-next-preserved : goal.loop-next-preserved
loop-next-preserved c =
    let l = c.args.literals.now in
    let text = c.args.text.now in
    let short = c.args.short.now in
    let next = c.loop-next.next in
    let skips = c.args.self.now.skips.items in
    let old = c.loop-next.invariant in
    let bytes : AreBytes text = are_bytes text c.type_inv.text in
    let inside : next < length l.texts = omega (arith, c.loop-next-test.true, c.len.ensures.value) in
    let width : c.hashed_width-width.result ≡ hashed_width_at l next = c.hashed_width-width.ensures ∙ ap (λ t. hashed_width (length t)) (get_or_read l.texts next c.get.result.now inside c.get.ensures.value []) in
    let read = get_or_read skips next c.index.result.now (omega (arith, inside, c.requires.of.skips_len)) c.index.ensures 0 in
    let far : IsSkip (hash_at short.bits short.keys.items) (hashed_width_at l) (length l.texts) next c.index.result.now =
    subst (IsSkip (hash_at short.bits short.keys.items) (hashed_width_at l) (length l.texts) next) (sym read) (c.requires.of.skips next (omega arith) inside) in
    let key = suffix_key l.folding text c.args.end 8 in
    let sought = EndsKeyed l text c.args.end 8 in
    let keyed = kept_key l short c.requires.keyed text bytes c.args.end 8 (omega arith) in
    let later : c.index.result.now < length l.texts → hashed_width_at l next ≤ hashed_width_at l c.index.result.now = λ low.
    omega (arith, no_shorter l (lengths_rise l c.normal_law.ensures) next c.index.result.now (omega (arith, far.above)) low) in
    elim c.if-width-ge8.branch [
      | then-width-ge8+in_default w ↦
          let none : NoneHashedEnds l text c.args.from c.args.end (hashed_width_at l next) = subst (NoneHashedEnds l text c.args.from c.args.end) width w.in_default.ensures in
          record {
            reached = reaches_skip short key sought keyed (hashed_width_at l) (length l.texts) c.args.from next c.index.result.now c.requires.keyed.len inside far (λ place low alike ends. none place low (alike, ends.1)) old.reached;
            narrower = λ low. omega (arith, later low, w.hashed-is, width);
            hash = w.hash-is ∙ w.longer_hash-hash.ensures ∙ ap (λ f. suffix_hash f text c.args.end c.hashed_width-width.result) w.fold-then-width-ge8.ensures ∙ ap (suffix_hash l.folding text c.args.end) (sym w.hashed-is);
          }
      | else-width-ge8 w ↦
          record {
            reached = reaches_skip short key sought keyed (hashed_width_at l) (length l.texts) c.args.from next c.index.result.now c.requires.keyed.len inside far (λ place low alike ends. absurd (omega (arith, alike, ends.0, width, w.if-width-ge8.false))) old.reached;
            narrower = λ low. omega (arith, later low, old.narrower inside, w.hashed-is);
            hash = w.hash-is ∙ old.hash ∙ ap (suffix_hash l.folding text c.args.end) (sym w.hashed-is);
          }
    ]
