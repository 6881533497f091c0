-- The walk stays on the chain of the text's key, and passes no literal with a key of this width that ends there.
use Rattle.std.proofs.Common.{◌≡◌, ◌<◌, ◌≤◌, length, sym, ap, ◌∙◌, subst, arith}
use Rattle.std.proofs.lemmas.List.{get_or_read}
use Rattle.list_index.specs.Chains.{EndsKeyed}
use Rattle.list_index.specs.KeyChains.{Reaches}
use Rattle.list_index.specs.Suffixes.{suffix_key, hash_of}
use Rattle.list_index.proofs.ChainLemmas.{kept_key, reaches_link}
use Rattle.list_index.proofs.SuffixLemmas.{AreBytes, are_bytes}
use Rattle.list_index.proofs.suffixes.chains.SuffixChains.next_keyed.Goals as goal
use Rattle.list_index.proofs.suffixes.chains.SuffixChains.next_keyed.Goals.{else-from-next-via-then-from-next+else-ends_with_key, else-from-next-via-else-from-next}

pub loop-next-init : goal.loop-next-init
loop-next-init c =
    let l = c.args.literals.now in
    let bytes : AreBytes c.args.text.now = are_bytes c.args.text.now c.type_inv.text in
    let key : c.suffix_key-key.result ≡ suffix_key l.folding c.args.text.now c.args.end c.args.width = c.suffix_key-key.ensures ∙ ap (λ f. suffix_key f c.args.text.now c.args.end c.args.width) c.fold.ensures in
    let first = c.first_with-next.ensures in
    record {
      within = first.within;
      passed = λ place low high ends. first.skipped place low high (kept_key l c.args.self.now.short c.requires.of.short c.args.text.now bytes c.args.end c.args.width c.requires.narrow place ends ∙ sym key);
      has = λ inside. first.has inside ∙ ap (hash_of c.args.self.now.short.bits) key;
    }

pub loop-next-preserved : goal.loop-next-preserved
loop-next-preserved c =
    let l = c.args.literals.now in
    let short = c.args.self.now.short in
    let bytes : AreBytes c.args.text.now = are_bytes c.args.text.now c.type_inv.text in
    let next = c.loop-next.next in
    let inside : next < length short.keys.items = omega (arith, c.loop-next-test.true, c.requires.of.short.len, c.len.ensures.value) in
    let linked : next < length short.links.items = omega (arith, inside, c.requires.of.short.chained.links_len) in
    let apart : c.args.from ≤ next → ¬ EndsKeyed l c.args.text.now c.args.end c.args.width next =
    elim c.else-from-next.branch [
      | else-from-next-via-then-from-next+else-ends_with_key w ↦ λ low ends. let no = w.if-ends_with_key.false in let yes = w.ends_with_key.ensures.1 ends in (cc)
      | else-from-next-via-else-from-next w ↦ λ low ends. absurd (omega (arith, w.if-from-next.false))
    ] in
    let read = get_or_read short.links.items next c.index.result.now linked c.index.ensures 0 in
    let key = suffix_key l.folding c.args.text.now c.args.end c.args.width in
    let sought = EndsKeyed l c.args.text.now c.args.end c.args.width in
    subst (Reaches short key sought c.args.from) (sym read)
    (reaches_link short c.requires.of.short.chained key sought (kept_key l short c.requires.of.short c.args.text.now bytes c.args.end c.args.width c.requires.narrow) c.args.from next inside apart c.loop-next.invariant)
