-- The walk stays on the chain of the text's hash, and passes no literal that is hashed by as many bytes and ends there.
use Rattle.std.proofs.Common.{◌≡◌, ℕ, ◌<◌, ◌≤◌, [], length, get_or, sym, ap, ◌∙◌, subst, arith}
use Rattle.std.proofs.lemmas.List.{get_or_read}
use Rattle.std.proofs.lemmas.Option.{slice_get_within}
use Rattle.list_index.specs.KeyChains.{Reaches}
use Rattle.list_index.specs.LongChains.{EndsHashed, hashed_width}
use Rattle.list_index.proofs.ChainLemmas.{reaches_first, reaches_link}
use Rattle.list_index.proofs.LongLemmas.{kept_hash}
use Rattle.list_index.proofs.SuffixLemmas.{AreBytes, are_bytes}
use Rattle.list_index.proofs.suffixes.long_chains.LongChains.next_hashed.Goals as goal
use Rattle.list_index.proofs.suffixes.long_chains.LongChains.next_hashed.Goals.{else-from-next-via-then-from-next+then-index-hash+then-hashed_width-width+else-ends_at, else-from-next-via-then-from-next+then-index-hash+else-hashed_width-width, else-from-next-via-then-from-next+else-index-hash, else-from-next-via-else-from-next}

pub loop-next-init : goal.loop-next-init
loop-next-init c =
    let l = c.args.literals.now in
    let bytes : AreBytes c.args.text.now = are_bytes c.args.text.now c.type_inv.text in
    let keyed : (place : ℕ) → EndsHashed l c.args.text.now c.args.end c.args.width place → get_or c.args.self.now.hashes.keys.items place 0 ≡ c.args.hash = λ place ends. kept_hash l c.args.self.now.hashes c.requires.hashed c.args.text.now bytes c.args.end c.args.width place ends ∙ sym c.requires.hash in
    let first = c.first_with-next.ensures in
    reaches_first c.args.self.now.hashes c.args.hash (EndsHashed l c.args.text.now c.args.end c.args.width) keyed c.args.from c.first_with-next.result first.within first.skipped first.has

pub loop-next-preserved : goal.loop-next-preserved
loop-next-preserved c =
    let l = c.args.literals.now in
    let hashes = c.args.self.now.hashes in
    let text = c.args.text.now in
    let next = c.loop-next.next in
    let bytes : AreBytes text = are_bytes text c.type_inv.text in
    let keyed : (place : ℕ) → EndsHashed l text c.args.end c.args.width place → get_or hashes.keys.items place 0 ≡ c.args.hash = λ place ends. kept_hash l hashes c.requires.hashed text bytes c.args.end c.args.width place ends ∙ sym c.requires.hash in
    let listed : next < length l.texts = omega (arith, c.loop-next-test.true, c.len.ensures.value) in
    let inside : next < length hashes.keys.items = omega (arith, listed, c.requires.hashed.len) in
    let linked : next < length hashes.links.items = omega (arith, inside, c.requires.hashed.chained.links_len) in
    let apart : c.args.from ≤ next → ¬ EndsHashed l text c.args.end c.args.width next =
    elim c.else-from-next.branch [
      | else-from-next-via-then-from-next+then-index-hash+then-hashed_width-width+else-ends_at w ↦ λ low ends. let no = w.if-ends_at.false in let yes = w.ends_at.ensures.1 ends.1 in (cc)
      | else-from-next-via-then-from-next+then-index-hash+else-hashed_width-width w ↦ λ low ends.
          let here = get_or_read l.texts next w.get.result.now listed w.get.ensures.value [] in
          absurd (w.if-hashed_width-width.false (w.hashed_width.ensures ∙ ap (λ t. hashed_width (length t)) here ∙ ends.0))
      | else-from-next-via-then-from-next+else-index-hash w ↦ λ low ends.
          absurd (w.if-index-hash.false (get_or_read hashes.keys.items next w.index.result.now inside w.index.ensures 0 ∙ keyed next ends))
      | else-from-next-via-else-from-next w ↦ λ low ends. absurd (omega (arith, w.if-from-next.false))
    ] in
    let read = get_or_read hashes.links.items next c.index-in-loop-next.result.now linked c.index-in-loop-next.ensures 0 in
    let sought = EndsHashed l text c.args.end c.args.width in
    subst (Reaches hashes c.args.hash sought c.args.from) (sym read) (reaches_link hashes c.requires.hashed.chained c.args.hash sought keyed c.args.from next inside apart c.loop-next.invariant)

pub returns : goal.returns
returns c = λ place low ends.
    c.loop-next.invariant.passed place low (omega (arith, slice_get_within c.args.literals.now.texts place ends.1.literal ends.1.stands, c.loop-next-test.false, c.len.ensures.value)) ends
