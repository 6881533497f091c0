-- If the key differs, the literal, at this key width, does not end there; if the key has all its bytes and is equal, it
-- does.
use Rattle.std.proofs.Common.{rules, ◌≡◌, ◌<◌, ℕ, Fits, w8, [], length, get_or, refl, sym, ap, ◌∙◌, subst, arith}
use Rattle.std.proofs.lemmas.List.{get_or_read}
use Rattle.lit_base.specs.declared.fold.Fold.TheVariants.{No}
use Rattle.lit_base.specs.Literals.{literal_at}
use Rattle.list_index.specs.Chains.{key_width_at}
use Rattle.list_index.specs.Suffixes.{suffix_key}
use Rattle.list_index.proofs.ChainLemmas.{kept_key}
use Rattle.list_index.proofs.SuffixLemmas.{AreBytes, are_bytes, occurs-key}
use Rattle.list_index.proofs.suffixes.chains.SuffixChains.ends_with_key.Goals as goal

pub returns-then-index-key : goal.returns-then-index-key
returns-then-index-key c =
    let bytes : AreBytes c.args.text.now = are_bytes c.args.text.now c.type_inv.text in
    let inside : c.args.place < length c.args.self.now.short.keys.items = omega (arith, c.requires.within, c.requires.of.short.len) in
    let read : c.index.result.now ≡ get_or c.args.self.now.short.keys.items c.args.place 0 =
    get_or_read c.args.self.now.short.keys.items c.args.place c.index.result.now inside c.index.ensures 0 in (
      λ no. (cc),
      λ both. absurd (c.if-index-key.true (
          read ∙ kept_key c.args.literals.now c.args.self.now.short c.requires.of.short c.args.text.now bytes c.args.end c.args.width c.requires.narrow c.args.place both ∙ sym c.requires.key
          )),
    )

pub returns-then-eq : goal.returns-then-eq
returns-then-eq c =
    let l = c.args.literals.now in
    let place = c.args.place in
    let fits : (i : ℕ) → Fits w8 (get_or c.get-literal.result.now i 0) = search rules in
    let case : l.folding ≡ No = search rules in
    let literal : c.get-literal.result.now ≡ literal_at l place = get_or_read l.texts place c.get-literal.result.now c.requires.within c.get-literal.ensures.value [] in
    let bytes : AreBytes (literal_at l place) = subst AreBytes literal (are_bytes c.get-literal.result.now fits) in
    let len : length (literal_at l place) ≡ c.args.width = ap length (sym literal) ∙ c.if-literal-width.true in
    let keyed : key_width_at l place ≡ c.args.width = omega (arith, len, c.requires.narrow) in
    let inside : place < length c.args.self.now.short.keys.items = omega (arith, c.requires.within, c.requires.of.short.len) in
    let read : c.index.result.now ≡ get_or c.args.self.now.short.keys.items place 0 = get_or_read c.args.self.now.short.keys.items place c.index.result.now inside c.index.ensures 0 in
    let key : suffix_key l.folding c.args.text.now c.args.end c.args.width ≡ suffix_key l.folding (literal_at l place) (length (literal_at l place)) c.args.width =
    sym c.requires.key ∙ sym c.if-index-key.false ∙ read ∙ c.requires.of.short.keyed place c.requires.within ∙ ap (suffix_key l.folding (literal_at l place) (length (literal_at l place))) keyed in
    let occurs = occurs-key l c.args.text.now place c.args.end c.args.width (are_bytes c.args.text.now c.type_inv.text) bytes case c.requires.within len c.requires.narrow c.requires.room c.requires.inside key in
    (λ yes. (keyed, occurs), λ both. refl)
