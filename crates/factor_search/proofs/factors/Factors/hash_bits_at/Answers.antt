-- The probe has the hash bits of the bytes before the position.
use Rattle.std.proofs.Common.{ap, ◌∙◌, subst}
use Rattle.lit_base.specs.Literals.{Literals}
use Rattle.list_index.proofs.SuffixLemmas.{are_bytes}
use Rattle.factor_search.specs.Factors.{AreHashBits, Factored}
use Rattle.factor_search.proofs.FactorLemmas.{hash_bits_are}
use Rattle.factor_search.proofs.factors.Factors.hash_bits_at.Goals as goal

pub returns : goal.returns
returns c =
    let w : Factored = record { literals = c.self.inside.index.value; offsets = c.self.inside.offsets.items } in
    subst (λ (v : Factored). AreHashBits v c.args.text.now c.args.at c.hash_bits_of_widths.result) c.self.view_is
    (hash_bits_are w c.fold.result c.self.inside.least c.self.inside.hash_bits.items c.args.text.now c.args.at c.hash_bits_of_widths.result (c.fold.ensures ∙ ap (λ (l : Literals). l.folding) c.deref-2.ensures) c.self.invariant.0 c.self.invariant.1 (are_bytes c.args.text.now c.type_inv.text)
    (rw c.deref.ensures.value at c.hash_bits_of_widths.ensures))
