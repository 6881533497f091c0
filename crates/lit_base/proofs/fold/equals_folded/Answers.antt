-- Where nothing is folded, the text is its own folded text.
use Rattle.std.proofs.Common.{◌≡◌, sym, ap, ◌∙◌}
use Rattle.std.proofs.lemmas.Slice.Eq.{bytes_eq-Decides}
use Rattle.lit_base.specs.Folding.{folded_text}
use Rattle.lit_base.proofs.FoldLemmas.{unfolded}
use Rattle.lit_base.proofs.fold.equals_folded.Goals as goal

pub returns-in-No : goal.returns-in-No
returns-in-No c =
    let text = c.args.text.now in
    let same : folded_text c.args.fold text ≡ text = ap (λ f. folded_text f text) c.in-No.is ∙ unfolded text in
    let equal = bytes_eq-Decides text c.args.literal.now in
    (λ e. same ∙ equal.0 (sym c.eq.ensures ∙ e), λ e. c.eq.ensures ∙ equal.1 (sym same ∙ e))
