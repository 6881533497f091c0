-- An entry that keeps the prefix is the entry of its byte or of the byte's capital.
use Rattle.std.proofs.Common.{◌≡◌, ℕ, ◌+◌, ◌-◌, ◌%◌, length, get_or, slice_index, inl, inr, refl, sym, ap, ◌∙◌}
use Rattle.std.specs.Int.{bit_at}
use Rattle.nib_mask.specs.FilterSet.{half_of}
use Rattle.nib_mask.proofs.PrefixLemmas.{prefix_halves}
use Rattle.nib_mask.proofs.prefixes.add_prefix.Goals as goal

pub returns-then-reaches-clause-here : goal.returns-then-reaches-clause-here
returns-then-reaches-clause-here c = λ value less keeps.
    let prefix = c.args.prefix.now in
    let bucket : ℕ = c.args.bucket % 8 in
    let byte : ℕ = get_or prefix (length prefix + c.args.position - 3) 0 in
    let first = c.add_bucket.new.table in
    let then = c.add_bucket-then-reaches.new.table in
    elim (prefix_halves c.args.fold c.args.position byte value c.args.half prefix (sym c.reaches.ensures ∙ c.if-reaches.true) refl keeps) [
      | inl own ↦
          let is : value ≡ c.half_of.result = sym (c.half_of.ensures.value ∙ own) in
          c.add_bucket-then-reaches.ensures.kept value bucket (ap (λ v. bit_at (slice_index first v) bucket) is ∙ c.add_bucket.ensures.here)
      | inr other ↦
          let is : value ≡ c.half_of-then-reaches.result = sym (c.half_of-then-reaches.ensures.value ∙ ap (half_of c.args.half) c.capital.ensures ∙ other) in
          ap (λ v. bit_at (slice_index then v) bucket) is ∙ c.add_bucket-then-reaches.ensures.here
    ]
