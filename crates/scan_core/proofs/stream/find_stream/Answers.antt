use Rattle.std.proofs.Common.{◌≡◌, ℕ, ◌<◌, length, Some, inl, inr, refl, sym, ap, ◌∙◌, arith}
use Rattle.std.specs.List.{slice_get}
use Rattle.std.proofs.lemmas.Bool.{cases_lt}
use Rattle.std.proofs.lemmas.Option.{same_Some, slice_get_read}
use Rattle.scan_core.specs.Sessions.{Bound}
use Rattle.scan_core.proofs.StreamLemmas.{lookup_none}
use Rattle.scan_core.proofs.stream.find_stream.Goals as goal

pub returns-then-get-number : goal.returns-then-get-number
returns-then-get-number c =
    let streams = c.args.streams.now in
    let now = c.get.result.now in
    let within : c.loop-place.place < length streams = omega (arith, c.loop-place-test.true, c.len.ensures.len) in
    let number : now.0 ≡ c.args.number = sym (ap (λ (s : ℕ × Bound). s.0) c.behind-streams.view_is) ∙ c.if-get-number.true in
    record {
      state = now.1;
      here = slice_get_read streams (length streams) c.loop-place.place now refl within c.get.ensures ∙ ap (λ n. Some (n, now.1)) number;
      first = c.loop-place.invariant;
    }

pub loop-place-preserved : goal.loop-place-preserved
loop-place-preserved c i other before at same =
    let streams = c.args.streams.now in
    let now = c.get.result.now in
    let place = c.loop-place.place in
    elim (cases_lt i place) [
      | inl earlier ↦ c.loop-place.invariant i other earlier at same
      | inr here ↦
          let is : i ≡ place = omega arith in
          let within : place < length streams = omega (arith, c.loop-place-test.true, c.len.ensures.len) in
          let read : slice_get streams place ≡ Some now = slice_get_read streams (length streams) place now refl within c.get.ensures in
          let equal : other ≡ now = same_Some other now (sym at ∙ ap (slice_get streams) is ∙ read) in
          c.if-get-number.false (ap (λ (s : ℕ × Bound). s.0) c.behind-streams.view_is ∙ sym (ap (λ (s : ℕ × Bound). s.0) equal) ∙ same)
    ]

pub returns : goal.returns
returns c =
    lookup_none c.args.number c.args.streams.now
    (λ i other within at. c.loop-place.invariant i other (omega (arith, within, c.loop-place-test.false, c.len.ensures.len)) at)
