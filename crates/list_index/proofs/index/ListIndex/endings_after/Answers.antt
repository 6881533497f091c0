-- The bits of the literals after the one are set, as no other of its length ends there.
use Rattle.std.proofs.Common.{◌≡◌, ◌+◌, [], length, sym, ap, arith}
use Rattle.std.proofs.lemmas.List.{get_or_read}
use Rattle.std.proofs.lemmas.Option.{slice_get_within}
use Rattle.lit_base.specs.Literals.{literal_at}
use Rattle.list_index.specs.Chains.{HaveWidths, key_width_at}
use Rattle.lit_base.specs.Occurrences.{Occurs}
use Rattle.list_index.specs.Suffixes.{key_width}
use Rattle.list_index.proofs.CheckLemmas.{others_left}
use Rattle.list_index.proofs.index.ListIndex.endings_after.Goals as goal

pub invariant_of-result : goal.invariant_of-result
invariant_of-result c =
    let l = c.self.inside.list in
    let place = c.args.place in
    let text = c.args.text.now in
    let suffixes = c.self.invariant.1 in
    let occurs : Occurs l text place c.args.end = rw c.self.view_is c.requires in
    let inside = slice_get_within l.texts place occurs.literal occurs.stands in
    let literal : c.get-len.result.now ≡ literal_at l place = get_or_read l.texts place c.get-len.result.now inside c.get-len.ensures.value [] in
    let keyed : key_width_at l place ≡ key_width (length c.get-len.result.now) = ap (λ t. key_width (length t)) (sym literal) in
    let left : HaveWidths l text (place + 1) c.args.end c.widths_after.result =
    others_left l c.self.invariant.0 c.self.inside.suffixes.checks suffixes.checks text 0 c.args.end place (length c.get-len.result.now) c.widths_at.result c.widths_after.result occurs (omega arith) keyed
    (c.widths_at.ensures l suffixes) c.widths_after.ensures in
    record { inside = c.requires.ends; keyed = rw (← c.self.view_is) left }
