use Rattle.std.proofs.Common.{◌≡◌, inl, inr, sym, ap, ◌∙◌, subst, arith}
use Rattle.std.specs.List.{slice_get}
use Rattle.std.proofs.lemmas.Bool.{cases_lt}
use Rattle.std.proofs.lemmas.Option.{same_Some, slice_get_within}
use Rattle.plan_store.specs.Tickets.{TicketParts}
use Rattle.scan_core.specs.Steps.{IsSound}
use Rattle.scan_core.specs.Together.{tickets_of}
use Rattle.scan_core.proofs.together.show_sound.Goals as goal

pub loop-place-preserved : goal.loop-place-preserved
loop-place-preserved c i ticket before at =
    let tickets = tickets_of c.args.session.now in
    let shown = c.ticket_at.result.now in
    elim (cases_lt i c.loop-place.place) [
      | inl earlier ↦ c.loop-place.invariant i ticket earlier at
      | inr here ↦
          let is : i ≡ c.loop-place.place = omega arith in
          let equal : shown ≡ ticket = same_Some shown ticket (sym c.ticket_at.ensures.at ∙ ap (slice_get tickets) (sym is) ∙ at) in
          subst (λ (t : TicketParts). IsSound t.plan) equal c.shows_sound.ensures
    ]

pub returns : goal.returns
returns c place ticket at =
    let within = slice_get_within (tickets_of c.args.session.now) place ticket at in
    c.loop-place.invariant place ticket (omega (arith, within, c.loop-place-test.false, c.ticket_count.ensures)) at
