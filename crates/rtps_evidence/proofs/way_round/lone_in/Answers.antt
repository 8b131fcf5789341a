use Rattle.std.proofs.Common.{◌∙◌, ap, map, not}
use Rattle.rtps_receiver.specs.Speech as speech
use Rattle.rtps_audit.specs.Placed as placed
use Rattle.rtps_evidence.specs.Locations as locations
use Rattle.rtps_evidence.proofs.WayLemmas.{lone_is}
use Rattle.rtps_evidence.proofs.way_round.lone_in.Goals as goal

pub returns-clause-act : goal.returns-clause-act
returns-clause-act c =
    let own = map placed.placed_value c.args.own.now in
    let other = map placed.placed_value c.args.other.now in
    lone_is (λ (at : placed.PlacedValue). not (speech.is_ack_nack at.act.body)) own other (map placed.placed_value c.deref-2.result.now) c.in_ok-places.places.items c.in_ok-window.window c.lone_within.result.act
    (c.in_ok-places.ensures ∙ ap (λ l. map locations.location_of (map placed.placed_value l)) c.deref.ensures.value ∙ ap (map locations.location_of) c.in_ok-shared.ensures)
    (ap (map placed.placed_value) c.deref-2.ensures.value ∙ c.in_ok-lone.ensures) c.in_ok-window.ensures c.lone_within.ensures.act

pub returns-clause-answer : goal.returns-clause-answer
returns-clause-answer c =
    let own = map placed.placed_value c.args.own.now in
    let other = map placed.placed_value c.args.other.now in
    lone_is (λ (at : placed.PlacedValue). speech.is_ack_nack at.act.body) own other (map placed.placed_value c.deref-2.result.now) c.in_ok-places.places.items c.in_ok-window.window c.lone_within.result.answer
    (c.in_ok-places.ensures ∙ ap (λ l. map locations.location_of (map placed.placed_value l)) c.deref.ensures.value ∙ ap (map locations.location_of) c.in_ok-shared.ensures)
    (ap (map placed.placed_value) c.deref-2.ensures.value ∙ c.in_ok-lone.ensures) c.in_ok-window.ensures c.lone_within.ensures.answer
