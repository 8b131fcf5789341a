use Rattle.std.proofs.Common.{[], ◌∷◌, ◌++◌, ◌∙◌, ap, arith, map, subst, sym, take}
use Rattle.std.proofs.lemmas.List.{take_all}
use Rattle.rtps_discovery.specs.GuidOrder as guid_order
use Rattle.rtps_receiver.specs.Values as values
use Rattle.rtps_audit.specs.Placed as placed
use Rattle.rtps_audit.proofs.AnnouncedLemmas.{places_joined}
use Rattle.rtps_audit.proofs.PlacedLemmas.{placed_more}
use Rattle.rtps_audit.proofs.announced_places.note_places.Goals as goal

pub loop-act-preserved : goal.loop-act-preserved
loop-act-preserved c = λ guid.
    places_joined guid (placed.values_at guid_order.guid_cmp c.args.places.now.map guid) (placed.values_at guid_order.guid_cmp c.loop-act.places.map guid) (placed.values_at guid_order.guid_cmp c.note_place.new.places.map guid)
    (placed.placed_at c.args.datagram (map values.spoken_value (take c.loop-act.act-index c.args.acts.now))) (placed.placed_at c.args.datagram (values.spoken_value c.act-item.result ∷ [])) (c.loop-act.invariant guid) (c.in_ok-note_place.ensures guid)
    ∙ ap (λ l. placed.values_at guid_order.guid_cmp c.args.places.now.map guid ++ placed.announced_among guid l) (sym (placed_more c.args.datagram c.args.acts.now c.loop-act.act-index _ c.loop-act-test.true c.act-item.is))

pub returns : goal.returns
returns c =
    subst (λ l. placed.AddsAnnounced c.args.places.now.map c.loop-act.places.map (placed.placed_at c.args.datagram (map values.spoken_value l))) (take_all c.loop-act.act-index c.args.acts.now (omega (arith, c.loop-act-test.false))) c.loop-act.invariant
