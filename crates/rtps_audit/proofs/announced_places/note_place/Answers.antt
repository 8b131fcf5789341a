use Rattle.std.proofs.Common.{◌++◌, ◌∙◌, ap}
use Rattle.rtps_discovery.specs.GuidOrder as guid_order
use Rattle.rtps_audit.specs.Placed as placed
use Rattle.rtps_audit.proofs.AnnouncedLemmas.{place_added}
use Rattle.rtps_audit.proofs.announced_places.note_place.Goals as goal

pub returns-in_ok-push : goal.returns-in_ok-push
returns-in_ok-push c = λ guid.
    c.in_ok-push.ensures guid ∙ ap (λ l. placed.values_at guid_order.guid_cmp c.args.places.now.map guid ++ l) (place_added _ _ c.in-Some.place (c.in-Some.ensures guid))
