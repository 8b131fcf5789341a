use Rattle.std.proofs.Common.{get_or, subst, sym}
use Rattle.std.specs.Prelude.{Contains}
use Rattle.rtps_passes.proofs.kept_payloads.KeptPayloads.has.Goals as goal

pub returns-in-loop-place : goal.returns-in-loop-place
returns-in-loop-place c = λ yes.
    let look = c.in-Some.ensures.lookup in
    let one = c.in-Some.kept.now in
    let place = get_or c.places_of-place-items.result.now c.loop-place.place-index 0 in
    (one, subst (λ l. Contains l one) c.deref.ensures.value (place, look.3.0, sym (look.3.1 one)), c.is_entry.ensures c.if-is_entry.true)
