use Rattle.std.proofs.Common.{◌≡◌, ◌+◌, ◌++◌, ◌∷◌, [], arith, get_or, map, subst, sym, take}
use Rattle.std.specs.List.{All}
use Rattle.std.proofs.lemmas.List.Elements.{All-push}
use Rattle.rtps_audit.specs.PayloadConflict as payload_conflict
use Rattle.rtps_audit.specs.Placed as placed
use Rattle.rtps_audit.proofs.PayloadHearing.{none_sent, sent_more, silent_more}
use Rattle.rtps_audit.proofs.PlacedActs.{map_next}
use Rattle.rtps_audit.proofs.payload_conflict.collect.Goals as goal
use Rattle.rtps_audit.proofs.payload_conflict.collect.Goals.{in-Some+in_ok-push, in_default}

pub loop-place-preserved : goal.loop-place-preserved
loop-place-preserved c =
    let wanted = payload_conflict.asks_for c.args.questions in
    let acts = c.args.acts.now in
    let k = c.loop-place.place in
    let here = get_or acts k c.index-acts-place.result in
    let so_far = map placed.placed_value (take k acts) in
    let old = c.loop-place.entries.items in
    let new = c.match-addressed.entries.items in
    let next = map_next placed.placed_value acts k c.index-acts-place.result c.loop-place-test.true in
    elim c.match-addressed.branch [
      | in-Some+in_ok-push w ↦
          let is : new ≡ old ++ w.in-Some.entry ∷ [] = cc (w.entries-is, w.in_ok-push.ensures.items) in
          let sent = sent_more wanted so_far old (placed.placed_value here) w.in-Some.entry w.in-Some.ensures.0 w.in-Some.ensures.1 c.loop-place.invariant.sent in
          record {
            sent = subst (payload_conflict.AreSentIn wanted (map placed.placed_value (take (k + 1) acts))) (sym is) (subst (λ l. payload_conflict.AreSentIn wanted l (old ++ w.in-Some.entry ∷ [])) (sym next) sent);
            in_range = subst (All payload_conflict.IsInRange) (sym is) (All-push payload_conflict.IsInRange old w.in-Some.entry c.loop-place.invariant.in_range w.in-Some.ensures.2);
          }
      | in_default w ↦
          let is : new ≡ old = cc (w.entries-is) in
          let sent = silent_more wanted so_far old (placed.placed_value here) w.in_default.ensures c.loop-place.invariant.sent in
          record {
            sent = subst (payload_conflict.AreSentIn wanted (map placed.placed_value (take (k + 1) acts))) (sym is) (subst (λ l. payload_conflict.AreSentIn wanted l old) (sym next) sent);
            in_range = subst (All payload_conflict.IsInRange) (sym is) c.loop-place.invariant.in_range;
          }
    ]

pub loop-place-init : goal.loop-place-init
loop-place-init c = record { sent = none_sent (payload_conflict.asks_for c.args.questions) _ c.new-entries.ensures.items; in_range = search Rattle.std.proofs.Common.rules }
