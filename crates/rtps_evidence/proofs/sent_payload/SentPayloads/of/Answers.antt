use Rattle.std.proofs.Common.{◌∙◌, ◌+◌, List, drop, map, subst, sym, take}
use Rattle.std.specs.Option.{option_map}
use Rattle.rtps_audit.specs.Placed as placed
use Rattle.rtps_evidence.specs.Locations as locations
use Rattle.rtps_evidence.proofs.FindLemmas.{some_mapped, whole_taken}
use Rattle.rtps_evidence.proofs.PayloadLemmas.{sent_settled}
use Rattle.rtps_evidence.proofs.RequestLemmas.{taken_more}
use Rattle.rtps_evidence.proofs.sent_payload.SentPayloads.of.Goals as goal

pub loop-placed-init : goal.loop-placed-init
loop-placed-init c = c.none-sent.ensures c.args.pair c.args.number

pub loop-placed-preserved : goal.loop-placed-preserved
loop-placed-preserved c =
    let acts = c.args.acts.now in
    let i = c.loop-placed.placed-index in
    subst (λ (l : List placed.PlacedValue). locations.AreSent c.args.pair.writer c.args.pair.reader c.args.number l (option_map locations.sent_value c.with-sent.result.first) (option_map locations.sent_value c.with-sent.result.other))
    (sym (taken_more acts i c.placed-item.result c.loop-placed-test.true c.placed-item.is)) (c.with-sent.ensures (map placed.placed_value (take i acts)) c.loop-placed.invariant)

pub returns-then-is_some : goal.returns-then-is_some
returns-then-is_some c =
    let acts = c.args.acts.now in
    let i = c.loop-placed.placed-index in
    let w = c.args.pair.writer in
    let r = c.args.pair.reader in
    let n = c.args.number in
    let first = option_map locations.sent_value c.with-sent.result.first in
    let other = option_map locations.sent_value c.with-sent.result.other in
    let told = subst (λ (l : List placed.PlacedValue). locations.AreSent w r n l first other) (sym (taken_more acts i c.placed-item.result c.loop-placed-test.true c.placed-item.is)) (c.with-sent.ensures (map placed.placed_value (take i acts)) c.loop-placed.invariant) in
    subst (λ (l : List placed.PlacedValue). locations.AreSent w r n l first other) (whole_taken placed.placed_value acts (i + 1))
    (sent_settled w r n (map placed.placed_value (take (i + 1) acts)) (map placed.placed_value (drop (i + 1) acts)) first other (some_mapped locations.sent_value c.with-sent.result.other ∙ sym c.is_some.ensures ∙ c.if-is_some.true) told)
