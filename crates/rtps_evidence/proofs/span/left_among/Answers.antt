use Rattle.std.proofs.Common.{◌∙◌, ◌+◌, List, ap, map, sym, take}
use Rattle.rtps_audit.specs.Placed as placed
use Rattle.std.specs.List.{find}
use Rattle.std.specs.Option.{option_map}
use Rattle.rtps_evidence.specs.Spans as spans
use Rattle.rtps_evidence.proofs.FindLemmas.{first_settled}
use Rattle.rtps_evidence.proofs.RequestLemmas.{taken_more}
use Rattle.rtps_evidence.proofs.span.left_among.Goals as goal

pub loop-placed-preserved : goal.loop-placed-preserved
loop-placed-preserved c =
    let acts = c.args.acts.now in
    let i = c.loop-placed.placed-index in
    c.left_with-left.ensures (map placed.placed_value (take i acts)) c.loop-placed.invariant ∙ ap (λ (own : List placed.PlacedValue). option_map (λ (at : placed.PlacedValue). at.datagram) (find (spans.leaves_behind c.args.place c.args.reader) own)) (sym (taken_more acts i c.placed-item.result c.loop-placed-test.true c.placed-item.is))

pub returns-then-is_some : goal.returns-then-is_some
returns-then-is_some c =
    let acts = c.args.acts.now in
    let i = c.loop-placed.placed-index in
    first_settled (λ (at : placed.PlacedValue). at.datagram) placed.placed_value (spans.leaves_behind c.args.place c.args.reader) acts (i + 1) c.left_with-left.result (sym c.is_some.ensures ∙ c.if-is_some.true)
    (c.left_with-left.ensures (map placed.placed_value (take i acts)) c.loop-placed.invariant ∙ ap (λ (own : List placed.PlacedValue). option_map (λ (at : placed.PlacedValue). at.datagram) (find (spans.leaves_behind c.args.place c.args.reader) own)) (sym (taken_more acts i c.placed-item.result c.loop-placed-test.true c.placed-item.is)))
