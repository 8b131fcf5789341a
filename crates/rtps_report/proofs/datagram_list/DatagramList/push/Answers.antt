use Rattle.std.proofs.Common.{◌≡◌, ◌++◌, ◌∷◌, [], arith}
use Rattle.rtps_report.proofs.PiecesLemmas.{pieces-push}
use Rattle.rtps_report.specs.declared.datagram_span.DatagramSpan.{DatagramSpan}
use Rattle.rtps_report.proofs.datagram_list.DatagramList.push.Goals as goal

pub returns-clause-pushed : goal.returns-clause-pushed
returns-clause-pushed c =
    let octets = c.self.inside.octets.items in
    let spans = c.self.inside.spans.items in
    let more = c.args.octets.now in
    let span : DatagramSpan = c.in-Some.span in
    let octets_now : c.push_octets.new.octets.items ≡ octets ++ more = c.in_ok-push_octets.ensures.ok in
    let spans_now : c.push_reserved.new.self.items ≡ spans ++ span ∷ [] = cc (c.push_reserved.ensures.items, c.in_ok-make_room.ensures.items) in
    rw (← c.self.view_is, octets_now, spans_now)
    (pieces-push octets more spans span c.self.invariant (omega (arith, c.in-Some.ensures.1, c.len-from.ensures)) (omega (arith, c.in-Some.ensures.2, c.len-from.ensures)))
