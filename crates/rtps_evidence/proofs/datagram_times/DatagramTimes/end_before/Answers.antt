use Rattle.std.proofs.Common.{◌∙◌, ap, sym, take, arith}
use Rattle.rtps_evidence.specs.Times as times
use Rattle.rtps_evidence.proofs.TimeLemmas.{end_more}
use Rattle.rtps_evidence.proofs.datagram_times.DatagramTimes.end_before.Goals as goal

pub loop-place-preserved : goal.loop-place-preserved
loop-place-preserved c =
    let own = c.args.self.now in
    let place = c.loop-place.place in
    let before = c.loop-place-test.true in
    let within = c.requires in
    record {
      latest = c.later-latest.ensures
          ∙ ap (λ t. times.later_of t c.at.result) c.loop-place.invariant.latest
          ∙ ap (times.later_of (times.end_of (take place own))) c.at.ensures
          ∙ sym (end_more own place (omega (arith, before, within)));
    }
