use Rattle.std.proofs.Common.{ap, arith, length, length-drop, map}
use Rattle.rtps_discovery.specs.Endpoint as endpoint
use Rattle.rtps_report.specs.Asked as asked
use Rattle.rtps_report.specs.OneSides as one_sides
use Rattle.rtps_report.specs.Talk as talk
use Rattle.rtps_report.proofs.OneSideLemmas.{side_more}
use Rattle.rtps_report.proofs.one_side.one_sides_among.Goals as goal

pub topics-preserved : goal.topics-preserved
topics-preserved c =
    let asked = asked.asked_value c.args.asked.now in
    let node = (talk.talk_value c.args.talk.now).node in
    let ends = c.args.endpoints.now in
    let start = c.topics.start in
    let size = c.front_len-size.result in
    record {
      within = omega (arith, c.front_len-size.ensures.within, c.topics.invariant.within, ap length c.split_at.ensures.back, length-drop start ends);
      same = side_more (one_sides.one_side asked node) ends c.split_at.result.1.now c.split_at-in-topics.result.0.now start size
          (map one_sides.one_sided_value c.topics.found.items) (map one_sides.one_sided_value c.push_one_side.new.found.items) (one_sides.one_sides_among asked node (map endpoint.endpoint_value ends))
          c.split_at.ensures.back c.front_len-size.ensures.first c.split_at-in-topics.ensures.front c.in_ok-push_one_side.ensures c.topics.invariant.same;
    }
