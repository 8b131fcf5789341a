use Rattle.std.proofs.Common.{◌||◌, ap, arith}
use Rattle.rtps_audit.specs.Placed as placed
use Rattle.rtps_evidence.proofs.CountedLemmas.{few_alone, requests_here, requests_there}
use Rattle.rtps_evidence.proofs.counted_answers.FragmentRequests.with.Goals as goal

pub returns-then-datagram-self : goal.returns-then-datagram-self
returns-then-datagram-self c = λ acts onward from are. requests_here c.args.pair acts (placed.placed_value c.args.placed.now) c.args.self.now _ _ c.if-datagram-self.true from
    (ap (λ b. c.args.self.now.asks || b) c.asks_for_fragments-asks.ensures) (ap (λ b. c.args.self.now.answers || b) c.is_ack_nack-answers.ensures) are

pub returns : goal.returns
returns c = λ acts onward from are.
    let apart = c.if-datagram-self.false in
    let few = few_alone c.args.pair acts c.args.self.now are in
    requests_there c.args.pair acts (placed.placed_value c.args.placed.now) c.args.self.now c.asks_for_fragments-asks.result c.is_ack_nack-answers.result c.ended.result (omega (arith, onward, apart)) from
    c.asks_for_fragments-asks.ensures c.is_ack_nack-answers.ensures (c.ended.ensures (omega (arith, onward, apart, few))) are
