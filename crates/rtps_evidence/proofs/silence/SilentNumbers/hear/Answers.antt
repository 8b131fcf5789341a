use Rattle.std.proofs.Common.{◌+◌, ◌∙◌, ap, cond, subst, sym}
use Rattle.rtps_audit.specs.Placed as placed
use Rattle.rtps_evidence.specs.Outcomes as outcomes
use Rattle.rtps_evidence.specs.Received as received
use Rattle.rtps_evidence.specs.SilentNumbers as silent_numbers
use Rattle.rtps_evidence.proofs.SilenceLemmas.{heard_question}
use Rattle.rtps_evidence.proofs.silence.SilentNumbers.hear.Goals as goal

pub returns-in_ok-ask-clause-heard : goal.returns-in_ok-ask-clause-heard
returns-in_ok-ask-clause-heard c = λ n silence at.
    let listener = c.args.listener.now in
    let pair = listener.pair in
    let x = placed.placed_value c.args.placed.now in
    let times = c.args.times.now.of_datagrams in
    let told = subst (λ b. silent_numbers.IsAtIn n (cond b (outcomes.told_gone times x.datagram silence) silence) c.tell_gone.new.self) (c.said_to-said.ensures.gone n) (c.in_ok-tell_gone.ensures.told n silence at) in
    subst (λ s. silent_numbers.IsAtIn n s (record c.tell_gone.new.self { questioned = c.ask.new.self })) (heard_question times listener.since pair n x silence (c.said_to-said.result.announced + 1) (sym c.asks_behind.ensures ∙ c.if-asks_behind.true) (ap (λ m. m + 1) c.said_to-said.ensures.said.announced))
    (c.in_ok-ask.ensures n (cond (received.withdraws pair.writer pair.reader n x) (outcomes.told_gone times x.datagram silence) silence) _ told)
