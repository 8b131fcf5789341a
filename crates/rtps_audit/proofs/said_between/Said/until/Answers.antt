use Rattle.rtps_audit.specs.Placed as placed
use Rattle.rtps_audit.proofs.SaidLemmas.{acts_first, answers_first_until}
use Rattle.rtps_audit.proofs.said_between.Said.until.Goals as goal

pub returns-in-Some : goal.returns-in-Some
returns-in-Some c = λ intake is.
    let pair = c.args.pair in
    let datagram = c.in-Some.datagram in
    rw c.in-Some.is (record {
      acts = acts_first (placed.is_from pair.writer) datagram c.acts_before.result c.acts_of-acts.result.now intake.acts (c.acts_of-acts.ensures intake is) c.acts_before.ensures.kept c.acts_before.ensures.next;
      answers = answers_first_until pair datagram c.answers_before.result c.answers_of-answers.result.now intake.acts (c.answers_of-answers.ensures intake is) c.answers_before.ensures.kept c.answers_before.ensures.next;
      asks = acts_first (placed.is_from pair.reader) datagram c.acts_before-in-Some.result c.acts_of-asks.result.now intake.acts (c.acts_of-asks.ensures intake is) c.acts_before-in-Some.ensures.kept c.acts_before-in-Some.ensures.next;
    })
