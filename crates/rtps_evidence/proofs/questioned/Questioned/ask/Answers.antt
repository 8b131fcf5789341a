use Rattle.std.proofs.Common.{arith, refl}
use Rattle.rtps_evidence.specs.declared.questioned.Questioned.{Questioned}
use Rattle.rtps_evidence.proofs.QuestionedLemmas.{asked_so}
use Rattle.rtps_evidence.proofs.questioned.Questioned.ask.Goals as goal

pub returns : goal.returns
returns c = λ n silence silent at.
    let old = c.args.self.now in
    let new : Questioned = record { asked = c.note_asked.new.asked; once = c.max-self-2.result; again = c.max-self.result; answered = old.answered; gone = old.gone } in
    let one = c.min.ensures in
    let two = c.max-self.ensures in
    let three = c.max-self-2.ensures in
    asked_so old new n silence c.args.end c.args.datagram silent c.in_ok-note_asked.ensures (omega (arith, three)) (omega (arith, one, two)) refl refl at
