use Rattle.std.proofs.Common.{◌≡◌, drop, nat_lt, true}
use Rattle.rtps_evidence.specs.Outcomes as outcomes
use Rattle.rtps_evidence.proofs.silence.pass_answers.Given as goal

-- those so far stand before the place
abbrev pub invariant-loop-next : goal.invariant-loop-next
invariant-loop-next l = record {
  left : outcomes.answers_left l.fn.place (drop l.next l.answers) ≡ outcomes.answers_left l.fn.place (drop l.fn.passed l.answers);
  some : nat_lt l.fn.passed l.next ≡ true → outcomes.is_answered l.fn.place (drop l.fn.passed l.answers) ≡ true;
}
