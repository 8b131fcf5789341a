use Rattle.std.proofs.Common.{◌≡◌, ◌-◌, ◌^◌, ℕ}
use Rattle.std.specs.Prelude.{if◌then◌else◌}
use Rattle.rtps_receiver.specs.Said as said
use Rattle.rtps_receiver.proofs.Offered.{below}
use Rattle.rtps_evidence.specs.Outcomes as outcomes
use Rattle.rtps_evidence.specs.SilentNumbers as silent_numbers
use Rattle.rtps_evidence.proofs.silence.SilentNumbers.tell_gone.Given as goal

-- the numbers below that place are told gone
abbrev pub invariant-apart : goal.invariant-apart
invariant-apart l = record {
  told : (n : ℕ) (silence : outcomes.Silence) → silent_numbers.IsAtIn n silence l.fn.self → silent_numbers.IsAtIn n (if below (said.numbers_have l.gone) l.at n then outcomes.told_gone l.moment.times.now.of_datagrams l.moment.datagram silence else silence) l.self;
  passed : l.self.passed ≡ l.fn.self.passed;
}

abbrev pub decreases-apart : goal.decreases-apart
decreases-apart l = 2 ^ 64 - l.at
