use Rattle.std.proofs.Common.{sym, ◌∙◌}
use Rattle.rtps_wire.proofs.OneReading as those
use Rattle.rtps_wire.proofs.laws.one_reading.Goals as goal

pub returns-clause-exists : goal.returns-clause-exists
returns-clause-exists c = those.has_reading

pub returns-clause-unique : goal.returns-clause-unique
returns-clause-unique c = λ datagram reading other p q. those.one_reading datagram reading p ∙ sym (those.one_reading datagram other q)

pub returns-clause-order : goal.returns-clause-order
returns-clause-order c = those.outcomes_whole
