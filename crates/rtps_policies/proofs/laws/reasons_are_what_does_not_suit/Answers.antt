use Rattle.rtps_policies.proofs.ReasonLemmas.{fits_where_no_reason, reasons_do_not_suit}
use Rattle.rtps_policies.proofs.laws.reasons_are_what_does_not_suit.Goals as goal

pub returns-clause-each : goal.returns-clause-each
returns-clause-each c = reasons_do_not_suit

pub returns-clause-none : goal.returns-clause-none
returns-clause-none c = fits_where_no_reason
