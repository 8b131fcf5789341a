use Rattle.rtps_policies.proofs.SuitLemmas.{fits_decides, names_fit_decides}
use Rattle.rtps_policies.proofs.laws.patterns_are_as_tested.Goals as goal

pub returns-clause-pattern : goal.returns-clause-pattern
returns-clause-pattern c = fits_decides

pub returns-clause-names : goal.returns-clause-names
returns-clause-names c = names_fit_decides
