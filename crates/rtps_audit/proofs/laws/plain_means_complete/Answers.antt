use Rattle.rtps_audit.proofs.Verdicts.{plain_means_complete}
use Rattle.rtps_audit.proofs.laws.plain_means_complete.Goals as goal

pub returns : goal.returns
returns c = plain_means_complete
