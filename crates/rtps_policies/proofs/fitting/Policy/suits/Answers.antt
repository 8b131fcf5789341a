use Rattle.std.proofs.lemmas.Bool.Decides.{Decides-at}
use Rattle.rtps_policies.specs.Fitting as fitting
use Rattle.rtps_policies.proofs.SuitLemmas.{suits_decides}
use Rattle.rtps_policies.proofs.fitting.Policy.suits.Goals as goal

pub returns-clause-meaning : goal.returns-clause-meaning
returns-clause-meaning c = Decides-at _ _ c.is_suited.ensures (suits_decides c.args.self (fitting.profile_value c.args.writer.now) (fitting.profile_value c.args.reader.now))
