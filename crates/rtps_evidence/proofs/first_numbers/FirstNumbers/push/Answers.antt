use Rattle.rtps_evidence.proofs.FirstNumbersLemmas.{kept_more}
use Rattle.rtps_evidence.proofs.first_numbers.FirstNumbers.push.Goals as goal

pub returns : goal.returns
returns c = λ numbers is. kept_more numbers c.args.number c.args.self.now c.requires is
