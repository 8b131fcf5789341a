use Rattle.rtps_audit.proofs.WordLemmas.{tells_gone, tells_payload}
use Rattle.rtps_audit.proofs.word.add_told.Goals as goal

pub returns-in_default : goal.returns-in_default
returns-in_default g c = λ value says. tells_gone _ _ value c.args.said.now says c.in_default.is c.in_ok-add_gone.ensures

pub returns-in_ok-add_range : goal.returns-in_ok-add_range
returns-in_ok-add_range g c = λ value says. tells_payload _ _ _ value c.args.said.now c.in-Some.number says c.in-Some.is c.in_ok-add_gone.ensures c.in_ok-add_range.ensures
