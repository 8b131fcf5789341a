use Rattle.std.proofs.Common.{ap}
use Rattle.rtps_evidence.specs.OtherSide as other_side
use Rattle.rtps_evidence.specs.Times as times
use Rattle.rtps_evidence.proofs.explanation.explain_from.Goals as goal

pub returns : goal.returns
returns g c = c.in_ok-explained.ensures _ other_side.alone (record { index = c.in_ok-index.ensures; other = tt; times = ap (λ (t : times.TimesValue). t.of_datagrams) c.none-times.ensures })
