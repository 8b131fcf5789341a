use Rattle.std.proofs.Common.{ap}
use Rattle.rtps_evidence.specs.OtherSide as other_side
use Rattle.rtps_evidence.specs.Times as times
use Rattle.rtps_fragments.specs.RecordedSamples as recorded_samples
use Rattle.rtps_report.proofs.audited.explain_asked.Goals as goal

pub returns : goal.returns
returns g c =
    c.explain_index.ensures (recorded_samples.intake_as c.args.asked.fragments c.args.recording.now.datagrams) other_side.alone
    (record { index = c.in_ok-index.ensures; other = tt; times = ap (λ (times : times.TimesValue). times.of_datagrams) c.none.ensures })
