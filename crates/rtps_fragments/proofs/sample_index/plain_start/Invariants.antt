use Rattle.std.proofs.Common.{◌≡◌, take}
use Rattle.rtps_fragments.specs.declared.fragments.Fragments.{Fragments}
use Rattle.rtps_audit.specs.Intake as intake
use Rattle.rtps_fragments.specs.Announcements as announcements
use Rattle.rtps_fragments.specs.ReadDatagrams as read_datagrams
use Rattle.rtps_fragments.specs.RecordedSamples as recorded_samples
use Rattle.rtps_fragments.proofs.SampleSteps.{octets_of}
use Rattle.rtps_fragments.proofs.sample_index.plain_start.Given as goal

-- the index is of the datagrams so far, the listener has heard of them, and they are without fragments where these are to be read
abbrev pub invariant-loop-place : goal.invariant-loop-place
invariant-loop-place g l =
    record {
      indexed : announcements.IsIndexedBy (intake.intake_of (octets_of (take l.place l.recording))) l.reading.indexed;
      heard : g.L.Listen.has_heard l.fn.listener (read_datagrams.read_of Fragments.Skipped (octets_of (take l.place l.recording))) l.listener;
      without : l.fragments ≡ Fragments.Read → recorded_samples.IsWithoutFragments (octets_of (take l.place l.recording));
    }
