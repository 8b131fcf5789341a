use Rattle.std.proofs.Common.{take}
use Rattle.rtps_fragments.specs.Announcements as announcements
use Rattle.rtps_fragments.specs.ReadDatagrams as read_datagrams
use Rattle.rtps_fragments.specs.declared.fragments.Fragments.{Fragments}
use Rattle.rtps_fragments.proofs.IndexSteps.{taken}
use Rattle.rtps_fragments.proofs.SampleSteps.{octets_of}
use Rattle.rtps_fragments.proofs.sample_index.index_behind.Given as goal

-- the index is of the datagrams so far, and the listener has heard of them
abbrev pub invariant-loop-place : goal.invariant-loop-place
invariant-loop-place g l =
    record {
      indexed : announcements.IsIndexedBy (taken l.recording l.place) l.reading.indexed;
      heard : (first : g.row.L.Denot) → g.L.Listen.has_heard first (read_datagrams.read_of Fragments.Skipped (octets_of (take l.fn.start.datagrams l.recording))) l.fn.listener
          → g.L.Listen.has_heard first (read_datagrams.read_of Fragments.Read (octets_of (take l.place l.recording))) l.listener;
    }
