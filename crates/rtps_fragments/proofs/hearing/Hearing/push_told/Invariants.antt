use Rattle.std.proofs.Common.{◌≡◌, ◌++◌, map, take}
use Rattle.rtps_receiver.specs.Values as values
use Rattle.rtps_audit.specs.Placed as placed_spec
use Rattle.rtps_fragments.specs.SampleActs as sample_acts
use Rattle.rtps_fragments.specs.ToldSamples as told_samples
use Rattle.rtps_fragments.proofs.hearing.Hearing.push_told.Given as goal

-- the samples so far
abbrev pub invariant-loop-one : goal.invariant-loop-one
invariant-loop-one l =
    record {
      reader : l.self.reader ≡ l.fn.self.reader;
      makings : l.self.makings ≡ l.fn.self.makings;
      acts : map placed_spec.placed_value l.self.acts.items ≡ map placed_spec.placed_value l.fn.self.acts.items
          ++ placed_spec.placed_at l.placed.datagram (map (λ one. sample_acts.sample_act l.fn.self.reader (values.spoken_value l.placed.act) l.number (told_samples.told_value one).payload) (take l.one-index l.told));
    }
