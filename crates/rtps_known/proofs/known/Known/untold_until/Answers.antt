use Rattle.std.proofs.Common.{refl}
use Rattle.rtps_known.proofs.known.Known.untold_until.Goals as goal

pub returns : goal.returns
returns c = λ acts known.
    record {
      from = c.participant_of.ensures;
      to = c.participant_of-2.ensures;
      of_writers = c.in_ok-writers.writers;
      of_readers = c.in_ok-readers.readers;
      are_writers = c.in_ok-writers.ensures.lacking acts known;
      are_readers = c.in_ok-readers.ensures.lacking acts known;
      writers = refl;
      readers = refl;
      unnamed = refl;
    }
