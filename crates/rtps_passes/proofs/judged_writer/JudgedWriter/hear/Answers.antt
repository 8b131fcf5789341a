use Rattle.std.proofs.Common.{filter, refl}
use Rattle.rtps_receiver.specs.Values as values
use Rattle.rtps_audit.specs.Placed as placed_spec
use Rattle.rtps_passes.specs.Judging as judging
use Rattle.rtps_passes.proofs.TakingLemmas.{act_taken}
use Rattle.rtps_passes.proofs.judged_writer.JudgedWriter.hear.Goals as goal

pub returns-clause-taken : goal.returns-clause-taken
returns-clause-taken c = λ from datagram asked heard its known.
    let old = c.args.self.now in
    let act : placed_spec.PlacedValue = record { datagram = datagram; act = values.spoken_value c.args.act.now } in
    act_taken from datagram asked heard act old _ refl refl its
    (λ asks until stand. c.in_ok-hear.ensures.stand from datagram old.writer (judging.pairs_of old) (filter (placed_spec.is_from old.writer) heard) asks its until stand) known
