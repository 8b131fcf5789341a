use Rattle.rtps_discovery.proofs.Payloads.{Ends, endpoint_held, faults_held, fields_held, neither_held, participant_held}
use Rattle.rtps_discovery.proofs.laws.read_of_the_list.Goals as goal

pub returns : goal.returns
returns c =
    let ends : Ends = record { list = c.ends.ensures.list; pairs = c.ends.ensures.pairs } in
    record { fields = fields_held ends; faults = faults_held ends; participant = participant_held ends; endpoint = endpoint_held ends; none = neither_held ends }
