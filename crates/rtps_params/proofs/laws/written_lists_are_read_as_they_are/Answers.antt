use Rattle.rtps_params.proofs.ReadBack.{IsList-written, list_end-written, pairs_of-written}
use Rattle.rtps_params.proofs.laws.written_lists_are_read_as_they_are.Goals as goal

pub returns : goal.returns
returns c = record { list = IsList-written; pairs = pairs_of-written; used = list_end-written }
