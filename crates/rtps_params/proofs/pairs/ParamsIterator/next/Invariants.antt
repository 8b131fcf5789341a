use Rattle.std.proofs.Common.{◌≡◌, length}
use Rattle.rtps_params.specs.Reading as reading
use Rattle.rtps_params.proofs.pairs.ParamsIterator.next.Given as goal

abbrev pub invariant-loop-parameter : goal.invariant-loop-parameter
invariant-loop-parameter l =
    reading.pairs_of l.initial.self-inside.order l.initial.self-inside.rest.now ≡ reading.pairs_of l.self-inside.order l.self-inside.rest.now

abbrev pub decreases-loop-parameter : goal.decreases-loop-parameter
decreases-loop-parameter l = length l.self-inside.rest.now
