use Rattle.std.proofs.Common.{length}
use Rattle.rtps_capture.proofs.MovedLemmas.{AllPutSo}
use Rattle.rtps_capture.proofs.assembly.Assembly.settle.Given as goal

-- the keys of some hosts were put elsewhere, and those of the others are still to come
abbrev pub invariant-hosts : goal.invariant-hosts
invariant-hosts l = AllPutSo l.from l.to.items l.fn.self.recents l.left l.self.recents

abbrev pub decreases-hosts : goal.decreases-hosts
decreases-hosts l = length l.left.entries
