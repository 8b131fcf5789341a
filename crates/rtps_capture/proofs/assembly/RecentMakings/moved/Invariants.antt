use Rattle.std.proofs.Common.{length}
use Rattle.rtps_capture.proofs.MovedLemmas.{KeysPutSo}
use Rattle.rtps_capture.proofs.assembly.RecentMakings.moved.Given as goal

-- the keys so far were put elsewhere
abbrev pub invariant-keys : goal.invariant-keys
invariant-keys l = KeysPutSo l.from l.initial.to.items l.to.items l.fn.self.makings.items l.moved.makings.items l.left.items

abbrev pub decreases-keys : goal.decreases-keys
decreases-keys l = length l.left.items
