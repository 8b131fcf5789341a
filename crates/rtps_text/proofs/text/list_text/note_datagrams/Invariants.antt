use Rattle.std.proofs.Common.{◌≡◌, ◌*◌, ◌++◌, ◌≤◌, ◌^◌, ℕ, List, length}
use Rattle.rtps_receiver.specs.Acts as acts
use Rattle.rtps_discovery.specs.Directory as directory
use Rattle.rtps_discovery.specs.Notice as notice
use Rattle.rtps_text.proofs.text.list_text.note_datagrams.Given as goal

abbrev pub invariant-loop-octets : goal.invariant-loop-octets
invariant-loop-octets l =
    (goal.iterator-loop-octets).can_next l.octets-iterator
    × (goal.iterator-loop-octets).is_finite l.octets-iterator
    × (done : List (List ℕ)) × (done ++ l.octets-iterator ≡ l.recording.datagrams)
    × directory.IsMapOf (acts.acts_in done) l.directory × (l.faults ≡ notice.faults_in (acts.acts_in done)) × (l.faults ≤ length done * 2 ^ 64)
