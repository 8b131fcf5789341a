use Rattle.std.proofs.Common.{◌≡◌, ◌++◌, ◌≤◌, List, map, take}
use Rattle.rtps_discovery.specs.Directory as directory
use Rattle.rtps_discovery.specs.Notice as notice
use Rattle.rtps_receiver.specs.Values as values
use Rattle.rtps_discovery.proofs.directory_map.Directory.note_all_copied.Given as goal

-- the acts so far are noted
abbrev pub invariant-loop-act : goal.invariant-loop-act
invariant-loop-act l =
    let done = map values.spoken_value (take l.act-index l.acts) in
    record {
      map : (before : List values.ActValue) → directory.IsMapOf before l.fn.self → directory.IsMapOf (before ++ done) l.self;
      faults : l.faults ≡ notice.faults_in done;
      few : l.faults ≤ l.act-index;
    }
