use Rattle.std.proofs.Common.{◌≡◌, ◌≤◌, map, take}
use Rattle.std.specs.Prelude.{count_by}
use Rattle.rtps_receiver.specs.Values as values
use Rattle.rtps_audit.specs.Report as report
use Rattle.rtps_audit.proofs.index.undirected_among.Given as goal

-- those among the acts so far
abbrev pub invariant-loop-act : goal.invariant-loop-act
invariant-loop-act l = record {
  value : l.undirected ≡ count_by report.is_undirected (map values.spoken_value (take l.act-index l.acts));
  few : l.undirected ≤ l.act-index;
}
