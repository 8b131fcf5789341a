use Rattle.std.proofs.Common.{◌≡◌, map, take}
use Rattle.rtps_audit.specs.Placed as placed
use Rattle.rtps_page.proofs.Written.{answers_in}
use Rattle.rtps_page.proofs.pair_answers.acts_kept.Given as goal

abbrev pub invariant-loop-placed : goal.invariant-loop-placed
invariant-loop-placed l = map placed.placed_value l.kept.items ≡ answers_in l.fn.pair (map placed.placed_value (take l.placed-index l.acts))
