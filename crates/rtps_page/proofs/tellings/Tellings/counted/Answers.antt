use Rattle.std.proofs.Common.{map}
use Rattle.rtps_audit.specs.Placed as placed
use Rattle.rtps_page.proofs.TellingLemmas.{tellings_are}
use Rattle.rtps_page.proofs.tellings.Tellings.counted.Goals as goal

pub returns : goal.returns
returns c = tellings_are c.args.readers.now (map placed.placed_value c.args.acts.now) (record { all = c.in_ok-all.all; each = c.in_ok-each.each }) c.in_ok-all.ensures c.in_ok-each.ensures
