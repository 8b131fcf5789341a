use Rattle.std.proofs.Common.{rules}
use Rattle.std.proofs.lemmas.Iterator.Consumers.{YieldsList-from_copied, YieldsList-from_rest}
use Rattle.std.proofs.lemmas.Iterator.Adapters.{items_from_extend}
use Rattle.rtps_discovery.proofs.directory_map.Directory.participants.Goals as goal

pub returns : goal.returns
returns c =
    let added = items_from_extend c.extend.result c.extend.ensures.ran (YieldsList-from_copied (YieldsList-from_rest c.self.inside.participants.keys cc)) in
    search rules
