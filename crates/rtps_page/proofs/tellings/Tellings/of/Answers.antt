use Rattle.std.proofs.Common.{◌∙◌, map, sym}
use Rattle.rtps_audit.specs.Placed as placed
use Rattle.rtps_page.proofs.TellingLemmas.{without_fragments}
use Rattle.rtps_page.proofs.tellings.Tellings.of.Goals as goal

pub returns : goal.returns
returns c = without_fragments c.args.readers.now (map placed.placed_value c.args.acts.now) (record { all = c.new.result; each = c.new-2.result }) (sym c.have_fragments.ensures ∙ c.if-have_fragments.false) c.new.ensures.items c.new-2.ensures.items
