use Rattle.std.proofs.Common.{◌∙◌, ap, sym}
use Rattle.std.specs.Option.{option_map}
use Rattle.rtps_discovery.specs.Directory as directory
use Rattle.rtps_discovery.specs.Kept as kept
use Rattle.rtps_discovery.proofs.Entries.{entry_at-entries_value}
use Rattle.rtps_discovery.proofs.kept.settled_at.Goals as goal

pub returns-in-Some : goal.returns-in-Some
returns-in-Some c = c.agreed.ensures ∙ ap (λ o. directory.agreed (option_map kept.kept_value o)) c.in-Some.ensures.value ∙ ap directory.agreed (sym (entry_at-entries_value c.args.endpoints.now.entries c.args.guid))

pub returns-in-None : goal.returns-in-None
returns-in-None c = ap (λ o. directory.agreed (option_map kept.kept_value o)) c.in-None.ensures.value ∙ ap directory.agreed (sym (entry_at-entries_value c.args.endpoints.now.entries c.args.guid))
