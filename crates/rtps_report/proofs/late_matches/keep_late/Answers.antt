use Rattle.std.proofs.Common.{◌∙◌, Option, ap, sym}
use Rattle.std.specs.BTreeMap.{get}
use Rattle.rtps_discovery.specs.Listings as listings
use Rattle.rtps_report.specs.Talk as talk
use Rattle.rtps_report.specs.declared.late_matches.LateMatch.{LateMatch}
use Rattle.rtps_report.proofs.LateLemmas.{late_written}
use Rattle.rtps_report.proofs.late_matches.keep_late.Goals as goal

pub returns-in_ok-insert : goal.returns-in_ok-insert
returns-in_ok-insert c = λ other.
    c.in_ok-insert.ensures.updates.0 other ∙ late_written c.args.pair other _ (get listings.pair_cmp c.args.late.now other)
    ∙ ap (λ (found : Option LateMatch). talk.late_kept (talk.is_pair c.args.pair other) found (get listings.pair_cmp c.args.late.now other)) (sym c.in-Some.is)
