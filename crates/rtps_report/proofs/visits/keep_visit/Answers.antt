use Rattle.std.proofs.Common.{◌∙◌, Option, ap, sym}
use Rattle.std.specs.BTreeMap.{get}
use Rattle.rtps_receiver.specs.Speech as speech
use Rattle.rtps_known.specs.declared.visit.Visit.{Visit}
use Rattle.rtps_report.specs.Stays as stays
use Rattle.rtps_report.specs.Visits as visits
use Rattle.rtps_report.proofs.VisitLemmas.{visit_written}
use Rattle.rtps_report.proofs.visits.keep_visit.Goals as goal

pub returns-in_ok-insert : goal.returns-in_ok-insert
returns-in_ok-insert c = λ other.
    c.in_ok-insert.ensures.updates.0 other ∙ visit_written c.args.prefix other _ (get stays.prefix_cmp c.args.visits.now other)
    ∙ ap (λ (visit : Option Visit). visits.visit_with (speech.is_prefix c.args.prefix other) visit (get stays.prefix_cmp c.args.visits.now other)) (sym c.in-Some.is)
