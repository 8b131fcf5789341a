use Rattle.rtps_audit.specs.Placed as placed
use Rattle.rtps_report.specs.Laws as laws
use Rattle.rtps_report.proofs.ActsInOrder.{acts_in_order}
use Rattle.rtps_report.proofs.laws.reported_unanswered_is_by_its_words.Goals as goal

pub returns : goal.returns
returns c = λ fragments until recording times since pair n.
    c.unanswered_is_by_its_words.ensures.words times since pair (placed.placed_in (laws.first_acts fragments pair.reader until recording)) n
    (acts_in_order c.unanswered_is_by_its_words.ensures.order fragments pair.reader until recording)
