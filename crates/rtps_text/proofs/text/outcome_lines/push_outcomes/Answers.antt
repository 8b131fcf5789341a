use Rattle.std.proofs.Common.{codes, string_bytes}
use Rattle.std.proofs.lemmas.Result.{on_ok_weaker}
use Rattle.rtps_lines.proofs.Offered.{five_parts}
use Rattle.rtps_text.specs.WhyText as why_text
use Rattle.rtps_text.proofs.text.outcome_lines.push_outcomes.Goals as goal

pub returns : goal.returns
returns c =
    let outcomes = c.args.outcomes in
    on_ok_weaker c.push_outcome-5.result
    (five_parts (string_bytes c.args.text.now) (why_text.outcome_line (codes "  arrived ") outcomes.arrived) (why_text.outcome_line (codes "  likely ") outcomes.likely)
    (why_text.outcome_line (codes "  unsent ") outcomes.unsent) (why_text.outcome_line (codes "  unanswered ") outcomes.unanswered) (why_text.outcome_line (codes "  unconfirmed ") outcomes.unconfirmed)
    c.in_ok-push_outcome.ensures c.in_ok-push_outcome-2.ensures c.in_ok-push_outcome-3.ensures c.in_ok-push_outcome-4.ensures)
    c.push_outcome-5.ensures
