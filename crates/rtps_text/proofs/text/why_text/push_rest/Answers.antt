use Rattle.std.proofs.lemmas.Result.{on_ok_weaker}
use Rattle.std.proofs.Common.{◌+◌, ◌++◌, ◌∙◌, ap, string_bytes}
use Rattle.rtps_evidence.specs.Explanation as explanation
use Rattle.rtps_report.specs.Reported as reported
use Rattle.rtps_evidence.specs.declared.outcome.Outcomes.{Outcomes}
use Rattle.rtps_report.specs.RowFacts as row_facts
use Rattle.rtps_lines.proofs.Offered.{five_parts}
use Rattle.rtps_text.specs.WhyText as why_text
use Rattle.rtps_text.proofs.text.why_text.push_rest.Goals as goal

pub returns : goal.returns
returns c =
    let evidence = explanation.evidence_value c.args.evidence.now in
    let times = c.args.times.now in
    on_ok_weaker c.push_shown.result
    (five_parts (string_bytes c.args.text.now) (why_text.received_line evidence.received (evidence.payloads + evidence.gone + evidence.untold)) (why_text.outcome_lines (row_facts.outcomes_of evidence)) (why_text.missed_lines times evidence.missed evidence.first_missed)
    (why_text.not_received_line times evidence.not_received) (why_text.shown_by times (reported.number_of evidence.verdict) evidence.grounds)
    (c.in_ok-writeln.ensures.bytes ∙ ap (λ numbers. string_bytes c.args.text.now ++ why_text.received_line evidence.received numbers) c.sum_of-numbers.ensures) (c.in_ok-push_outcomes.ensures ∙ ap (λ (outcomes : Outcomes). string_bytes c.writeln.new.self ++ why_text.outcome_lines outcomes) c.outcomes_of.ensures) c.in_ok-push_missed.ensures c.in_ok-write.ensures.bytes)
    c.push_shown.ensures
