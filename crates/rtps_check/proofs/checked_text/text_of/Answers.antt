use Rattle.std.proofs.Common.{◌++◌, [], ◌∙◌, ap, map}
use Rattle.rtps_evidence.specs.Explanation as explanation
use Rattle.rtps_report.specs.declared.totals.Totals.{Totals}
use Rattle.rtps_lines.proofs.Offered.{six_parts}
use Rattle.rtps_check.specs.ArrivedText as arrived_text
use Rattle.rtps_check.specs.CheckText as check_text
use Rattle.rtps_check.specs.TalkText as talk_text
use Rattle.rtps_check.proofs.checked_text.text_of.Goals as goal

pub returns : goal.returns
returns c =
    let told = c.args.told.now in
    let rows = map explanation.explanation_value told.rows.now in
    let beside = check_text.beside_value told in
    let ends = beside.talk.ends in
    let totals = c.totals_of-totals.result in
    let block = c.in_ok-push_unmatched_block.ensures in
    let lost = c.in_ok-push_arrived_block.ensures in
    let unmatched = talk_text.unmatched_lines ends block.sorted in
    let discovery = check_text.discovery_text beside in
    let lossy = arrived_text.lossy_lines ends lost.sorted in
    record {
      unmatched = block.sorted;
      unmatched_by_topic = block.by_topic;
      lossy = lost.sorted;
      lossy_by_topic = lost.by_topic;
      is_text = six_parts [] (check_text.first_lines totals beside) (check_text.topics_text (check_text.told_beside told.scope beside) beside.events totals rows) unmatched discovery lossy (check_text.ending_text told.scope beside totals rows)
          (c.in_ok-push_first.ensures ∙ ap (λ bytes. bytes ++ check_text.first_lines totals beside) c.new-text.ensures.bytes) c.in_ok-push_topics.ensures block.is_text c.in_ok-push_discovery.ensures lost.is_text
          c.in_ok-push_ending.ensures
          ∙ ap (λ (totals : Totals). check_text.first_lines totals beside ++ (check_text.topics_text (check_text.told_beside told.scope beside) beside.events totals rows ++ (unmatched ++ (discovery ++ (lossy ++ check_text.ending_text told.scope beside totals rows)))))
          c.totals_of-totals.ensures;
    }
