use Rattle.std.proofs.Common.{◌∙◌, [], ap, get_or, map, sym}
use Rattle.rtps_evidence.specs.Explanation as explanation
use Rattle.rtps_lines.specs.TailNames as tail_names
use Rattle.rtps_lines.proofs.TailLemmas.{fold_more}
use Rattle.rtps_lines.proofs.tail_names.longest_tails.Goals as goal

pub loop-rows-preserved : goal.loop-rows-preserved
loop-rows-preserved c =
    let old = map tail_names.tail_value c.loop-rows.tails.items in
    let next = tail_names.tail_in (map explanation.explanation_value (get_or c.args.topics.now c.loop-rows.rows-index (record { ref_ptr = (0, 0); now = [] })).now) in
    c.in_ok-keep.ensures
    ∙ ap (tail_names.with_tail old) c.tail_in.ensures
    ∙ ap (λ tails. tail_names.with_tail tails next) c.loop-rows.invariant
    ∙ sym (fold_more tail_names.with_tail [] tail_names.tail_in (λ topic. map explanation.explanation_value topic.now) c.args.topics.now c.loop-rows.rows-index (record { ref_ptr = (0, 0); now = [] }) c.loop-rows-test.true)
