use Rattle.std.proofs.Common.{◌≡◌, ◌+◌, ◌-◌, get_or}
use Rattle.rtps_evidence.specs.declared.explanation.Explanation.{Explanation}
use Rattle.rtps_report.proofs.TopicLemmas.{front_at}
use Rattle.rtps_report.proofs.topics.front_len.Given as goal

abbrev pub invariant-loop-place : goal.invariant-loop-place
invariant-loop-place l =
    (row : Explanation) → front_at l.rows 1 (get_or l.rows 0 row) + 1 ≡ l.place + front_at l.rows l.place (get_or l.rows (l.place - 1) row)
