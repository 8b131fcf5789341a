-- In which order two recordings were given, as all their pairs tell.
-- own: where some pair tells that they are the wrong way round, and none the opposite, they were given in the wrong order. Where pairs tell
-- both, each host has writers, and the other order judges the other ones. Where no pair tells anything, the two may be one.
use Rattle.std.specs.Prelude.{ℕ, Bool, ◌+◌, ◌==◌, ◌&&◌, nat_lt, not, if◌then◌else◌, List, Option, count_by}
use Rattle.rtps_evidence.specs.declared.way.Way.{Way}
use Rattle.rtps_report.specs.Recording as recording
use Rattle.rtps_report.specs.RowFacts as row_facts
use Rattle.rtps_report.specs.Twice as twice
use Rattle.rtps_evidence.specs.Explanation as explanation
use Rattle.rtps_report.specs.Ways as ways
use Rattle.rtps_report.specs.declared.order.Order.{Order}
use Rattle.rtps_report.specs.declared.ways.Ways.{Ways}

-- by how many rows they are which way round
abbrev pub ways_of_rows : List explanation.ExplanationValue → Ways
ways_of_rows rows =
    record {
      right = count_by (λ row. ways.is_way Way.Right (row_facts.way_in row.evidence.in_span)) rows;
      wrong = count_by (λ row. ways.is_way Way.Wrong (row_facts.way_in row.evidence.in_span)) rows;
      both = count_by (λ row. ways.is_way Way.Both (row_facts.way_in row.evidence.in_span)) rows;
      alike = count_by (λ row. ways.is_way Way.Alike (row_facts.way_in row.evidence.in_span)) rows;
    }

-- by these rows, and by pairs of best effort that tell this
abbrev pub order_by : Option recording.RecordingValue → recording.RecordingValue → List explanation.ExplanationValue → Ways → Order
order_by other recording rows best_effort =
    record {
      right = (ways_of_rows rows).right + best_effort.right;
      wrong = (ways_of_rows rows).wrong + best_effort.wrong;
      both = (ways_of_rows rows).both + best_effort.both;
      alike = (ways_of_rows rows).alike + best_effort.alike;
      is_twice = twice.is_twice other recording;
    }

-- so many pairs are the wrong way round, where none is the right way round; else 0
abbrev pub swapped : Order → ℕ
swapped order = if order.right == 0 then order.wrong else 0

-- so many are, where some pair is the right way round; else 0
abbrev pub mixed : Order → ℕ
mixed order = if order.right == 0 then 0 else order.wrong

-- some pair is asked, and none has a difference
abbrev pub are_alike : Order → Bool
are_alike order = nat_lt 0 order.alike && ((order.right == 0) && ((order.wrong == 0) && (order.both == 0)))

-- one recording was given twice
abbrev pub is_given_twice : Order → Bool
is_given_twice order = are_alike order && order.is_twice

-- nothing tells the two apart, and they are not one
abbrev pub is_untold : Order → Bool
is_untold order = are_alike order && not order.is_twice
