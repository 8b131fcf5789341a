-- Which way round two recordings are, counted over pairs. own: one pair tells of its own writer and reader alone, and each host may have both;
-- so how many pairs tell the one and the other has to be known.
use Rattle.std.specs.Prelude.{Bool, false, true, List, Option, Some, count_by}
use Rattle.rtps_evidence.specs.declared.way.Way.{Way}
use Rattle.rtps_report.specs.BestEfforts as best_efforts
use Rattle.rtps_report.specs.declared.ways.Ways.{Ways}

-- they are this way round, by a pair of which the other one has something
abbrev pub is_way : Way → Option Way → Bool
is_way Way.Right (Some Way.Right) = true
is_way Way.Wrong (Some Way.Wrong) = true
is_way Way.Both (Some Way.Both) = true
is_way Way.Alike (Some Way.Alike) = true
is_way _ _ = false

-- by how many of these pairs of best effort
abbrev pub ways_of_counted : List best_efforts.CountedValue → Ways
ways_of_counted counted =
    record {
      right = count_by (λ one. is_way Way.Right one.arrived.way) counted;
      wrong = count_by (λ one. is_way Way.Wrong one.arrived.way) counted;
      both = count_by (λ one. is_way Way.Both one.arrived.way) counted;
      alike = count_by (λ one. is_way Way.Alike one.arrived.way) counted;
    }
