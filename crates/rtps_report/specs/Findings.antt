-- What is found of a report against what was asked of it, and how its run ends.
-- own: a report of no row, or of a recording of which something was left out, is no good news, though each row is clean.
use Rattle.std.specs.Prelude.{ℕ, Bool, false, ◌==◌, ◌&&◌, not, nat_le, nat_lt, if◌then◌else◌, is_none, Option, None, Some}
use Rattle.rtps_report.specs.Asked as asked
use Rattle.rtps_report.specs.Order as order
use Rattle.rtps_report.specs.Recording as recording
use Rattle.rtps_report.specs.declared.best_effort.BestEffortNumbers.{BestEffortNumbers}
use Rattle.rtps_report.specs.declared.not_told.NotToldCounts.{NotToldCounts}
use Rattle.rtps_report.specs.declared.findings.Ending.{Ending}
use Rattle.rtps_report.specs.declared.findings.Facts.{Facts}
use Rattle.rtps_report.specs.declared.findings.FewRows.{FewRows}
use Rattle.rtps_report.specs.declared.findings.Findings.{Findings}

-- there are fewer rows than were expected, if so
abbrev pub few_of : Option ℕ → ℕ → Option FewRows
few_of None rows = None
few_of (Some expected) rows = if nat_le expected rows then None else Some (record { rows = rows; expected = expected })

-- what pairs of best effort have, where there is no row, and not all of their numbers are recorded
abbrev pub lossy_of : ℕ → BestEffortNumbers → Option BestEffortNumbers
lossy_of rows best_effort = if (rows == 0) && nat_lt best_effort.recorded best_effort.numbers then Some best_effort else None

-- what is found of a report of which this is known
abbrev pub findings_of : asked.AskedValue → Facts → Findings
findings_of asked facts =
    record {
      few = few_of asked.expect facts.rows;
      empty = (facts.rows == 0) && (facts.talk.best_effort.numbers == 0);
      lossy = lossy_of facts.rows facts.talk.best_effort;
      unsettled = facts.counts.unsettled;
      pieces = (recording.known facts.reasons).pieces;
      cut = (recording.known facts.reasons).cut;
      links = (recording.known facts.reasons).links;
      unmatched = facts.talk.unmatched;
      not_told = facts.talk.not_told;
      lives = facts.talk.lives;
      swapped = order.swapped facts.order;
      twice = order.is_given_twice facts.order;
    }

-- nobody was not told of anything
abbrev pub nobody : NotToldCounts
nobody = record { participants = 0; endpoints = 0 }

-- nothing
abbrev pub no_findings : Findings
no_findings =
    record {
      few = None;
      empty = false;
      lossy = None;
      unsettled = 0;
      pieces = 0;
      cut = 0;
      links = (recording.known None).links;
      unmatched = 0;
      not_told = nobody;
      lives = 0;
      swapped = 0;
      twice = false;
    }

-- nothing is found
abbrev pub are_none : Findings → Bool
are_none findings =
    is_none findings.few
    && (not findings.empty
    && (is_none findings.lossy && ((findings.unsettled == 0) && ((findings.pieces == 0) && ((findings.cut == 0) && ((findings.links.number == 0)
    && ((findings.unmatched == 0) && ((findings.not_told.participants == 0) && ((findings.lives == 0)
    && ((findings.swapped == 0) && not findings.twice))))))))))

-- how a run ends by what is found, and by whether each row is what it has to be
abbrev pub ending_by : Findings → Bool → Ending
ending_by findings met = if are_none findings then (if met then Ending.Clean else Ending.Unclean) else Ending.Unmet findings

-- how a run ends that prints a report of which this is known
abbrev pub ending_as : asked.AskedValue → Facts → Ending
ending_as asked facts = ending_by (findings_of asked facts) facts.met
