-- What is counted of rows. own: a topic with thousands of samples is read at a glance only as sums.
use Rattle.std.specs.Prelude.{ℕ, ◌+◌, ◌-◌, ◌*◌, ◌≤◌, ◌&&◌, nat_lt, not, Bool, if◌then◌else◌, List, count_by, length, sum_by}
use Rattle.rtps_report.specs.Reported as reported
use Rattle.rtps_report.specs.RowFacts as row_facts
use Rattle.rtps_evidence.specs.Explanation as explanation
use Rattle.rtps_report.specs.declared.advice.Scope.{Scope}
use Rattle.rtps_report.specs.declared.totals.Totals.{Totals}

-- the row is neither complete nor clean
abbrev pub is_unclean : ℕ → explanation.EvidenceValue → Bool
is_unclean tail evidence = not (reported.is_complete evidence.verdict) && not (row_facts.is_clean tail evidence)

-- how many of the numbers from `from` on stand before the first of a row
abbrev pub before_of : ℕ → explanation.EvidenceValue → ℕ
before_of from evidence = row_facts.row_from from evidence.in_span - from

-- how many numbers a row asks about
abbrev pub numbers_of : ℕ → explanation.EvidenceValue → ℕ
numbers_of from evidence = row_facts.asked_about (row_facts.row_from from evidence.in_span) evidence.announcement

-- how many likely numbers of a row did not arrive: all of them, where it is held
abbrev pub lost_of : explanation.EvidenceValue → ℕ
lost_of evidence = if row_facts.is_held_in evidence.in_span then (row_facts.outcomes_of evidence).likely else 0

-- what is counted of rows
abbrev pub totals_of : Scope → List explanation.ExplanationValue → Totals
totals_of scope rows =
    record {
      pairs = length rows;
      complete_pairs = count_by (λ row. reported.is_complete row.evidence.verdict) rows;
      clean_pairs = count_by (λ row. row_facts.is_clean scope.tail row.evidence) rows;
      unclean_pairs = count_by (λ row. is_unclean scope.tail row.evidence) rows;
      tail_pairs = count_by (λ row. row_facts.is_clean_tail scope.tail row.evidence) rows;
      missed_pairs = count_by (λ row. nat_lt 0 (row_facts.outcomes_of row.evidence).missed) rows;
      unsent_pairs = count_by (λ row. nat_lt 0 (row_facts.outcomes_of row.evidence).unsent) rows;
      unanswered_pairs = count_by (λ row. nat_lt 0 (row_facts.outcomes_of row.evidence).unanswered) rows;
      uncertain_pairs = count_by (λ row. not (row_facts.is_certain scope.from row.evidence)) rows;
      lost_pairs = count_by (λ row. nat_lt 0 (lost_of row.evidence)) rows;
      before = sum_by (λ row. before_of scope.from row.evidence) rows;
      numbers = sum_by (λ row. numbers_of scope.from row.evidence) rows;
      received = sum_by (λ row. (row_facts.outcomes_of row.evidence).received) rows;
      arrived = sum_by (λ row. (row_facts.outcomes_of row.evidence).arrived) rows;
      likely = sum_by (λ row. (row_facts.outcomes_of row.evidence).likely) rows;
      lost = sum_by (λ row. lost_of row.evidence) rows;
      missed = sum_by (λ row. (row_facts.outcomes_of row.evidence).missed) rows;
      unsent = sum_by (λ row. (row_facts.outcomes_of row.evidence).unsent) rows;
      unanswered = sum_by (λ row. (row_facts.outcomes_of row.evidence).unanswered) rows;
      unconfirmed = sum_by (λ row. (row_facts.outcomes_of row.evidence).unconfirmed) rows;
    }

-- with one more row
abbrev pub with_row : Scope → Totals → explanation.ExplanationValue → Totals
with_row scope totals row =
    record {
      pairs = totals.pairs + 1;
      complete_pairs = totals.complete_pairs + (if reported.is_complete row.evidence.verdict then 1 else 0);
      clean_pairs = totals.clean_pairs + (if row_facts.is_clean scope.tail row.evidence then 1 else 0);
      unclean_pairs = totals.unclean_pairs + (if is_unclean scope.tail row.evidence then 1 else 0);
      tail_pairs = totals.tail_pairs + (if row_facts.is_clean_tail scope.tail row.evidence then 1 else 0);
      missed_pairs = totals.missed_pairs + (if nat_lt 0 (row_facts.outcomes_of row.evidence).missed then 1 else 0);
      unsent_pairs = totals.unsent_pairs + (if nat_lt 0 (row_facts.outcomes_of row.evidence).unsent then 1 else 0);
      unanswered_pairs = totals.unanswered_pairs + (if nat_lt 0 (row_facts.outcomes_of row.evidence).unanswered then 1 else 0);
      uncertain_pairs = totals.uncertain_pairs + (if not (row_facts.is_certain scope.from row.evidence) then 1 else 0);
      lost_pairs = totals.lost_pairs + (if nat_lt 0 (lost_of row.evidence) then 1 else 0);
      before = totals.before + before_of scope.from row.evidence;
      numbers = totals.numbers + numbers_of scope.from row.evidence;
      received = totals.received + (row_facts.outcomes_of row.evidence).received;
      arrived = totals.arrived + (row_facts.outcomes_of row.evidence).arrived;
      likely = totals.likely + (row_facts.outcomes_of row.evidence).likely;
      lost = totals.lost + lost_of row.evidence;
      missed = totals.missed + (row_facts.outcomes_of row.evidence).missed;
      unsent = totals.unsent + (row_facts.outcomes_of row.evidence).unsent;
      unanswered = totals.unanswered + (row_facts.outcomes_of row.evidence).unanswered;
      unconfirmed = totals.unconfirmed + (row_facts.outcomes_of row.evidence).unconfirmed;
    }

-- no pair counts twice, and each counts fewer than 2 ^ 64 numbers
pub record AreWithin (totals : Totals) : Type 0 where
  pub complete_pairs : totals.complete_pairs ≤ totals.pairs
  pub clean_pairs : totals.clean_pairs ≤ totals.pairs
  pub unclean_pairs : totals.unclean_pairs ≤ totals.pairs
  pub tail_pairs : totals.tail_pairs ≤ totals.pairs
  pub missed_pairs : totals.missed_pairs ≤ totals.pairs
  pub unsent_pairs : totals.unsent_pairs ≤ totals.pairs
  pub unanswered_pairs : totals.unanswered_pairs ≤ totals.pairs
  pub uncertain_pairs : totals.uncertain_pairs ≤ totals.pairs
  pub lost_pairs : totals.lost_pairs ≤ totals.pairs
  pub before : totals.before ≤ totals.pairs * 18446744073709551615
  pub numbers : totals.numbers ≤ totals.pairs * 18446744073709551615
  pub received : totals.received ≤ totals.pairs * 18446744073709551615
  pub arrived : totals.arrived ≤ totals.pairs * 18446744073709551615
  pub likely : totals.likely ≤ totals.pairs * 18446744073709551615
  pub lost : totals.lost ≤ totals.pairs * 18446744073709551615
  pub missed : totals.missed ≤ totals.pairs * 18446744073709551615
  pub unsent : totals.unsent ≤ totals.pairs * 18446744073709551615
  pub unanswered : totals.unanswered ≤ totals.pairs * 18446744073709551615
  pub unconfirmed : totals.unconfirmed ≤ totals.pairs * 18446744073709551615
