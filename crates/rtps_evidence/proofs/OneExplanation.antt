-- What is taken in is explained in one way.
use Rattle.std.proofs.lemmas.Grind.{common_steps}
use Rattle.std.proofs.lemmas.Bool.Decides.{nat_tests}
use Rattle.std.proofs.Common.{◌≡◌, ℕ, Bool, false, List, [], ◌∷◌, map, Option, sym, ◌∙◌, ap, subst, refl, arith, length}
use Rattle.std.specs.Prelude.{All}
use Rattle.std.specs.List.{range_with_len}
use Rattle.std.proofs.lemmas.List.{length-map}
use Rattle.std.proofs.lemmas.List.Elements.{All-cons, All-head, All-nil, All-tail}
use Rattle.rtps_receiver.specs.Values as values
use Rattle.rtps_discovery.specs.Directory as directory
use Rattle.rtps_discovery.specs.Matching as matching
use Rattle.rtps_discovery.specs.declared.matching.Pair.{Pair}
use Rattle.rtps_audit.specs.Intake as intake_spec
use Rattle.rtps_audit.specs.Laws as laws
use Rattle.rtps_audit.specs.Report as report_spec
use Rattle.rtps_audit.specs.RunVerdict as run_verdict
use Rattle.rtps_audit.specs.Said as said
use Rattle.rtps_audit.specs.Speech as speech
use Rattle.rtps_audit.specs.declared.report.Row.{Row}
use Rattle.rtps_fragments.specs.Hearing as hearing
use Rattle.rtps_fragments.specs.SampleReport as sample_report
use Rattle.rtps_evidence.specs.Evidence as evidence
use Rattle.rtps_evidence.specs.Explanation as explanation
use Rattle.rtps_evidence.specs.Kinds as kinds
use Rattle.rtps_evidence.specs.OtherSide as other_side
use Rattle.rtps_evidence.specs.Spans as spans_spec
use Rattle.rtps_evidence.specs.declared.explanation.Explanation.{Explanation}
use Rattle.rtps_evidence.specs.declared.evidence.Evidence.{Evidence}
use Rattle.rtps_evidence.specs.declared.in_span.InSpan.{InSpan}
use Rattle.rtps_evidence.specs.declared.location.Location.{Location}
use Rattle.rtps_evidence.specs.declared.span.Span.{Span}
use Rattle.rtps_evidence.proofs.LostLemmas.{one_losses}
use Rattle.rtps_evidence.proofs.OneSpan.{HasOneMap, one_extent}

one_shown : (there : ℕ → Bool) (from : ℕ) (since : Option Location) (pair : Pair) (recording : List (List values.ActValue)) (one other : Evidence) → one.verdict ≡ other.verdict → one.in_span ≡ other.in_span
    → evidence.IsShown there from since pair recording one → evidence.IsShown there from since pair recording other → explanation.evidence_value one ≡ explanation.evidence_value other
one_shown there from since pair recording one other same beside is also = grind (arith, nat_tests)

one_beside : (spans : Bool) (beside : other_side.Beside) (span : Span) (pair : Pair) (all recording : List (List values.ActValue)) (one other : Option InSpan) → evidence.IsBeside spans beside span pair all recording one → evidence.IsBeside spans beside span pair all recording other → one ≡ other
one_beside spans beside span pair all recording one other h h2 = grind (arith, nat_tests)

one_evidence : HasOneMap → laws.HasNoTwoVerdicts → (spans : Bool) (from : ℕ) (beside : other_side.Beside) (pair : Pair) (intake : intake_spec.Intake) (one other : Evidence) → evidence.IsEvidenceBy spans from beside pair intake one → evidence.IsEvidenceBy spans from beside pair intake other → explanation.evidence_value one ≡ explanation.evidence_value other
one_evidence unique no_two spans from beside pair intake one other is also = grind (arith, nat_tests, common_steps, one_extent, one_shown, one_beside)

value_is : (one other : explanation.ExplanationValue) → one.pair ≡ other.pair → one.topic ≡ other.topic → one.type_name ≡ other.type_name → one.evidence ≡ other.evidence → one.place ≡ other.place → one ≡ other
value_is one other pair topic type_name evidence place = grind (arith, nat_tests)

one_row : HasOneMap → laws.HasNoTwoVerdicts → (spans : Bool) (from : ℕ) (beside : other_side.Beside) (intake : intake_spec.Intake) (entries : directory.Entries) (one other : Explanation) → one.pair ≡ other.pair → one.place ≡ other.place
    → explanation.IsNamed entries one → explanation.IsNamed entries other → evidence.IsEvidenceBy spans from beside one.pair intake one.evidence → evidence.IsEvidenceBy spans from beside other.pair intake other.evidence
    → explanation.explanation_value one ≡ explanation.explanation_value other
one_row unique no_two spans from beside intake entries one other pair place named called shown also =
    let topic = named.topic ∙ ap (λ (p : Pair). explanation.topic_of (directory.settled_at entries p.writer)) pair ∙ sym called.topic in
    let type_name = named.type_name ∙ ap (λ (p : Pair). explanation.type_of (directory.settled_at entries p.writer)) pair ∙ sym called.type_name in
    let moved = subst (λ (p : Pair). evidence.IsEvidenceBy spans from beside p intake other.evidence) (sym pair) also in
    value_is (explanation.explanation_value one) (explanation.explanation_value other) pair topic type_name (one_evidence unique no_two spans from beside one.pair intake one.evidence other.evidence shown moved) place

one_list : HasOneMap → laws.HasNoTwoVerdicts → (spans : Bool) (from : ℕ) (beside : other_side.Beside) (intake : intake_spec.Intake) (entries : directory.Entries) (rows others : List Explanation) → map (λ (row : Explanation). row.pair) rows ≡ map (λ (row : Explanation). row.pair) others
    → map (λ (row : Explanation). row.place) rows ≡ map (λ (row : Explanation). row.place) others
    → All (explanation.IsNamed entries) rows → All (explanation.IsNamed entries) others
    → All (λ row. evidence.IsEvidenceBy spans from beside row.pair intake row.evidence) rows → All (λ row. evidence.IsEvidenceBy spans from beside row.pair intake row.evidence) others
    → map explanation.explanation_value rows ≡ map explanation.explanation_value others
one_list unique no_two spans from beside intake entries [] [] same placed named called shown also = refl
one_list unique no_two spans from beside intake entries [] (other ∷ others) same placed named called shown also = cc
one_list unique no_two spans from beside intake entries (row ∷ rows) [] same placed named called shown also = cc
one_list unique no_two spans from beside intake entries (row ∷ rows) (other ∷ others) same placed named called shown also =
    let head : row.pair ≡ other.pair = cc in
    let tail : map (λ (r : Explanation). r.pair) rows ≡ map (λ (r : Explanation). r.pair) others = cc in
    let place : row.place ≡ other.place = cc in
    let places : map (λ (r : Explanation). r.place) rows ≡ map (λ (r : Explanation). r.place) others = cc in
    ap (λ first. first ∷ map explanation.explanation_value rows)
    (one_row unique no_two spans from beside intake entries row other head place (All-head (explanation.IsNamed entries) row rows named) (All-head (explanation.IsNamed entries) other others called)
    (All-head (λ (r : Explanation). evidence.IsEvidenceBy spans from beside r.pair intake r.evidence) row rows shown) (All-head (λ (r : Explanation). evidence.IsEvidenceBy spans from beside r.pair intake r.evidence) other others also))
    ∙ ap (λ rest. explanation.explanation_value other ∷ rest)
    (one_list unique no_two spans from beside intake entries rows others tail places (All-tail (explanation.IsNamed entries) row rows named) (All-tail (explanation.IsNamed entries) other others called)
    (All-tail (λ (r : Explanation). evidence.IsEvidenceBy spans from beside r.pair intake r.evidence) row rows shown) (All-tail (λ (r : Explanation). evidence.IsEvidenceBy spans from beside r.pair intake r.evidence) other others also))

-- as many rows have the same places
same_places : (rows others : List Explanation) → map (λ (row : Explanation). row.pair) rows ≡ map (λ (row : Explanation). row.pair) others
    → map (λ (row : Explanation). row.place) rows ≡ range_with_len 0 (length rows) → map (λ (row : Explanation). row.place) others ≡ range_with_len 0 (length others)
    → map (λ (row : Explanation). row.place) rows ≡ map (λ (row : Explanation). row.place) others
same_places rows others same placed also =
    let many : length rows ≡ length others = sym (length-map rows (λ (row : Explanation). row.pair)) ∙ ap length same ∙ length-map others (λ (row : Explanation). row.pair) in
    placed ∙ ap (range_with_len 0) many ∙ sym also

pub one_pairs : laws.HasNoTwoVerdicts → HasOneMap → explanation.PairsHaveOneExplanation
one_pairs no_two unique spans from beside intake pairs one other lost losses is also =
    let same : is.directory ≡ also.directory = unique (intake_spec.acts_together intake.announcing) is.directory also.directory is.is_map also.is_map in
    let called = subst (λ (d : directory.DirectoryValue). All (explanation.IsNamed d.endpoints) other) (sym same) also.named in
    let of_pairs = is.of_pairs ∙ sym also.of_pairs in (
      one_list unique no_two spans from beside intake is.directory.endpoints one other of_pairs (same_places one other of_pairs is.places also.places) is.named called is.shown also.shown,
      one_losses unique spans from beside intake pairs lost losses is.losses also.losses,
    )

pub one_explanation : laws.HasNoTwoVerdicts → HasOneMap → explanation.HasOneExplanation
one_explanation no_two unique spans from beside intake one other is also =
    let same : is.directory ≡ also.directory = unique (intake_spec.acts_together intake.announcing) is.directory also.directory is.is_map also.is_map in
    let pairs : is.pairs ≡ also.pairs = is.are_pairs ∙ ap (λ (of : directory.DirectoryValue). matching.reliable_pairs (matching.matches_among (directory.settled_in of.endpoints))) same ∙ sym also.are_pairs in
    let mine = subst (λ (those : List Pair). explanation.AreExplained spans from beside intake those one.rows.items (map kinds.lost_value one.lost.items)) pairs is.rows in (
      (one_pairs no_two unique spans from beside intake also.pairs one.rows.items other.rows.items (map kinds.lost_value one.lost.items) (map kinds.lost_value other.lost.items) mine also.rows).0,
      is.counts ∙ ap (λ (of : directory.DirectoryValue). report_spec.counts_of intake (length (directory.unsettled_in of.endpoints))) same ∙ sym also.counts,
    )

-- ---- the rows of a report

-- a row in no span has the verdict on what its reader hears of the whole recording
row_heard : (from : ℕ) (beside : other_side.Beside) (intake : intake_spec.Intake) (row : Explanation) → evidence.IsEvidenceBy false from beside row.pair intake row.evidence → sample_report.IsHeardFrom from intake.acts (explanation.row_of row)
row_heard from beside intake row is =
    let until = ap (λ (u : Option ℕ). hearing.heard_by row.pair.reader (said.datagrams_until u intake.acts)) is.extent.until in
    subst (λ (recording : List (List values.ActValue)). run_verdict.IsVerdictFrom from (speech.speech_by row.pair.writer row.pair.reader recording) row.evidence.verdict) until
    (subst (λ n. run_verdict.IsVerdictFrom n (speech.speech_by row.pair.writer row.pair.reader (spans_spec.heard_in is.span row.pair intake.acts)) row.evidence.verdict) is.extent.first is.shown.verdict)

rows_heard : (from : ℕ) (beside : other_side.Beside) (intake : intake_spec.Intake) (rows : List Explanation) → All (λ row. evidence.IsEvidenceBy false from beside row.pair intake row.evidence) rows
    → All (sample_report.IsHeardFrom from intake.acts) (map explanation.row_of rows)
rows_heard from beside intake [] shown = All-nil (sample_report.IsHeardFrom from intake.acts)
rows_heard from beside intake (row ∷ rows) shown =
    All-cons (sample_report.IsHeardFrom from intake.acts) (explanation.row_of row) (map explanation.row_of rows)
    (row_heard from beside intake row (All-head (λ (r : Explanation). evidence.IsEvidenceBy false from beside r.pair intake r.evidence) row rows shown))
    (rows_heard from beside intake rows (All-tail (λ (r : Explanation). evidence.IsEvidenceBy false from beside r.pair intake r.evidence) row rows shown))

pairs_kept : (rows : List Explanation) → map (λ (row : Row). row.pair) (map explanation.row_of rows) ≡ map (λ (row : Explanation). row.pair) rows
pairs_kept [] = refl
pairs_kept (row ∷ rows) = ap (λ (pairs : List Pair). row.pair ∷ pairs) (pairs_kept rows)

pub rows_are_reported : sample_report.RowsHeardAreOne → HasOneMap → explanation.RowsAreReported
rows_are_reported one unique from beside intake explained report is reports =
    let same : is.directory ≡ reports.directory = unique (intake_spec.acts_together intake.announcing) is.directory reports.directory is.is_map reports.is_map in
    let pairs = pairs_kept explained.rows.items ∙ is.rows.of_pairs ∙ is.are_pairs ∙ ap (λ (of : directory.DirectoryValue). matching.reliable_pairs (matching.matches_among (directory.settled_in of.endpoints))) same ∙ sym reports.pairs in (
      one from intake.acts (map explanation.row_of explained.rows.items) report.rows.items pairs (rows_heard from beside intake explained.rows.items is.rows.shown) reports.judged,
      is.counts ∙ ap (λ (of : directory.DirectoryValue). report_spec.counts_of intake (length (directory.unsettled_in of.endpoints))) same ∙ sym reports.counts,
    )
