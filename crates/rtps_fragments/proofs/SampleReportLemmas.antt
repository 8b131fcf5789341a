-- What is taken in has one report by what each reader hears, and rows that are judged again one at a time.
use Rattle.std.proofs.lemmas.Grind.{common_steps}
use Rattle.std.proofs.lemmas.Bool.Decides.{nat_tests}
use Rattle.std.proofs.Common.{◌≡◌, ◌∙◌, ℕ, ◌+◌, ◌<◌, List, [], ◌∷◌, ◌++◌, get_or, length, map, take, refl, ap, arith, subst, sym}
use Rattle.std.specs.Prelude.{All}
use Rattle.std.proofs.lemmas.List.Elements.{All-head, All-tail}
use Rattle.rtps_receiver.specs.Values as values
use Rattle.rtps_discovery.specs.Directory as directory
use Rattle.rtps_discovery.specs.Matching as matching
use Rattle.rtps_discovery.specs.declared.matching.Pair.{Pair}
use Rattle.rtps_audit.specs.Intake as intake_spec
use Rattle.rtps_audit.specs.Laws as audit_laws
use Rattle.rtps_audit.specs.Report as report
use Rattle.rtps_audit.specs.RunVerdict as run_verdict
use Rattle.rtps_audit.specs.Speech as speech
use Rattle.rtps_audit.specs.declared.report.Row.{Row}
use Rattle.rtps_audit.specs.declared.verdict.Verdict.{Verdict}
use Rattle.rtps_fragments.specs.Hearing as hearing
use Rattle.rtps_fragments.specs.SampleReport as sample_report

row_is : (one other : Row) → one.pair ≡ other.pair → one.verdict ≡ other.verdict → one ≡ other
row_is one other pair verdict =
    let with_pair : Pair → Row = λ p. record { pair = p; verdict = one.verdict } in
    let with_verdict : Verdict → Row = λ v. record { pair = other.pair; verdict = v } in
    ap with_pair pair ∙ ap with_verdict verdict

module _ (no_two : audit_laws.HasNoTwoVerdicts) where
  one_row : (from : ℕ) (recording : List (List values.ActValue)) (one other : Row) → one.pair ≡ other.pair → sample_report.IsHeardFrom from recording one → sample_report.IsHeardFrom from recording other → one ≡ other
  one_row from recording one other pair judged also =
      let moved = subst (λ (p : Pair). run_verdict.IsVerdictFrom from (speech.speech_by p.writer p.reader (hearing.heard_by p.reader recording)) other.verdict) (sym pair) also in
      row_is one other pair (no_two from (speech.speech_by one.pair.writer one.pair.reader (hearing.heard_by one.pair.reader recording)) one.verdict other.verdict judged moved)

  pub rows_are_one : sample_report.RowsHeardAreOne
  rows_are_one from recording [] [] pairs judged also = refl
  rows_are_one from recording [] (other ∷ others) pairs judged also = cc
  rows_are_one from recording (row ∷ rows) [] pairs judged also = cc
  rows_are_one from recording (row ∷ rows) (other ∷ others) pairs judged also =
      let head : row.pair ≡ other.pair = cc in
      let tail : map (λ (r : Row). r.pair) rows ≡ map (λ (r : Row). r.pair) others = cc in
      ap (λ first. first ∷ rows) (one_row from recording row other head (All-head (sample_report.IsHeardFrom from recording) row rows judged) (All-head (sample_report.IsHeardFrom from recording) other others also))
      ∙ ap (λ rest. other ∷ rest) (rows_are_one from recording rows others tail (All-tail (sample_report.IsHeardFrom from recording) row rows judged) (All-tail (sample_report.IsHeardFrom from recording) other others also))

  pub one_report : ((acts : List values.ActValue) (map other : directory.DirectoryValue) → directory.IsMapOf acts map → directory.IsMapOf acts other → map ≡ other) → sample_report.HasOneReportHeard
  one_report unique from intake one other is also =
      let same : is.directory ≡ also.directory = unique (intake_spec.acts_together intake.announcing) is.directory also.directory is.is_map also.is_map in
      let pairs = is.pairs ∙ ap (λ (d : directory.DirectoryValue). matching.reliable_pairs (matching.matches_among (directory.settled_in d.endpoints))) same ∙ sym also.pairs in
      let counts = is.counts ∙ ap (λ (d : directory.DirectoryValue). report.counts_of intake (length (directory.unsettled_in d.endpoints))) same ∙ sym also.counts in
      (rows_are_one from intake.acts one.rows.items other.rows.items pairs is.judged also.judged, counts)

-- rows of the same pairs, one more at a time
pub rows_more : (old new : List Row) (x : Row) (rows : List Row) (i : ℕ) (d : Row) → i < length rows → new ≡ old ++ x ∷ [] → x.pair ≡ (get_or rows i d).pair
    → map (λ (row : Row). row.pair) old ≡ map (λ (row : Row). row.pair) (take i rows) → map (λ (row : Row). row.pair) new ≡ map (λ (row : Row). row.pair) (take (i + 1) rows)
rows_more old new x rows i d lt is pair so_far = grind (arith, nat_tests, common_steps)
