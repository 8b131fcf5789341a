-- A recording has one verdict of a pair, and one report.
use Rattle.std.proofs.Common.{◌≡◌, ℕ, ◌+◌, sym, ◌∙◌, ap, subst, arith, ℤ, pos, negsuc, List, [], ◌∷◌, length, map, refl}
use Rattle.std.specs.Prelude.{All}
use Rattle.std.proofs.lemmas.List.Elements.{All-head, All-tail}
use Rattle.rtps_receiver.specs.Values as values
use Rattle.rtps_discovery.specs.Directory as directory
use Rattle.rtps_discovery.specs.Matching as matching
use Rattle.rtps_discovery.specs.declared.matching.Pair.{Pair}
use Rattle.rtps_audit.specs.Delivery as delivery
use Rattle.rtps_audit.specs.RunVerdict as run_verdict
use Rattle.rtps_audit.specs.Laws as laws
use Rattle.rtps_audit.specs.Intake as intake_spec
use Rattle.rtps_audit.specs.Report as report
use Rattle.rtps_audit.specs.Speech as speech
use Rattle.rtps_audit.specs.declared.report.Row.{Row}
use Rattle.rtps_audit.specs.declared.verdict.Verdict.{Verdict}

one_least : (P : ℕ → Type 0) (n m : ℕ) → run_verdict.IsLeast P n → run_verdict.IsLeast P m → n ≡ m
one_least P n m a b =
    let up = a.least m b.holds in
    let down = b.least n a.holds in
    omega arith

one_natural : (P : ℕ → Type 0) (x y : ℤ) → run_verdict.OnNatural x (run_verdict.IsLeast P) → run_verdict.OnNatural y (run_verdict.IsLeast P) → x ≡ y
one_natural P (pos n) (pos m) a b = ap pos (one_least P n m a b)
one_natural P (pos n) (negsuc m) a b = absurd b
one_natural P (negsuc n) y a b = absurd a

-- some number has the fact
some_natural : (P : ℕ → Type 0) (x : ℤ) → run_verdict.OnNatural x (run_verdict.IsLeast P) → (n : ℕ) × P n
some_natural P (pos n) a = (n, a.holds)
some_natural P (negsuc n) a = absurd a

same_unfounded : {from : ℕ} (speech : delivery.Speech) (d e : ℕ) (x y : ℤ) → run_verdict.IsVerdictFrom from speech (Verdict.Unfounded d x) → run_verdict.IsVerdictFrom from speech (Verdict.Unfounded e y) → Verdict.Unfounded d x ≡ Verdict.Unfounded e y
same_unfounded {from} speech d e x y (none, (i, at, first, least)) (never, (j, is, second, other)) =
    let place : i ≡ j = one_least (run_verdict.IsUnsendable from speech) i j first second in
    let datagram : d ≡ e = at ∙ ap (λ k. k + 1) place ∙ sym is in
    let number : x ≡ y = one_natural (run_verdict.ClaimsUntold from speech i) x y least (subst (λ k. run_verdict.OnNatural y (run_verdict.IsLeast (run_verdict.ClaimsUntold from speech k))) (sym place) other) in
    ap (λ k. Verdict.Unfounded k x) datagram ∙ ap (Verdict.Unfounded e) number

not_open : {from : ℕ} (speech : delivery.Speech) (x y : ℤ) → run_verdict.IsVerdictFrom from speech (Verdict.Open x) → run_verdict.IsVerdictFrom from speech (Verdict.Complete y) → ⊥
not_open {from} speech x y (run, none, least) (same, some, never, all) =
    let (n, (asked, announced, (end, ends, without))) = some_natural (run_verdict.EndsWithout from speech) x least in
    without (all end ends n asked announced)

not_conflict : {from : ℕ} (speech : delivery.Speech) (x : ℤ) → run_verdict.OnNatural x (run_verdict.IsLeast (run_verdict.EndsInConflict from speech)) → ((n : ℕ) → ¬ run_verdict.EndsInConflict from speech n) → ⊥
not_conflict {from} speech x least none = let (n, two) = some_natural (run_verdict.EndsInConflict from speech) x least in none n two

pub has_no_two_verdicts : laws.HasNoTwoVerdicts
has_no_two_verdicts from speech (Verdict.Unfounded d x) (Verdict.Unfounded e y) a b = same_unfounded speech d e x y a b
has_no_two_verdicts from speech (Verdict.Unfounded d x) (Verdict.Conflict y) a b = absurd (a.0 b.0)
has_no_two_verdicts from speech (Verdict.Unfounded d x) (Verdict.Open y) a b = absurd (a.0 b.0)
has_no_two_verdicts from speech (Verdict.Unfounded d x) (Verdict.Complete y) a b = absurd (a.0 b.1)
has_no_two_verdicts from speech (Verdict.Conflict x) (Verdict.Unfounded e y) a b = absurd (b.0 a.0)
has_no_two_verdicts from speech (Verdict.Conflict x) (Verdict.Conflict y) a b = ap Verdict.Conflict (one_natural (run_verdict.EndsInConflict from speech) x y a.1 b.1)
has_no_two_verdicts from speech (Verdict.Conflict x) (Verdict.Open y) a b = absurd (not_conflict speech x a.1 b.1)
has_no_two_verdicts from speech (Verdict.Conflict x) (Verdict.Complete y) a b = absurd (not_conflict speech x a.1 b.2)
has_no_two_verdicts from speech (Verdict.Open x) (Verdict.Unfounded e y) a b = absurd (b.0 a.0)
has_no_two_verdicts from speech (Verdict.Open x) (Verdict.Conflict y) a b = absurd (not_conflict speech y b.1 a.1)
has_no_two_verdicts from speech (Verdict.Open x) (Verdict.Open y) a b = ap Verdict.Open (one_natural (run_verdict.EndsWithout from speech) x y a.2 b.2)
has_no_two_verdicts from speech (Verdict.Open x) (Verdict.Complete y) a b = absurd (not_open speech x y a b)
has_no_two_verdicts from speech (Verdict.Complete x) (Verdict.Unfounded e y) a b = absurd (b.0 a.1)
has_no_two_verdicts from speech (Verdict.Complete x) (Verdict.Conflict y) a b = absurd (not_conflict speech y b.1 a.2)
has_no_two_verdicts from speech (Verdict.Complete x) (Verdict.Open y) a b = absurd (not_open speech y x b a)
has_no_two_verdicts from speech (Verdict.Complete x) (Verdict.Complete y) a b = ap Verdict.Complete (a.0 ∙ sym b.0)

-- ---- one report

row_is : (one other : Row) → one.pair ≡ other.pair → one.verdict ≡ other.verdict → one ≡ other
row_is one other pair verdict =
    let with_pair : Pair → Row = λ p. record { pair = p; verdict = one.verdict } in
    let with_verdict : Verdict → Row = λ v. record { pair = other.pair; verdict = v } in
    ap with_pair pair ∙ ap with_verdict verdict

one_row : (from : ℕ) (recording : List (List values.ActValue)) (one other : Row) → one.pair ≡ other.pair → report.IsJudgedFrom from recording one → report.IsJudgedFrom from recording other → one ≡ other
one_row from recording one other pair judged also =
    let moved = subst (λ (p : Pair). run_verdict.IsVerdictFrom from (speech.speech_by p.writer p.reader recording) other.verdict) (sym pair) also in
    row_is one other pair (has_no_two_verdicts from (speech.speech_by one.pair.writer one.pair.reader recording) one.verdict other.verdict judged moved)

one_list : (from : ℕ) (recording : List (List values.ActValue)) (rows others : List Row) → map (λ row. row.pair) rows ≡ map (λ row. row.pair) others
    → All (report.IsJudgedFrom from recording) rows → All (report.IsJudgedFrom from recording) others → rows ≡ others
one_list from recording [] [] pairs judged also = refl
one_list from recording [] (other ∷ others) pairs judged also = cc
one_list from recording (row ∷ rows) [] pairs judged also = cc
one_list from recording (row ∷ rows) (other ∷ others) pairs judged also =
    let head : row.pair ≡ other.pair = cc in
    let tail : map (λ (r : Row). r.pair) rows ≡ map (λ (r : Row). r.pair) others = cc in
    ap (λ first. first ∷ rows) (one_row from recording row other head (All-head (report.IsJudgedFrom from recording) row rows judged) (All-head (report.IsJudgedFrom from recording) other others also))
    ∙ ap (λ rest. other ∷ rest) (one_list from recording rows others tail (All-tail (report.IsJudgedFrom from recording) row rows judged) (All-tail (report.IsJudgedFrom from recording) other others also))

pub one_report : ((acts : List values.ActValue) (map other : directory.DirectoryValue) → directory.IsMapOf acts map → directory.IsMapOf acts other → map ≡ other) → laws.HasOneReport
one_report unique from intake one other is also =
    let same : is.directory ≡ also.directory = unique (intake_spec.acts_together intake.announcing) is.directory also.directory is.is_map also.is_map in
    let pairs = is.pairs ∙ ap (λ (d : directory.DirectoryValue). matching.reliable_pairs (matching.matches_among (directory.settled_in d.endpoints))) same ∙ sym also.pairs in
    let counts = is.counts ∙ ap (λ (d : directory.DirectoryValue). report.counts_of intake (length (directory.unsettled_in d.endpoints))) same ∙ sym also.counts in
    (one_list from intake.acts one.rows.items other.rows.items pairs is.judged also.judged, counts)
