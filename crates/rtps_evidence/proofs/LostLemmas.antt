-- Numbers that are lost, kind by kind; and they are told in one way.
use Rattle.std.proofs.lemmas.Bool.Decides.{nat_tests}
use Rattle.std.proofs.Common.{◌≡◌, ◌∙◌, ℕ, ◌+◌, ◌<◌, ◌≤◌, ◌&&◌, ◌||◌, Bool, true, false, nat_le, nat_lt, not, List, [], ◌∷◌, ◌++◌, Option, None, refl, sym, ap, arith, subst, zero, suc, get_or, length, map, take}
use Rattle.std.specs.Prelude.{is_some}
use Rattle.std.specs.List.{range_with_len}
use Rattle.std.proofs.lemmas.List.{length-append, map-append, take_more}
use Rattle.std.proofs.lemmas.List.Folds.{list_any-append}
use Rattle.std.proofs.lemmas.Bool.{and_parts, leb-true, ltb-true}
use Rattle.rtps_discovery.specs.declared.matching.Pair.{Pair}
use Rattle.rtps_audit.specs.Intake as intake
use Rattle.rtps_audit.specs.Placed as placed
use Rattle.rtps_receiver.specs.Values as values
use Rattle.rtps_coverage.specs.Counts as counts
use Rattle.rtps_coverage.specs.Stretches as stretches
use Rattle.rtps_coverage.specs.declared.stretch.Stretch.{Stretch}
use Rattle.rtps_evidence.specs.Clean as clean
use Rattle.rtps_evidence.specs.Explanation as explanation
use Rattle.rtps_evidence.specs.KindRuns as kind_runs
use Rattle.rtps_evidence.specs.Kinds as kinds
use Rattle.rtps_evidence.specs.Missed as missed
use Rattle.rtps_evidence.specs.OtherSide as other_side
use Rattle.rtps_evidence.specs.Outcomes as outcomes_spec
use Rattle.rtps_evidence.specs.Received as received
use Rattle.rtps_evidence.specs.Spans as spans_spec
use Rattle.rtps_evidence.specs.declared.explanation.Explanation.{Explanation}
use Rattle.rtps_evidence.specs.declared.kinds.KindRuns.{KindRuns}
use Rattle.rtps_evidence.specs.declared.kinds.LostNumbers.{LostNumbers}
use Rattle.rtps_evidence.specs.declared.location.Location.{Location}
use Rattle.rtps_evidence.specs.declared.outcome.Outcome.{Outcome}
use Rattle.rtps_evidence.specs.declared.outcome.Outcomes.{Outcomes}
use Rattle.rtps_evidence.specs.declared.sendings.SentSpan.{SentSpan}
use Rattle.rtps_evidence.specs.declared.span.Span.{Span}
use Rattle.rtps_evidence.proofs.CleanLemmas.{first_of, none_has}
use Rattle.rtps_evidence.proofs.KindLemmas.{runs_are_one}
use Rattle.rtps_evidence.proofs.OneSpan.{HasOneMap, one_extent}
use Rattle.rtps_evidence.proofs.SendingLemmas.{one_span}

-- ---- runs of numbers that have two things alike

within : (a b c : Bool) → (a ≡ true → b ≡ c) → (a && b) ≡ (a && c)
within true b c same = same refl
within false b c same = refl

pub runs_same : (has other : ℕ → Bool) (lo hi : ℕ) (runs : List Stretch) → ((n : ℕ) → lo ≤ n → n < hi → has n ≡ other n) → kinds.AreRunsOf has lo hi runs → kinds.AreRunsOf other lo hi runs
runs_same has other lo hi runs same are = record {
  apart = are.apart;
  exact = λ n. are.exact n ∙ within (nat_le lo n && nat_lt n hi) (has n) (other n)
      (λ is. same n (leb-true lo n (and_parts (nat_le lo n) (nat_lt n hi) is).0) (ltb-true n hi (and_parts (nat_le lo n) (nat_lt n hi) is).1));
}

-- ---- what the sets have of a number

pub missed_kind : (r t w e b u k l m : Bool) → l ≡ not r → m ≡ ((not r && w) && not e) → ((l && not t) && m) ≡ outcomes_spec.is_outcome Outcome.Missed (first_of r t w e b u k)
missed_kind true t w e b u k l m h h2 = grind (arith, nat_tests)
missed_kind false true w e b u k l m h h2 = grind (arith, nat_tests)
missed_kind false false true true b u k l m h h2 = grind (arith, nat_tests)
missed_kind false false true false b u k l m h h2 = grind (arith, nat_tests)
missed_kind false false false e true true k l m h h2 = grind (arith, nat_tests)
missed_kind false false false e true false true l m h h2 = grind (arith, nat_tests)
missed_kind false false false e true false false l m h h2 = grind (arith, nat_tests)
missed_kind false false false e false u k l m h h2 = grind (arith, nat_tests)

pub unsent_kind : (r t w e b u k l v n : Bool) → l ≡ not r → v ≡ (not r && w) → (r ≡ false → n ≡ not b) → (((l && not t) && not v) && n) ≡ outcomes_spec.is_outcome Outcome.Unsent (first_of r t w e b u k)
unsent_kind true t w e b u k l v n h h2 h3 = grind (arith, nat_tests)
unsent_kind false true w e b u k l v n h h2 h3 = grind (arith, nat_tests)
unsent_kind false false true true b u k l v n h h2 h3 = grind (arith, nat_tests)
unsent_kind false false true false b u k l v n h h2 h3 = grind (arith, nat_tests)
unsent_kind false false false e true true k l v n h h2 h3 = let no = h3 refl in grind (arith, nat_tests)
unsent_kind false false false e true false true l v n h h2 h3 = let no = h3 refl in grind (arith, nat_tests)
unsent_kind false false false e true false false l v n h h2 h3 = let no = h3 refl in grind (arith, nat_tests)
unsent_kind false false false e false u k l v n h h2 h3 = let no = h3 refl in grind (arith, nat_tests)

pub unanswered_kind : (r t w e b u k l v n s : Bool) → l ≡ not r → v ≡ (not r && w) → (r ≡ false → n ≡ not b) → (r ≡ false → b ≡ true → s ≡ u)
    → ((((l && not t) && not v) && not n) && s) ≡ outcomes_spec.is_outcome Outcome.Unanswered (first_of r t w e b u k)
unanswered_kind true t w e b u k l v n s h h2 h3 h4 = grind (arith, nat_tests)
unanswered_kind false true w e b u k l v n s h h2 h3 h4 = grind (arith, nat_tests)
unanswered_kind false false true true b u k l v n s h h2 h3 h4 = grind (arith, nat_tests)
unanswered_kind false false true false b u k l v n s h h2 h3 h4 = grind (arith, nat_tests)
unanswered_kind false false false e true true k l v n s h h2 h3 h4 = let no = h3 refl in let yes = h4 refl refl in grind (arith, nat_tests)
unanswered_kind false false false e true false true l v n s h h2 h3 h4 = let no = h3 refl in let yes = h4 refl refl in grind (arith, nat_tests)
unanswered_kind false false false e true false false l v n s h h2 h3 h4 = let no = h3 refl in let yes = h4 refl refl in grind (arith, nat_tests)
unanswered_kind false false false e false u k l v n s h h2 h3 h4 = let no = h3 refl in grind (arith, nat_tests)

-- an outcome is the first that fits
pub outcome_first : (outcome : Outcome) (there : ℕ → Bool) (times : List (Option ℕ)) (since : Option Location) (pair : Pair) (acts : List placed.PlacedValue) (n : ℕ)
    → outcomes_spec.is_outcome outcome (first_of (received.is_received pair.writer pair.reader acts n) (there n) (missed.is_wanting since pair.writer pair.reader acts n) (missed.is_excused pair.writer pair.reader acts n) (outcomes_spec.is_brought since pair acts n) (outcomes_spec.is_unanswered times since pair acts n) (is_some (received.first_claiming pair.writer pair.reader n acts)))
    ≡ kinds.has_outcome outcome there times since pair acts n
unfolding outcomes_spec.outcome_of
outcome_first outcome there times since pair acts n = refl

-- ---- what the runs of all kinds have

or_here : (b c : Bool) → b ≡ true → (b || c) ≡ true
or_here b c is = grind (arith, nat_tests)

or_there : (b c : Bool) → c ≡ true → (b || c) ≡ true
or_there b c is = grind (arith, nat_tests)

pub missed_in_runs : (runs : KindRuns) (n : ℕ) → stretches.stretches_have runs.missed.items n ≡ true → kind_runs.is_in_runs runs n ≡ true
missed_in_runs runs n is = or_here _ _ is

pub unsent_in_runs : (runs : KindRuns) (n : ℕ) → stretches.stretches_have runs.unsent.items n ≡ true → kind_runs.is_in_runs runs n ≡ true
unsent_in_runs runs n is = or_there (stretches.stretches_have runs.missed.items n) _ (or_here _ _ is)

pub unanswered_in_runs : (runs : KindRuns) (n : ℕ) → stretches.stretches_have runs.unanswered.items n ≡ true → kind_runs.is_in_runs runs n ≡ true
unanswered_in_runs runs n is = or_there (stretches.stretches_have runs.missed.items n) _ (or_there (stretches.stretches_have runs.unsent.items n) _ (or_here _ _ is))

pub arrived_in_runs : (runs : KindRuns) (n : ℕ) → stretches.stretches_have runs.not_arrived.items n ≡ true → kind_runs.is_in_runs runs n ≡ true
arrived_in_runs runs n is = or_there (stretches.stretches_have runs.missed.items n) _ (or_there (stretches.stretches_have runs.unsent.items n) _ (or_there (stretches.stretches_have runs.unanswered.items n) _ is))

of_both : (xs ys both : List Stretch) (n : ℕ) → both ≡ xs ++ ys → stretches.stretches_have both n ≡ (stretches.stretches_have xs n || stretches.stretches_have ys n)
of_both xs ys both n is = ap (λ l. stretches.stretches_have l n) is ∙ list_any-append (stretches.stretch_has n) xs ys

in_turn : (m u a l : Bool) → (((m || u) || a) || l) ≡ (m || (u || (a || l)))
in_turn true u a l = refl
in_turn false true a l = refl
in_turn false false a l = refl

pub all_runs : (runs : KindRuns) (one two three all : List Stretch) (n : ℕ) → one ≡ runs.missed.items → two ≡ one ++ runs.unsent.items → three ≡ two ++ runs.unanswered.items → all ≡ three ++ runs.not_arrived.items
    → stretches.stretches_have all n ≡ kind_runs.is_in_runs runs n
all_runs runs one two three all n is is2 is3 is4 =
    of_both three runs.not_arrived.items all n is4
    ∙ ap (λ b. b || stretches.stretches_have runs.not_arrived.items n)
    (of_both two runs.unanswered.items three n is3
    ∙ ap (λ b. b || stretches.stretches_have runs.unanswered.items n) (of_both one runs.unsent.items two n is2 ∙ ap (λ l. stretches.stretches_have l n || stretches.stretches_have runs.unsent.items n) is))
    ∙ in_turn (stretches.stretches_have runs.missed.items n) (stretches.stretches_have runs.unsent.items n) (stretches.stretches_have runs.unanswered.items n) (stretches.stretches_have runs.not_arrived.items n)

of_all : (i m u a l : Bool) → ((i && m) || ((i && u) || ((i && a) || (i && l)))) ≡ (i && (m || (u || (a || l))))
of_all true m u a l = refl
of_all false m u a l = refl

four : (a b c d e f g h : Bool) → a ≡ e → b ≡ f → c ≡ g → d ≡ h → (a || (b || (c || d))) ≡ (e || (f || (g || h)))
four a b c d e f g h h1 h2 h3 h4 = cc

-- together they are the numbers that are lost
pub lost_in_runs : (held : Bool) (there : ℕ → Bool) (from last : ℕ) (times : List (Option ℕ)) (since : Option Location) (pair : Pair) (acts : List placed.PlacedValue) (runs : KindRuns) → kind_runs.AreKindRuns held there from last times since pair acts runs
    → (n : ℕ) → kind_runs.is_in_runs runs n ≡ kinds.is_lost held there from last times since pair acts n
lost_in_runs held there from last times since pair acts runs are n =
    four _ _ _ _ _ _ _ _ (are.missed.exact n) (are.unsent.exact n) (are.unanswered.exact n) (are.not_arrived.exact n)
    ∙ of_all (nat_le from n && nat_lt n (last + 1)) (kinds.has_outcome Outcome.Missed there times since pair acts n) (kinds.has_outcome Outcome.Unsent there times since pair acts n) (kinds.has_outcome Outcome.Unanswered there times since pair acts n) (kinds.is_lacking held there pair acts n)

-- ---- where none is counted, none is lost

and_no : (b : Bool) → (b && false) ≡ false
and_no b = grind (arith, nat_tests)

none_exact : (has : ℕ → Bool) (lo hi n : ℕ) → counts.count_in has lo hi ≡ 0 → false ≡ ((nat_le lo n && nat_lt n hi) && has n)
none_exact has lo hi n none =
    sym (and_no (nat_le lo n && nat_lt n hi))
    ∙ within (nat_le lo n && nat_lt n hi) false (has n) (λ is. sym (none_has has lo hi n none (leb-true lo n (and_parts (nat_le lo n) (nat_lt n hi) is).0) (ltb-true n hi (and_parts (nat_le lo n) (nat_lt n hi) is).1)))

none_ranges : (has : ℕ → Bool) (from last : ℕ) (pair : Pair) (acts : List placed.PlacedValue) (found : kinds.KindValue) → ((n : ℕ) → false ≡ ((nat_le from n && nat_lt n (last + 1)) && has n)) → found ≡ kinds.no_ranges → kinds.AreRangesOf has from last pair acts found
none_ranges has from last pair acts found none is = record { runs = []; are_runs = record { apart = tt; exact = none }; is_value = is }

none_of_all : (i m u a l : Bool) → false ≡ (i && m) → false ≡ (i && u) → false ≡ (i && a) → false ≡ (i && l) → (i && (m || (u || (a || l)))) ≡ false
none_of_all i m u a l h h2 h3 h4 = sym (of_all i m u a l) ∙ sym (four _ _ _ _ _ _ _ _ h h2 h3 h4)

none_sent : (has : ℕ → Bool) (sent : ℕ → Option Location) (span : Option SentSpan) → ((n : ℕ) → has n ≡ false) → span ≡ None → kinds.IsSentIn has sent span
none_sent has sent span none is = subst (kinds.IsSentIn has sent) (sym is) (λ n had. absurd (let no : true ≡ false = sym had ∙ none n in cc))

-- where no number is lost by the counts, no kind has a number
pub kept_all : (outcomes : Outcomes) → clean.has_all outcomes ≡ true → (outcomes.missed ≡ 0) × (outcomes.unsent ≡ 0) × (outcomes.unanswered ≡ 0)
kept_all outcomes all = (grind (arith, nat_tests), grind (arith, nat_tests), grind (arith, nat_tests))

pub none_are_lost : (there : ℕ → Bool) (from last : ℕ) (times : List (Option ℕ)) (since : Option Location) (pair : Pair) (acts : List placed.PlacedValue) (outcomes : Outcomes) (lost : kinds.LostValue)
    → outcomes_spec.AreOutcomes there from last times since pair acts outcomes → outcomes.missed ≡ 0 → outcomes.unsent ≡ 0 → outcomes.unanswered ≡ 0 → lost ≡ kinds.none_lost → kinds.AreLost false there from last times since pair acts lost
none_are_lost there from last times since pair acts outcomes lost are missed unsent unanswered is =
    let no_missed = λ (n : ℕ). none_exact (kinds.has_outcome Outcome.Missed there times since pair acts) from (last + 1) n (sym are.missed ∙ missed) in
    let no_unsent = λ (n : ℕ). none_exact (kinds.has_outcome Outcome.Unsent there times since pair acts) from (last + 1) n (sym are.unsent ∙ unsent) in
    let no_unanswered = λ (n : ℕ). none_exact (kinds.has_outcome Outcome.Unanswered there times since pair acts) from (last + 1) n (sym are.unanswered ∙ unanswered) in
    let no_lacking = λ (n : ℕ). sym (and_no (nat_le from n && nat_lt n (last + 1))) in
    record {
      missed = none_ranges (kinds.has_outcome Outcome.Missed there times since pair acts) from last pair acts lost.missed no_missed (ap (λ (l : kinds.LostValue). l.missed) is);
      unsent = none_ranges (kinds.has_outcome Outcome.Unsent there times since pair acts) from last pair acts lost.unsent no_unsent (ap (λ (l : kinds.LostValue). l.unsent) is);
      unanswered = none_ranges (kinds.has_outcome Outcome.Unanswered there times since pair acts) from last pair acts lost.unanswered no_unanswered (ap (λ (l : kinds.LostValue). l.unanswered) is);
      not_arrived = none_ranges (kinds.is_lacking false there pair acts) from last pair acts lost.not_arrived no_lacking (ap (λ (l : kinds.LostValue). l.not_arrived) is);
      sent = none_sent (kinds.is_lost false there from last times since pair acts) (kinds.first_brought pair acts) lost.sent
          (λ n. none_of_all (nat_le from n && nat_lt n (last + 1)) (kinds.has_outcome Outcome.Missed there times since pair acts n) (kinds.has_outcome Outcome.Unsent there times since pair acts n) (kinds.has_outcome Outcome.Unanswered there times since pair acts n) (kinds.is_lacking false there pair acts n)
          (no_missed n) (no_unsent n) (no_unanswered n) (no_lacking n))
          (ap (λ (l : kinds.LostValue). l.sent) is);
    }

-- ---- they are told in one way

one_ranges : (has : ℕ → Bool) (from last : ℕ) (pair : Pair) (acts : List placed.PlacedValue) (one other : kinds.KindValue) → kinds.AreRangesOf has from last pair acts one → kinds.AreRangesOf has from last pair acts other → one ≡ other
one_ranges has from last pair acts one other is also = is.is_value ∙ ap (kinds.kept_ranges pair acts) (runs_are_one has from (last + 1) is.runs also.runs is.are_runs also.are_runs) ∙ sym also.is_value

lost_is : (one other : kinds.LostValue) → one.missed ≡ other.missed → one.unsent ≡ other.unsent → one.unanswered ≡ other.unanswered → one.not_arrived ≡ other.not_arrived → one.sent ≡ other.sent → one ≡ other
lost_is one other missed unsent unanswered not_arrived sent = grind (arith, nat_tests)

one_are_lost : (held : Bool) (there : ℕ → Bool) (from last : ℕ) (times : List (Option ℕ)) (since : Option Location) (pair : Pair) (acts : List placed.PlacedValue) (one other : kinds.LostValue) → kinds.AreLost held there from last times since pair acts one → kinds.AreLost held there from last times since pair acts other → one ≡ other
one_are_lost held there from last times since pair acts one other is also =
    lost_is one other
    (one_ranges (kinds.has_outcome Outcome.Missed there times since pair acts) from last pair acts one.missed other.missed is.missed also.missed)
    (one_ranges (kinds.has_outcome Outcome.Unsent there times since pair acts) from last pair acts one.unsent other.unsent is.unsent also.unsent)
    (one_ranges (kinds.has_outcome Outcome.Unanswered there times since pair acts) from last pair acts one.unanswered other.unanswered is.unanswered also.unanswered)
    (one_ranges (kinds.is_lacking held there pair acts) from last pair acts one.not_arrived other.not_arrived is.not_arrived also.not_arrived)
    (one_span (kinds.is_lost held there from last times since pair acts) (kinds.first_brought pair acts) one.sent other.sent is.sent also.sent)

one_lost_in : (spans : Bool) (beside : other_side.Beside) (own : Span) (pair : Pair) (all recording : List (List values.ActValue)) (one other : kinds.LostValue) → kinds.IsLostIn spans beside own pair all recording one → kinds.IsLostIn spans beside own pair all recording other → one ≡ other
one_lost_in true beside own pair all recording one other is also = one_are_lost _ _ _ _ _ _ _ _ one other is also
one_lost_in false beside own pair all recording one other is also = is ∙ sym also

one_lost_by : HasOneMap → (spans : Bool) (from : ℕ) (beside : other_side.Beside) (intake : intake.Intake) (pair : Pair) (one other : kinds.LostValue) → explanation.IsLostBy spans from beside intake pair one → explanation.IsLostBy spans from beside intake pair other → one ≡ other
one_lost_by unique spans from beside intake pair one other is also =
    let same : is.span ≡ also.span = one_extent unique spans from pair intake is.span also.span is.extent also.extent in
    one_lost_in spans beside also.span pair intake.acts _ one other (subst (λ (own : Span). kinds.IsLostIn spans beside own pair intake.acts (spans_spec.heard_in own pair intake.acts) one) same is.losses) also.losses

pub one_losses : HasOneMap → (spans : Bool) (from : ℕ) (beside : other_side.Beside) (intake : intake.Intake) (pairs : List Pair) (one other : List kinds.LostValue) → explanation.AreLostOf spans from beside intake pairs one → explanation.AreLostOf spans from beside intake pairs other → one ≡ other
one_losses unique spans from beside intake [] [] [] is also = refl
one_losses unique spans from beside intake [] [] (y ∷ ys) is also = absurd also
one_losses unique spans from beside intake [] (x ∷ xs) other is also = absurd is
one_losses unique spans from beside intake (pair ∷ pairs) [] other is also = absurd is
one_losses unique spans from beside intake (pair ∷ pairs) (x ∷ xs) [] is also = absurd also
one_losses unique spans from beside intake (pair ∷ pairs) (x ∷ xs) (y ∷ ys) is also =
    let head : x ≡ y = one_lost_by unique spans from beside intake pair x y is.0 also.0 in
    let tail : xs ≡ ys = one_losses unique spans from beside intake pairs xs ys is.1 also.1 in
    cc

-- ---- one row more

pub losses_more : (spans : Bool) (from : ℕ) (beside : other_side.Beside) (intake : intake.Intake) (pairs : List Pair) (lost : List kinds.LostValue) (pair : Pair) (one : kinds.LostValue) → explanation.AreLostOf spans from beside intake pairs lost → explanation.IsLostBy spans from beside intake pair one
    → explanation.AreLostOf spans from beside intake (pairs ++ pair ∷ []) (lost ++ one ∷ [])
losses_more spans from beside intake [] [] pair one are is = (is, tt)
losses_more spans from beside intake [] (x ∷ xs) pair one are is = absurd are
losses_more spans from beside intake (p ∷ pairs) [] pair one are is = absurd are
losses_more spans from beside intake (p ∷ pairs) (x ∷ xs) pair one are is = (are.0, losses_more spans from beside intake pairs xs pair one are.1 is)

pub losses_pairs : (spans : Bool) (from : ℕ) (beside : other_side.Beside) (intake : intake.Intake) (pairs : List Pair) (i : ℕ) (d : Pair) (old new : List LostNumbers) (x : LostNumbers) → i < length pairs → new ≡ old ++ x ∷ []
    → explanation.AreLostOf spans from beside intake (take i pairs) (map kinds.lost_value old) → explanation.IsLostBy spans from beside intake (get_or pairs i d) (kinds.lost_value x)
    → explanation.AreLostOf spans from beside intake (take (i + 1) pairs) (map kinds.lost_value new)
losses_pairs spans from beside intake pairs i d old new x lt is are one =
    let losses = ap (map kinds.lost_value) is ∙ map-append kinds.lost_value old (x ∷ []) in
    subst (λ l. explanation.AreLostOf spans from beside intake l (map kinds.lost_value new)) (sym (take_more pairs i d lt))
    (subst (λ l. explanation.AreLostOf spans from beside intake (take i pairs ++ get_or pairs i d ∷ []) l) (sym losses)
    (losses_more spans from beside intake (take i pairs) (map kinds.lost_value old) (get_or pairs i d) (kinds.lost_value x) are one))

-- places of rows, one more
range_more : (a n : ℕ) → range_with_len a (n + 1) ≡ range_with_len a n ++ (a + n) ∷ []
range_more a zero = (let e : a ≡ a + 0 = omega arith in ap (λ m. m ∷ []) e)
range_more a (suc n) =
    let to : suc n + 1 ≡ suc (n + 1) = omega arith in
    let at : a + 1 + n ≡ a + suc n = omega arith in
    ap (range_with_len a) to ∙ ap (λ l. a ∷ l) (range_more (a + 1) n ∙ ap (λ m. range_with_len (a + 1) n ++ m ∷ []) at)

pub places_more : (old new : List Explanation) (x : Explanation) → new ≡ old ++ x ∷ [] → x.place ≡ length old → map (λ (row : Explanation). row.place) old ≡ range_with_len 0 (length old)
    → map (λ (row : Explanation). row.place) new ≡ range_with_len 0 (length new)
places_more old new x is place so_far =
    let many : length new ≡ length old + 1 = ap length is ∙ length-append old (x ∷ []) in
    let none : length old ≡ 0 + length old = omega arith in
    ap (map (λ (row : Explanation). row.place)) is ∙ map-append (λ (row : Explanation). row.place) old (x ∷ [])
    ∙ ap (λ l. l ++ x.place ∷ []) so_far ∙ ap (λ m. range_with_len 0 (length old) ++ m ∷ []) (place ∙ none)
    ∙ sym (range_more 0 (length old)) ∙ ap (range_with_len 0) (sym many)
