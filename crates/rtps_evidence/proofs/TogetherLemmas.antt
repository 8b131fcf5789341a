-- Pairs of one writer that are heard together: what each of them heard is what it is judged by.
use Rattle.std.proofs.Common.{ℕ, zero, suc, ◌==◌, append-nil, ◌≡◌, ◌∙◌, ◌+◌, ◌-◌, ◌<◌, ◌≤◌, ◌^◌, ◌||◌, Bool, true, false, cond, drop, filter, get_or, length, map, nat_lt, take, List, [], ◌∷◌, ◌++◌, Option, Some, None, refl, sym, ap, subst, arith, append_assoc, inl, inr}
use Rattle.std.specs.Prelude.{All, IfSome}
use Rattle.std.specs.List.{list_any}
use Rattle.std.proofs.lemmas.Bool.{cases_lt}
use Rattle.std.proofs.lemmas.Bool.Decides.{nat_tests}
use Rattle.std.proofs.lemmas.List.{map-append, take-append-le, take_all, take_more}
use Rattle.std.proofs.lemmas.List.Elements.{All-nil, filter-append}
use Rattle.rtps_ids.specs.declared.identity.Guid.{Guid}
use Rattle.rtps_discovery.specs.Directory as directory_spec
use Rattle.rtps_discovery.specs.declared.matching.Pair.{Pair}
use Rattle.rtps_receiver.specs.Values as values
use Rattle.rtps_audit.specs.Intake as intake_spec
use Rattle.rtps_audit.specs.Placed as placed
use Rattle.rtps_audit.specs.Said as said
use Rattle.rtps_audit.specs.declared.verdict.Verdict.{Verdict}
use Rattle.rtps_evidence.specs.Cases as cases
use Rattle.rtps_evidence.specs.Ears as ears
use Rattle.rtps_evidence.specs.Evidence as evidence
use Rattle.rtps_evidence.specs.Explanation as explanation
use Rattle.rtps_evidence.specs.Heard as heard
use Rattle.rtps_evidence.specs.Kinds as kinds
use Rattle.rtps_evidence.specs.OtherSide as other_side
use Rattle.rtps_evidence.specs.Spans as spans
use Rattle.rtps_evidence.specs.Together as together
use Rattle.rtps_evidence.specs.declared.brief.Brief.{Brief}
use Rattle.rtps_evidence.specs.declared.case.Case.{Case}
use Rattle.rtps_evidence.specs.declared.docket.Docket.{Docket}
use Rattle.rtps_evidence.specs.declared.exchange.Exchange.{Exchange}
use Rattle.rtps_evidence.specs.declared.explanation.ExplainedRows.{ExplainedRows}
use Rattle.rtps_evidence.specs.declared.explanation.Explanation.{Explanation}
use Rattle.rtps_evidence.specs.declared.hearer.Hearer.{Hearer}
use Rattle.rtps_evidence.specs.declared.judgement.Judgement.{Judgement}
use Rattle.rtps_evidence.specs.declared.leaving_ear.LeavingEar.{LeavingEar}
use Rattle.rtps_evidence.proofs.CaseLemmas.{heard_again, heard_all}

-- ---- lists

-- one more behind others
pub next_behind : {X Y : Type 0} (f : X → Y) (before : List Y) (xs : List X) (i : ℕ) (x : X) → i < length xs → x ≡ get_or xs i x → (before ++ map f (take i xs)) ++ f x ∷ [] ≡ before ++ map f (take (i + 1) xs)
next_behind f before xs i x lt at =
    append_assoc before (map f (take i xs)) (f x ∷ [])
    ∙ ap (λ l. before ++ l) (ap (λ y. map f (take i xs) ++ f y ∷ []) at ∙ sym (map-append f (take i xs) (get_or xs i x ∷ [])) ∙ ap (map f) (sym (take_more xs i x lt)))

-- two lists that have one thing alike at each place
pub alike : {X Y : Type 0} (f : X → Y) (xs ys : List X) → length ys ≡ length xs → ((k : ℕ) (d : X) → k < length xs → f (get_or ys k d) ≡ f (get_or xs k d)) → map f ys ≡ map f xs
alike f [] [] same at = refl
alike f [] (y ∷ ys) same at = absurd (omega arith)
alike f (x ∷ xs) [] same at = absurd (omega arith)
alike f (x ∷ xs) (y ∷ ys) same at =
    ap (λ z. z ∷ map f ys) (at 0 x (omega arith)) ∙ ap (λ l. f x ∷ l) (alike f xs ys (omega arith) (λ k d lt. at (suc k) d (omega arith)))

pub not_more : {X : Type 0} (test : X → Bool) (xs : List X) → length (filter test xs) ≤ length xs
not_more test [] = omega arith
not_more {X} test (x ∷ xs) = by (test x) (not_more test xs)
  where
    by : (b : Bool) → length (filter test xs) ≤ length xs → length (cond b (x ∷ filter test xs) (filter test xs)) ≤ suc (length xs)
    by true le = omega arith
    by false le = omega arith

first_not : (a b : Bool) → (a || b) ≡ false → a ≡ false
first_not a b is = grind (arith, nat_tests)

second_not : (a b : Bool) → (a || b) ≡ false → b ≡ false
second_not a b is = grind (arith, nat_tests)

-- what none does, none of some of them does
pub none_of_some : {X : Type 0} (test keeps : X → Bool) (xs : List X) → list_any test xs ≡ false → list_any test (filter keeps xs) ≡ false
none_of_some test keeps [] none = refl
none_of_some {X} test keeps (x ∷ xs) none = by (keeps x) (none_of_some test keeps xs (second_not (test x) (list_any test xs) none))
  where
    by : (b : Bool) → list_any test (filter keeps xs) ≡ false → list_any test (cond b (x ∷ filter keeps xs) (filter keeps xs)) ≡ false
    by true h = ap (λ c. c || list_any test (filter keeps xs)) (first_not (test x) (list_any test xs) none) ∙ h
    by false h = h

-- ---- the acts of the first datagrams

swapped : {X : Type 0} (one other : X → Bool) (xs : List X) → filter one (filter other xs) ≡ filter other (filter one xs)
swapped one other [] = refl
swapped {X} one other (x ∷ xs) = by (one x) (other x) refl refl (swapped one other xs)
  where
    by : (a b : Bool) → one x ≡ a → other x ≡ b → filter one (filter other xs) ≡ filter other (filter one xs)
        → filter one (cond b (x ∷ filter other xs) (filter other xs)) ≡ filter other (cond a (x ∷ filter one xs) (filter one xs))
    by true true e f h = ap (λ c. cond c (x ∷ filter one (filter other xs)) (filter one (filter other xs))) e ∙ ap (λ l. x ∷ l) h ∙ sym (ap (λ c. cond c (x ∷ filter other (filter one xs)) (filter other (filter one xs))) f)
    by true false e f h = h ∙ sym (ap (λ c. cond c (x ∷ filter other (filter one xs)) (filter other (filter one xs))) f)
    by false true e f h = ap (λ c. cond c (x ∷ filter one (filter other xs)) (filter one (filter other xs))) e ∙ h
    by false false e f h = h

all_stay : (xs : List placed.PlacedValue) → filter (ears.is_until None) xs ≡ xs
all_stay [] = refl
all_stay (x ∷ xs) = ap (λ l. x ∷ l) (all_stay xs)

at_before : (d datagram : ℕ) (acts : List values.ActValue) → datagram < d → filter (ears.is_until (Some d)) (placed.placed_at datagram acts) ≡ placed.placed_at datagram acts
at_before d datagram [] lt = refl
at_before d datagram (act ∷ acts) lt =
    let yes : nat_lt datagram d ≡ true = grind (arith, nat_tests) in
    let x : placed.PlacedValue = record { datagram = datagram; act = act } in
    ap (λ b. cond b (x ∷ filter (ears.is_until (Some d)) (placed.placed_at datagram acts)) (filter (ears.is_until (Some d)) (placed.placed_at datagram acts))) yes ∙ ap (λ l. x ∷ l) (at_before d datagram acts lt)

at_behind : (d datagram : ℕ) (acts : List values.ActValue) → d ≤ datagram → filter (ears.is_until (Some d)) (placed.placed_at datagram acts) ≡ []
at_behind d datagram [] le = refl
at_behind d datagram (act ∷ acts) le =
    let no : nat_lt datagram d ≡ false = grind (arith, nat_tests) in
    let x : placed.PlacedValue = record { datagram = datagram; act = act } in
    ap (λ b. cond b (x ∷ filter (ears.is_until (Some d)) (placed.placed_at datagram acts)) (filter (ears.is_until (Some d)) (placed.placed_at datagram acts))) no ∙ at_behind d datagram acts le

-- none is left behind the last datagram
none_left : (d before : ℕ) (recording : List (List values.ActValue)) → d ≤ before + 1 → filter (ears.is_until (Some d)) (placed.placed_behind before recording) ≡ []
none_left d before [] le = refl
none_left d before (acts ∷ recording) le =
    filter-append (ears.is_until (Some d)) (placed.placed_at (before + 1) acts) (placed.placed_behind (before + 1) recording)
    ∙ ap (λ l. l ++ filter (ears.is_until (Some d)) (placed.placed_behind (before + 1) recording)) (at_behind d (before + 1) acts le)
    ∙ none_left d (before + 1) recording (omega arith)

of_first : (d before : ℕ) (recording : List (List values.ActValue)) → filter (ears.is_until (Some d)) (placed.placed_behind before recording) ≡ placed.placed_behind before (take (d - 1 - before) recording)
of_first d before [] = none (d - 1 - before)
  where
    none : (n : ℕ) → [] ≡ placed.placed_behind before (take n [])
    none zero = refl
    none (suc n) = refl
of_first d before (acts ∷ recording) = elim (cases_lt (before + 1) d) [
  | inl lt ↦
      let more : d - 1 - before ≡ suc (d - 1 - (before + 1)) = omega arith in
      filter-append (ears.is_until (Some d)) (placed.placed_at (before + 1) acts) (placed.placed_behind (before + 1) recording)
      ∙ ap (λ l. l ++ filter (ears.is_until (Some d)) (placed.placed_behind (before + 1) recording)) (at_before d (before + 1) acts lt)
      ∙ ap (λ l. placed.placed_at (before + 1) acts ++ l) (of_first d (before + 1) recording)
      ∙ sym (ap (λ n. placed.placed_behind before (take n (acts ∷ recording))) more)
  | inr ge ↦
      let none : d - 1 - before ≡ 0 = omega arith in
      none_left d before (acts ∷ recording) ge ∙ sym (ap (λ n. placed.placed_behind before (take n (acts ∷ recording))) none)
]

-- those that stand before a datagram are those of the datagrams before it
pub until_kept : (until : Option ℕ) (keeps : placed.PlacedValue → Bool) (recording : List (List values.ActValue))
    → filter keeps (placed.placed_in (said.datagrams_until until recording)) ≡ filter (ears.is_until until) (filter keeps (placed.placed_in recording))
until_kept None keeps recording = sym (all_stay (filter keeps (placed.placed_in recording)))
until_kept (Some d) keeps recording =
    let same : d - 1 - 0 ≡ d - 1 = omega arith in
    let first = of_first d 0 recording ∙ ap (λ n. placed.placed_in (take n recording)) same in
    ap (filter keeps) (sym first) ∙ swapped keeps (ears.is_until (Some d)) (placed.placed_in recording)

-- ---- what an ear heard that leaves

-- of acts of the writer, a reader heard those that it is judged by
pub reader_told : (setting : together.Setting) (writer : Guid) (start leaving : LeavingEar Hearer) (acts : List placed.PlacedValue) → length acts < 2 ^ 64
    → acts ≡ filter (placed.is_from writer) (placed.placed_in setting.intake.acts) → together.IsReady setting writer start
    → (leaving.until ≡ start.until) × cases.HasHeard start.ear (filter (ears.is_until start.until) acts) leaving.ear → together.IsTold setting writer leaving
reader_told setting writer start leaving acts few are ready told =
    let brief = told.1.brief in
    let is = subst (together.IsBrief setting writer) (sym brief) ready.brief in
    let until : leaving.until ≡ leaving.ear.brief.exchange.span.until = told.0 ∙ ready.until ∙ sym (ap (λ (b : Brief). b.exchange.span.until) brief) in
    let le = not_more (ears.is_until start.until) acts in
    let here : filter (ears.is_until start.until) acts ≡ together.acts_of leaving.ear.brief =
    ap (filter (ears.is_until start.until)) are
    ∙ ap (λ u. filter (ears.is_until u) (filter (placed.is_from writer) (placed.placed_in setting.intake.acts))) (sym told.0 ∙ until)
    ∙ sym is.sent in
    record {
      until = until;
      brief = is;
      heard = subst (λ l. heard.IsHeard leaving.ear.brief.exchange l leaving.ear.heard) here
          (heard_all start.ear leaving.ear (filter (ears.is_until start.until) acts) told.1 (omega arith) ready.heard);
    }

-- so did a case again
pub case_told : (setting : together.Setting) (writer : Guid) (start leaving : LeavingEar Case) (acts : List placed.PlacedValue)
    → acts ≡ filter (placed.is_from writer) (placed.placed_in setting.intake.acts) → together.IsOpened setting writer start
    → (leaving.until ≡ start.until) × cases.HasHeardAgain start.ear (filter (ears.is_until start.until) acts) leaving.ear → together.IsClosed setting leaving
case_told setting writer start leaving acts are opened told =
    let brief = told.1.brief in
    let is = subst (together.IsBrief setting writer) (sym brief) opened.brief in
    let here : filter (ears.is_until start.until) acts ≡ together.acts_of leaving.ear.brief =
    ap (filter (ears.is_until start.until)) are
    ∙ ap (λ u. filter (ears.is_until u) (filter (placed.is_from writer) (placed.placed_in setting.intake.acts))) (opened.until ∙ sym (ap (λ (b : Brief). b.exchange.span.until) brief))
    ∙ sym is.sent in
    record {
      writer = writer;
      brief = is;
      case = subst (λ l. cases.IsCase l leaving.ear) here (heard_again start.ear leaving.ear (filter (ears.is_until start.until) acts) told.1 opened.case);
    }

-- two briefs of the same parts
pub same_brief : (one other : Brief) → one.exchange ≡ other.exchange → one.verdict ≡ other.verdict → one ≡ other
same_brief one other exchange verdict =
    let by : Exchange → Brief = λ e. record { exchange = e; verdict = one.verdict } in
    let of : Verdict → Brief = λ v. record { exchange = other.exchange; verdict = v } in
    ap by exchange ∙ ap of verdict

-- the docket of a judgement
pub docket_is : (setting : together.Setting) (docket : Docket) (judgement : Judgement) (pair : Pair) → docket.judgement ≡ judgement → judgement.pair ≡ pair → judgement.in_spans ≡ setting.spans
    → spans.IsExtent setting.spans setting.from pair setting.intake judgement.span → (judgement.is_plain ≡ true → together.is_plain setting pair.reader) → IfSome judgement.known (evidence.IsVerdictIn judgement.span pair setting.intake.acts)
    → other_side.AreThere setting.intake.acts setting.beside.other judgement.pair docket.arrivals.way docket.arrivals.is_held docket.arrivals.numbers.items → together.IsDocket setting docket
docket_is setting docket judgement pair same of_pair in_spans extent plain known there =
    subst (λ (j : Judgement). together.IsDocket setting (record { judgement = j; arrivals = docket.arrivals })) (sym same) (record {
      in_spans = in_spans;
      extent = subst (λ (p : Pair). spans.IsExtent setting.spans setting.from p setting.intake judgement.span) (sym of_pair) extent;
      plain = λ yes. subst (λ (p : Pair). together.is_plain setting p.reader) (sym of_pair) (plain yes);
      known = subst (λ (p : Pair). IfSome judgement.known (evidence.IsVerdictIn judgement.span p setting.intake.acts)) (sym of_pair) known;
      there = there;
    })

-- none behind others
pub none_behind : {X Y : Type 0} (f : X → Y) (before : List Y) (xs : List X) → (length xs == 0) ≡ true → before ≡ before ++ map f xs
none_behind f before [] is = sym (append-nil before)
none_behind f before (x ∷ xs) is = absurd (let zero : length (x ∷ xs) ≡ 0 = grind (arith, nat_tests) in omega arith)

-- no rows are those of no pairs
pub no_rows : (setting : together.Setting) (found : ExplainedRows) (directory : directory_spec.DirectoryValue) → directory_spec.IsMapOf (intake_spec.acts_together setting.intake.announcing) directory → found.rows.items ≡ [] → found.lost.items ≡ []
    → together.AreRows setting [] found
no_rows setting found directory is_map rows lost =
    subst (λ l. explanation.AreExplained setting.spans setting.from setting.beside setting.intake [] l (map kinds.lost_value found.lost.items)) (sym rows)
    (subst (λ l. explanation.AreExplained setting.spans setting.from setting.beside setting.intake [] [] (map kinds.lost_value l)) (sym lost) (record {
      of_pairs = refl;
      places = refl;
      losses = tt;
      directory = directory;
      is_map = is_map;
      named = All-nil (explanation.IsNamed directory.endpoints);
      shown = All-nil (λ (row : Explanation). evidence.IsEvidenceBy setting.spans setting.from setting.beside row.pair setting.intake row.evidence);
    }))

-- a list that is written as a whole
pub whole_back : {X : Type 0} (n : ℕ) (new old : List X) → length new ≡ length old → n ≡ length old → take n (new ++ drop (length new) old) ≡ new
whole_back n new old same is = take-append-le n new (drop (length new) old) (omega arith) ∙ take_all n new (omega arith)
