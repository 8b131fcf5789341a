-- From which number on a writer owes to a newcomer, with one act more.
use Rattle.std.proofs.lemmas.Bool.Decides.{nat_tests}
use Rattle.std.proofs.Common.{◌≡◌, ◌∙◌, ℕ, ◌<◌, ◌≤◌, ◌^◌, ◌||◌, Bool, true, false, nat_lt, cond, max, min, filter, List, [], ◌∷◌, ◌++◌, Option, Some, None, refl, sym, ap, subst, arith}
use Rattle.std.specs.Prelude.{IfSome, is_some, unwrap_or}
use Rattle.std.specs.List.{before_first, list_any}
use Rattle.rtps_discovery.specs.declared.matching.Pair.{Pair}
use Rattle.rtps_audit.specs.Intake as intake_spec
use Rattle.rtps_audit.specs.Placed as placed
use Rattle.rtps_evidence.specs.Missed as missed
use Rattle.rtps_evidence.specs.Newcomers as newcomers
use Rattle.rtps_evidence.specs.Spans as spans
use Rattle.rtps_evidence.specs.declared.listener.Listener.{Listener}
use Rattle.rtps_evidence.specs.declared.location.Location.{Location}
use Rattle.rtps_evidence.specs.declared.newcomer.GoneFirst.{GoneFirst}
use Rattle.rtps_evidence.specs.declared.newcomer.Newcomer.{Newcomer}
use Rattle.rtps_evidence.specs.declared.newcomer.Owing.{Owing}
use Rattle.rtps_evidence.specs.declared.span.Span.{Span}
use Rattle.rtps_evidence.specs.declared.span.Spanning.{Spanning}
use Rattle.rtps_evidence.proofs.FindLemmas.{any_one_more, greatest_more}
use Rattle.rtps_evidence.proofs.SpanLemmas.{before_first_all, before_first_at, end_max, end_same, first_past, first_stops, for_reader, least_either, least_same, owed_here}

-- ---- what is told gone first

-- what stands before the first that passes, where one of these does
before_first_once : (test : placed.PlacedValue → Bool) (xs ys : List placed.PlacedValue) → list_any test xs ≡ true → before_first test (xs ++ ys) ≡ before_first test xs
before_first_once test [] ys has = absurd (let no : false ≡ true = has in cc)
before_first_once test (x ∷ xs) ys has = by (test x) refl (λ out. before_first_once test xs ys (rest (test x) (list_any test xs) out has))
  where
    rest : (a b : Bool) → a ≡ false → (a || b) ≡ true → b ≡ true
    rest a b out h = grind (arith, nat_tests)

    by : (b : Bool) → test x ≡ b → (test x ≡ false → before_first test (xs ++ ys) ≡ before_first test xs) → before_first test (x ∷ (xs ++ ys)) ≡ before_first test (x ∷ xs)
    by true stops onward = first_stops test x (xs ++ ys) stops ∙ sym (first_stops test x xs stops)
    by false out onward = first_past test x (xs ++ ys) out ∙ ap (λ l. x ∷ l) (onward out) ∙ sym (first_past test x xs out)

pub gone_still : (listener : Listener) (acts : List placed.PlacedValue) (x : placed.PlacedValue) (gone : GoneFirst) → gone.is_sent ≡ true → newcomers.AreGone listener acts gone → newcomers.AreGone listener (acts ++ x ∷ []) gone
gone_still listener acts x gone sent are =
    let test : placed.PlacedValue → Bool = missed.brings_some listener.since listener.pair.writer listener.pair.reader in
    let gaps : ℕ → placed.PlacedValue → Bool = spans.gaps_behind listener.since listener.pair.writer listener.pair.reader in
    let some : list_any test acts ≡ true = sym are.sent ∙ sent in
    record {
      end = end_same (newcomers.is_gone listener (acts ++ x ∷ [])) (newcomers.is_gone listener acts) gone.end (λ n. ap (list_any (gaps n)) (before_first_once test acts (x ∷ []) some)) are.end;
      sent = sent ∙ sym (any_one_more test acts x ∙ ap (λ b. b || test x) some);
    }

pub gone_stops : (listener : Listener) (acts : List placed.PlacedValue) (x : placed.PlacedValue) (old new : GoneFirst) → old.is_sent ≡ false → missed.brings_some listener.since listener.pair.writer listener.pair.reader x ≡ true
    → new.is_sent ≡ true → new.end ≡ old.end → newcomers.AreGone listener acts old → newcomers.AreGone listener (acts ++ x ∷ []) new
gone_stops listener acts x old new unsent brings sent end are =
    let test : placed.PlacedValue → Bool = missed.brings_some listener.since listener.pair.writer listener.pair.reader in
    let gaps : ℕ → placed.PlacedValue → Bool = spans.gaps_behind listener.since listener.pair.writer listener.pair.reader in
    let none : list_any test acts ≡ false = sym are.sent ∙ unsent in
    record {
      end = subst (spans.IsEndOf (newcomers.is_gone listener (acts ++ x ∷ []))) (sym end)
          (end_same (newcomers.is_gone listener (acts ++ x ∷ [])) (newcomers.is_gone listener acts) old.end (λ n. ap (list_any (gaps n)) (before_first_at test acts x [] none brings ∙ sym (before_first_all test acts none))) are.end);
      sent = sent ∙ sym (any_one_more test acts x ∙ ap (λ b. b || test x) none ∙ brings);
    }

pub gone_more : (listener : Listener) (acts : List placed.PlacedValue) (x : placed.PlacedValue) (old new : GoneFirst) (gap : ℕ) → old.is_sent ≡ false → missed.brings_some listener.since listener.pair.writer listener.pair.reader x ≡ false
    → new.is_sent ≡ false → new.end ≡ max old.end gap → spans.IsEndOf (λ n. spans.gaps_behind listener.since listener.pair.writer listener.pair.reader n x) gap → newcomers.AreGone listener acts old → newcomers.AreGone listener (acts ++ x ∷ []) new
gone_more listener acts x old new gap unsent brings sent end gaps_end are =
    let test : placed.PlacedValue → Bool = missed.brings_some listener.since listener.pair.writer listener.pair.reader in
    let gaps : ℕ → placed.PlacedValue → Bool = spans.gaps_behind listener.since listener.pair.writer listener.pair.reader in
    let none : list_any test acts ≡ false = sym are.sent ∙ unsent in
    let none_more : list_any test (acts ++ x ∷ []) ≡ false = any_one_more test acts x ∙ ap (λ b. b || test x) none ∙ brings in
    let so_far : spans.IsEndOf (λ n. list_any (gaps n) acts) old.end = end_same (λ n. list_any (gaps n) acts) (newcomers.is_gone listener acts) old.end (λ n. ap (list_any (gaps n)) (sym (before_first_all test acts none))) are.end in
    let grown : spans.IsEndOf (λ n. list_any (gaps n) acts || gaps n x) (max old.end gap) = end_max (λ n. list_any (gaps n) acts) (λ n. gaps n x) old.end gap so_far gaps_end in
    record {
      end = subst (spans.IsEndOf (newcomers.is_gone listener (acts ++ x ∷ []))) (sym end)
          (end_same (newcomers.is_gone listener (acts ++ x ∷ [])) (λ n. list_any (gaps n) acts || gaps n x) (max old.end gap) (λ n. ap (list_any (gaps n)) (before_first_all test (acts ++ x ∷ []) none_more) ∙ any_one_more (gaps n) acts x) grown);
      sent = sent ∙ sym none_more;
    }

-- ---- the least number that is brought

-- it is the least from a higher number on, unless it is below that
least_later : (has : ℕ → Bool) (lo hi : ℕ) (o : Option ℕ) → lo ≤ hi → spans.is_below hi o ≡ false → spans.IsLeastFrom has lo o → spans.IsLeastFrom has hi o
least_later has lo hi None le past is = λ n high. is n (omega arith)
least_later has lo hi (Some number) le past is = (above number hi past, is.1, λ n high low. is.2 n (omega arith) low)
  where
    above : (a b : ℕ) → nat_lt a b ≡ false → b ≤ a
    above a b h = grind (arith, nat_tests)

owed_rises : (from : ℕ) (volatile : Bool) (a b c d : ℕ) → a ≤ b → c ≤ d → spans.least_owed from volatile a c ≤ spans.least_owed from volatile b d
owed_rises from true a b c d le le2 = omega arith
owed_rises from false a b c d le le2 = omega arith

pub owing_more : (newcomer : Newcomer) (acts : List placed.PlacedValue) (x : placed.PlacedValue) (old new : Owing) (listener : Listener) (brought : Option ℕ) → listener ≡ newcomers.listener_of newcomer → newcomers.IsOwing newcomer acts old
    → new.announced ≡ max old.announced (spans.number_before newcomer.place newcomer.pair.writer x) → (newcomers.AreGone listener acts old.gone → newcomers.AreGone listener (acts ++ x ∷ []) new.gone) → old.gone.end ≤ new.gone.end
    → spans.IsLeastFrom (λ n. missed.brings_behind listener.since listener.pair.writer listener.pair.reader n x) (newcomers.owed_to newcomer new) brought
    → new.is_late ≡ (old.is_late || spans.is_below (newcomers.owed_to newcomer new) old.least) → new.least ≡ spans.lesser_of old.least brought → newcomers.IsOwing newcomer (acts ++ x ∷ []) new
owing_more newcomer acts x old new listener brought same are announced gone rises least_is late least =
    let whose : Listener = newcomers.listener_of newcomer in
    let test : ℕ → placed.PlacedValue → Bool = missed.brings_behind whose.since whose.pair.writer whose.pair.reader in
    let owed : ℕ = newcomers.owed_to newcomer new in
    let higher : newcomers.owed_to newcomer old ≤ owed = owed_rises newcomer.from newcomer.is_volatile old.announced new.announced old.gone.end new.gone.end (omega arith) rises in
    let least_here : spans.IsLeastFrom (λ n. test n x) owed brought = subst (λ (l : Listener). spans.IsLeastFrom (λ n. missed.brings_behind l.since l.pair.writer l.pair.reader n x) owed brought) same least_is in
    record {
      announced = announced ∙ ap (λ a. max a (spans.number_before newcomer.place newcomer.pair.writer x)) are.announced ∙ sym (greatest_more (spans.number_before newcomer.place newcomer.pair.writer) acts x);
      gone = subst (λ l. newcomers.AreGone l (acts ++ x ∷ []) new.gone) same (gone (subst (λ l. newcomers.AreGone l acts old.gone) (sym same) are.gone));
      least = λ timely.
          let both = sym late ∙ timely in
          let so_far : spans.IsLeastFrom (newcomers.is_brought whose acts) owed old.least =
          least_later (newcomers.is_brought whose acts) (newcomers.owed_to newcomer old) owed old.least higher (right old.is_late (spans.is_below owed old.least) both) (are.least (left old.is_late (spans.is_below owed old.least) both)) in
          subst (spans.IsLeastFrom (newcomers.is_brought whose (acts ++ x ∷ [])) owed) (sym least)
          (least_same (newcomers.is_brought whose (acts ++ x ∷ [])) (λ n. newcomers.is_brought whose acts n || test n x) owed (spans.lesser_of old.least brought) (λ n. any_one_more (test n) acts x)
          (least_either (newcomers.is_brought whose acts) (λ n. test n x) owed old.least brought so_far least_here));
    }
  where
    left : (a b : Bool) → (a || b) ≡ false → a ≡ false
    left a b h = grind (arith, nat_tests)

    right : (a b : Bool) → (a || b) ≡ false → b ≡ false
    right a b h = grind (arith, nat_tests)

-- ---- the number that a row begins with

pub first_owed_by : (newcomer : Newcomer) (owing : Owing) (all own : List placed.PlacedValue) (owed : ℕ) (brought asked found : Option ℕ) (number : ℕ) → own ≡ filter (placed.is_from newcomer.pair.writer) all
    → (newcomers.IsOwing newcomer own owing → spans.IsLeastFrom (newcomers.is_brought (newcomers.listener_of newcomer) own) (newcomers.owed_to newcomer owing) brought)
    → spans.IsLeastFrom (λ n. list_any (missed.asks_for newcomer.pair.writer newcomer.pair.reader n) (filter (placed.is_from newcomer.pair.reader) all)) owed asked
    → owed ≡ newcomers.owed_to newcomer owing → found ≡ spans.lesser_of brought asked → number ≡ unwrap_or found owed → newcomers.IsOwing newcomer (filter (placed.is_from newcomer.pair.writer) all) owing
    → spans.IsFirstOwed (newcomers.owed_to newcomer owing) newcomer.place newcomer.pair all number
first_owed_by newcomer owing all own owed brought asked found number are brings asks is_owed is_found is owes =
    let brought_is : spans.IsLeastFrom (newcomers.is_brought (newcomers.listener_of newcomer) (filter (placed.is_from newcomer.pair.writer) all)) (newcomers.owed_to newcomer owing) brought =
    subst (λ (l : List placed.PlacedValue). spans.IsLeastFrom (newcomers.is_brought (newcomers.listener_of newcomer) l) (newcomers.owed_to newcomer owing) brought) are (brings (subst (λ (l : List placed.PlacedValue). newcomers.IsOwing newcomer l owing) (sym are) owes)) in
    let asked_is : spans.IsLeastFrom (λ n. list_any (missed.asks_for newcomer.pair.writer newcomer.pair.reader n) (filter (placed.is_from newcomer.pair.reader) all)) (newcomers.owed_to newcomer owing) asked =
    subst (λ (lo : ℕ). spans.IsLeastFrom (λ n. list_any (missed.asks_for newcomer.pair.writer newcomer.pair.reader n) (filter (placed.is_from newcomer.pair.reader) all)) lo asked) is_owed asks in
    record {
      least = found;
      is_least = for_reader newcomer.pair newcomer.place all (newcomers.owed_to newcomer owing) brought asked found brought_is asked_is is_found;
      is = is ∙ ap (λ (n : ℕ). unwrap_or found n) is_owed;
    }

pub first_in : (newcomer : Newcomer) (owing : Owing) (intake : intake_spec.Intake) (number first : ℕ) → number ≡ first → spans.IsVolatileIn intake newcomer.pair.reader newcomer.is_volatile
    → newcomers.IsOwing newcomer (filter (placed.is_from newcomer.pair.writer) (placed.placed_in intake.acts)) owing
    → spans.IsFirstOwed (newcomers.owed_to newcomer owing) newcomer.place newcomer.pair (placed.placed_in intake.acts) first → spans.IsFirstIn newcomer.from newcomer.place newcomer.pair intake number
first_in newcomer owing intake number first same is_volatile owes is_first = record {
  owed = newcomers.owed_to newcomer owing;
  is_owed = owed_here newcomer.from newcomer.place newcomer.pair intake (filter (placed.is_from newcomer.pair.writer) (placed.placed_in intake.acts)) newcomer.is_volatile owing.announced owing.gone.end (newcomers.owed_to newcomer owing) refl is_volatile owes.announced owes.gone.end refl;
  is_first = subst (spans.IsFirstOwed (newcomers.owed_to newcomer owing) newcomer.place newcomer.pair (placed.placed_in intake.acts)) (sym same) is_first;
}

-- ---- the span, as far as the acts of the writer have come

pub owed_at_first : (owing : Owing) (o : Option Newcomer) → ((newcomer : Newcomer) → newcomers.IsOwing newcomer [] owing) → newcomers.IsOwed [] owing o
owed_at_first owing None none = tt
owed_at_first owing (Some newcomer) none = none newcomer

-- a reader that joins here is a newcomer
pub newcomer_here : (from : ℕ) (pair : Pair) (intake : intake_spec.Intake) (whole : Span) (place : Location) (volatile : Bool) → spans.IsWhole from pair intake whole → Some place ≡ spans.since_of whole → spans.IsVolatileIn intake pair.reader volatile
    → newcomers.IsJoinedAs from whole.joined pair intake whole.is_joined_here (Some (record { pair = pair; place = place; from = whole.from; is_volatile = volatile }))
newcomer_here from pair intake whole place volatile is since is_volatile =
    (parts whole.is_joined_here whole.joined (since), record { pair_is = refl; from_is = is.first; is_volatile = is_volatile })
  where
    parts : (here : Bool) (joined : Option Location) → Some place ≡ cond here joined None → (here ≡ true) × (joined ≡ Some place)
    parts true joined at = (refl, sym at)
    parts false joined at = absurd (cc)

-- another one is none
pub no_newcomer : (from : ℕ) (pair : Pair) (intake : intake_spec.Intake) (whole : Span) → spans.IsWhole from pair intake whole → None ≡ spans.since_of whole → newcomers.IsJoinedAs from whole.joined pair intake whole.is_joined_here None
no_newcomer from pair intake whole is since = by whole.is_joined_here whole.joined refl refl since
  where
    by : (here : Bool) (joined : Option Location) → whole.is_joined_here ≡ here → whole.joined ≡ joined → None ≡ cond here joined None → here ≡ false
    by false joined at place none = refl
    by true None at place none = sym at ∙ is.here ∙ ap (λ (o : Option Location). spans.is_joined_here o pair (placed.placed_in intake.acts)) place
    by true (Some location) at place none = absurd (cc)

pub positive_lesser : (brought asked : Option ℕ) (lo number : ℕ) → Some number ≡ spans.lesser_of brought asked → IfSome brought (λ n. (1 ≤ n) × (n < 2 ^ 63)) → 1 ≤ lo → IfSome asked (λ n. lo ≤ n) → 1 ≤ number
positive_lesser (Some one) (Some other) lo number is (low, high) positive least = let same : number ≡ min one other = (let e : Some number ≡ Some (min one other) = is in cc) in omega arith
positive_lesser (Some one) None lo number is (low, high) positive least = let same : number ≡ one = (let e : Some number ≡ Some one = is in cc) in omega arith
positive_lesser None (Some other) lo number is low positive least = let same : number ≡ other = (let e : Some number ≡ Some other = is in cc) in omega arith
positive_lesser None None lo number is low positive least = absurd (let no : Some number ≡ None = is in cc)

-- where there is no newcomer, the span is settled
pub span_elsewhere : (from : ℕ) (pair : Pair) (intake : intake_spec.Intake) (acts : List placed.PlacedValue) (spanning : Spanning) → spanning.newcomer ≡ None → newcomers.IsSpanning from pair intake acts spanning → spans.IsSpan from pair intake spanning.span
span_elsewhere from pair intake acts spanning none is =
    let away : spanning.span.is_joined_here ≡ false = subst (newcomers.IsJoinedAs from spanning.span.joined pair intake spanning.span.is_joined_here) none is.newcomer in
    record {
      joined = is.joined;
      here = is.here;
      first = record { elsewhere = λ out. is.first; here = λ place joined here. absurd (let no : true ≡ false = sym here ∙ sym is.here ∙ away in cc) };
      until = is.until;
    }

-- where there is one, it lacks the number that it begins with
pub span_here : (from : ℕ) (pair : Pair) (intake : intake_spec.Intake) (spanning : Spanning) (newcomer : Newcomer) (span : Span) → spanning.newcomer ≡ Some newcomer
    → newcomers.IsSpanning from pair intake (filter (placed.is_from pair.writer) (placed.placed_in intake.acts)) spanning → span.joined ≡ spanning.span.joined → span.is_joined_here ≡ spanning.span.is_joined_here → span.until ≡ spanning.span.until
    → (spans.IsVolatileIn intake newcomer.pair.reader newcomer.is_volatile → newcomers.IsOwing newcomer (filter (placed.is_from newcomer.pair.writer) (placed.placed_in intake.acts)) spanning.owing → spans.IsFirstIn newcomer.from newcomer.place newcomer.pair intake span.from)
    → spans.IsSpan from pair intake span
span_here from pair intake spanning newcomer span some is joined here until first =
    let here_as = subst (newcomers.IsJoinedAs from spanning.span.joined pair intake spanning.span.is_joined_here) some is.newcomer in
    let who : newcomers.IsNewcomer from pair intake newcomer = here_as.1 in
    let owes : newcomers.IsOwing newcomer (filter (placed.is_from pair.writer) (placed.placed_in intake.acts)) spanning.owing = subst (newcomers.IsOwed (filter (placed.is_from pair.writer) (placed.placed_in intake.acts)) spanning.owing) some is.owed in
    let begins : spans.IsFirstIn newcomer.from newcomer.place newcomer.pair intake span.from =
    first (subst (λ (p : Pair). spans.IsVolatileIn intake p.reader newcomer.is_volatile) (sym who.pair_is) who.is_volatile) (subst (λ (p : Pair). newcomers.IsOwing newcomer (filter (placed.is_from p.writer) (placed.placed_in intake.acts)) spanning.owing) (sym who.pair_is) owes) in
    let begins_so : spans.IsFirstIn from newcomer.place pair intake span.from =
    subst (λ (p : Pair). spans.IsFirstIn from newcomer.place p intake span.from) who.pair_is (subst (λ (n : ℕ). spans.IsFirstIn n newcomer.place newcomer.pair intake span.from) who.from_is begins) in
    let joined_is : span.joined ≡ Some newcomer.place = joined ∙ here_as.0.1 in
    let here_is : span.is_joined_here ≡ spans.is_joined_here span.joined pair (placed.placed_in intake.acts) = here ∙ is.here ∙ ap (λ (o : Option Location). spans.is_joined_here o pair (placed.placed_in intake.acts)) (sym joined) in
    record {
      joined = joined ∙ is.joined;
      here = here_is;
      first = record {
        elsewhere = λ out. absurd (let no : true ≡ false = sym here_as.0.0 ∙ sym here ∙ here_is ∙ out in cc);
        here = λ place at in_here. subst (λ (l : Location). spans.IsFirstIn from l pair intake span.from) (let same : Some newcomer.place ≡ Some place = sym joined_is ∙ at in cc) begins_so;
      };
      until = until ∙ is.until ∙ ap (λ (o : Option Location). spans.left_in o pair.reader (placed.placed_in intake.acts)) (sym joined);
    }

pub spanning_still : (from : ℕ) (pair : Pair) (intake : intake_spec.Intake) (acts more : List placed.PlacedValue) (spanning : Spanning) → spanning.newcomer ≡ None → newcomers.IsSpanning from pair intake acts spanning → newcomers.IsSpanning from pair intake more spanning
spanning_still from pair intake acts more spanning none is = record {
  joined = is.joined;
  here = is.here;
  first = is.first;
  until = is.until;
  newcomer = is.newcomer;
  owed = subst (newcomers.IsOwed more spanning.owing) (sym none) tt;
}

pub spanning_more : (from : ℕ) (pair : Pair) (intake : intake_spec.Intake) (acts more : List placed.PlacedValue) (old : Spanning) (newcomer : Newcomer) (owing : Owing) → old.newcomer ≡ Some newcomer
    → (newcomers.IsOwing newcomer acts old.owing → newcomers.IsOwing newcomer more owing) → newcomers.IsSpanning from pair intake acts old → newcomers.IsSpanning from pair intake more (record { span = old.span; newcomer = old.newcomer; owing = owing })
spanning_more from pair intake acts more old newcomer owing some step is = record {
  joined = is.joined;
  here = is.here;
  first = is.first;
  until = is.until;
  newcomer = is.newcomer;
  owed = subst (newcomers.IsOwed more owing) (sym some) (step (subst (newcomers.IsOwed acts old.owing) some is.owed));
}

pub none_there : (o : Option Newcomer) → is_some o ≡ false → o ≡ None
none_there None out = refl
none_there (Some newcomer) out = absurd (let no : true ≡ false = out in cc)

-- the least number from one on is no smaller
pub at_least : (has : ℕ → Bool) (lo : ℕ) (o : Option ℕ) → spans.IsLeastFrom has lo o → IfSome o (λ n. lo ≤ n)
at_least has lo None least = tt
at_least has lo (Some number) least = least.0
