-- Where numbers are sent first, one act more at a time.
use Rattle.std.proofs.lemmas.Bool.Decides.{nat_tests}
use Rattle.std.proofs.Common.{◌≡◌, ◌∙◌, ◌⊎◌, ℕ, zero, suc, ◌+◌, ◌<◌, ◌==◌, ◌&&◌, ◌||◌, nat_le, nat_lt, Bool, true, false, cond, List, [], ◌∷◌, ◌++◌, filter, get_or, length, map, take, Option, Some, None, refl, sym, ap, subst, inl, inr, arith, rules}
use Rattle.std.specs.Prelude.{is_some}
use Rattle.std.specs.List.{find}
use Rattle.std.specs.Option.{option_map, option_or}
use Rattle.std.specs.BTreeMap.{get}
use Rattle.std.specs.Ordering.{is_eq, nat_cmp}
use Rattle.std.proofs.lemmas.List.{map-append, take_more}
use Rattle.std.proofs.lemmas.List.Folds.{find-append}
use Rattle.rtps_coverage.specs.Stretches as stretches
use Rattle.rtps_coverage.specs.declared.stretch.Stretch.{Stretch}
use Rattle.rtps_discovery.specs.declared.matching.Pair.{Pair}
use Rattle.rtps_ids.specs.declared.identity.Guid.{Guid}
use Rattle.rtps_audit.specs.Placed as placed_spec
use Rattle.rtps_evidence.specs.KindRuns as kind_runs
use Rattle.rtps_evidence.specs.Kinds as kinds
use Rattle.rtps_evidence.specs.Locations as locations
use Rattle.rtps_evidence.specs.Missed as missed
use Rattle.rtps_evidence.specs.Runs as runs_spec
use Rattle.rtps_evidence.specs.Waits as waits
use Rattle.rtps_evidence.specs.declared.kinds.NumberRange.{NumberRange}
use Rattle.rtps_evidence.specs.declared.location.Location.{Location}
use Rattle.rtps_evidence.specs.declared.sendings.Sendings.{Sendings}
use Rattle.rtps_evidence.specs.declared.sendings.SentSpan.{SentSpan}
use Rattle.rtps_evidence.proofs.FindLemmas.{find_filter}
use Rattle.rtps_evidence.proofs.RequestLemmas.{is_key}

-- ---- places in their order

not_itself : (place : Location) → waits.precedes place place ≡ false
not_itself place = grind (arith, nat_tests)

-- what is not before one is not before what is before that
not_earlier : (p place first : Location) → waits.precedes p first ≡ false → waits.precedes place first ≡ true → waits.precedes p place ≡ false
not_earlier p place first h h2 = grind (arith, nat_tests)

-- what is not behind one is not behind what is behind that
not_later : (p place last : Location) → waits.precedes last p ≡ false → waits.precedes last place ≡ true → waits.precedes place p ≡ false
not_later p place last h h2 = grind (arith, nat_tests)

-- of two places, one is before the other, or they are the same
one_place : (one other : Location) → waits.precedes one other ≡ false → waits.precedes other one ≡ false → one ≡ other
one_place one other h h2 = grind (arith, nat_tests)

-- ---- the same numbers, sent at the same places

sent_kept : (has : ℕ → Bool) (sent other : ℕ → Option Location) → ((n : ℕ) → has n ≡ true → other n ≡ sent n) → (place : Location) → kinds.IsSentAt has sent place → kinds.IsSentAt has other place
sent_kept has sent other same place at = record { number = at.number; has_it = at.has_it; there = same at.number at.has_it ∙ at.there }

span_kept : (has : ℕ → Bool) (sent other : ℕ → Option Location) → ((n : ℕ) → has n ≡ true → other n ≡ sent n) → (span : Option SentSpan) → kinds.IsSentIn has sent span → kinds.IsSentIn has other span
span_kept has sent other same None are = λ n is. same n is ∙ are n is
span_kept has sent other same (Some span) are = record {
  first = sent_kept has sent other same span.first are.first;
  last = sent_kept has sent other same span.last are.last;
  least = λ place at. are.least place (sent_kept has other sent (λ n is. sym (same n is)) place at);
  greatest = λ place at. are.greatest place (sent_kept has other sent (λ n is. sym (same n is)) place at);
}

-- where no act more sends a number of them that was not sent
pub sendings_kept : (has : ℕ → Bool) (sent other : ℕ → Option Location) (sendings : Sendings) → ((n : ℕ) → has n ≡ true → other n ≡ sent n) → runs_spec.AreSendings has sent sendings → runs_spec.AreSendings has other sendings
sendings_kept has sent other sendings same are = record {
  places = λ n. are.places n ∙ alike n (has n) refl;
  span = span_kept has sent other same sendings.span are.span;
}
  where
    alike : (n : ℕ) (b : Bool) → has n ≡ b → cond b (sent n) None ≡ cond b (other n) None
    alike n true is = sym (same n is)
    alike n false is = refl

-- where other words tell the same numbers
pub span_of : (has other : ℕ → Bool) (sent : ℕ → Option Location) → ((n : ℕ) → has n ≡ other n) → (span : Option SentSpan) → kinds.IsSentIn has sent span → kinds.IsSentIn other sent span
span_of has other sent same None are = λ n is. are n (same n ∙ is)
span_of has other sent same (Some span) are = record {
  first = record { number = are.first.number; has_it = sym (same are.first.number) ∙ are.first.has_it; there = are.first.there };
  last = record { number = are.last.number; has_it = sym (same are.last.number) ∙ are.last.has_it; there = are.last.there };
  least = λ place at. are.least place (record { number = at.number; has_it = same at.number ∙ at.has_it; there = at.there });
  greatest = λ place at. are.greatest place (record { number = at.number; has_it = same at.number ∙ at.has_it; there = at.there });
}

pub sendings_of : (has other : ℕ → Bool) (sent : ℕ → Option Location) (sendings : Sendings) → ((n : ℕ) → has n ≡ other n) → runs_spec.AreSendings has sent sendings → runs_spec.AreSendings other sent sendings
sendings_of has other sent sendings same are = record {
  places = λ n. are.places n ∙ ap (λ b. cond b (sent n) None) (same n);
  span = span_of has other sent same sendings.span are.span;
}

-- ---- one number more is sent

pub record IsSentNow (has : ℕ → Bool) (sent other : ℕ → Option Location) (number : ℕ) (place : Location) : Type 0 where
  pub has_it : has number ≡ true
  pub not_before : sent number ≡ None
  pub here : (n : ℕ) → has n ≡ true → other n ≡ cond (number == n) (Some place) (sent n)

number_is : (number n : ℕ) → (number == n) ≡ true → number ≡ n
number_is number n is = grind (arith, nat_tests)

-- it is sent at its place
sent_here : (has : ℕ → Bool) (sent other : ℕ → Option Location) (number : ℕ) (place : Location) → IsSentNow has sent other number place → kinds.IsSentAt has other place
sent_here has sent other number place now =
    let yes : (number == number) ≡ true = grind (arith, nat_tests) in record {
      number = number;
      has_it = now.has_it;
      there = now.here number now.has_it ∙ ap (λ b. cond b (Some place) (sent number)) yes;
    }

-- the others are sent where they were
sent_still : (has : ℕ → Bool) (sent other : ℕ → Option Location) (number : ℕ) (place : Location) → IsSentNow has sent other number place → (p : Location) → kinds.IsSentAt has sent p → kinds.IsSentAt has other p
sent_still has sent other number place now p at = record {
  number = at.number;
  has_it = at.has_it;
  there = now.here at.number at.has_it ∙ by (number == at.number) refl;
}
  where
    by : (b : Bool) → (number == at.number) ≡ b → cond b (Some place) (sent at.number) ≡ Some p
    by true is = absurd (let no : None ≡ Some p = sym now.not_before ∙ ap sent (number_is number at.number is) ∙ at.there in cc)
    by false is = at.there

-- and there is no other place
sent_either : (has : ℕ → Bool) (sent other : ℕ → Option Location) (number : ℕ) (place : Location) → IsSentNow has sent other number place → (p : Location) → kinds.IsSentAt has other p → (p ≡ place) ⊎ kinds.IsSentAt has sent p
sent_either has sent other number place now p at = by (number == at.number) refl
  where
    by : (b : Bool) → (number == at.number) ≡ b → (p ≡ place) ⊎ kinds.IsSentAt has sent p
    by true is = inl (let same : Some p ≡ Some place = sym at.there ∙ now.here at.number at.has_it ∙ ap (λ b. cond b (Some place) (sent at.number)) is in cc)
    by false is = inr (record {
      number = at.number;
      has_it = at.has_it;
      there = sym (now.here at.number at.has_it ∙ ap (λ b. cond b (Some place) (sent at.number)) is) ∙ at.there;
    })

span_more : (has : ℕ → Bool) (sent other : ℕ → Option Location) (number : ℕ) (place : Location) → IsSentNow has sent other number place → (span : Option SentSpan) → kinds.IsSentIn has sent span → kinds.IsSentSpan has other (runs_spec.span_with span place)
span_more has sent other number place now None none = record {
  first = sent_here has sent other number place now;
  last = sent_here has sent other number place now;
  least = λ p at. ap (λ q. waits.precedes q place) (alone p (sent_either has sent other number place now p at)) ∙ not_itself place;
  greatest = λ p at. ap (λ q. waits.precedes place q) (alone p (sent_either has sent other number place now p at)) ∙ not_itself place;
}
  where
    alone : (p : Location) → (p ≡ place) ⊎ kinds.IsSentAt has sent p → p ≡ place
    alone p (inl same) = same
    alone p (inr before) = absurd (let no : None ≡ Some p = sym (none before.number before.has_it) ∙ before.there in cc)
span_more has sent other number place now (Some span) are = record {
  first = chosen span.first are.first (waits.precedes place span.first);
  last = chosen span.last are.last (waits.precedes span.last place);
  least = λ p at. least_more p (waits.precedes place span.first) refl (sent_either has sent other number place now p at);
  greatest = λ p at. greatest_more p (waits.precedes span.last place) refl (sent_either has sent other number place now p at);
}
  where
    chosen : (old : Location) → kinds.IsSentAt has sent old → (b : Bool) → kinds.IsSentAt has other (cond b place old)
    chosen old at true = sent_here has sent other number place now
    chosen old at false = sent_still has sent other number place now old at

    least_more : (p : Location) (b : Bool) → waits.precedes place span.first ≡ b → (p ≡ place) ⊎ kinds.IsSentAt has sent p → waits.precedes p (cond b place span.first) ≡ false
    least_more p true is (inl same) = ap (λ q. waits.precedes q place) same ∙ not_itself place
    least_more p false is (inl same) = ap (λ q. waits.precedes q span.first) same ∙ is
    least_more p true is (inr before) = not_earlier p place span.first (are.least p before) is
    least_more p false is (inr before) = are.least p before

    greatest_more : (p : Location) (b : Bool) → waits.precedes span.last place ≡ b → (p ≡ place) ⊎ kinds.IsSentAt has sent p → waits.precedes (cond b place span.last) p ≡ false
    greatest_more p true is (inl same) = ap (λ q. waits.precedes place q) same ∙ not_itself place
    greatest_more p false is (inl same) = ap (λ q. waits.precedes span.last q) same ∙ is
    greatest_more p true is (inr before) = not_later p place span.last (are.greatest p before) is
    greatest_more p false is (inr before) = are.greatest p before

pub sendings_more : (has : ℕ → Bool) (sent other : ℕ → Option Location) (number : ℕ) (place : Location) (old new : Sendings) → IsSentNow has sent other number place
    → ((n : ℕ) → get nat_cmp new.places n ≡ cond (is_eq (nat_cmp number n)) (Some place) (get nat_cmp old.places n)) → new.span ≡ Some (runs_spec.span_with old.span place) → runs_spec.AreSendings has sent old → runs_spec.AreSendings has other new
sendings_more has sent other number place old new now put spans are = record {
  places = λ n.
      put n ∙ ap (λ b. cond b (Some place) (get nat_cmp old.places n)) (is_key number n) ∙ ap (λ o. cond (number == n) (Some place) o) (are.places n) ∙ by n (has n) refl (number == n) refl;
  span = subst (kinds.IsSentIn has other) (sym spans) (span_more has sent other number place now old.span are.span);
}
  where
    by : (n : ℕ) (b : Bool) → has n ≡ b → (here : Bool) → (number == n) ≡ here → cond here (Some place) (cond b (sent n) None) ≡ cond b (other n) None
    by n true is here at = sym (now.here n is ∙ ap (λ h. cond h (Some place) (sent n)) at)
    by n false is true at = absurd (let no : true ≡ false = sym now.has_it ∙ ap has (number_is number n at) ∙ is in cc)
    by n false is false at = refl

-- ---- one act more

brought_more : (pair : Pair) (n : ℕ) (xs : List placed_spec.PlacedValue) (x : placed_spec.PlacedValue)
    → kinds.first_brought pair (xs ++ x ∷ []) n ≡ option_or (kinds.first_brought pair xs n) (cond (missed.brings pair.writer pair.reader n x) (Some (locations.location_of x)) None)
brought_more pair n xs x = ap (option_map locations.location_of) (find-append (missed.brings pair.writer pair.reader n) xs (x ∷ [])) ∙ by (find (missed.brings pair.writer pair.reader n) xs) (missed.brings pair.writer pair.reader n x)
  where
    by : (found : Option placed_spec.PlacedValue) (b : Bool) → option_map locations.location_of (option_or found (cond b (Some x) None)) ≡ option_or (option_map locations.location_of found) (cond b (Some (locations.location_of x)) None)
    by (Some place) b = refl
    by None true = refl
    by None false = refl

-- it does not bring the number
pub not_brought : (pair : Pair) (n : ℕ) (xs : List placed_spec.PlacedValue) (x : placed_spec.PlacedValue) → missed.brings pair.writer pair.reader n x ≡ false → kinds.first_brought pair (xs ++ x ∷ []) n ≡ kinds.first_brought pair xs n
not_brought pair n xs x is = brought_more pair n xs x ∙ ap (λ b. option_or (kinds.first_brought pair xs n) (cond b (Some (locations.location_of x)) None)) is ∙ same (kinds.first_brought pair xs n)
  where
    same : (sent : Option Location) → option_or sent None ≡ sent
    same (Some place) = refl
    same None = refl

-- the number was brought before
pub brought_before : (pair : Pair) (n : ℕ) (xs : List placed_spec.PlacedValue) (x : placed_spec.PlacedValue) → is_some (kinds.first_brought pair xs n) ≡ true → kinds.first_brought pair (xs ++ x ∷ []) n ≡ kinds.first_brought pair xs n
brought_before pair n xs x is = brought_more pair n xs x ∙ by (kinds.first_brought pair xs n) is
  where
    by : (sent : Option Location) → is_some sent ≡ true → option_or sent (cond (missed.brings pair.writer pair.reader n x) (Some (locations.location_of x)) None) ≡ sent
    by (Some place) there = refl
    by None there = absurd (let no : false ≡ true = there in cc)

-- it brings a number that is not looked for, or was brought before
pub brings_none : (has : ℕ → Bool) (pair : Pair) (number : ℕ) (xs : List placed_spec.PlacedValue) (x : placed_spec.PlacedValue) → ((n : ℕ) → missed.brings pair.writer pair.reader n x ≡ (number == n)) → has number ≡ false
    → (n : ℕ) → has n ≡ true → kinds.first_brought pair (xs ++ x ∷ []) n ≡ kinds.first_brought pair xs n
brings_none has pair number xs x brought out n is = not_brought pair n xs x (brought n ∙ by (number == n) refl)
  where
    by : (b : Bool) → (number == n) ≡ b → b ≡ false
    by true at = absurd (let no : false ≡ true = sym out ∙ ap has (number_is number n at) ∙ is in cc)
    by false at = refl

pub brings_again : (pair : Pair) (number : ℕ) (xs : List placed_spec.PlacedValue) (x : placed_spec.PlacedValue) → ((n : ℕ) → missed.brings pair.writer pair.reader n x ≡ (number == n)) → is_some (kinds.first_brought pair xs number) ≡ true
    → (n : ℕ) → kinds.first_brought pair (xs ++ x ∷ []) n ≡ kinds.first_brought pair xs n
brings_again pair number xs x brought before n = by (number == n) refl
  where
    by : (b : Bool) → (number == n) ≡ b → kinds.first_brought pair (xs ++ x ∷ []) n ≡ kinds.first_brought pair xs n
    by true at = brought_before pair n xs x (sym (ap (λ m. is_some (kinds.first_brought pair xs m)) (number_is number n at)) ∙ before)
    by false at = not_brought pair n xs x (brought n ∙ at)

-- it brings one for the first time
pub brings_first : (has : ℕ → Bool) (pair : Pair) (number : ℕ) (xs : List placed_spec.PlacedValue) (x : placed_spec.PlacedValue) → ((n : ℕ) → missed.brings pair.writer pair.reader n x ≡ (number == n)) → has number ≡ true → kinds.first_brought pair xs number ≡ None
    → IsSentNow has (kinds.first_brought pair xs) (kinds.first_brought pair (xs ++ x ∷ [])) number (locations.location_of x)
brings_first has pair number xs x brought is none = record {
  has_it = is;
  not_before = none;
  here = λ n has_it. by n (number == n) refl;
}
  where
    by : (n : ℕ) (b : Bool) → (number == n) ≡ b → kinds.first_brought pair (xs ++ x ∷ []) n ≡ cond b (Some (locations.location_of x)) (kinds.first_brought pair xs n)
    by n true at =
        brought_more pair n xs x ∙ ap (λ sent. option_or sent (cond (missed.brings pair.writer pair.reader n x) (Some (locations.location_of x)) None)) (sym (ap (kinds.first_brought pair xs) (number_is number n at)) ∙ none)
        ∙ ap (λ b. cond b (Some (locations.location_of x)) None) (brought n ∙ at)
    by n false at = not_brought pair n xs x (brought n ∙ at)

-- what is there of a number that is looked for is where it is sent first
pub known_place : (has : ℕ → Bool) (sent : ℕ → Option Location) (sendings : Sendings) (n : ℕ) → runs_spec.AreSendings has sent sendings → has n ≡ true → get nat_cmp sendings.places n ≡ sent n
known_place has sent sendings n are is = are.places n ∙ ap (λ b. cond b (sent n) None) is

pub sent_already : (has : ℕ → Bool) (sent : ℕ → Option Location) (sendings : Sendings) (n : ℕ) → runs_spec.AreSendings has sent sendings → is_some (get nat_cmp sendings.places n) ≡ true → is_some (sent n) ≡ true
sent_already has sent sendings n are there = by (has n) (sym (ap is_some (are.places n)) ∙ there)
  where
    by : (b : Bool) → is_some (cond b (sent n) None) ≡ true → is_some (sent n) ≡ true
    by true is = is
    by false is = absurd (let no : false ≡ true = is in cc)

pub not_sent_yet : (has : ℕ → Bool) (sent : ℕ → Option Location) (sendings : Sendings) (n : ℕ) → runs_spec.AreSendings has sent sendings → has n ≡ true → is_some (get nat_cmp sendings.places n) ≡ false → sent n ≡ None
not_sent_yet has sent sendings n are is out = by (sent n) (sym (ap is_some (known_place has sent sendings n are is)) ∙ out)
  where
    by : (o : Option Location) → is_some o ≡ false → o ≡ None
    by None is_not = refl
    by (Some place) is_not = absurd (let clash : true ≡ false = is_not in cc)

-- ---- the first numbers of runs

or_yes : (b : Bool) → (b || true) ≡ true
or_yes b = grind (arith, nat_tests)

first_in : (lo hi : ℕ) (b : Bool) → lo < hi → ((nat_le lo lo && nat_lt lo hi) || b) ≡ true
first_in lo hi b lt = grind (arith, nat_tests)

first_had : (lo kept : ℕ) (runs : List Stretch) (i : ℕ) (d : Stretch) → kinds.AreApart lo runs → i < length (take kept runs) → stretches.stretches_have runs (get_or (take kept runs) i d).lo ≡ true
first_had lo zero [] i d apart lt = absurd (omega (arith, lt))
first_had lo zero (x ∷ xs) i d apart lt = absurd (omega (arith, lt))
first_had lo (suc kept) [] i d apart lt = absurd (omega (arith, lt))
first_had lo (suc kept) (x ∷ xs) zero d apart lt = first_in x.lo x.hi (stretches.stretches_have xs x.lo) apart.1
first_had lo (suc kept) (x ∷ xs) (suc i) d apart lt =
    let n = (get_or (take kept xs) i d).lo in
    ap (λ b. (nat_le x.lo n && nat_lt n x.hi) || b) (first_had (x.hi + 1) kept xs i d apart.2 (omega (arith, lt))) ∙ or_yes (nat_le x.lo n && nat_lt n x.hi)

-- it is known where they are sent first, where that is known of all their numbers
pub are_sent : (has : ℕ → Bool) (pair : Pair) (acts : List placed_spec.PlacedValue) (sendings : Sendings) (lo : ℕ) (runs : List Stretch) → kinds.AreApart lo runs → ((n : ℕ) → stretches.stretches_have runs n ≡ true → has n ≡ true)
    → runs_spec.AreSendings has (kinds.first_brought pair acts) sendings → kind_runs.AreSent pair acts sendings runs
are_sent has pair acts sendings lo runs apart among are i d lt =
    let n = (get_or (take 1000 runs) i d).lo in known_place has (kinds.first_brought pair acts) sendings n are (among n (first_had lo 1000 runs i d apart lt))

-- ---- runs as ranges

pub range_is : (one other : NumberRange) → one.first ≡ other.first → one.last ≡ other.last → one.sent ≡ other.sent → one ≡ other
range_is one other first last sent = grind (arith, nat_tests)

pub ranges_more : (f : Stretch → NumberRange) (kept : List Stretch) (i : ℕ) (d : Stretch) (old new : List NumberRange) (x : NumberRange) → i < length kept → new ≡ old ++ x ∷ [] → x ≡ f (get_or kept i d) → old ≡ map f (take i kept)
    → new ≡ map f (take (i + 1) kept)
ranges_more f kept i d old new x lt is made was =
    is ∙ ap (λ l. l ++ x ∷ []) was ∙ ap (λ y. map f (take i kept) ++ y ∷ []) made ∙ sym (map-append f (take i kept) (get_or kept i d ∷ [])) ∙ ap (map f) (sym (take_more kept i d lt))

-- ---- what a writer's own acts bring

bringing : (writer reader : Guid) (n : ℕ) (placed : placed_spec.PlacedValue) → missed.brings writer reader n placed ≡ true → placed_spec.is_from writer placed ≡ true
bringing writer reader n placed has = search rules

pub brought_first : (pair : Pair) (n : ℕ) (placed : List placed_spec.PlacedValue) → kinds.first_brought pair (filter (placed_spec.is_from pair.writer) placed) n ≡ kinds.first_brought pair placed n
brought_first pair n placed = ap (option_map locations.location_of) (find_filter (missed.brings pair.writer pair.reader n) (placed_spec.is_from pair.writer) (bringing pair.writer pair.reader n) placed)

-- ---- numbers are sent between two places in one way

pub one_span : (has : ℕ → Bool) (sent : ℕ → Option Location) (one other : Option SentSpan) → kinds.IsSentIn has sent one → kinds.IsSentIn has sent other → one ≡ other
one_span has sent None None is also = refl
one_span has sent None (Some span) is also = absurd (let no : None ≡ Some span.first = sym (is also.first.number also.first.has_it) ∙ also.first.there in cc)
one_span has sent (Some span) None is also = absurd (let no : None ≡ Some span.first = sym (also is.first.number is.first.has_it) ∙ is.first.there in cc)
one_span has sent (Some one) (Some other) is also =
    let first : one.first ≡ other.first = one_place one.first other.first (also.least one.first is.first) (is.least other.first also.first) in
    let last : one.last ≡ other.last = one_place one.last other.last (is.greatest other.last also.last) (also.greatest one.last is.last) in
    ap Some (span_is one other first last)
  where
    span_is : (one other : SentSpan) → one.first ≡ other.first → one.last ≡ other.last → one ≡ other
    span_is one other first last = grind (arith, nat_tests)
