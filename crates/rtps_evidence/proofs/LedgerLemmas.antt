-- What is kept of what a pair said, at the start and with one act more.
use Rattle.std.proofs.Common.{◌≡◌, ◌∙◌, ◌==◌, ℕ, Bool, true, false, ◌||◌, cond, filter, length, List, [], ◌∷◌, ◌++◌, Option, Some, None, refl, ap, arith}
use Rattle.std.specs.List.{list_any}
use Rattle.std.specs.Option.{option_map}
use Rattle.std.proofs.lemmas.Bool.Decides.{nat_tests}
use Rattle.std.proofs.lemmas.List.Folds.{list_any-append}
use Rattle.rtps_audit.specs.Placed as placed
use Rattle.rtps_coverage.specs.Stretches as stretches_spec
use Rattle.rtps_coverage.specs.declared.stretch.Stretch.{Stretch}
use Rattle.rtps_discovery.specs.declared.matching.Pair.{Pair}
use Rattle.rtps_evidence.specs.Requests as requests
use Rattle.rtps_evidence.specs.Locations as locations
use Rattle.rtps_evidence.specs.Missed as missed
use Rattle.rtps_evidence.specs.declared.location.Location.{Location}
use Rattle.rtps_evidence.specs.declared.missed_numbers.Request.{Request}

or_no : (b : Bool) → (b || false) ≡ b
or_no b = grind (arith, nat_tests)

-- before all acts nothing became of a request
pub met_none : (since : Option Location) (pair : Pair) (n : ℕ) (request : Option Request) → option_map (requests.met_among since pair n []) request ≡ request
met_none since pair n None = refl
met_none since pair n (Some request) =
    ap (λ m. Some (record { place = request.place; is_met = m; is_again = request.is_again || false })) (or_no request.is_met) ∙ ap (λ a. Some (record { place = request.place; is_met = request.is_met; is_again = a })) (or_no request.is_again)

-- a number that does not lack has no request
pub unasked : (since : Option Location) (pair : Pair) (n : ℕ) (acts asks : List placed.PlacedValue) (lacks : ℕ → Bool) → lacks n ≡ false → option_map (requests.met_among since pair n acts) (requests.requested pair asks lacks n) ≡ None
unasked since pair n acts asks lacks out = ap (λ b. option_map (requests.met_among since pair n acts) (cond b (option_map (λ asking. requests.new_request (locations.location_of asking)) (locations.find_last (missed.asks_for pair.writer pair.reader n) asks)) None)) out

-- no stretches have no number
pub none_has : (stretches : List Stretch) (n : ℕ) → (length stretches == 0) ≡ true → stretches_spec.stretches_have stretches n ≡ false
none_has stretches n none = by stretches (let zero : length stretches ≡ 0 = grind (arith, nat_tests) in zero)
  where
    by : (stretches : List Stretch) → length stretches ≡ 0 → stretches_spec.stretches_have stretches n ≡ false
    by [] zero = refl
    by (x ∷ xs) zero = absurd (omega arith)

-- a reader that lacks nothing has no requests
pub none_requested : (stretches : List Stretch) (pair : Pair) (asks : List placed.PlacedValue) (n : ℕ) → (length stretches == 0) ≡ true → requests.requested pair asks (stretches_spec.stretches_have stretches) n ≡ None
none_requested stretches pair asks n none = ap (λ b. cond b (option_map (λ asking. requests.new_request (locations.location_of asking)) (locations.find_last (missed.asks_for pair.writer pair.reader n) asks)) None) (none_has stretches n none)

-- one act more
pub any_more : (test : placed.PlacedValue → Bool) (acts : List placed.PlacedValue) (x : placed.PlacedValue) → list_any test (acts ++ x ∷ []) ≡ (list_any test acts || test x)
any_more test acts x = list_any-append test acts (x ∷ []) ∙ ap (λ b. list_any test acts || b) (or_no (test x))

pub filter_more : (test : placed.PlacedValue → Bool) (acts : List placed.PlacedValue) (x : placed.PlacedValue) (b : Bool) → test x ≡ b → filter test (acts ++ x ∷ []) ≡ filter test acts ++ cond b (x ∷ []) []
filter_more test [] x b is = ap (λ c. cond c (x ∷ []) []) is
filter_more test (y ∷ ys) x b is = by (test y) (filter_more test ys x b is)
  where
    by : (c : Bool) → filter test (ys ++ x ∷ []) ≡ filter test ys ++ cond b (x ∷ []) [] → cond c (y ∷ filter test (ys ++ x ∷ [])) (filter test (ys ++ x ∷ [])) ≡ cond c (y ∷ filter test ys) (filter test ys) ++ cond b (x ∷ []) []
    by true more = ap (λ l. y ∷ l) more
    by false more = more
