-- What the answers of a pair tell of the acts of a recording.
use Rattle.std.proofs.lemmas.Grind.{common_steps}
use Rattle.std.proofs.Common.{◌≡◌, ◌∙◌, ◌==◌, ◌&&◌, ◌≤◌, ◌<◌, ℕ, Bool, true, false, cond, nat_lt, max, map, pos, List, [], ◌∷◌, Option, Some, None, refl, sym, ap, arith}
use Rattle.std.specs.Prelude.{if◌then◌else◌, unwrap_or}
use Rattle.std.specs.List.{cons_option, find}
use Rattle.std.specs.Option.{option_map}
use Rattle.std.proofs.lemmas.Bool.Decides.{nat_tests}
use Rattle.rtps_discovery.specs.declared.matching.Pair.{Pair}
use Rattle.rtps_audit.specs.Delivery as delivery
use Rattle.rtps_audit.specs.Placed as placed_spec
use Rattle.rtps_receiver.specs.Said as said_spec
use Rattle.rtps_audit.specs.Speech as speech
use Rattle.rtps_audit.specs.declared.answer.Answer.{Answer}
use Rattle.rtps_evidence.specs.Locations as locations
use Rattle.rtps_evidence.specs.declared.acknowledgement.Claim.{Claim}

-- the bases of the answers are those of the acts
pub bases_same : (pair : Pair) (placed : List placed_spec.PlacedValue) → delivery.greatest (map (λ (answer : Answer). said_spec.natural answer.base) (placed_spec.answers_among pair placed)) ≡ locations.greatest_base pair.writer pair.reader placed
bases_same pair [] = refl
bases_same pair (x ∷ placed) = by (speech.base_for pair.writer pair.reader x.act) (bases_same pair placed)
  where
    by : (base : Option ℕ) → delivery.greatest (map (λ (answer : Answer). said_spec.natural answer.base) (placed_spec.answers_among pair placed)) ≡ locations.greatest_base pair.writer pair.reader placed
        → delivery.greatest (map (λ (answer : Answer). said_spec.natural answer.base) (cons_option (placed_spec.answer_at x.datagram x.act.at base) (placed_spec.answers_among pair placed))) ≡ max (unwrap_or base 0) (locations.greatest_base pair.writer pair.reader placed)
    by None h = omega (arith, h)
    by (Some base) h = ap (max base) h

-- the first answer whose datagram and base pass a test is the first act that does; no act that is none passes
found_among : (test : ℕ → ℕ → Bool) (pair : Pair) (placed : List placed_spec.PlacedValue) → ((d : ℕ) → test d 0 ≡ false)
    → find (λ (claim : Claim). test claim.place.datagram (said_spec.natural claim.below)) (map locations.claim_in (placed_spec.answers_among pair placed))
    ≡ option_map (locations.claim_at pair.writer pair.reader) (find (λ (at : placed_spec.PlacedValue). test at.datagram (locations.base_said pair.writer pair.reader at)) placed)
found_among test pair [] never = refl
found_among test pair (x ∷ placed) never = by (speech.base_for pair.writer pair.reader x.act) refl (found_among test pair placed never)
  where
    kept : Option Claim
    kept = find (λ (claim : Claim). test claim.place.datagram (said_spec.natural claim.below)) (map locations.claim_in (placed_spec.answers_among pair placed))

    stands : Option placed_spec.PlacedValue
    stands = find (λ (at : placed_spec.PlacedValue). test at.datagram (locations.base_said pair.writer pair.reader at)) placed

    first : (b : Bool) (base : ℕ) → speech.base_for pair.writer pair.reader x.act ≡ Some base → kept ≡ option_map (locations.claim_at pair.writer pair.reader) stands
        → cond b (Some (record { below = pos base; place = locations.location_of x })) kept ≡ option_map (locations.claim_at pair.writer pair.reader) (cond b (Some x) stands)
    first true base said h = ap (λ n. let made : Claim = record { below = pos n; place = locations.location_of x } in Some made) (sym (ap (λ o. unwrap_or o 0) said))
    first false base said h = h

    by : (said : Option ℕ) → speech.base_for pair.writer pair.reader x.act ≡ said → kept ≡ option_map (locations.claim_at pair.writer pair.reader) stands
        → find (λ (claim : Claim). test claim.place.datagram (said_spec.natural claim.below)) (map locations.claim_in (cons_option (placed_spec.answer_at x.datagram x.act.at said) (placed_spec.answers_among pair placed)))
        ≡ option_map (locations.claim_at pair.writer pair.reader) (cond (test x.datagram (unwrap_or (speech.base_for pair.writer pair.reader x.act) 0)) (Some x) stands)
    by None said h = h ∙ sym (ap (λ b. option_map (locations.claim_at pair.writer pair.reader) (cond b (Some x) stands)) (ap (λ o. test x.datagram (unwrap_or o 0)) said ∙ never x.datagram))
    by (Some base) said h = first (test x.datagram base) base said h ∙ sym (ap (λ b. option_map (locations.claim_at pair.writer pair.reader) (cond b (Some x) stands)) (ap (λ o. test x.datagram (unwrap_or o 0)) said))

-- the first answer with the greatest base is the first act with it
pub acknowledged : (from base : ℕ) (pair : Pair) (placed : List placed_spec.PlacedValue)
    → base ≡ delivery.greatest (map (λ (answer : Answer). said_spec.natural answer.base) (placed_spec.answers_among pair placed)) → from < base
    → find (λ (claim : Claim). said_spec.natural claim.below == base) (map locations.claim_in (placed_spec.answers_among pair placed)) ≡ locations.acknowledgement_of from pair.writer pair.reader placed
acknowledged from base pair placed is above =
    found_among (λ d b. b == base) pair placed (λ d. not_it) ∙ by_order (locations.greatest_base pair.writer pair.reader placed) (sym (is ∙ bases_same pair placed))
  where
    not_it : (0 == base) ≡ false
    not_it = grind (arith, nat_tests, above)

    by_order : (found : ℕ) → found ≡ base
        → option_map (locations.claim_at pair.writer pair.reader) (find (λ at. locations.base_said pair.writer pair.reader at == base) placed)
        ≡ (if nat_lt from found then option_map (locations.claim_at pair.writer pair.reader) (find (λ at. locations.base_said pair.writer pair.reader at == found) placed) else None)
    by_order found e =
        let yes : nat_lt from base ≡ true = grind (arith, nat_tests) in
        rw (e, yes) refl

-- where the greatest base is not above `from`, nothing is acknowledged
pub unacknowledged : (from base : ℕ) (pair : Pair) (placed : List placed_spec.PlacedValue)
    → base ≡ delivery.greatest (map (λ (answer : Answer). said_spec.natural answer.base) (placed_spec.answers_among pair placed)) → base ≤ from
    → None ≡ locations.acknowledgement_of from pair.writer pair.reader placed
unacknowledged from base pair placed is low = grind (arith, nat_tests, common_steps, bases_same)

-- the first answer in a datagram that claims a number is the first act that does
pub claimed : (datagram n : ℕ) (pair : Pair) (placed : List placed_spec.PlacedValue)
    → find (λ (claim : Claim). (claim.place.datagram == datagram) && nat_lt n (said_spec.natural claim.below)) (map locations.claim_in (placed_spec.answers_among pair placed)) ≡ locations.claim_of pair.writer pair.reader datagram n placed
claimed datagram n pair placed = found_among (λ d b. (d == datagram) && nat_lt n b) pair placed (λ d. never (d == datagram))
  where
    never : (b : Bool) → (b && nat_lt n 0) ≡ false
    never true = grind (arith, nat_tests)
    never false = refl

-- the first answer that claims a number is the first act that does
pub claimed_first : (n : ℕ) (pair : Pair) (placed : List placed_spec.PlacedValue)
    → find (λ (claim : Claim). nat_lt n (said_spec.natural claim.below)) (map locations.claim_in (placed_spec.answers_among pair placed)) ≡ option_map (locations.claim_at pair.writer pair.reader) (find (λ at. nat_lt n (locations.base_said pair.writer pair.reader at)) placed)
claimed_first n pair placed = found_among (λ d b. nat_lt n b) pair placed (λ d. grind (arith, nat_tests))
