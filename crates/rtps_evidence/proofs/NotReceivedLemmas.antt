-- The least number that is not received, and what keeps it.
use Rattle.std.proofs.lemmas.Grind.{common_steps}
use Rattle.std.proofs.lemmas.Bool.Decides.{nat_tests}
use Rattle.std.proofs.Common.{◌≡◌, ◌∙◌, ℕ, zero, suc, ◌+◌, ◌-◌, ◌<◌, ◌≤◌, Bool, true, false, cond, not, List, Option, Some, None, refl, sym, ap, arith, inl, inr}
use Rattle.std.specs.List.{find, range_with_len}
use Rattle.std.specs.Option.{option_map}
use Rattle.std.proofs.lemmas.Bool.{cases_lt}
use Rattle.rtps_ids.specs.declared.identity.Guid.{Guid}
use Rattle.rtps_discovery.specs.declared.matching.Pair.{Pair}
use Rattle.rtps_audit.specs.Placed as placed
use Rattle.rtps_coverage.specs.Counts as counts
use Rattle.rtps_coverage.specs.Stretches as stretches
use Rattle.rtps_evidence.specs.Claimed as claimed
use Rattle.rtps_evidence.specs.Locations as locations
use Rattle.rtps_evidence.specs.Received as received
use Rattle.rtps_evidence.specs.declared.acknowledgement.Claim.{Claim}
use Rattle.rtps_coverage.specs.declared.stretch.Stretch.{Stretch}
use Rattle.rtps_evidence.specs.declared.not_received.NotReceived.{NotReceived}
use Rattle.rtps_evidence.specs.declared.teller.Teller.{Teller}
use Rattle.rtps_coverage.proofs.Offered.{count_others, count_same}

-- ---- the least number

holds_not : (has : ℕ → Bool) (n : ℕ) → has n ≡ true → has n ≡ false → ⊥
holds_not has n holds fails = let clash : true ≡ false = sym holds ∙ fails in cc

found_in : (has : ℕ → Bool) (lo n k : ℕ) → lo ≤ k → k < lo + n → has k ≡ true → ((m : ℕ) → lo ≤ m → m < k → has m ≡ false) → find has (range_with_len lo n) ≡ Some k
found_in has lo zero k low high is none = absurd (omega arith)
found_in has lo (suc n) k low high is none = by (λ past. found_in has (lo + 1) n k past (omega arith) is (λ m begun before. none m (omega arith) before)) (has lo) refl
  where
    by : (lo + 1 ≤ k → find has (range_with_len (lo + 1) n) ≡ Some k) → (b : Bool) → has lo ≡ b → cond b (Some lo) (find has (range_with_len (lo + 1) n)) ≡ Some k
    by onward true holds = elim (cases_lt lo k) [
      | inl before ↦ absurd (holds_not has lo holds (none lo (omega arith) before))
      | inr past ↦ let same : lo ≡ k = omega arith in ap Some same
    ]
    by onward false fails = elim (cases_lt lo k) [
      | inl before ↦ onward (omega arith)
      | inr past ↦ let same : lo ≡ k = omega arith in absurd (holds_not has k is (sym (ap has same) ∙ fails))
    ]

none_in : (has : ℕ → Bool) (lo n : ℕ) → ((m : ℕ) → lo ≤ m → m < lo + n → has m ≡ false) → find has (range_with_len lo n) ≡ None
none_in has lo zero none = refl
none_in has lo (suc n) none = ap (λ b. cond b (Some lo) (find has (range_with_len (lo + 1) n))) (none lo (omega arith) (omega arith)) ∙ none_in has (lo + 1) n (λ m begun before. none m (omega arith) (omega arith))

pub least_found : (has : ℕ → Bool) (lo hi k : ℕ) → lo ≤ k → k < hi → has k ≡ true → ((m : ℕ) → lo ≤ m → m < k → has m ≡ false) → received.least_in has lo hi ≡ Some k
least_found has lo hi k low high is none = found_in has lo (hi - lo) k low (omega arith) is none

pub least_none : (has : ℕ → Bool) (lo hi : ℕ) → ((m : ℕ) → lo ≤ m → m < hi → has m ≡ false) → received.least_in has lo hi ≡ None
least_none has lo hi none = none_in has lo (hi - lo) (λ m low high. none m low (omega arith))

same_in : (has other : ℕ → Bool) (lo n : ℕ) → ((m : ℕ) → lo ≤ m → m < lo + n → has m ≡ other m) → find has (range_with_len lo n) ≡ find other (range_with_len lo n)
same_in has other lo zero same = refl
same_in has other lo (suc n) same =
    ap (λ b. cond b (Some lo) (find has (range_with_len (lo + 1) n))) (same lo (omega arith) (omega arith))
    ∙ ap (λ o. cond (other lo) (Some lo) o) (same_in has other (lo + 1) n (λ m low high. same m (omega arith) (omega arith)))

pub least_same : (has other : ℕ → Bool) (lo hi : ℕ) → ((m : ℕ) → lo ≤ m → m < hi → has m ≡ other m) → received.least_in has lo hi ≡ received.least_in other lo hi
least_same has other lo hi same = same_in has other lo (hi - lo) (λ m low high. same m low (omega arith))

-- ---- what keeps it

pub kept_unclaimed : (writer reader : Guid) (n : ℕ) (acts : List placed.PlacedValue) (claim : Option placed.PlacedValue) → None ≡ option_map (locations.claim_at writer reader) claim
    → ◌≡◌ {A = NotReceived} (record { number = n; gone = None; acknowledged = None }) (received.kept_by writer reader n acts claim)
kept_unclaimed writer reader n acts claim h = grind (arith, nat_tests)

pub kept_claimed : (writer reader : Guid) (n : ℕ) (acts : List placed.PlacedValue) (claim : Option placed.PlacedValue) (found : Claim) (gone : Option Teller) → Some found ≡ option_map (locations.claim_at writer reader) claim
    → gone ≡ received.gone_before writer reader n found.place.datagram acts → ◌≡◌ {A = NotReceived} (record { number = n; gone = gone; acknowledged = Some found.place }) (received.kept_by writer reader n acts claim)
kept_claimed writer reader n acts claim found gone h h2 = grind (arith, nat_tests)

-- ---- counted, and the least of the others

-- the received numbers are those that are not lacking
count_received : (from last count others : ℕ) (pair : Pair) (placed : List placed.PlacedValue) (items : List Stretch) → claimed.AreLacking from last pair placed items
    → others ≡ counts.count_in (stretches.stretches_have items) from (last + 1) → count ≡ last + 1 - from - others → count ≡ counts.count_in (received.is_received pair.writer pair.reader placed) from (last + 1)
count_received from last count others pair placed items are counted rest = grind (arith, nat_tests, common_steps, count_others, count_same)

pub some_not_received : (from last least count others : ℕ) (pair : Pair) (placed : List placed.PlacedValue) (items lent : List Stretch) (found : NotReceived) → lent ≡ items
    → claimed.AreLacking from last pair placed items → from ≤ least → stretches.stretches_have lent least ≡ true → ((n : ℕ) → from ≤ n → n < least → stretches.stretches_have lent n ≡ false)
    → others ≡ counts.count_in (stretches.stretches_have items) from (last + 1) → count ≡ last + 1 - from - others → least < last + 1
    → found ≡ received.kept_by pair.writer pair.reader least placed (received.first_claiming pair.writer pair.reader least placed)
    → received.AreReceived from last pair.writer pair.reader placed (record { count = count; not_received = Some found })
some_not_received from last least count others pair placed items lent found same are low inside below counted rest high kept = record {
  count = count_received from last count others pair placed items are counted rest;
  not_received =
      ap Some kept
      ∙ sym (ap (option_map (λ n. received.kept_by pair.writer pair.reader n placed (received.first_claiming pair.writer pair.reader n placed)))
      (least_found (λ n. not (received.is_received pair.writer pair.reader placed n)) from (last + 1) least low high
      (sym (are least low (omega arith)) ∙ sym (ap (λ l. stretches.stretches_have l least) same) ∙ inside)
      (λ m begun before. sym (are m begun (omega arith)) ∙ sym (ap (λ l. stretches.stretches_have l m) same) ∙ below m begun before)));
}

pub all_received : (from last least count others : ℕ) (pair : Pair) (placed : List placed.PlacedValue) (items lent : List Stretch) → lent ≡ items
    → claimed.AreLacking from last pair placed items → ((n : ℕ) → from ≤ n → n < least → stretches.stretches_have lent n ≡ false)
    → others ≡ counts.count_in (stretches.stretches_have items) from (last + 1) → count ≡ last + 1 - from - others → last + 1 ≤ least → received.AreReceived from last pair.writer pair.reader placed (record { count = count; not_received = None })
all_received from last least count others pair placed items lent same are below counted rest high = grind (arith, nat_tests, common_steps, count_received, least_none)
