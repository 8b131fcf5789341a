-- What a reader heard, with one act more.
use Rattle.std.proofs.Common.{◌≡◌, ◌∙◌, ℕ, ◌==◌, ◌<◌, ◌≤◌, ◌⊎◌, true, false, cond, map, max, nat_le, nat_lt, not, List, [], ◌∷◌, ◌++◌, Some, None, refl, ap, arith, inl, inr, sym}
use Rattle.std.specs.List.{find}
use Rattle.std.specs.Option.{option_map, option_or}
use Rattle.std.proofs.lemmas.Bool.{cases_lt}
use Rattle.std.proofs.lemmas.Bool.Decides.{nat_tests}
use Rattle.std.proofs.lemmas.List.{map-append}
use Rattle.std.proofs.lemmas.List.Folds.{find-append}
use Rattle.rtps_ids.specs.declared.identity.Guid.{Guid}
use Rattle.rtps_audit.specs.Delivery as delivery
use Rattle.rtps_audit.specs.Placed as placed
use Rattle.rtps_audit.proofs.Offered.{greatest-append}
use Rattle.rtps_evidence.specs.Heard as heard
use Rattle.rtps_evidence.specs.Locations as locations
use Rattle.rtps_evidence.specs.declared.last_announcement.Announced.{Announced}

pub not_below : (below n : ℕ) → nat_le below n ≡ not (nat_lt n below)
not_below below n = grind (arith, nat_tests)

-- ---- what is announced, with one act more

-- none says a number that is greater than all
none_says : (writer : Guid) (n : ℕ) (acts : List placed.PlacedValue) → delivery.greatest (map (locations.number_said writer) acts) < n → find (λ placed. locations.number_said writer placed == n) acts ≡ None
none_says writer n [] lt = refl
none_says writer n (x ∷ acts) lt =
    let differs : (locations.number_said writer x == n) ≡ false = grind (arith, nat_tests) in
    ap (λ b. cond b (Some x) (find (λ placed. locations.number_said writer placed == n) acts)) differs ∙ none_says writer n acts (omega arith)

-- one says the greatest
one_says : (writer : Guid) (n : ℕ) (acts : List placed.PlacedValue) → 1 ≤ n → n ≡ delivery.greatest (map (locations.number_said writer) acts) → (one : placed.PlacedValue) × (find (λ placed. locations.number_said writer placed == n) acts ≡ Some one)
one_says writer n [] some is = absurd (omega arith)
one_says writer n (x ∷ acts) some is = elim (cases_lt (locations.number_said writer x) n) [
  | inl lt ↦
      let there = one_says writer n acts some (omega arith) in
      let differs : (locations.number_said writer x == n) ≡ false = grind (arith, nat_tests) in
      (there.0, ap (λ b. cond b (Some x) (find (λ placed. locations.number_said writer placed == n) acts)) differs ∙ there.1)
  | inr ge ↦
      let same : (locations.number_said writer x == n) ≡ true = grind (arith, nat_tests) in
      (x, ap (λ b. cond b (Some x) (find (λ placed. locations.number_said writer placed == n) acts)) same)
]

greatest_more : (writer : Guid) (acts : List placed.PlacedValue) (x : placed.PlacedValue) → delivery.greatest (map (locations.number_said writer) (acts ++ x ∷ [])) ≡ max (delivery.greatest (map (locations.number_said writer) acts)) (locations.number_said writer x)
greatest_more writer acts x =
    let both : delivery.greatest (map (locations.number_said writer) (acts ++ x ∷ [])) ≡ max (delivery.greatest (map (locations.number_said writer) acts)) (max (locations.number_said writer x) 0) =
    ap delivery.greatest (map-append (locations.number_said writer) acts (x ∷ [])) ∙ greatest-append (map (locations.number_said writer) acts) (locations.number_said writer x ∷ []) in
    omega arith

-- an act that says no more changes nothing
pub announced_still : (writer : Guid) (acts : List placed.PlacedValue) (x : placed.PlacedValue) (old : Announced) → locations.number_said writer x ≤ old.last → heard.IsAnnounced writer acts old → heard.IsAnnounced writer (acts ++ x ∷ []) old
announced_still writer acts x old le is = record {
  last = (let more = greatest_more writer acts x in let last = is.last in omega arith);
  first = is.first ∙ sym (by (cases_lt 0 old.last));
}
  where
    by : (0 < old.last) ⊎ (old.last ≤ 0) → locations.announcement_of 1 writer old.last (acts ++ x ∷ []) ≡ locations.announcement_of 1 writer old.last acts
    by (inl some) =
        let there = one_says writer old.last acts (omega arith) is.last in
        let found = find-append (λ (placed : placed.PlacedValue). locations.number_said writer placed == old.last) acts (x ∷ [])
        ∙ ap (λ o. option_or o (find (λ (placed : placed.PlacedValue). locations.number_said writer placed == old.last) (x ∷ []))) there.1 ∙ sym there.1 in
        ap (λ o. cond (delivery.is_asked 1 old.last) (option_map (locations.announcement_at old.last) o) None) found
    by (inr none) =
        let zero : delivery.is_asked 1 old.last ≡ false = grind (arith, nat_tests) in
        ap (λ b. cond b (option_map (locations.announcement_at old.last) (find (λ placed. locations.number_said writer placed == old.last) (acts ++ x ∷ []))) None) zero
        ∙ sym (ap (λ b. cond b (option_map (locations.announcement_at old.last) (find (λ placed. locations.number_said writer placed == old.last) acts)) None) zero)

-- one that says more is the first that says so much
pub announced_anew : (writer : Guid) (acts : List placed.PlacedValue) (x : placed.PlacedValue) (old new : Announced) → old.last < locations.number_said writer x → heard.IsAnnounced writer acts old
    → new.last ≡ locations.number_said writer x → new.first ≡ Some (locations.announcement_at (locations.number_said writer x) x) → heard.IsAnnounced writer (acts ++ x ∷ []) new
announced_anew writer acts x old new lt is last first =
    let number = locations.number_said writer x in
    let yes : delivery.is_asked 1 number ≡ true = grind (arith, nat_tests) in
    let same : (locations.number_said writer x == number) ≡ true = grind (arith, nat_tests) in
    let top = is.last in
    let none = none_says writer number acts (omega arith) in
    let found = find-append (λ (placed : placed.PlacedValue). locations.number_said writer placed == number) acts (x ∷ [])
    ∙ ap (λ o. option_or o (find (λ (placed : placed.PlacedValue). locations.number_said writer placed == number) (x ∷ []))) none
    ∙ ap (λ b. cond b (Some x) None) same in
    record {
      last = (let more = greatest_more writer acts x in omega arith);
      first =
          first
          ∙ sym (ap (λ n. locations.announcement_of 1 writer n (acts ++ x ∷ [])) last
          ∙ ap (λ b. cond b (option_map (locations.announcement_at number) (find (λ placed. locations.number_said writer placed == number) (acts ++ x ∷ []))) None) yes
          ∙ ap (option_map (locations.announcement_at number)) found);
    }
