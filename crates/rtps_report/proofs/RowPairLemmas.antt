-- Which pairs have a row: those that are kept are those of the definition.
use Rattle.std.proofs.Common.{◌≡◌, ◌↔◌, ◌⊎◌, ◌∙◌, ◌++◌, ◌&&◌, ℕ, Bool, true, false, inl, inr, List, Contains, filter, get_or, map, nat_lt, not, refl, subst, sym, ap}
use Rattle.std.specs.BTreeSet.{contains}
use Rattle.std.specs.Cmp.{IsEquivalence, IsTotalOrder}
use Rattle.std.specs.Cmp.Lexicographic.{slice_cmp}
use Rattle.std.specs.List.{dedup}
use Rattle.std.specs.List.Sorted.{IsPermutation, IsSorted, IsStrictlySortedBy}
use Rattle.std.specs.Ordering.{eq_by_cmp, is_eq, nat_cmp}
use Rattle.std.specs.declared.cmp.Ordering.{Ordering}
use Rattle.std.specs.declared.cmp.Ordering.TheVariants.{Less, Equal, Greater}
use Rattle.std.proofs.lemmas.Bool.{false≢true}
use Rattle.std.proofs.lemmas.Cmp.{eq_by_cmp_equiv, on_total, then_total, tied_itself}
use Rattle.std.proofs.lemmas.List.Elements.{Contains-append_cases, Contains-append_left, Contains-append_right}
use Rattle.std.proofs.lemmas.List.Folds.{Any-from_list_any, list_any_at}
use Rattle.std.proofs.lemmas.List.Kept.{Contains-dedup, Contains-from_dedup, IsStrictlySortedBy-dedup}
use Rattle.std.proofs.lemmas.List.Sorted.{Contains-permutation, IsPermutation-sym}
use Rattle.std.proofs.lemmas.Map.Lookups.{CmpEqualImpliesEq, exact_bytes, exact_pairs}
use Rattle.rtps_ids.specs.declared.identity.Guid.{Guid}
use Rattle.rtps_discovery.specs.Directory as directory
use Rattle.rtps_discovery.specs.GuidOrder as guid_order
use Rattle.rtps_discovery.specs.Listings as listings
use Rattle.rtps_discovery.specs.Matching as matching
use Rattle.rtps_discovery.proofs.Offered.{from_filter, from_map, guids_total, into_filter, into_map}
use Rattle.rtps_policies.specs.Silence as silence
use Rattle.rtps_policies.specs.Unmatched as unmatched
use Rattle.rtps_report.specs.Asked as asked
use Rattle.rtps_report.specs.Rows as rows
use Rattle.rtps_report.specs.RowPairs as row_pairs
use Rattle.rtps_report.specs.Talk as talk_spec
use Rattle.rtps_audit.specs.Intake as intake
use Rattle.rtps_discovery.specs.declared.matching.Pair.{Pair}
use Rattle.rtps_report.specs.declared.talk.Talk.{Talk}
use Rattle.rtps_report.proofs.TalkLemmas.{pair_alike}

-- ---- pairs that compare alike are one

guid_of_parts : List ℕ × List ℕ → Guid
guid_of_parts parts = record { prefix = record { 0 = parts.0 }; entity = record { 0 = parts.1 } }

exact_guids : CmpEqualImpliesEq guid_order.guid_cmp
unfolding guid_of_parts
exact_guids a b h =
    ap guid_of_parts (exact_pairs (slice_cmp nat_cmp) (slice_cmp nat_cmp) exact_bytes exact_bytes (a.prefix.0, a.entity.0) (b.prefix.0, b.entity.0) h)

pair_of_guids : Guid × Guid → Pair
pair_of_guids guids = record { writer = guids.0; reader = guids.1 }

pub exact_two : CmpEqualImpliesEq listings.pair_cmp
unfolding pair_of_guids
exact_two a b h = ap pair_of_guids (exact_pairs guid_order.guid_cmp guid_order.guid_cmp exact_guids exact_guids (a.writer, a.reader) (b.writer, b.reader) h)

pub pairs_total : IsTotalOrder listings.pair_cmp
pairs_total = then_total (on_total (λ (pair : Pair). pair.writer) guids_total) (on_total (λ (pair : Pair). pair.reader) guids_total)

equal_there : (order : Ordering) → is_eq order ≡ true → order ≡ Equal
equal_there Equal is = refl
equal_there Less is = absurd (false≢true is)
equal_there Greater is = absurd (false≢true is)

pub one_pair : (one other : Pair) → talk_spec.is_pair one other ≡ true → one ≡ other
one_pair one other is = exact_two one other (equal_there (listings.pair_cmp one other) (sym (pair_alike one other) ∙ is))

same_pair : (one other : Pair) → one ≡ other → talk_spec.is_pair one other ≡ true
same_pair one other same = pair_alike one other ∙ ap is_eq (ap (listings.pair_cmp one) (sym same) ∙ tied_itself pairs_total one)

-- ---- those that do not match

pub unfit_there : (unfit : List unmatched.UnmatchedValue) (pair : Pair) → talk_spec.is_unfit unfit pair ≡ true → (one : unmatched.UnmatchedValue) × Contains unfit one × (unmatched.pair_of one ≡ pair)
unfit_there unfit pair is =
    let found = Any-from_list_any (λ (one : unmatched.UnmatchedValue). talk_spec.is_pair (unmatched.pair_of one) pair) unfit is in
    (found.1, (found.0, found.2, found.3), one_pair (unmatched.pair_of found.1) pair found.4)

pub unfit_back : (unfit : List unmatched.UnmatchedValue) (pair : Pair) (one : unmatched.UnmatchedValue) → Contains unfit one → unmatched.pair_of one ≡ pair → talk_spec.is_unfit unfit pair ≡ true
unfit_back unfit pair one among same =
    list_any_at (λ (those : unmatched.UnmatchedValue). talk_spec.is_pair (unmatched.pair_of those) pair) unfit among.0 one among.1
    (same_pair (unmatched.pair_of (get_or unfit among.0 one)) pair (ap unmatched.pair_of among.2 ∙ same))

-- those of them whose pairs pass a test
pub unfit_tested : (test : Pair → Bool) (unfit : List unmatched.UnmatchedValue) (pair : Pair) → (talk_spec.is_unfit (filter (λ one. test (unmatched.pair_of one)) unfit) pair ≡ true) ↔ ((talk_spec.is_unfit unfit pair ≡ true) × (test pair ≡ true))
unfit_tested test unfit pair = (there, back)
  where
    passes : unmatched.UnmatchedValue → Bool
    passes one = test (unmatched.pair_of one)

    there : talk_spec.is_unfit (filter (λ one. test (unmatched.pair_of one)) unfit) pair ≡ true → (talk_spec.is_unfit unfit pair ≡ true) × (test pair ≡ true)
    there is =
        let found = unfit_there (filter (λ (one : unmatched.UnmatchedValue). test (unmatched.pair_of one)) unfit) pair is in
        let kept = from_filter (λ (one : unmatched.UnmatchedValue). test (unmatched.pair_of one)) unfit found.0 found.1 in
        (unfit_back unfit pair found.0 kept.0 found.2, sym (ap test found.2) ∙ kept.1)

    back : (talk_spec.is_unfit unfit pair ≡ true) × (test pair ≡ true) → talk_spec.is_unfit (filter (λ one. test (unmatched.pair_of one)) unfit) pair ≡ true
    back is =
        let found = unfit_there unfit pair is.0 in
        unfit_back (filter (λ (one : unmatched.UnmatchedValue). test (unmatched.pair_of one)) unfit) pair found.0 (into_filter (λ (one : unmatched.UnmatchedValue). test (unmatched.pair_of one)) unfit found.0 found.1 (ap test found.2 ∙ is.1)) found.2

-- ---- the pairs that are kept

-- three that hold together
all_three : (unfit named topic : Bool) → (not unfit && (named && topic)) ≡ true → (unfit ≡ false) × (named ≡ true) × (topic ≡ true)
all_three false true true is = (refl, refl, refl)
all_three true named topic is = absurd (false≢true is)
all_three false false topic is = absurd (false≢true is)
all_three false true false is = absurd (false≢true is)

from_three : (unfit named topic : Bool) → unfit ≡ false → named ≡ true → topic ≡ true → (not unfit && (named && topic)) ≡ true
from_three false true true u n t = refl
from_three true named topic u n t = absurd (false≢true (sym u))
from_three false false topic u n t = absurd (false≢true n)
from_three false true false u n t = absurd (false≢true t)

module _ (asked : asked.AskedValue) (intake : intake.Intake) (traffic : silence.Traffic) (entries : directory.Entries) (talk : Talk) (kept : talk_spec.IsKeptOf asked intake traffic entries talk) where
  abbrev chosen : rows.Choice
  chosen = talk_spec.choice_in asked intake entries

  abbrev unfit : List unmatched.UnmatchedValue
  unfit = talk_spec.unfit_in chosen traffic entries

  abbrev matches : List Pair
  matches = filter (row_pairs.is_match_told talk chosen entries) (matching.reliable_pairs (matching.matches_among (directory.settled_in entries)))

  abbrev talking : List Pair
  talking = filter (row_pairs.is_pair_asked chosen entries) (map unmatched.pair_of (map unmatched.unmatched_value talk.talking.items))

  named_alike : (pair : Pair) → rows.is_named_by talk.namings pair ≡ talk_spec.is_named traffic pair
  named_alike pair = ap (nat_lt 0) (kept.namings (record { source = pair.reader.prefix; dest = pair.writer.prefix }))

  of_match : (pair : Pair) → Contains matches pair → row_pairs.IsRowPair asked intake traffic entries pair
  of_match pair has =
      let found = from_filter (row_pairs.is_match_told talk chosen entries) (matching.reliable_pairs (matching.matches_among (directory.settled_in entries))) pair has in
      let three = all_three (contains listings.pair_cmp talk.unfit pair) (rows.is_named_by talk.namings pair) (row_pairs.is_pair_asked chosen entries pair) found.1 in
      record {
        chosen = three.2;
        judged = subst (λ b. row_pairs.IsJudged b intake traffic entries pair) (sym (sym (kept.unfit pair) ∙ three.0)) (found.0, sym (named_alike pair) ∙ three.1);
      }

  of_talking : (pair : Pair) → Contains talking pair → row_pairs.IsRowPair asked intake traffic entries pair
  of_talking pair has =
      let found = from_filter (row_pairs.is_pair_asked chosen entries) (map unmatched.pair_of (map unmatched.unmatched_value talk.talking.items)) pair has in
      let made = from_map unmatched.pair_of (map unmatched.unmatched_value talk.talking.items) pair found.0 in
      let two = (unfit_tested (talk_spec.talks intake) unfit pair).0
      (subst (λ those. talk_spec.is_unfit those pair ≡ true) kept.talking (unfit_back (map unmatched.unmatched_value talk.talking.items) pair made.0 made.1 made.2)) in
      record { chosen = found.1; judged = subst (λ b. row_pairs.IsJudged b intake traffic entries pair) (sym two.0) two.1 }

  told_there : (pair : Pair) → Contains matches pair ⊎ Contains talking pair → row_pairs.IsRowPair asked intake traffic entries pair
  told_there pair (inl has) = of_match pair has
  told_there pair (inr has) = of_talking pair has

  told_back : (pair : Pair) (is : Bool) → talk_spec.is_unfit unfit pair ≡ is → row_pairs.is_pair_asked chosen entries pair ≡ true → row_pairs.IsJudged is intake traffic entries pair → Contains (matches ++ talking) pair
  told_back pair true is topic said =
      let those = map unmatched.unmatched_value talk.talking.items in
      let found = unfit_there those pair (subst (λ all. talk_spec.is_unfit all pair ≡ true) (sym kept.talking) ((unfit_tested (talk_spec.talks intake) unfit pair).1 (is, said))) in
      let there = subst (Contains (map unmatched.pair_of those)) found.2 (into_map unmatched.pair_of those found.0 found.1) in
      Contains-append_right matches talking pair (into_filter (row_pairs.is_pair_asked chosen entries) (map unmatched.pair_of those) pair there topic)
  told_back pair false is topic said =
      Contains-append_left matches talking pair
      (into_filter (row_pairs.is_match_told talk chosen entries) (matching.reliable_pairs (matching.matches_among (directory.settled_in entries))) pair said.0
      (from_three (contains listings.pair_cmp talk.unfit pair) (rows.is_named_by talk.namings pair) (row_pairs.is_pair_asked chosen entries pair) (kept.unfit pair ∙ is) (named_alike pair ∙ said.1) topic))

  -- sorted, and each once, by a test that tells them apart
  pub rows_are : (same : Pair → Pair → Bool) → ((one other : Pair) → same one other ≡ eq_by_cmp listings.pair_cmp one other) → (sorted pairs : List Pair)
      → IsPermutation (matches ++ talking) sorted → IsSorted listings.pair_cmp sorted → pairs ≡ dedup same sorted → row_pairs.AreRowPairs asked intake traffic entries pairs
  rows_are same ties sorted pairs moved order is =
      let equal = eq_by_cmp_equiv pairs_total in
      let test : IsEquivalence same = record {
        refl = λ one. ties one one ∙ equal.refl one;
        symm = λ one other. ties one other ∙ equal.symm one other ∙ sym (ties other one);
        congr = λ one other third is. ties one third ∙ equal.congr one other third (sym (ties one other) ∙ is) ∙ sym (ties other third);
      } in
      let exact = λ (one other : Pair) (alike : same one other ≡ true). exact_two one other (equal_there (listings.pair_cmp one other) (sym (ties one other) ∙ alike)) in
      record {
        in_order = subst (IsStrictlySortedBy listings.pair_cmp) (sym is) (IsStrictlySortedBy-dedup pairs_total ties sorted order);
        each = λ pair. (
          λ has.
              told_there pair (Contains-append_cases matches talking pair (Contains-permutation sorted (matches ++ talking) pair (IsPermutation-sym (matches ++ talking) sorted moved)
              (Contains-from_dedup same sorted pair (subst (λ those. Contains those pair) is has)))),
          λ row.
              subst (λ those. Contains those pair) (sym is) (Contains-dedup test exact sorted pair (Contains-permutation (matches ++ talking) sorted pair moved
              (told_back pair (talk_spec.is_unfit unfit pair) refl row.chosen row.judged))),
        );
      }
