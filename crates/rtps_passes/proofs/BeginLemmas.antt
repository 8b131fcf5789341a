-- The accounts of pairs in order, before all datagrams: those of one writer after another.
use Rattle.std.proofs.Common.{◌≡◌, ℕ, suc, ◌+◌, ◌-◌, ◌<◌, ◌≤◌, ◌≢◌, List, [], ◌∷◌, ◌++◌, append-nil, get_or, length, map, take, drop, inl, inr, refl, sym, ap, ◌∙◌, subst, arith}
use Rattle.std.specs.Prelude.{flat_map}
use Rattle.std.specs.Cmp.{IsTotalOrder}
use Rattle.std.specs.List.{All, HoldsAt, slice_range}
use Rattle.std.specs.List.Sorted.{IsStrictlySortedBy}
use Rattle.std.specs.Ordering.{ordering_then}
use Rattle.std.specs.declared.cmp.Ordering.{Ordering}
use Rattle.std.specs.declared.cmp.Ordering.TheVariants.{Less, Equal, Greater}
use Rattle.std.proofs.Math.Seq.{get_or-append_seam, take-add}
use Rattle.std.proofs.lemmas.Bool.{cases_lt}
use Rattle.std.proofs.lemmas.Cmp.{on_total, then_total, tied_itself}
use Rattle.std.proofs.lemmas.Grind.{flat_map-append}
use Rattle.std.proofs.lemmas.List.{get_or_append_left, get_or-drop, get_or-map, get_or-take, length-append, length-map, length-take}
use Rattle.std.proofs.lemmas.List.Elements.{All-nil, All-push}
use Rattle.std.proofs.lemmas.Map.Keys.{Less-from_sorted, sorted_from_all_adjacent}
use Rattle.rtps_ids.specs.declared.identity.Guid.{Guid}
use Rattle.rtps_discovery.proofs.Offered.{exact_guids, guids_total}
use Rattle.rtps_discovery.specs.GuidOrder.{guid_cmp}
use Rattle.rtps_discovery.specs.Listings.{pair_cmp}
use Rattle.rtps_discovery.specs.declared.matching.Pair.{Pair}
use Rattle.rtps_audit.proofs.Offered.{no_pair}
use Rattle.rtps_passes.specs.Judging as judging
use Rattle.rtps_passes.specs.declared.judged_writer.JudgedWriter.{JudgedWriter}
use Rattle.rtps_passes.proofs.PlaceLemmas.{key_below}

pub pairs_total : IsTotalOrder pair_cmp
pairs_total = then_total (on_total (λ (pair : Pair). pair.writer) guids_total) (on_total (λ (pair : Pair). pair.reader) guids_total)

-- ---- pairs of one writer

-- pairs in order are so from one place to another
pub range_in_order : (pairs : List Pair) (start end : ℕ) → end ≤ length pairs → IsStrictlySortedBy pair_cmp pairs → IsStrictlySortedBy pair_cmp (slice_range pairs start end)
range_in_order pairs start end within sorted = sorted_from_all_adjacent pairs_total (slice_range pairs start end) no_pair (λ k lt.
    let long = length-take (end - start) (drop start pairs) in
    let last : k + 1 < end - start = omega (arith, lt, long) in
    let first : k < end - start = omega arith in
    let here = get_or-take (end - start) (drop start pairs) k no_pair first ∙ get_or-drop start pairs k no_pair in
    let next = get_or-take (end - start) (drop start pairs) (k + 1) no_pair last ∙ get_or-drop start pairs (k + 1) no_pair in
    subst (λ (a : Pair). pair_cmp a (get_or (slice_range pairs start end) (k + 1) no_pair) ≡ Less) (sym here)
    (subst (λ (b : Pair). pair_cmp (get_or pairs (start + k) no_pair) b ≡ Less) (sym next) (Less-from_sorted pair_cmp pairs (start + k) (start + (k + 1)) no_pair sorted (omega arith) (omega arith))))

-- of pairs of one writer the readers are in order
pub readers_in_order : (writer : Guid) (pairs : List Pair) → All (λ (pair : Pair). pair.writer ≡ writer) pairs → IsStrictlySortedBy pair_cmp pairs → IsStrictlySortedBy guid_cmp (map (λ (pair : Pair). pair.reader) pairs)
readers_in_order writer pairs of sorted = sorted_from_all_adjacent guids_total (map (λ (pair : Pair). pair.reader) pairs) no_pair.reader (λ k lt.
    let long = length-map pairs (λ (pair : Pair). pair.reader) in
    let first : k < length pairs = omega arith in
    let last : k + 1 < length pairs = omega arith in
    let one = get_or pairs k no_pair in
    let two = get_or pairs (k + 1) no_pair in
    subst (λ (a : Guid). guid_cmp a (get_or (map (λ (pair : Pair). pair.reader) pairs) (k + 1) no_pair.reader) ≡ Less) (sym (get_or-map (λ (pair : Pair). pair.reader) pairs k no_pair no_pair.reader first))
    (subst (λ (b : Guid). guid_cmp one.reader b ≡ Less) (sym (get_or-map (λ (pair : Pair). pair.reader) pairs (k + 1) no_pair no_pair.reader last))
    (by_reader one two (of k no_pair first) (of (k + 1) no_pair last) (Less-from_sorted pair_cmp pairs k (k + 1) no_pair sorted (omega arith) last))))
  where
    by_reader : (one two : Pair) → one.writer ≡ writer → two.writer ≡ writer → pair_cmp one two ≡ Less → guid_cmp one.reader two.reader ≡ Less
    by_reader one two its other less =
        let tied : guid_cmp one.writer two.writer ≡ Equal = ap (λ (w : Guid). guid_cmp w two.writer) its ∙ ap (λ (w : Guid). guid_cmp writer w) other ∙ tied_itself guids_total writer in
        sym (ap (λ o. ordering_then o (guid_cmp one.reader two.reader)) tied) ∙ less

-- pairs of one writer are that writer with each reader
pub pairs_with : (writer : Guid) (pairs : List Pair) → All (λ (pair : Pair). pair.writer ≡ writer) pairs → map (judging.pair_with writer) (map (λ (pair : Pair). pair.reader) pairs) ≡ pairs
pairs_with writer [] of = refl
pairs_with writer (pair ∷ pairs) of =
    ap (λ (w : Guid). judging.pair_with w pair.reader ∷ map (judging.pair_with writer) (map (λ (pair : Pair). pair.reader) pairs)) (sym (of 0 pair (omega arith)))
    ∙ ap (λ l. pair ∷ l) (pairs_with writer pairs (λ k d lt. of (suc k) d (omega arith)))

-- the writer of the next pair is above, where it is another
pub writer_below : (pairs : List Pair) (start end : ℕ) (d : Pair) → IsStrictlySortedBy pair_cmp pairs → start < end → end < length pairs → (get_or pairs end d).writer ≢ (get_or pairs start d).writer → guid_cmp (get_or pairs start d).writer (get_or pairs end d).writer ≡ Less
writer_below pairs start end d sorted lt within apart =
    let one = get_or pairs start d in
    let two = get_or pairs end d in
    by_order (guid_cmp one.writer two.writer) (guid_cmp one.reader two.reader) (λ e. apart (sym (exact_guids one.writer two.writer e))) (Less-from_sorted pair_cmp pairs start end d sorted lt within)
  where
    by_order : (o p : Ordering) → (o ≡ Equal → ⊥) → ordering_then o p ≡ Less → o ≡ Less
    by_order Less p differs e = refl
    by_order Equal p differs e = absurd (differs refl)
    by_order Greater p differs e = e

-- ---- one writer after another

-- the accounts are of the pairs up to a place, and their writers are below the one there
pub record AreBegun (from : ℕ) (pairs : List Pair) (start : ℕ) (writers : List JudgedWriter) : Type 0 where
  pub taken : judging.HaveTakenIn from 0 (take start pairs) [] [] writers
  pub below : (k : ℕ) (d : JudgedWriter) (e : Pair) → k + 1 ≡ length writers → start < length pairs → guid_cmp (get_or writers k d).writer (get_or pairs start e).writer ≡ Less

pub none_begun : (from : ℕ) (pairs : List Pair) (writers : List JudgedWriter) → writers ≡ [] → AreBegun from pairs 0 writers
none_begun from pairs writers empty = subst (λ l. AreBegun from pairs 0 l) (sym empty) (record {
  taken = record { pairs_are = refl; in_order = sorted_from_all_adjacent guids_total [] no_pair.writer (λ k lt. absurd (omega arith)); each = All-nil _ };
  below = λ k d e last within. absurd (omega arith);
})

pub more_begun : (from : ℕ) (pairs : List Pair) (start end : ℕ) (old new : List JudgedWriter) (one : JudgedWriter) (writer : Guid) → new ≡ old ++ one ∷ [] → start < end → end ≤ length pairs → one.writer ≡ writer → ((d : Pair) → (get_or pairs start d).writer ≡ writer)
    → judging.pairs_of one ≡ slice_range pairs start end → judging.HasTakenIn from 0 [] [] one → (end < length pairs → HoldsAt (λ (pair : Pair). pair.writer ≢ writer) pairs end) → IsStrictlySortedBy pair_cmp pairs
    → AreBegun from pairs start old → AreBegun from pairs end new
more_begun from pairs start end old new one writer is lt within its first are taken next sorted known = subst (λ l. AreBegun from pairs end l) (sym is) (record {
  taken = record {
    pairs_are = flat_map-append judging.pairs_of old (one ∷ []) ∙ ap (λ l. l ++ flat_map judging.pairs_of (one ∷ [])) known.taken.pairs_are ∙ ap (λ l. take start pairs ++ l) (append-nil (judging.pairs_of one) ∙ are) ∙ joined;
    in_order = sorted_from_all_adjacent guids_total (map writer_of (old ++ one ∷ [])) no_pair.writer adjacent;
    each = All-push (judging.HasTakenIn from 0 [] []) old one known.taken.each taken;
  };
  below = λ k d e last far.
      let count = length-append old (one ∷ []) in
      let at : k ≡ length old = omega (arith, last, count) in
      let begin : start < length pairs = omega arith in
      let here : get_or (old ++ one ∷ []) k d ≡ one = ap (λ i. get_or (old ++ one ∷ []) i d) at ∙ get_or-append_seam old one [] d in
      subst (λ (w : JudgedWriter). guid_cmp w.writer (get_or pairs end e).writer ≡ Less) (sym here)
      (subst (λ (w : Guid). guid_cmp w (get_or pairs end e).writer ≡ Less) (first e ∙ sym its) (writer_below pairs start end e sorted lt far (λ same. next far e (same ∙ first e))));
})
  where
    writer_of : JudgedWriter → Guid
    writer_of w = w.writer

    joined : take start pairs ++ slice_range pairs start end ≡ take end pairs
    joined = let whole : start + (end - start) ≡ end = omega arith in sym (take-add start (end - start) pairs) ∙ ap (λ n. take n pairs) whole

    at : (k : ℕ) (d : JudgedWriter) → k < length (old ++ one ∷ []) → get_or (map writer_of (old ++ one ∷ [])) k no_pair.writer ≡ (get_or (old ++ one ∷ []) k d).writer
    at k d lt = get_or-map writer_of (old ++ one ∷ []) k d no_pair.writer lt

    adjacent : (k : ℕ) → k + 1 < length (map writer_of (old ++ one ∷ [])) → guid_cmp (get_or (map writer_of (old ++ one ∷ [])) k no_pair.writer) (get_or (map writer_of (old ++ one ∷ [])) (k + 1) no_pair.writer) ≡ Less
    adjacent k far =
        let long = length-map (old ++ one ∷ []) writer_of in
        let count = length-append old (one ∷ []) in
        let far' : k + 1 < length (old ++ one ∷ []) = omega (arith, long) in
        let near : k < length (old ++ one ∷ []) = omega arith in
        let inside : k < length old = omega (arith, count) in
        subst (λ (a : Guid). guid_cmp a (get_or (map writer_of (old ++ one ∷ [])) (k + 1) no_pair.writer) ≡ Less) (sym (at k one near ∙ ap writer_of (get_or_append_left old (one ∷ []) one k inside)))
        (subst (λ (b : Guid). guid_cmp (get_or old k one).writer b ≡ Less) (sym (at (k + 1) one far'))
        (elim (cases_lt (k + 1) (length old)) [
          | inl before ↦ subst (λ (w : JudgedWriter). guid_cmp (get_or old k one).writer w.writer ≡ Less) (sym (get_or_append_left old (one ∷ []) one (k + 1) before)) (key_below writer_of old known.taken.in_order k (k + 1) one (omega arith) before)
          | inr ge ↦
              let end_is : k + 1 ≡ length old = omega (arith, count) in
              let there : get_or (old ++ one ∷ []) (k + 1) one ≡ one = ap (λ i. get_or (old ++ one ∷ []) i one) end_is ∙ get_or-append_seam old one [] one in
              subst (λ (w : JudgedWriter). guid_cmp (get_or old k one).writer w.writer ≡ Less) (sym there)
              (subst (λ (w : Guid). guid_cmp (get_or old k one).writer w ≡ Less) (first no_pair ∙ sym its) (known.below k one no_pair end_is (omega arith)))
        ]))
