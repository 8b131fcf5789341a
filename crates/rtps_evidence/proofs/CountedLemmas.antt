-- Answers with their counts, one act of their reader more at a time.
use Rattle.std.proofs.lemmas.Bool.Decides.{nat_tests}
use Rattle.std.proofs.Common.{◌≡◌, ◌∙◌, ℕ, ◌+◌, ◌<◌, ◌≤◌, ◌==◌, ◌&&◌, ◌||◌, Bool, true, false, cond, drop, not, filter, get_or, length, map, take, List, [], ◌∷◌, ◌++◌, Some, None, refl, sym, ap, subst, arith}
use Rattle.std.specs.Prelude.{All}
use Rattle.std.specs.List.{cons_option, filter_map, list_any}
use Rattle.std.proofs.lemmas.List.{append_assoc, map-append, take-append-drop}
use Rattle.std.proofs.lemmas.List.Elements.{All-head, All-tail, filter_map-append, filter_passes}
use Rattle.std.proofs.lemmas.List.Folds.{list_any-append}
use Rattle.rtps_ids.specs.declared.identity.Guid.{Guid}
use Rattle.rtps_discovery.specs.declared.matching.Pair.{Pair}
use Rattle.rtps_receiver.specs.Speech as speech
use Rattle.rtps_receiver.specs.Values as values
use Rattle.rtps_audit.specs.Delivery as delivery
use Rattle.rtps_audit.specs.Placed as placed_spec
use Rattle.rtps_audit.specs.declared.placed.Placed.{Placed}
use Rattle.rtps_audit.proofs.Offered.{greatest-append}
use Rattle.rtps_coverage.specs.Counts as counts
use Rattle.rtps_coverage.proofs.Offered.{count_all, count_none, count_rest, count_same, count_split}
use Rattle.rtps_evidence.specs.CountedAnswers as counted_answers
use Rattle.rtps_evidence.specs.LostAnswers as lost_answers
use Rattle.rtps_evidence.specs.declared.counted_answers.CountedAnswer.{CountedAnswer}
use Rattle.rtps_evidence.specs.declared.counted_answers.FragmentRequests.{FragmentRequests}
use Rattle.rtps_evidence.proofs.PlacedOrder.{AreOrdered, kept_ordered, placed_ordered}
use Rattle.rtps_evidence.proofs.RequestLemmas.{taken_more}

-- ---- in which datagrams a reader asks for fragments alone

-- an act in a datagram that passes
abbrev in_datagram : (placed_spec.PlacedValue → Bool) → ℕ → placed_spec.PlacedValue → Bool
in_datagram test datagram placed = (placed.datagram == datagram) && test placed

same_number : (n : ℕ) → (n == n) ≡ true
same_number n = grind (arith, nat_tests)

other_number : (m n : ℕ) → n < m → (m == n) ≡ false
other_number m n lt = grind (arith, nat_tests)

earlier_number : (m n : ℕ) → m < n → (m == n) ≡ false
earlier_number m n lt = grind (arith, nat_tests)

or_no : (b : Bool) → (b || false) ≡ b
or_no true = refl
or_no false = refl

-- none of what stands up to a datagram stands behind it
none_behind : (test : placed_spec.PlacedValue → Bool) (n : ℕ) (xs : List placed_spec.PlacedValue) → delivery.greatest (map (λ placed. placed.datagram) xs) < n → list_any (in_datagram test n) xs ≡ false
none_behind test n [] lt = refl
none_behind test n (x ∷ xs) lt =
    ap (λ b. (b && test x) || list_any (in_datagram test n) xs) (earlier_number x.datagram n (omega (arith, lt))) ∙ none_behind test n xs (omega (arith, lt))

-- none of what stands from a datagram on stands before it
none_before : (test : placed_spec.PlacedValue → Bool) (low n : ℕ) (xs : List placed_spec.PlacedValue) → AreOrdered low xs → n < low → list_any (in_datagram test n) xs ≡ false
none_before test low n [] ordered lt = refl
none_before test low n (x ∷ xs) (first, rest) lt =
    ap (λ b. (b && test x) || list_any (in_datagram test n) xs) (other_number x.datagram n (omega (arith, first, lt))) ∙ none_before test x.datagram n xs rest (omega (arith, first, lt))

-- with one act more, in its own datagram
here : (test : placed_spec.PlacedValue → Bool) (xs : List placed_spec.PlacedValue) (x : placed_spec.PlacedValue) → list_any (in_datagram test x.datagram) (xs ++ x ∷ []) ≡ (list_any (in_datagram test x.datagram) xs || test x)
here test xs x =
    list_any-append (in_datagram test x.datagram) xs (x ∷ [])
    ∙ ap (λ b. list_any (in_datagram test x.datagram) xs || ((b && test x) || false)) (same_number x.datagram)
    ∙ ap (λ b. list_any (in_datagram test x.datagram) xs || b) (or_no (test x))

-- with more acts from a datagram on, in one before it
before : (test : placed_spec.PlacedValue → Bool) (low n : ℕ) (xs zs : List placed_spec.PlacedValue) → AreOrdered low zs → n < low → list_any (in_datagram test n) (xs ++ zs) ≡ list_any (in_datagram test n) xs
before test low n xs zs ordered lt =
    list_any-append (in_datagram test n) xs zs ∙ ap (λ b. list_any (in_datagram test n) xs || b) (none_before test low n zs ordered lt) ∙ or_no (list_any (in_datagram test n) xs)

-- an ACKNACK of a reader
abbrev ack_nack_of : Guid → placed_spec.PlacedValue → Bool
ack_nack_of reader placed = placed_spec.is_from reader placed && speech.is_ack_nack placed.act.body

-- how many datagrams before one ask for fragments alone is told by what stands before it
pub alone_before : (pair : Pair) (low : ℕ) (xs zs : List placed_spec.PlacedValue) → AreOrdered low zs
    → counts.count_in (lost_answers.asks_for_fragments_alone pair.writer pair.reader (xs ++ zs)) 0 low ≡ counts.count_in (lost_answers.asks_for_fragments_alone pair.writer pair.reader xs) 0 low
alone_before pair low xs zs ordered =
    count_same (lost_answers.asks_for_fragments_alone pair.writer pair.reader (xs ++ zs)) (lost_answers.asks_for_fragments_alone pair.writer pair.reader xs) 0 low
    (λ n up high.
    ap (λ b. b && not (list_any (lost_answers.is_ack_nack_in n pair.reader) (xs ++ zs))) (before (lost_answers.asks_for_fragments pair.writer pair.reader) low n xs zs ordered high)
    ∙ ap (λ b. list_any (lost_answers.asks_for_fragments_in n pair.writer pair.reader) xs && not b) (before (ack_nack_of pair.reader) low n xs zs ordered high))

alone_more : (pair : Pair) (xs : List placed_spec.PlacedValue) (x : placed_spec.PlacedValue) → counts.count_in (lost_answers.asks_for_fragments_alone pair.writer pair.reader (xs ++ x ∷ [])) 0 x.datagram ≡ counts.count_in (lost_answers.asks_for_fragments_alone pair.writer pair.reader xs) 0 x.datagram
alone_more pair xs x = alone_before pair x.datagram xs (x ∷ []) (omega arith, tt)

-- one number has it or has not
one_has : (has : ℕ → Bool) (n : ℕ) (asks answered : Bool) → has n ≡ (asks && not answered) → counts.count_in has n (n + 1) ≡ counted_answers.with_alone asks answered 0
one_has has n asks answered is = by (asks && not answered) is
  where
    only : (k : ℕ) → n ≤ k → k < n + 1 → n ≡ k
    only k low high = omega (arith, low, high)

    by : (b : Bool) → has n ≡ b → counts.count_in has n (n + 1) ≡ cond b (0 + 1) 0
    by true has_it = (let all = count_all has n (n + 1) (λ k low high. ap has (sym (only k low high)) ∙ has_it) in omega (arith, all))
    by false not_it = count_none has n (n + 1) (λ k low high. ap has (sym (only k low high)) ∙ not_it)

-- up to a later datagram
ended_is : (pair : Pair) (xs : List placed_spec.PlacedValue) (requests : FragmentRequests) (datagram : ℕ) → counted_answers.AreRequests pair xs requests → requests.datagram < datagram
    → counted_answers.with_alone requests.asks requests.answers requests.alone ≡ counts.count_in (lost_answers.asks_for_fragments_alone pair.writer pair.reader xs) 0 datagram
ended_is pair xs requests datagram are lt =
    let has : ℕ → Bool = lost_answers.asks_for_fragments_alone pair.writer pair.reader xs in
    let last = requests.datagram in
    let first = count_split has 0 last datagram (omega arith) (omega (arith, lt)) in
    let second = count_split has last (last + 1) datagram (omega arith) (omega (arith, lt)) in
    let own : has last ≡ (requests.asks && not requests.answers) = sym (ap (λ b. b && not requests.answers) are.asks ∙ ap (λ b. list_any (lost_answers.asks_for_fragments_in last pair.writer pair.reader) xs && not b) are.answers) in
    let one = one_has has last requests.asks requests.answers own in
    let rest = count_none has (last + 1) datagram (λ n low high. ap (λ b. b && not (list_any (lost_answers.is_ack_nack_in n pair.reader) xs)) (none_behind (lost_answers.asks_for_fragments pair.writer pair.reader) n xs (let at = are.datagram in omega (arith, low, at)))) in
    let so_far = are.alone in
    let put = more requests.asks requests.answers requests.alone in
    omega (arith, first, second, one, rest, so_far, put)
  where
    more : (asks answered : Bool) (alone : ℕ) → counted_answers.with_alone asks answered alone ≡ alone + counted_answers.with_alone asks answered 0
    more true true alone = omega arith
    more true false alone = omega arith
    more false answered alone = omega arith

reached : (xs : List placed_spec.PlacedValue) (x : placed_spec.PlacedValue) (last : ℕ) → last ≡ delivery.greatest (map (λ placed. placed.datagram) xs) → last ≤ x.datagram → x.datagram ≡ delivery.greatest (map (λ placed. placed.datagram) (xs ++ x ∷ []))
reached xs x last is le =
    let all = ap delivery.greatest (map-append (λ (placed : placed_spec.PlacedValue). placed.datagram) xs (x ∷ [])) ∙ greatest-append (map (λ (placed : placed_spec.PlacedValue). placed.datagram) xs) (x.datagram ∷ []) in
    omega (arith, is, le, all)

-- one act more in the datagram of the last one
pub requests_here : (pair : Pair) (xs : List placed_spec.PlacedValue) (x : placed_spec.PlacedValue) (requests : FragmentRequests) (asks answered : Bool) → x.datagram ≡ requests.datagram → placed_spec.is_from pair.reader x ≡ true
    → asks ≡ (requests.asks || lost_answers.asks_for_fragments pair.writer pair.reader x) → answered ≡ (requests.answers || speech.is_ack_nack x.act.body) → counted_answers.AreRequests pair xs requests
    → counted_answers.AreRequests pair (xs ++ x ∷ []) (record { datagram = x.datagram; asks = asks; answers = answered; alone = requests.alone })
requests_here pair xs x requests asks answered same from asked is_one are = record {
  datagram = reached xs x requests.datagram are.datagram (omega (arith, same));
  asks = asked ∙ ap (λ b. b || lost_answers.asks_for_fragments pair.writer pair.reader x) (are.asks ∙ ap (λ d. list_any (in_datagram (lost_answers.asks_for_fragments pair.writer pair.reader) d) xs) (sym same))
      ∙ sym (here (lost_answers.asks_for_fragments pair.writer pair.reader) xs x);
  answers = is_one ∙ ap (λ b. requests.answers || b) (sym (ap (λ b. b && speech.is_ack_nack x.act.body) from))
      ∙ ap (λ b. b || ack_nack_of pair.reader x) (are.answers ∙ ap (λ d. list_any (in_datagram (ack_nack_of pair.reader) d) xs) (sym same))
      ∙ sym (here (ack_nack_of pair.reader) xs x);
  alone = are.alone ∙ ap (counts.count_in (lost_answers.asks_for_fragments_alone pair.writer pair.reader xs) 0) (sym same) ∙ sym (alone_more pair xs x);
}

-- one in a later datagram
pub requests_there : (pair : Pair) (xs : List placed_spec.PlacedValue) (x : placed_spec.PlacedValue) (requests : FragmentRequests) (asks answered : Bool) (alone : ℕ) → requests.datagram < x.datagram → placed_spec.is_from pair.reader x ≡ true
    → asks ≡ lost_answers.asks_for_fragments pair.writer pair.reader x → answered ≡ speech.is_ack_nack x.act.body → alone ≡ counted_answers.with_alone requests.asks requests.answers requests.alone → counted_answers.AreRequests pair xs requests
    → counted_answers.AreRequests pair (xs ++ x ∷ []) (record { datagram = x.datagram; asks = asks; answers = answered; alone = alone })
requests_there pair xs x requests asks answered alone later from asked is_one put are = record {
  datagram = reached xs x requests.datagram are.datagram (omega (arith, later));
  asks = asked ∙ ap (λ b. b || lost_answers.asks_for_fragments pair.writer pair.reader x) (sym (none_behind (lost_answers.asks_for_fragments pair.writer pair.reader) x.datagram xs (let at = are.datagram in omega (arith, at, later)))) ∙ sym (here (lost_answers.asks_for_fragments pair.writer pair.reader) xs x);
  answers = is_one ∙ sym (ap (λ b. b && speech.is_ack_nack x.act.body) from)
      ∙ ap (λ b. b || ack_nack_of pair.reader x) (sym (none_behind (ack_nack_of pair.reader) x.datagram xs (let at = are.datagram in omega (arith, at, later)))) ∙ sym (here (ack_nack_of pair.reader) xs x);
  alone = put ∙ ended_is pair xs requests x.datagram are later ∙ sym (alone_more pair xs x);
}

-- nothing was said yet
pub none_requested : (pair : Pair) → counted_answers.AreRequests pair [] (record { datagram = 0; asks = false; answers = false; alone = 0 })
none_requested pair = record { datagram = refl; asks = refl; answers = refl; alone = refl }

-- ---- the answers among a reader's acts, one after another

-- what stands in front of an act stands up to its datagram
pub up_to : (low : ℕ) (xs : List placed_spec.PlacedValue) (x : placed_spec.PlacedValue) (ys : List placed_spec.PlacedValue) → AreOrdered low (xs ++ x ∷ ys) → (low ≤ x.datagram) × (delivery.greatest (map (λ placed. placed.datagram) xs) ≤ x.datagram)
up_to low [] x ys (first, rest) = (first, omega arith)
up_to low (y ∷ xs) x ys (first, rest) = let more = up_to y.datagram xs x ys rest in let onward = more.0 in let within = more.1 in (omega (arith, first, onward), omega (arith, onward, within))

-- and what is behind it stands from there on
from_there : (low : ℕ) (xs : List placed_spec.PlacedValue) (x : placed_spec.PlacedValue) (ys : List placed_spec.PlacedValue) → AreOrdered low (xs ++ x ∷ ys) → AreOrdered x.datagram ys
from_there low [] x ys (first, rest) = rest
from_there low (y ∷ xs) x ys (first, rest) = from_there y.datagram xs x ys rest

-- one more, where the requests of the acts up to it are known
pub counted_more : (pair : Pair) (low : ℕ) (xs : List placed_spec.PlacedValue) (x : placed_spec.PlacedValue) (ys : List placed_spec.PlacedValue) (old new : List CountedAnswer) (requests : FragmentRequests) → AreOrdered low (xs ++ x ∷ ys)
    → counted_answers.AreRequests pair (xs ++ x ∷ []) requests → old ≡ filter_map (counted_answers.counted_of pair (xs ++ x ∷ ys)) xs
    → new ≡ old ++ cond (lost_answers.answers pair.writer pair.reader x) (counted_answers.counted_with requests.alone x ∷ []) [] → new ≡ filter_map (counted_answers.counted_of pair (xs ++ x ∷ ys)) (xs ++ x ∷ [])
counted_more pair low xs x ys old new requests ordered are so_far put =
    put ∙ ap (λ l. l ++ cond (lost_answers.answers pair.writer pair.reader x) (counted_answers.counted_with requests.alone x ∷ []) []) so_far
    ∙ ap (λ l. filter_map (counted_answers.counted_of pair (xs ++ x ∷ ys)) xs ++ l) (ap (λ k. cond (lost_answers.answers pair.writer pair.reader x) (counted_answers.counted_with k x ∷ []) []) known ∙ by (lost_answers.answers pair.writer pair.reader x))
    ∙ sym (filter_map-append (counted_answers.counted_of pair (xs ++ x ∷ ys)) xs (x ∷ []))
  where
    last : requests.datagram ≡ x.datagram
    last = are.datagram ∙ sym (reached xs x (delivery.greatest (map (λ (placed : placed_spec.PlacedValue). placed.datagram) xs)) refl (up_to low xs x ys ordered).1)

    total : ℕ
    total = counts.count_in (lost_answers.asks_for_fragments_alone pair.writer pair.reader (xs ++ x ∷ ys)) 0 x.datagram

    known : requests.alone ≡ total
    known =
        are.alone ∙ ap (counts.count_in (lost_answers.asks_for_fragments_alone pair.writer pair.reader (xs ++ x ∷ [])) 0) last
        ∙ alone_more pair xs x ∙ sym (alone_before pair x.datagram xs (x ∷ ys) (omega arith, from_there low xs x ys ordered))

    by : (b : Bool) → cond b (counted_answers.counted_with total x ∷ []) [] ≡ cons_option (cond b (Some (counted_answers.counted_with total x)) None) []
    by true = refl
    by false = refl

-- an act in the midst of those that are kept is one of them
mid_passes : (keeps : placed_spec.PlacedValue → Bool) (xs : List placed_spec.PlacedValue) (x : placed_spec.PlacedValue) (ys : List placed_spec.PlacedValue) → All (λ y. keeps y ≡ true) (xs ++ x ∷ ys) → keeps x ≡ true
mid_passes keeps [] x ys all = All-head (λ y. keeps y ≡ true) x ys all
mid_passes keeps (y ∷ xs) x ys all = mid_passes keeps xs x ys (All-tail (λ y. keeps y ≡ true) y (xs ++ x ∷ ys) all)

-- acts with the one at a place
pub split_at : (acts : List Placed) (i : ℕ) (x : Placed) → i < length acts → x ≡ get_or acts i x → map placed_spec.placed_value acts ≡ map placed_spec.placed_value (take i acts) ++ placed_spec.placed_value x ∷ map placed_spec.placed_value (drop (i + 1) acts)
split_at acts i x lt at =
    ap (map placed_spec.placed_value) (sym (take-append-drop (i + 1) acts)) ∙ map-append placed_spec.placed_value (take (i + 1) acts) (drop (i + 1) acts)
    ∙ ap (λ l. l ++ map placed_spec.placed_value (drop (i + 1) acts)) (taken_more acts i x lt at) ∙ append_assoc (map placed_spec.placed_value (take i acts)) (placed_spec.placed_value x ∷ []) (map placed_spec.placed_value (drop (i + 1) acts))

-- which is kept as they are
pub own_at : (keeps : placed_spec.PlacedValue → Bool) (acts : List Placed) (i : ℕ) (x : Placed) (placed : List placed_spec.PlacedValue) → map placed_spec.placed_value acts ≡ filter keeps placed → i < length acts → x ≡ get_or acts i x → keeps (placed_spec.placed_value x) ≡ true
own_at keeps acts i x placed is lt at =
    mid_passes keeps (map placed_spec.placed_value (take i acts)) (placed_spec.placed_value x) (map placed_spec.placed_value (drop (i + 1) acts))
    (subst (All (λ y. keeps y ≡ true)) (sym is ∙ split_at acts i x lt at) (filter_passes keeps placed))

-- what is kept of the acts so far
pub record AreCountedSoFar (pair : Pair) (all xs : List placed_spec.PlacedValue) (so_far : FragmentRequests) (list : List CountedAnswer) : Type 0 where
  pub requests : counted_answers.AreRequests pair xs so_far
  pub counted : list ≡ filter_map (counted_answers.counted_of pair all) xs

-- where an act stands among those of a reader
pub record IsAmongOwn (pair : Pair) (xs : List placed_spec.PlacedValue) (x : placed_spec.PlacedValue) (ys : List placed_spec.PlacedValue) : Type 0 where
  pub ordered : AreOrdered 1 (xs ++ x ∷ ys)
  pub own : placed_spec.is_from pair.reader x ≡ true

pub among_own : (pair : Pair) (recording : List (List values.ActValue)) (all xs : List placed_spec.PlacedValue) (x : placed_spec.PlacedValue) (ys : List placed_spec.PlacedValue) → all ≡ filter (placed_spec.is_from pair.reader) (placed_spec.placed_in recording) → all ≡ xs ++ x ∷ ys → IsAmongOwn pair xs x ys
among_own pair recording all xs x ys is split =
    let same : filter (placed_spec.is_from pair.reader) (placed_spec.placed_in recording) ≡ xs ++ x ∷ ys = sym is ∙ split in
    record {
      ordered = subst (AreOrdered 1) same (kept_ordered (placed_spec.is_from pair.reader) 1 (placed_spec.placed_in recording) (placed_ordered 0 recording));
      own = mid_passes (placed_spec.is_from pair.reader) xs x ys (subst (All (λ y. placed_spec.is_from pair.reader y ≡ true)) same (filter_passes (placed_spec.is_from pair.reader) (placed_spec.placed_in recording)));
    }

pub counted_on : (pair : Pair) (all xs : List placed_spec.PlacedValue) (x : placed_spec.PlacedValue) (ys : List placed_spec.PlacedValue) (old new : List CountedAnswer) (before requests : FragmentRequests) → all ≡ xs ++ x ∷ ys → IsAmongOwn pair xs x ys
    → AreCountedSoFar pair all xs before old → (before.datagram ≤ x.datagram → counted_answers.AreRequests pair (xs ++ x ∷ []) requests)
    → new ≡ old ++ cond (lost_answers.answers pair.writer pair.reader x) (counted_answers.counted_with requests.alone x ∷ []) [] → AreCountedSoFar pair all (xs ++ x ∷ []) requests new
counted_on pair all xs x ys old new before requests split among so_far goes_on put =
    let onward = (up_to 1 xs x ys among.ordered).1 in
    let at = so_far.requests.datagram in
    let are = goes_on (omega (arith, at, onward)) in
    record {
      requests = are;
      counted = subst (λ l. new ≡ filter_map (counted_answers.counted_of pair l) (xs ++ x ∷ [])) (sym split)
          (counted_more pair 1 xs x ys old new requests among.ordered are (subst (λ l. old ≡ filter_map (counted_answers.counted_of pair l) xs) split so_far.counted) put);
    }

-- they are no more than the datagrams up to there
pub few_alone : (pair : Pair) (xs : List placed_spec.PlacedValue) (requests : FragmentRequests) → counted_answers.AreRequests pair xs requests → requests.alone ≤ requests.datagram
few_alone pair xs requests are =
    let has : ℕ → Bool = lost_answers.asks_for_fragments_alone pair.writer pair.reader xs in
    let rest = count_rest has (λ n. true) 0 requests.datagram (λ n is. refl) in
    let all = count_all (λ n. true) 0 requests.datagram (λ n low high. refl) in
    let known = are.alone in
    omega (arith, rest, all, known)
