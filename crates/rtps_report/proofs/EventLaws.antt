-- Each row that someone has to look at is of one event, and events lost as many numbers as these rows.
use Rattle.std.proofs.Common.{◌≡◌, ◌∙◌, ℕ, ◌+◌, Bool, true, false, cond, not, is_some, List, [], ◌∷◌, Option, Some, None, ap, arith, filter, map, nat_lt, refl, sum_by, sym}
use Rattle.std.proofs.lemmas.List.Sums.{sum_by-cons}
use Rattle.rtps_evidence.specs.Kinds as kinds
use Rattle.rtps_report.specs.Asked as asked
use Rattle.rtps_report.specs.Events as events_spec
use Rattle.rtps_report.specs.Talk as talk
use Rattle.rtps_evidence.specs.Explanation as explanation
use Rattle.rtps_report.specs.declared.event_rows.EventKey.{EventKey}
use Rattle.rtps_report.proofs.EventLemmas.{key-refl, key-sym, same_key}
use Rattle.rtps_report.proofs.EventOrder.{less_is, worst_sorted}

-- ---- sums

abbrev total : {X : Type 0} → (X → ℕ) → List X → ℕ
total f [] = 0
total f (x ∷ xs) = f x + total f xs

sum_is : {X : Type 0} (f : X → ℕ) (xs : List X) → sum_by f xs ≡ total f xs
sum_is f [] = refl
sum_is f (x ∷ xs) = sum_by-cons f x xs ∙ ap (λ n. f x + n) (sum_is f xs)

total-map : {X Y : Type 0} (f : Y → ℕ) (g : X → Y) (xs : List X) → total f (map g xs) ≡ total (λ x. f (g x)) xs
total-map f g [] = refl
total-map f g (x ∷ xs) = ap (λ n. f (g x) + n) (total-map f g xs)

by_placing : (b : Bool) (f : events_spec.EventValue → ℕ) (event other : events_spec.EventValue) (others placed_others : List events_spec.EventValue) → total f placed_others ≡ f event + total f others
    → total f (cond b (other ∷ placed_others) (event ∷ other ∷ others)) ≡ f event + (f other + total f others)
by_placing true f event other others placed_others behind = omega (arith, behind)
by_placing false f event other others placed_others behind = refl

placed_total : (f : events_spec.EventValue → ℕ) (event : events_spec.EventValue) (events : List events_spec.EventValue) → total f (events_spec.placed event events) ≡ f event + total f events
placed_total f event [] = refl
placed_total f event (other ∷ others) = by_placing (nat_lt event.numbers other.numbers) f event other others (events_spec.placed event others) (placed_total f event others)

worst_total : (f : events_spec.EventValue → ℕ) (events : List events_spec.EventValue) → total f (events_spec.worst_first events) ≡ total f events
worst_total f [] = refl
worst_total f (event ∷ events) = placed_total f event (events_spec.worst_first events) ∙ ap (λ n. f event + n) (worst_total f events)

-- ---- how often a key is there

abbrev one_of : EventKey → EventKey → ℕ
one_of key other = cond (events_spec.is_key other key) 1 0

-- the keys that are not this one
abbrev without : EventKey → List EventKey → List EventKey
without k keys = filter (λ other. not (events_spec.is_key k other)) keys

none_step : (k key other : EventKey) (b : Bool) → events_spec.is_key k other ≡ b → events_spec.is_key k key ≡ true → (rest : List EventKey) → total (one_of key) rest ≡ 0
    → total (one_of key) (cond (not b) (other ∷ rest) rest) ≡ 0
none_step k key other true is same rest none = none
none_step k key other false is same rest none =
    let off : events_spec.is_key other key ≡ false = ap (events_spec.is_key other) (sym (same_key k key same)) ∙ key-sym other k ∙ is in
    ap (λ (b : Bool). cond b 1 0 + total (one_of key) rest) off ∙ omega (arith, none)

none_left : (k key : EventKey) → events_spec.is_key k key ≡ true → (keys : List EventKey) → total (one_of key) (without k keys) ≡ 0
none_left k key same [] = refl
none_left k key same (other ∷ keys) = none_step k key other (events_spec.is_key k other) refl same (without k keys) (none_left k key same keys)

all_step : (k key other : EventKey) (b : Bool) → events_spec.is_key k other ≡ b → events_spec.is_key k key ≡ false → (rest keys : List EventKey) → total (one_of key) rest ≡ total (one_of key) keys
    → total (one_of key) (cond (not b) (other ∷ rest) rest) ≡ one_of key other + total (one_of key) keys
all_step k key other true is differs rest keys same =
    let off : events_spec.is_key other key ≡ false = ap (λ one. events_spec.is_key one key) (sym (same_key k other is)) ∙ differs in
    same ∙ omega arith ∙ ap (λ (b : Bool). cond b 1 0 + total (one_of key) keys) (sym off)
all_step k key other false is differs rest keys same = ap (λ n. one_of key other + n) same

all_left : (k key : EventKey) → events_spec.is_key k key ≡ false → (keys : List EventKey) → total (one_of key) (without k keys) ≡ total (one_of key) keys
all_left k key differs [] = refl
all_left k key differs (other ∷ keys) = all_step k key other (events_spec.is_key k other) refl differs (without k keys) keys (all_left k key differs keys)

count_by_test : (b : Bool) (k key : EventKey) (keys : List EventKey) (own : List explanation.ExplanationValue) (row : explanation.ExplanationValue) → events_spec.is_key k key ≡ b
    → total (one_of key) keys ≡ cond (events_spec.has_none own) 0 1 → cond b 1 0 + total (one_of key) (without k keys) ≡ cond (events_spec.has_none (cond b (row ∷ own) own)) 0 1
count_by_test true k key keys own row is before = ap (λ n. 1 + n) (none_left k key is keys)
count_by_test false k key keys own row is before = omega arith ∙ all_left k key is keys ∙ before

count_step : (k : Option EventKey) (key : EventKey) (keys : List EventKey) (own : List explanation.ExplanationValue) (row : explanation.ExplanationValue)
    → total (one_of key) keys ≡ cond (events_spec.has_none own) 0 1 → total (one_of key) (events_spec.before_others k keys) ≡ cond (events_spec.has_none (cond (events_spec.is_that key k) (row ∷ own) own)) 0 1
count_step None key keys own row before = before
count_step (Some k) key keys own row before =
    count_by_test (events_spec.is_key k key) k key keys own row refl before ∙ ap (λ (b : Bool). cond (events_spec.has_none (cond b (row ∷ own) own)) 0 1) (key-sym k key)

count_keys : (talk : talk.TalkValue) (tail : ℕ) (rows : List explanation.ExplanationValue) (key : EventKey)
    → total (one_of key) (events_spec.keys_of talk tail rows) ≡ cond (events_spec.has_none (events_spec.rows_with talk tail rows key)) 0 1
count_keys talk tail [] key = refl
count_keys talk tail (row ∷ rows) key =
    count_step (events_spec.noted_key talk tail row) key (events_spec.keys_of talk tail rows) (events_spec.rows_with talk tail rows key) row (count_keys talk tail rows key)

-- ---- what is summed up by keys

stays_step : (k other : EventKey) (b : Bool) → events_spec.is_key k other ≡ b → (keys rest : List EventKey) → one_of k other + total (one_of k) keys ≡ 0 → rest ≡ keys
    → cond (not b) (other ∷ rest) rest ≡ other ∷ keys
stays_step k other true is keys rest none same =
    let one : events_spec.is_key other k ≡ true = key-sym other k ∙ is in
    let clash : 1 + total (one_of k) keys ≡ 0 = ap (λ (b : Bool). cond b 1 0 + total (one_of k) keys) (sym one) ∙ none in absurd (omega (arith, clash))
stays_step k other false is keys rest none same = ap (λ all. other ∷ all) same

stays : (k : EventKey) (keys : List EventKey) → total (one_of k) keys ≡ 0 → without k keys ≡ keys
stays k [] none = refl
stays k (other ∷ keys) none =
    let behind : total (one_of k) keys ≡ 0 = omega (arith, none) in stays_step k other (events_spec.is_key k other) refl keys (without k keys) none (stays k keys behind)

once_step : (f : EventKey → ℕ) (k other : EventKey) (b : Bool) → events_spec.is_key k other ≡ b → (keys : List EventKey) → one_of k other + total (one_of k) keys ≡ 1
    → (total (one_of k) keys ≡ 1 → f k + total f (without k keys) ≡ total f keys)
    → f k + total f (cond (not b) (other ∷ without k keys) (without k keys)) ≡ f other + total f keys
once_step f k other true is keys one behind =
    let here : events_spec.is_key other k ≡ true = key-sym other k ∙ is in
    let once : 1 + total (one_of k) keys ≡ 1 = ap (λ (b : Bool). cond b 1 0 + total (one_of k) keys) (sym here) ∙ one in
    let none : total (one_of k) keys ≡ 0 = omega (arith, once) in
    ap (λ all. f k + total f all) (stays k keys none) ∙ ap (λ this. f this + total f keys) (same_key k other is)
once_step f k other false is keys one behind =
    let here : events_spec.is_key other k ≡ false = key-sym other k ∙ is in
    let once : 0 + total (one_of k) keys ≡ 1 = ap (λ (b : Bool). cond b 1 0 + total (one_of k) keys) (sym here) ∙ one in
    let later : total (one_of k) keys ≡ 1 = omega (arith, once) in
    omega (arith, behind later)

once : (f : EventKey → ℕ) (k : EventKey) (keys : List EventKey) → total (one_of k) keys ≡ 1 → f k + total f (without k keys) ≡ total f keys
once f k [] one = absurd (omega (arith, one))
once f k (other ∷ keys) one = once_step f k other (events_spec.is_key k other) refl keys one (once f k keys)

merged : (f : EventKey → ℕ) (k : EventKey) (keys : List EventKey) (none : Bool) → total (one_of k) keys ≡ cond none 0 1 → (none ≡ true → f k ≡ 0)
    → f k + total f (without k keys) ≡ total f keys
merged f k keys true count zero = ap (λ all. f k + total f all) (stays k keys count) ∙ omega (arith, zero refl)
merged f k keys false count zero = once f k keys count

none_total : (f : explanation.ExplanationValue → ℕ) (own : List explanation.ExplanationValue) → events_spec.has_none own ≡ true → total f own ≡ 0
none_total f [] none = refl
none_total f (row ∷ own) none = absurd (let clash : false ≡ true = none in cc)

-- rows of each key, with one more of this key
abbrev grown : EventKey → explanation.ExplanationValue → (EventKey → List explanation.ExplanationValue) → EventKey → List explanation.ExplanationValue
grown k row own key = cond (events_spec.is_key key k) (row ∷ own key) (own key)

others_step : (f : explanation.ExplanationValue → ℕ) (k other : EventKey) (row : explanation.ExplanationValue) (own : EventKey → List explanation.ExplanationValue) (b : Bool) → events_spec.is_key k other ≡ b → (rest : List EventKey)
    → total (λ key. total f (grown k row own key)) rest ≡ total (λ key. total f (own key)) rest
    → total (λ key. total f (grown k row own key)) (cond (not b) (other ∷ rest) rest) ≡ total (λ key. total f (own key)) (cond (not b) (other ∷ rest) rest)
others_step f k other row own true is rest same = same
others_step f k other row own false is rest same =
    ap (λ (b : Bool). total f (cond b (row ∷ own other) (own other)) + total (λ key. total f (grown k row own key)) rest) (key-sym other k ∙ is)
    ∙ ap (λ n. total f (own other) + n) same

others : (f : explanation.ExplanationValue → ℕ) (k : EventKey) (row : explanation.ExplanationValue) (own : EventKey → List explanation.ExplanationValue) (keys : List EventKey)
    → total (λ key. total f (grown k row own key)) (without k keys) ≡ total (λ key. total f (own key)) (without k keys)
others f k row own [] = refl
others f k row own (other ∷ keys) = others_step f k other row own (events_spec.is_key k other) refl (without k keys) (others f k row own keys)

sum_step : (f : explanation.ExplanationValue → ℕ) (k : Option EventKey) (row : explanation.ExplanationValue) (keys : List EventKey) (own : EventKey → List explanation.ExplanationValue) (noted : List explanation.ExplanationValue)
    → ((key : EventKey) → total (one_of key) keys ≡ cond (events_spec.has_none (own key)) 0 1) → total (λ key. total f (own key)) keys ≡ total f noted
    → total (λ key. total f (cond (events_spec.is_that key k) (row ∷ own key) (own key))) (events_spec.before_others k keys) ≡ total f (cond (is_some k) (row ∷ noted) noted)
sum_step f None row keys own noted count before = before
sum_step f (Some k) row keys own noted count before =
    ap (λ (b : Bool). total f (cond b (row ∷ own k) (own k)) + total (λ key. total f (grown k row own key)) (without k keys)) (key-refl k)
    ∙ ap (λ n. f row + total f (own k) + n) (others f k row own keys)
    ∙ omega (arith, merged (λ key. total f (own key)) k keys (events_spec.has_none (own k)) (count k) (none_total f (own k)), before)

sum_keys : (f : explanation.ExplanationValue → ℕ) (talk : talk.TalkValue) (tail : ℕ) (rows : List explanation.ExplanationValue)
    → total (λ key. total f (events_spec.rows_with talk tail rows key)) (events_spec.keys_of talk tail rows) ≡ total f (events_spec.noted_among talk tail rows)
sum_keys f talk tail [] = refl
sum_keys f talk tail (row ∷ rows) =
    sum_step f (events_spec.noted_key talk tail row) row (events_spec.keys_of talk tail rows) (events_spec.rows_with talk tail rows) (events_spec.noted_among talk tail rows) (count_keys talk tail rows) (sum_keys f talk tail rows)

-- ---- the law

totals_same : (f g : EventKey → ℕ) → ((key : EventKey) → f key ≡ g key) → (keys : List EventKey) → total f keys ≡ total g keys
totals_same f g same [] = refl
totals_same f g same (key ∷ keys) = ap (λ n. n + total f keys) (same key) ∙ ap (λ n. g key + n) (totals_same f g same keys)

pub events_whole : (asked : asked.AskedValue) (talk : talk.TalkValue) (lost : List kinds.LostValue) (rows : List explanation.ExplanationValue) → events_spec.AreWhole asked talk rows (events_spec.events_by asked talk lost rows)
events_whole asked talk lost rows =
    let found = events_spec.events_in asked talk lost rows in
    let keys = events_spec.keys_of talk asked.tail rows in
    let lose = λ (row : explanation.ExplanationValue). events_spec.numbers_lost asked.from row.evidence in
    record {
      once = λ key.
          let test = λ (event : events_spec.EventValue). cond (events_spec.is_key event.key key) 1 0 in
          sum_is test (events_spec.worst_first found) ∙ worst_total test found ∙ total-map test (events_spec.event_of asked talk lost rows) keys ∙ count_keys talk asked.tail rows key;
      numbers = sum_is (λ (event : events_spec.EventValue). event.numbers) (events_spec.worst_first found) ∙ worst_total (λ (event : events_spec.EventValue). event.numbers) found
          ∙ total-map (λ (event : events_spec.EventValue). event.numbers) (events_spec.event_of asked talk lost rows) keys
          ∙ totals_same (λ key. sum_by lose (events_spec.rows_with talk asked.tail rows key)) (λ key. total lose (events_spec.rows_with talk asked.tail rows key))
          (λ key. sum_is lose (events_spec.rows_with talk asked.tail rows key)) keys
          ∙ sum_keys lose talk asked.tail rows ∙ sym (sum_is lose (events_spec.noted_among talk asked.tail rows));
      falling = λ k d low within. sym (less_is _ _) ∙ worst_sorted found k d low within;
    }
