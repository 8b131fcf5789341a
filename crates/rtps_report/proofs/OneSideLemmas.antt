-- The first topic of endpoints, and the topics of those that are left.
use Rattle.std.proofs.Common.{◌≡◌, ◌+◌, ◌-◌, ◌<◌, ◌∷◌, ◌++◌, [], ◌∙◌, ℕ, Bool, true, false, List, Option, Some, None, add-one, ap, append-nil, append_assoc, arith, drop, drop-drop, get_or, if◌then◌else◌, length, map, refl, suc, sym, take}
use Rattle.std.proofs.Math.Seq.{drop-cons, drop-length}
use Rattle.std.specs.List.{cons_option, filter_map}
use Rattle.std.specs.Option.{option_map}
use Rattle.std.proofs.lemmas.List.{drop-map, map-append, take-map}
use Rattle.rtps_discovery.specs.Endpoint as endpoint
use Rattle.rtps_discovery.specs.declared.endpoint.Endpoint.{Endpoint}
use Rattle.rtps_report.specs.OneSides as one_sides
use Rattle.rtps_report.specs.declared.one_side.OneSided.{OneSided}

-- how many of the endpoints behind a one are of its topic
pub front_of : endpoint.EndpointValue → List endpoint.EndpointValue → ℕ
front_of one [] = 0
front_of one (next ∷ ends) = if one_sides.have_one_topic one next then suc (front_of next ends) else 0

by_test : (same : Bool) (one next : endpoint.EndpointValue) (ends : List endpoint.EndpointValue) (size : ℕ)
    → one_sides.topics_of (next ∷ ends) ≡ (next ∷ take size ends) ∷ one_sides.topics_of (drop size ends)
    → (if same then (one ∷ next ∷ take size ends) ∷ one_sides.topics_of (drop size ends) else (one ∷ []) ∷ (next ∷ take size ends) ∷ one_sides.topics_of (drop size ends))
    ≡ (one ∷ take (if same then suc size else 0) (next ∷ ends)) ∷ one_sides.topics_of (drop (if same then suc size else 0) (next ∷ ends))
by_test true one next ends size behind = refl
by_test false one next ends size behind = ap (λ topics. (one ∷ []) ∷ topics) (sym behind)

pub first_topic : (one : endpoint.EndpointValue) (ends : List endpoint.EndpointValue)
    → one_sides.topics_of (one ∷ ends) ≡ (one ∷ take (front_of one ends) ends) ∷ one_sides.topics_of (drop (front_of one ends) ends)
unfolding front_of
first_topic one [] = refl
first_topic one (next ∷ ends) =
    let behind = first_topic next ends in ap (one_sides.joined one) behind ∙ by_test (one_sides.have_one_topic one next) one next ends (front_of next ends) behind

-- how many of the endpoints from a place on are of the topic of the one before
pub front_at : List Endpoint → ℕ → Endpoint → ℕ
front_at ends place one = front_of (endpoint.endpoint_value one) (map endpoint.endpoint_value (drop place ends))

by_holds : (same which : Bool) (size : ℕ) → same ≡ which → (if same then suc size else 0) ≡ (if which then suc size else 0)
by_holds same which size holds = ap (λ (test : Bool). if test then suc size else 0) holds

-- a one at a place joins the one before
abbrev pub joins_at : List Endpoint → ℕ → Endpoint → Bool
joins_at ends place one = one_sides.have_one_topic (endpoint.endpoint_value (get_or ends (place - 1) one)) (endpoint.endpoint_value (get_or ends place one))

by_step : (ends : List Endpoint) (place : ℕ) (one : Endpoint) → place < length ends
    → front_at ends place (get_or ends (place - 1) one) ≡ (if joins_at ends place one then suc (front_at ends (suc place) (get_or ends place one)) else 0)
unfolding front_at front_of
by_step ends place one within =
    ap (λ left. front_of (endpoint.endpoint_value (get_or ends (place - 1) one)) (map endpoint.endpoint_value left)) (drop-cons ends place one within)

pub front_goes_on : (ends : List Endpoint) (place : ℕ) (one : Endpoint) → place < length ends → joins_at ends place one ≡ true
    → front_at ends place (get_or ends (place - 1) one) ≡ suc (front_at ends (suc place) (get_or ends place one))
front_goes_on ends place one within same =
    by_step ends place one within ∙ by_holds (joins_at ends place one) true (front_at ends (suc place) (get_or ends place one)) same

pub front_ends : (ends : List Endpoint) (place : ℕ) (one : Endpoint) → place < length ends → joins_at ends place one ≡ false
    → front_at ends place (get_or ends (place - 1) one) ≡ 0
front_ends ends place one within same =
    by_step ends place one within ∙ by_holds (joins_at ends place one) false (front_at ends (suc place) (get_or ends place one)) same

-- the front is known where a one does not join, and behind the last
pub known_at : (ends : List Endpoint) (place : ℕ) (one : Endpoint)
    → front_at ends 1 (get_or ends 0 one) + 1 ≡ place + front_at ends place (get_or ends (place - 1) one)
    → front_at ends place (get_or ends (place - 1) one) ≡ 0 → place ≡ suc (front_at ends 1 (get_or ends 0 one))
known_at ends place one sum none = omega (arith, sum, none)

pub known_further : (ends : List Endpoint) (place : ℕ) (one : Endpoint) → 0 < place
    → front_at ends 1 (get_or ends 0 one) + 1 ≡ place + front_at ends place (get_or ends (place - 1) one)
    → front_at ends place (get_or ends (place - 1) one) ≡ suc (front_at ends (suc place) (get_or ends place one))
    → front_at ends 1 (get_or ends 0 one) + 1 ≡ place + 1 + front_at ends (place + 1) (get_or ends (place + 1 - 1) one)
known_further ends place one some sum next =
    let here : place + 1 - 1 ≡ place = omega arith in
    rw here (rw (add-one place) (omega (arith, sum, next)))

-- the first topic is so many ends long
pub cut : (ends : List Endpoint) (size : ℕ) → 0 < length ends → ((one : Endpoint) → size ≡ suc (front_at ends 1 (get_or ends 0 one)))
    → one_sides.topics_of (map endpoint.endpoint_value ends) ≡ map endpoint.endpoint_value (take size ends) ∷ one_sides.topics_of (map endpoint.endpoint_value (drop size ends))
unfolding front_at front_of
cut [] size some known = grind (arith, some)
cut (one ∷ ends) size some known =
    let values = map endpoint.endpoint_value ends in
    let front = front_of (endpoint.endpoint_value one) values in
    first_topic (endpoint.endpoint_value one) values
    ∙ ap (λ topic. (endpoint.endpoint_value one ∷ topic) ∷ one_sides.topics_of (drop front values)) (take-map endpoint.endpoint_value front ends)
    ∙ ap (λ left. map endpoint.endpoint_value (take (suc front) (one ∷ ends)) ∷ one_sides.topics_of left) (drop-map endpoint.endpoint_value front ends)
    ∙ sym (ap (λ size. map endpoint.endpoint_value (take size (one ∷ ends)) ∷ one_sides.topics_of (map endpoint.endpoint_value (drop size (one ∷ ends)))) (known one))

-- nothing is left behind the last one
pub front_at_end : (ends : List Endpoint) (one : Endpoint) → front_at ends (length ends) one ≡ 0
unfolding front_at front_of
front_at_end ends one = ap (λ left. front_of (endpoint.endpoint_value one) (map endpoint.endpoint_value left)) (drop-length ends)

-- a topic that may be one-sided goes to the end of those that are known
onto : (known : List one_sides.OneSidedValue) (one : Option one_sides.OneSidedValue) (left : List one_sides.OneSidedValue) → (known ++ cons_option one []) ++ left ≡ known ++ cons_option one left
onto known (Some one) left = append_assoc known (one ∷ []) left
onto known None left = append_assoc known [] left

-- a step of the loop over topics: the first of the ends that are left is added, if it is one-sided
pub side_more : (P : List endpoint.EndpointValue → Option one_sides.OneSidedValue) (ends rest topic : List Endpoint) (start size : ℕ) (known more all : List one_sides.OneSidedValue) → rest ≡ drop start ends
    → one_sides.topics_of (map endpoint.endpoint_value rest) ≡ map endpoint.endpoint_value (take size rest) ∷ one_sides.topics_of (map endpoint.endpoint_value (drop size rest))
    → topic ≡ take size rest → more ≡ known ++ cons_option (P (map endpoint.endpoint_value topic)) []
    → known ++ filter_map P (one_sides.topics_of (map endpoint.endpoint_value (drop start ends))) ≡ all
    → more ++ filter_map P (one_sides.topics_of (map endpoint.endpoint_value (drop (start + size) ends))) ≡ all
side_more P ends rest topic start size known more all is first same added before =
    let left : List one_sides.OneSidedValue = filter_map P (one_sides.topics_of (map endpoint.endpoint_value (drop (start + size) ends))) in
    ap (λ (those : List one_sides.OneSidedValue). those ++ left) added ∙ onto known (P (map endpoint.endpoint_value topic)) left
    ∙ ap (λ (one : List Endpoint). known ++ cons_option (P (map endpoint.endpoint_value one)) left) same
    ∙ ap (λ (those : List Endpoint). known ++ cons_option (P (map endpoint.endpoint_value (take size rest))) (filter_map P (one_sides.topics_of (map endpoint.endpoint_value those)))) (sym (drop-drop size start ends) ∙ ap (drop size) (sym is))
    ∙ ap (λ (topics : List (List endpoint.EndpointValue)). known ++ filter_map P topics) (sym first)
    ∙ ap (λ (those : List Endpoint). known ++ filter_map P (one_sides.topics_of (map endpoint.endpoint_value those))) is ∙ before

-- those that are found, with one that is found or not
pub one_added : (which : Option one_sides.OneSidedValue) (one : OneSided) (found : Option OneSided) (old new : List OneSided) → found ≡ Some one → option_map one_sides.one_sided_value found ≡ which
    → new ≡ old ++ one ∷ [] → map one_sides.one_sided_value new ≡ map one_sides.one_sided_value old ++ cons_option which []
one_added which one found old new is value added =
    ap (map one_sides.one_sided_value) added ∙ map-append one_sides.one_sided_value old (one ∷ [])
    ∙ ap (λ (those : Option one_sides.OneSidedValue). map one_sides.one_sided_value old ++ cons_option those []) (sym (ap (option_map one_sides.one_sided_value) is) ∙ value)

pub none_added : (which : Option one_sides.OneSidedValue) (found : Option OneSided) (old : List one_sides.OneSidedValue) → found ≡ None → option_map one_sides.one_sided_value found ≡ which → old ≡ old ++ cons_option which []
none_added which found old is value =
    sym (append-nil old) ∙ ap (λ (those : Option one_sides.OneSidedValue). old ++ cons_option those []) (sym (ap (option_map one_sides.one_sided_value) is) ∙ value)
