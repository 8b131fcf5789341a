-- A writer's matches are among the readers that ask for no more than it offers.
use Rattle.std.proofs.Common.{◌≡◌, ◌<◌, ◌+◌, ◌*◌, ◌/◌, ◌%◌, ℕ, Bool, true, false, List, [], ◌++◌, length, take, get_or, map, filter, refl, sym, ◌∙◌, ap, cond, arith}
use Rattle.std.specs.List.{list_any}
use Rattle.std.proofs.lemmas.Cmp.{nat_eq_equiv, nat_list_cmp_total}
use Rattle.std.proofs.lemmas.List.Folds.{list_any_at}
use Rattle.std.proofs.lemmas.List.Kept.{IsSortedBy-filter}
use Rattle.std.proofs.lemmas.List.MinMax.{ranks_by}
use Rattle.rtps_discovery.specs.Endpoint as endpoint_spec
use Rattle.rtps_discovery.specs.Matching as matching
use Rattle.rtps_discovery.specs.Offers as offers
use Rattle.rtps_discovery.specs.TopicIndex as topic_index
use Rattle.rtps_discovery.specs.declared.endpoint.Durability.{Durability}
use Rattle.rtps_discovery.specs.declared.endpoint.Endpoint.{Endpoint}
use Rattle.rtps_discovery.specs.declared.endpoint.Reliability.{Reliability}
use Rattle.rtps_discovery.specs.declared.endpoint.Side.{Side}
use Rattle.rtps_discovery.specs.declared.matching.Match.{Match}
use Rattle.rtps_discovery.proofs.Listing.{filter-map, filter_swap, filter_within, listed, listed_more, matches_of-readers}
use Rattle.rtps_discovery.proofs.Matched.{is_match_decides, le_decides}

-- the two ranks in the number of an offer
ranks : (reliability : Reliability) (durability : Durability)
    → ((4 * matching.reliability_rank reliability + matching.durability_rank durability) / 4 ≡ matching.reliability_rank reliability)
    × ((4 * matching.reliability_rank reliability + matching.durability_rank durability) % 4 ≡ matching.durability_rank durability)
ranks Reliability.BestEffort Durability.Volatile = (refl, refl)
ranks Reliability.BestEffort Durability.TransientLocal = (refl, refl)
ranks Reliability.BestEffort Durability.Transient = (refl, refl)
ranks Reliability.BestEffort Durability.Persistent = (refl, refl)
ranks Reliability.Reliable Durability.Volatile = (refl, refl)
ranks Reliability.Reliable Durability.TransientLocal = (refl, refl)
ranks Reliability.Reliable Durability.Transient = (refl, refl)
ranks Reliability.Reliable Durability.Persistent = (refl, refl)

-- what matches asks for no more
match_asks : (writer reader : Endpoint) → matching.is_match (endpoint_spec.endpoint_value writer) (endpoint_spec.endpoint_value reader) ≡ true → offers.asks_within (offers.offer_of writer) reader ≡ true
match_asks writer reader e =
    let matches = (is_match_decides (endpoint_spec.endpoint_value writer) (endpoint_spec.endpoint_value reader)).0 e in
    let both = ranks writer.reliability writer.durability in
    rw (
      both.0,
      both.1,
      (le_decides (matching.reliability_rank reader.reliability) (matching.reliability_rank writer.reliability)).1 matches.reliable_enough,
      (le_decides (matching.durability_rank reader.durability) (matching.durability_rank writer.durability)).1 matches.durable_enough,
    ) refl

-- a writer among endpoints makes its offer
made : (endpoints : List Endpoint) (i : ℕ) (d : Endpoint) → i < length endpoints → (get_or endpoints i d).side ≡ Side.Writer
    → list_any (offers.makes (offers.offer_of (get_or endpoints i d))) endpoints ≡ true
made endpoints i d lt writer = list_any_at (offers.makes (offers.offer_of (get_or endpoints i d))) endpoints i d lt (rw (writer, nat_eq_equiv.refl (offers.offer_of (get_or endpoints i d))) refl)

-- they are sorted as the readers are
pub by_topic : (endpoints readers : List Endpoint) (offer : ℕ) → topic_index.IsByTopic readers → topic_index.IsByTopic (offers.readers_within endpoints readers offer)
by_topic endpoints readers offer h = kept (list_any (offers.makes offer) endpoints)
  where
    kept : (b : Bool) → topic_index.IsByTopic (cond b (filter (offers.asks_within offer) readers) [])
    kept true = IsSortedBy-filter _ (ranks_by nat_list_cmp_total (λ (reader : Endpoint). reader.topic.now)) (offers.asks_within offer) readers h
    kept false = λ k d le lt. absurd (omega arith)

typed : (endpoints readers : List Endpoint) (offer : ℕ) (writer : Endpoint) → topic_index.IsByTypeInTopics readers → topic_index.IsByType (filter (topic_index.has_topic writer.topic.now) (offers.readers_within endpoints readers offer))
typed endpoints readers offer writer h = kept (list_any (offers.makes offer) endpoints)
  where
    kept : (b : Bool) → topic_index.IsByType (filter (topic_index.has_topic writer.topic.now) (cond b (filter (offers.asks_within offer) readers) []))
    kept true =
        rw (filter_swap (topic_index.has_topic writer.topic.now) (offers.asks_within offer) readers)
        (IsSortedBy-filter _ (ranks_by nat_list_cmp_total (λ (reader : Endpoint). reader.type_name.now)) (offers.asks_within offer) (filter (topic_index.has_topic writer.topic.now) readers) (h writer))
    kept false = λ k d le lt. absurd (omega arith)

pub by_type : (endpoints readers : List Endpoint) (offer i : ℕ) (d : Endpoint) (found : List Endpoint) → topic_index.IsByTypeInTopics readers
    → found ≡ filter (topic_index.has_topic (get_or endpoints i d).topic.now) (offers.readers_within endpoints readers offer) → topic_index.IsByType found
by_type endpoints readers offer i d found h is = rw is (typed endpoints readers offer (get_or endpoints i d) h)

-- the matches of a writer are those among the readers of its topic and its type that ask for no more than it offers
matches_of-within : (endpoints readers : List Endpoint) (writer : Endpoint) → list_any (offers.makes (offers.offer_of writer)) endpoints ≡ true → topic_index.KeepsTypes (topic_index.readers_among endpoints) readers
    → matching.matches_of (endpoint_spec.endpoint_value writer) (map endpoint_spec.endpoint_value (filter (topic_index.has_type writer.type_name.now) (filter (topic_index.has_topic writer.topic.now) (offers.readers_within endpoints readers (offers.offer_of writer)))))
    ≡ matching.matches_of (endpoint_spec.endpoint_value writer) (map endpoint_spec.endpoint_value endpoints)
matches_of-within endpoints readers writer makes_it kept =
    let test = λ (endpoint : Endpoint). matching.is_match (endpoint_spec.endpoint_value writer) (endpoint_spec.endpoint_value endpoint) in
    let of_type = topic_index.has_type writer.type_name.now in
    let of_topic = topic_index.has_topic writer.topic.now in
    let asks = offers.asks_within (offers.offer_of writer) in
    rw makes_it (ap (map (matching.match_of (endpoint_spec.endpoint_value writer)))
    (filter-map (matching.is_match (endpoint_spec.endpoint_value writer)) endpoint_spec.endpoint_value (filter of_type (filter of_topic (filter asks readers)))
    ∙ ap (map endpoint_spec.endpoint_value) (ap (λ xs. filter test (filter of_type xs)) (filter_swap of_topic asks readers)
    ∙ ap (filter test) (filter_swap of_type asks (filter of_topic readers))
    ∙ filter_within test asks (match_asks writer) (filter of_type (filter of_topic readers)))
    ∙ sym (filter-map (matching.is_match (endpoint_spec.endpoint_value writer)) endpoint_spec.endpoint_value (filter of_type (filter of_topic readers))))
    ∙ matches_of-readers endpoints readers writer kept)

-- a turn at a writer
pub listed_writer : (endpoints readers : List Endpoint) (i : ℕ) (d : Endpoint) (before after : List Match) (found : List Endpoint) → i < length endpoints
    → (get_or endpoints i d).side ≡ Side.Writer → topic_index.KeepsTypes (topic_index.readers_among endpoints) readers
    → found ≡ filter (topic_index.has_type (get_or endpoints i d).type_name.now) (filter (topic_index.has_topic (get_or endpoints i d).topic.now) (offers.readers_within endpoints readers (offers.offer_of (get_or endpoints i d))))
    → before ≡ listed endpoints (take i endpoints) → after ≡ before ++ matching.matches_of (endpoint_spec.endpoint_value (get_or endpoints i d)) (map endpoint_spec.endpoint_value found)
    → after ≡ listed endpoints (take (i + 1) endpoints)
listed_writer endpoints readers i d before after found lt side kept among was is =
    rw (is, was, among, matches_of-within endpoints readers (get_or endpoints i d) (made endpoints i d lt side) kept) (sym (listed_more endpoints i d lt))
