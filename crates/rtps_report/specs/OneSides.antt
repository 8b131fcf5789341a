-- Topics that have writers alone, or readers alone. DDS 1.4, 2.2.2 "DCPS PIM": data passes where both are. own: an endpoint whose announcements differ is of no
-- topic for certain, so those that are settled are asked.
use Rattle.std.specs.Prelude.{ℕ, ◌≡◌, ◌&&◌, ◌||◌, ◌==◌, Bool, true, false, if◌then◌else◌, List, [], ◌∷◌, Option, Some, None, IsPermutation, IsSorted, length, map}
use Rattle.std.specs.Cmp.Lexicographic.{slice_cmp}
use Rattle.std.specs.List.{filter_map, list_all, list_any}
use Rattle.std.specs.List.Sorted.{IsStable}
use Rattle.std.specs.Ordering.{nat_cmp}
use Rattle.std.specs.Str.{bytes_eq}
use Rattle.std.specs.declared.cmp.Ordering.{Ordering}
use Rattle.rtps_ids.specs.declared.identity.Guid.{Guid}
use Rattle.rtps_discovery.specs.Directory as directory_spec
use Rattle.rtps_discovery.specs.Endpoint as endpoint
use Rattle.rtps_discovery.specs.declared.endpoint.Endpoint.{Endpoint}
use Rattle.rtps_discovery.specs.declared.endpoint.Side.{Side}
use Rattle.rtps_who.specs.Samples as samples
use Rattle.rtps_report.specs.Asked as asked
use Rattle.rtps_report.specs.Rows as rows
use Rattle.rtps_report.specs.Talk as talk_spec
use Rattle.rtps_report.specs.declared.one_side.OneSided.{OneSided}

-- a topic, and on which side its endpoints are
pub record OneSidedValue : Type 0 where
  pub topic : List ℕ
  pub side : Side

-- that of the code, as a value
abbrev pub one_sided_value : OneSided → OneSidedValue
one_sided_value one = record { topic = one.topic.now; side = one.side }

-- ---- endpoints by topic

-- by topic, octet by octet
abbrev pub topic_cmp : Endpoint → Endpoint → Ordering
topic_cmp one other = slice_cmp nat_cmp one.topic.now other.topic.now

-- these are the endpoints by topic; those of one topic stay in their order
pub record AreByTopic (endpoints sorted : List Endpoint) : Type 0 where
  pub all : IsPermutation endpoints sorted
  pub by_topic : IsSorted topic_cmp sorted
  pub in_order : IsStable topic_cmp endpoints sorted

-- two endpoints of one topic
abbrev pub have_one_topic : endpoint.EndpointValue → endpoint.EndpointValue → Bool
have_one_topic one other = bytes_eq one.topic other.topic

-- an endpoint before endpoints that are parted by topic: it joins the first of these where that is of its topic
abbrev pub joined : endpoint.EndpointValue → List (List endpoint.EndpointValue) → List (List endpoint.EndpointValue)
joined one [] = (one ∷ []) ∷ []
joined one ([] ∷ topics) = (one ∷ []) ∷ topics
joined one ((next ∷ more) ∷ topics) = if have_one_topic one next then (one ∷ next ∷ more) ∷ topics else (one ∷ []) ∷ (next ∷ more) ∷ topics

-- endpoints in their order, parted where the topic changes
abbrev pub topics_of : List endpoint.EndpointValue → List (List endpoint.EndpointValue)
topics_of [] = []
topics_of (one ∷ endpoints) = joined one (topics_of endpoints)

-- ---- sides

-- two sides are the same
abbrev pub is_side : Side → Side → Bool
is_side Side.Writer Side.Writer = true
is_side Side.Reader Side.Reader = true
is_side _ _ = false

-- the endpoints of a topic are asked for: it is, and the node of one of them
abbrev pub are_asked : asked.AskedValue → (Guid → Option samples.NodeValue) → endpoint.EndpointValue → List endpoint.EndpointValue → Bool
are_asked asked nodes one endpoints =
    rows.fits_one asked.topics one.topic && ((length asked.nodes == 0) || list_any (λ end. rows.has_node asked.nodes (nodes end.guid)) endpoints)

-- a topic of which these are all endpoints, if they are asked for and are on one side
abbrev pub one_side : asked.AskedValue → (Guid → Option samples.NodeValue) → List endpoint.EndpointValue → Option OneSidedValue
one_side asked nodes [] = None
one_side asked nodes (one ∷ endpoints) =
    if are_asked asked nodes one (one ∷ endpoints) && list_all (λ end. is_side end.side one.side) endpoints then Some (record { topic = one.topic; side = one.side }) else None

-- the topics of which endpoints that stand by topic are on one side
abbrev pub one_sides_among : asked.AskedValue → (Guid → Option samples.NodeValue) → List endpoint.EndpointValue → List OneSidedValue
one_sides_among asked nodes endpoints = filter_map (one_side asked nodes) (topics_of endpoints)

-- these are the topics of a recording whose endpoints are on one side, octet by octet
pub record AreOneSidesIn (asked : asked.AskedValue) (recording : List (List ℕ)) (talk : talk_spec.TalkValue) (found : List OneSidedValue) : Type 0 where
  pub directory : directory_spec.DirectoryValue
  pub is_map : directory_spec.IsMapOf (talk_spec.traffic_of recording).announcing directory
  pub endpoints : List Endpoint
  pub are_endpoints : map endpoint.endpoint_value endpoints ≡ directory_spec.settled_in directory.endpoints
  pub sorted : List Endpoint
  pub by_topic : AreByTopic endpoints sorted
  pub are : found ≡ one_sides_among asked talk.node (map endpoint.endpoint_value sorted)
