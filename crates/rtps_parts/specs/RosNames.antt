-- The names of ROS 2 for topics and types of DDS. own: its middleware makes the names of DDS from those (`rt/`, `rq/` and `rr/` before
-- topics and services, `dds_` within types), and a person knows those. A name that is not made so is as it is.
use Rattle.std.specs.Prelude.{ℕ, ◌≡◌, ◌+◌, ◌-◌, ◌++◌, ◌==◌, ◌&&◌, Bool, nat_eq, if◌then◌else◌, List, [], ◌∷◌, codes, drop, length, Option, Some, None, take}
use Rattle.std.specs.List.{ends_with, flat_map, starts_with}
use Rattle.std.specs.Option.{option_map}
use Rattle.rtps_parts.specs.Names as names

-- ---- topics

-- a topic begins with three octets and has this end behind them
abbrev pub is_service : (begins ends topic : List ℕ) → Bool
is_service begins ends topic = starts_with nat_eq topic begins && ends_with nat_eq (drop 3 topic) ends

-- what a topic has from its slash on, without an end
abbrev pub service_of : (ends topic : List ℕ) → List ℕ
service_of ends topic = take (length topic - length ends - 2) (drop 2 topic)

-- `/x` of `rt/x`, `/x request` of `rq/xRequest`, `/x reply` of `rr/xReply`. That it is so is a law
abbrev pub ros_topic : List ℕ → List ℕ
ros_topic topic =
    if starts_with nat_eq topic (codes "rt/") then drop 2 topic
    else if is_service (codes "rq/") (codes "Request") topic then service_of (codes "Request") topic ++ codes " request"
    else if is_service (codes "rr/") (codes "Reply") topic then service_of (codes "Reply") topic ++ codes " reply"
    else topic

-- the name of a topic, and those of the two topics of a service
pub record TopicsAreNamed : Type 0 where
  pub topic : (x : List ℕ) → ros_topic (codes "rt/" ++ x) ≡ codes "/" ++ x
  pub request : (x : List ℕ) → ros_topic (codes "rq/" ++ (x ++ codes "Request")) ≡ codes "/" ++ (x ++ codes " request")
  pub reply : (x : List ℕ) → ros_topic (codes "rr/" ++ (x ++ codes "Reply")) ≡ codes "/" ++ (x ++ codes " reply")

-- ---- types

-- what parts the scope of a type from its name
abbrev pub mark : List ℕ
mark = codes "::dds_::"

-- how many octets stand before the first mark; None where there is none
abbrev pub mark_place : List ℕ → Option ℕ
mark_place [] = None
mark_place (octet ∷ octets) = if starts_with nat_eq (octet ∷ octets) mark then Some 0 else option_map (λ place. place + 1) (mark_place octets)

-- each two colons, from the left, as a slash
abbrev pub slashed : List ℕ → List ℕ
slashed [] = []
slashed (octet ∷ []) = octet ∷ []
slashed (octet ∷ next ∷ octets) = if (octet == 58) && (next == 58) then 47 ∷ slashed octets else octet ∷ slashed (next ∷ octets)

-- the scope, a slash, and the name without its last octet
abbrev pub ros_type_of : (scope name : List ℕ) → List ℕ
ros_type_of scope name = slashed scope ++ (codes "/" ++ take (length name - 1) name)

-- the same of a type with a mark behind so many octets, where what is behind the mark ends with an underscore; any other as it is
abbrev pub ros_type_at : List ℕ → Option ℕ → List ℕ
ros_type_at kind None = kind
ros_type_at kind (Some place) =
    if ends_with nat_eq (drop (place + length mark) kind) (codes "_") then ros_type_of (take place kind) (drop (place + length mark) kind) else kind

-- `nav_msgs/msg/Odometry` of `nav_msgs::msg::dds_::Odometry_`
abbrev pub ros_type : List ℕ → List ℕ
ros_type kind = ros_type_at kind (mark_place kind)

-- ---- as they are written

-- the name of a topic, as `list` writes one between quotes
abbrev pub topic_text : List ℕ → List ℕ
topic_text topic = flat_map names.octet_text (ros_topic topic)

-- that of a type
abbrev pub type_text : List ℕ → List ℕ
type_text kind = flat_map names.octet_text (ros_type kind)
