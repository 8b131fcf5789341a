-- When a writer and a reader matched. DDSI-RTPS 2.5, 8.5 "Discovery Module" and 8.3.8.11 "InfoTimestamp". own: an endpoint matches once both
-- participants know each other and each other's endpoint. A recording that began in the middle, or of one GUID with two lives, does not tell when.
use Rattle.std.specs.Prelude.{ℕ, ◌≡◌, ◌+◌, ◌-◌, ◌*◌, ◌/◌, ◌^◌, ◌&&◌, ◌||◌, Bool, if◌then◌else◌, List, max, nat_le, nat_lt, not, Option, Some, None}
use Rattle.std.specs.BTreeSet.{contains}
use Rattle.std.specs.List.{filter_map, list_any}
use Rattle.std.specs.Option.{option_map}
use Rattle.rtps_ids.specs.declared.identity.EntityId.{EntityId}
use Rattle.rtps_ids.specs.declared.identity.Guid.{Guid}
use Rattle.rtps_ids.specs.declared.identity.GuidPrefix.{GuidPrefix}
use Rattle.rtps_ids.specs.declared.identity.Stamp.{Stamp}
use Rattle.rtps_receiver.specs.Speech as speech
use Rattle.rtps_receiver.specs.Values as values
use Rattle.rtps_discovery.specs.Endpoint as endpoint
use Rattle.rtps_discovery.specs.Notice as notice
use Rattle.rtps_policies.specs.Announcing as announcing
use Rattle.rtps_known.specs.Bulletins as bulletins
use Rattle.rtps_known.specs.Learning as learning
use Rattle.rtps_known.specs.Places as places
use Rattle.rtps_known.specs.Spreads as spreads
use Rattle.rtps_known.specs.Tellings as tellings
use Rattle.rtps_known.specs.declared.layout.entity.TheConstants as entity
use Rattle.rtps_known.specs.declared.layout.TheConstants as layout
use Rattle.rtps_known.specs.declared.issue.Issue.{Issue}
use Rattle.rtps_known.specs.declared.issue.Times.{Times}
use Rattle.rtps_known.specs.declared.matches.Matched.{Matched}
use Rattle.rtps_known.specs.declared.matches.Matches.{Matches}
use Rattle.rtps_known.specs.declared.place.Place.{Place}

-- ---- how endpoints and participants are announced

-- what a number of an act announces, where its source is the participant of that
abbrev pub issue_by : values.ActValue → Option ℕ → Option endpoint.EndpointValue → Option (Guid × Issue)
issue_by act (Some number) (Some endpoint) =
    if speech.is_prefix act.source endpoint.guid.prefix then Some (endpoint.guid, record { entity = speech.entity_from act.body; number = number; sent = act.stamp }) else None
issue_by act (Some number) None = None
issue_by act None endpoint = None

-- the endpoint that an act announces, and by which number
abbrev pub issue_told : places.PlacedAct → Option (Guid × Issue)
issue_told placed = issue_by placed.act (tellings.number_sent placed.act.body) (notice.endpoint_in (notice.announcement_of placed.act))

-- how an endpoint is announced first
abbrev pub issue_of : List places.PlacedAct → Guid → Option Issue
issue_of acts guid = announcing.first_of guid (filter_map issue_told acts)

-- the participant that an act announces, and where
abbrev pub joining_told : places.PlacedAct → Option (Guid × Place)
joining_told placed = option_map (λ guid. (guid, placed.place)) (notice.participant_in (notice.announcement_of placed.act))

-- where a participant is announced first
abbrev pub joined : List places.PlacedAct → GuidPrefix → Option Place
joined acts prefix = announcing.first_of (announcing.participant_of prefix) (filter_map joining_told acts)

-- the later of the places where two are
abbrev pub both_joined : List places.PlacedAct → GuidPrefix → GuidPrefix → Option Place
both_joined acts one other = places.later_of (joined acts one) (joined acts other)

-- ---- where two match

-- where a participant learned of an endpoint that is announced so
abbrev pub learned_by : List places.PlacedAct → GuidPrefix → Guid → Option Issue → Option Place
learned_by acts prefix endpoint (Some issue) = learning.learned (spreads.inquiry_of (record { prefix = endpoint.prefix; entity = issue.entity }) prefix issue.number) acts
learned_by acts prefix endpoint None = None

-- where a participant learned of an endpoint
abbrev pub learned_of : List places.PlacedAct → GuidPrefix → Guid → Option Place
learned_of acts prefix endpoint = learned_by acts prefix endpoint (issue_of acts endpoint)

-- before a place, a reader of endpoints of the second participant acknowledges something to this writer of the first
abbrev pub claims_before : List places.PlacedAct → Place → GuidPrefix → GuidPrefix → EntityId → Bool
claims_before acts place one other entity =
    tellings.holds (λ claimed. places.precedes claimed place) (places.place_of (learning.claims (spreads.inquiry_of (record { prefix = one; entity = entity }) other 1)) acts)

-- before a place, one of two participants acknowledges something to a writer of endpoints of the other
abbrev pub met_before : List places.PlacedAct → GuidPrefix → GuidPrefix → Place → Bool
met_before acts one other place =
    (claims_before acts place one other entity.PUBLICATIONS || claims_before acts place one other entity.SUBSCRIPTIONS)
    || (claims_before acts place other one entity.PUBLICATIONS || claims_before acts place other one entity.SUBSCRIPTIONS)

-- the recording began in the middle: they do so before both are announced
abbrev pub began_in_the_middle : List places.PlacedAct → GuidPrefix → GuidPrefix → Bool
began_in_the_middle acts one other = tellings.holds (met_before acts one other) (both_joined acts one other)

-- where a writer and a reader of two participants match: the latest of where each participant learned of the other's endpoint, and where both are announced
abbrev pub place_matched : List places.PlacedAct → Guid → Guid → Option Place
place_matched acts writer reader =
    if speech.is_prefix writer.prefix reader.prefix || began_in_the_middle acts writer.prefix reader.prefix then None
    else places.later_of (places.later_of (learned_of acts reader.prefix writer) (learned_of acts writer.prefix reader)) (both_joined acts writer.prefix reader.prefix)

-- ---- when that is

-- a source time in nanoseconds, cut off
abbrev pub nanoseconds : Stamp → ℕ
nanoseconds stamp = stamp.seconds * 10 ^ 9 + stamp.fraction * 10 ^ 9 / 2 ^ 32

-- when a DATA came, and when it was sent by its source
abbrev pub times_by : Option ℕ → Option ℕ → Option Stamp → Option Times
times_by (Some number) (Some came) (Some stamp) = Some (record { came = came; sent = nanoseconds stamp })
times_by (Some number) (Some came) None = None
times_by (Some number) None stamp = None
times_by None came stamp = None

-- that of an act
abbrev pub times_told : places.PlacedAct → Option Times
times_told placed = times_by (tellings.number_sent placed.act.body) placed.place.time placed.act.stamp

-- a DATA with these times came at most 0.1 s behind its source time
abbrev pub came_near : Times → Bool
came_near times = nat_le times.came (times.sent + layout.NEAR)

-- it came more than 0.1 s before it
abbrev pub came_ahead : Times → Bool
came_ahead times = nat_lt (times.came + layout.NEAR) times.sent

-- an act is a DATA of a participant that came at most 0.1 s behind its source time
abbrev pub is_near : GuidPrefix → places.PlacedAct → Bool
is_near prefix placed = speech.is_prefix prefix placed.act.source && tellings.holds came_near (times_told placed)

-- it is one that came more than 0.1 s before it
abbrev pub is_ahead : GuidPrefix → places.PlacedAct → Bool
is_ahead prefix placed = speech.is_prefix prefix placed.act.source && tellings.holds came_ahead (times_told placed)

-- the clock of a participant fits that of the recording: the least that a DATA of it came behind its source time lies between -0.1 s and 0.1 s. A DATA
-- that is sent again has the same source time and comes later, so it changes nothing.
abbrev pub fits : List places.PlacedAct → GuidPrefix → Bool
fits acts prefix = list_any (is_near prefix) acts && not (list_any (is_ahead prefix) acts)

-- how long a time lies behind the later of two source times; 0 where it is before that
abbrev pub delay_by : Option ℕ → Option Stamp → Option Stamp → Option ℕ
delay_by (Some time) (Some one) (Some other) = Some (time - max (nanoseconds one) (nanoseconds other))
delay_by (Some time) (Some one) None = None
delay_by (Some time) None other = None
delay_by None one other = None

-- the source time of how an endpoint is announced
abbrev pub sent_of : Option Issue → Option Stamp
sent_of (Some issue) = issue.sent
sent_of None = None

-- how long a place lies behind the later of two endpoints, by the source times of the DATA that announce them, where both clocks fit
abbrev pub delay_of : List places.PlacedAct → Guid → Guid → Place → Option ℕ
delay_of acts writer reader place =
    if fits acts writer.prefix && fits acts reader.prefix then delay_by place.time (sent_of (issue_of acts writer)) (sent_of (issue_of acts reader)) else None

-- where a writer and a reader match, and how late
abbrev pub matched : List places.PlacedAct → Guid → Guid → Option Matched
matched acts writer reader = option_map (λ place. record { place = place; delay = delay_of acts writer reader place }) (place_matched acts writer reader)

-- ---- what is kept

-- what is kept of each endpoint is how it is announced first
abbrev pub AreIssuesOf : List places.PlacedAct → List (Guid × Issue) → Type 0
AreIssuesOf acts kept = (guid : Guid) → announcing.first_of guid kept ≡ announcing.first_of guid (filter_map issue_told acts)

-- and of each participant where it is
abbrev pub AreJoinedIn : List places.PlacedAct → List (Guid × Place) → Type 0
AreJoinedIn acts kept = (guid : Guid) → announcing.first_of guid kept ≡ announcing.first_of guid (filter_map joining_told acts)

-- what is kept is that of these acts
pub record AreMatchesOf (acts : List places.PlacedAct) (matches : Matches) : Type 0 where
  pub spreads : spreads.AreSpreadsOf acts matches.spreads
  pub issues : AreIssuesOf acts matches.issues.entries
  pub joined : AreJoinedIn acts matches.joined.entries
  pub near : (prefix : GuidPrefix) → contains bulletins.prefix_cmp matches.near prefix ≡ list_any (is_near prefix) acts
  pub ahead : (prefix : GuidPrefix) → contains bulletins.prefix_cmp matches.ahead prefix ≡ list_any (is_ahead prefix) acts
