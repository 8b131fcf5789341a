-- Who was never told of whose endpoints, as a report tells it. DDSI-RTPS 2.5, 8.5.4 "The Simple Endpoint Discovery Protocol". own: an endpoint is told with
-- its topic, since people ask why a topic is not there.
use Rattle.std.specs.Prelude.{ℕ, ◌≡◌, ◌+◌, ◌&&◌, Bool, if◌then◌else◌, List, count_by, length, map, min, sum_by, Option, Some, None}
use Rattle.std.specs.BTreeMap.{BTreeMap}
use Rattle.std.specs.List.{list_any}
use Rattle.rtps_ids.specs.declared.identity.Guid.{Guid}
use Rattle.rtps_ids.specs.declared.identity.GuidPrefix.{GuidPrefix}
use Rattle.rtps_audit.specs.Intake as intake_spec
use Rattle.rtps_audit.specs.Placed as placed
use Rattle.rtps_discovery.specs.Directory as directory
use Rattle.rtps_evidence.specs.Explanation as explanation
use Rattle.rtps_known.specs.Untold as untold_spec
use Rattle.rtps_known.specs.declared.untold.Untold.{Untold}
use Rattle.rtps_known.specs.declared.visit.Visit.{Visit}
use Rattle.rtps_report.specs.ActsRead as acts_read
use Rattle.rtps_report.specs.Visits as visits_spec
use Rattle.rtps_report.specs.declared.not_told.NotTold.{NotTold}
use Rattle.rtps_report.specs.declared.not_told.NotToldCounts.{NotToldCounts}
use Rattle.rtps_report.specs.declared.not_told.TopicEnd.{TopicEnd}
use Rattle.rtps_report.specs.declared.participant.Participant.{Participant}

-- an endpoint and its topic
pub record TopicEndValue : Type 0 where
  pub topic : List ℕ
  pub guid : Guid

-- that of the code, as a value
abbrev pub topic_end_value : TopicEnd → TopicEndValue
topic_end_value one = record { topic = one.topic.now; guid = one.guid }

-- what a participant does not tell another: its writers and its readers, by GUID, and how many more numbers
pub record NotToldValue : Type 0 where
  pub from : Guid
  pub to : Guid
  pub writers : List TopicEndValue
  pub readers : List TopicEndValue
  pub unnamed : ℕ

-- that of the code, as a value
abbrev pub not_told_value : NotTold → NotToldValue
not_told_value one =
    record {
      from = one.from;
      to = one.to;
      writers = map topic_end_value one.writers.items;
      readers = map topic_end_value one.readers.items;
      unnamed = one.unnamed;
    }

-- an endpoint with its topic; it is empty where announcements of the endpoint disagree
abbrev pub with_topic : directory.Entries → Guid → TopicEndValue
with_topic entries guid = record { topic = explanation.topic_of (directory.settled_at entries guid); guid = guid }

-- what is found of two participants, with topics
abbrev pub not_told_by : directory.Entries → Untold → NotToldValue
not_told_by entries untold =
    record {
      from = untold.from;
      to = untold.to;
      writers = map (with_topic entries) untold.writers.items;
      readers = map (with_topic entries) untold.readers.items;
      unnamed = untold.unnamed;
    }

-- who was never told of what in a recording, of which the datagrams came then: by all its acts, fragments among them, and by when participants
-- are there
pub record AreNotToldIn (intake : intake_spec.Intake) (recording : List (List ℕ)) (times : List (Option ℕ)) (directory : directory.DirectoryValue) (found : List NotToldValue) : Type 0 where
  pub visits : BTreeMap GuidPrefix Visit
  pub are_visits : visits_spec.AreVisitsIn intake recording times directory.participants visits
  pub untold : List Untold
  pub are_untold : untold_spec.AreUntoldIn (acts_read.timed_acts recording times) (record { announcing = intake_spec.acts_together intake.announcing; visits = visits }) untold
  pub is_found : found ≡ map (not_told_by directory.endpoints) untold

-- ---- how many

-- the participant was not told of something
abbrev pub is_not_told : List NotToldValue → Participant → Bool
is_not_told found participant = list_any (λ one. placed.is_guid one.to participant.guid) found

-- how many endpoints that is, as far as a `u64` counts
abbrev pub endpoints_of : NotToldValue → ℕ
endpoints_of one = min 18446744073709551615 (length one.writers + length one.readers + one.unnamed)

-- how many of these participants were not told, and of how many endpoints: one that two were not told of counts twice
abbrev pub not_told_counts : List Participant → List NotToldValue → NotToldCounts
not_told_counts participants found =
    record { participants = count_by (is_not_told found) participants; endpoints = sum_by endpoints_of found }

-- ---- of a pair

-- the second was not told of something of the first
abbrev pub is_between : Guid → Guid → NotToldValue → Bool
is_between from to one = placed.is_guid one.from from && placed.is_guid one.to to

-- some of these are of the two
abbrev pub is_not_told_of : List NotToldValue → Guid → Guid → Bool
is_not_told_of found from to = list_any (is_between from to) found
