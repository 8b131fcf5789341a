-- When a participant is there. DDSI-RTPS 2.5, 8.5.3 "The Simple Participant Discovery Protocol". own: from its first announcement on; up to its leaving,
-- if it leaves, and its last datagram. It counts only where the times of the first two are known.
use Rattle.std.specs.Prelude.{ℕ, ◌≡◌, Bool, true, false, if◌then◌else◌, List, Option, Some, None}
use Rattle.std.specs.BTreeMap.{BTreeMap, get}
use Rattle.std.specs.List.{list_any}
use Rattle.std.specs.Option.{option_map}
use Rattle.rtps_ids.specs.declared.identity.Guid.{Guid}
use Rattle.rtps_ids.specs.declared.identity.GuidPrefix.{GuidPrefix}
use Rattle.rtps_audit.specs.Intake as intake
use Rattle.rtps_audit.specs.Placed as placed
use Rattle.rtps_evidence.specs.Times as times_spec
use Rattle.rtps_evidence.specs.declared.location.Location.{Location}
use Rattle.rtps_known.specs.declared.visit.Visit.{Visit}
use Rattle.rtps_policies.specs.Announcing as announcing
use Rattle.rtps_report.specs.Participants as participants
use Rattle.rtps_report.specs.Stays as stays

-- when the datagram of a place came, where there is a place
abbrev pub place_time : List (Option ℕ) → Option Location → Option ℕ
place_time times None = None
place_time times (Some place) = times_spec.time_of times place.datagram

-- when a participant leaves: in no datagram, or then. None where that is not known
abbrev pub left_time : List (Option ℕ) → Option ℕ → Option (Option ℕ)
left_time times None = Some None
left_time times (Some datagram) = option_map Some (times_spec.time_of times datagram)

-- a visit by when it begins, when the participant leaves, and when its last datagram came
abbrev pub visit_by : Option ℕ → Option (Option ℕ) → Option ℕ → Option Visit
visit_by (Some since) (Some left) last = Some (record { since = since; left = left; last = last })
visit_by (Some since) None last = None
visit_by None left last = None

-- when a participant of this prefix is there
abbrev pub visit_in : intake.Intake → List (List ℕ) → List (Option ℕ) → GuidPrefix → Option Visit
visit_in intake recording times prefix =
    visit_by (place_time times (participants.place_of (announcing.participant_of prefix) (placed.placed_in intake.announcing))) (left_time times (participants.left_of intake (announcing.participant_of prefix)))
    (stays.latest_of recording times prefix)

-- the same, where it is among those that are announced
abbrev pub visit_of : intake.Intake → List (List ℕ) → List (Option ℕ) → List Guid → GuidPrefix → Option Visit
visit_of intake recording times announced prefix = if list_any (placed.is_guid (announcing.participant_of prefix)) announced then visit_in intake recording times prefix else None

-- these are the visits of those that are announced
abbrev pub AreVisitsIn : intake.Intake → List (List ℕ) → List (Option ℕ) → List Guid → BTreeMap GuidPrefix Visit → Type 0
AreVisitsIn intake recording times announced visits = (prefix : GuidPrefix) → get stays.prefix_cmp visits prefix ≡ visit_of intake recording times announced prefix

-- ---- the same of the code

-- the participant of a prefix is this one
abbrev pub is_participant : GuidPrefix → Guid → Bool
is_participant prefix guid = placed.is_guid (announcing.participant_of prefix) guid

-- what is kept of a participant, with one visit more, if that is known and of the participant
abbrev pub visit_with : Bool → Option Visit → Option Visit → Option Visit
visit_with false visit kept = kept
visit_with true None kept = kept
visit_with true (Some visit) kept = Some visit
