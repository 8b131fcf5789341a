-- Who was never told of whose endpoints. DDSI-RTPS 2.5, 8.5.4 "The Simple Endpoint Discovery Protocol". own: of two participants that differ, are not in
-- two domains, have one life each, and of which one names the other; of both it is known when they are there.
use Rattle.std.specs.Prelude.{ℕ, ◌≡◌, ◌+◌, ◌==◌, ◌&&◌, ◌⊎◌, Bool, true, false, List, [], ◌∷◌, ◌++◌, ◌↔◌, IsTrue, length, not, Option, Some, None}
use Rattle.std.specs.BTreeMap.{BTreeMap, get}
use Rattle.std.specs.BTreeSet.{BTreeSet, contains}
use Rattle.std.specs.List.{list_any}
use Rattle.std.specs.List.Sorted.{IsStrictlySortedBy}
use Rattle.std.specs.Ordering.{eq_by_cmp}
use Rattle.rtps_ids.specs.declared.identity.EntityId.{EntityId}
use Rattle.rtps_ids.specs.declared.identity.Guid.{Guid}
use Rattle.rtps_ids.specs.declared.identity.GuidPrefix.{GuidPrefix}
use Rattle.rtps_receiver.specs.Speech as speech
use Rattle.rtps_receiver.specs.Values as values
use Rattle.rtps_policies.specs.Announcing as announcing_spec
use Rattle.rtps_policies.specs.Namings as namings_spec
use Rattle.rtps_policies.specs.Silence as silence
use Rattle.rtps_policies.specs.declared.naming.Naming.{Naming}
use Rattle.rtps_known.specs.Bulletins as bulletins
use Rattle.rtps_known.specs.Lacking as lacking
use Rattle.rtps_known.specs.Lives as lives
use Rattle.rtps_known.specs.Meetings as meetings
use Rattle.rtps_known.specs.Recorded as recorded
use Rattle.rtps_known.specs.Tellings as tellings
use Rattle.rtps_known.specs.Visits as visits_spec
use Rattle.rtps_known.specs.declared.lacking.Lacking.{Lacking}
use Rattle.rtps_known.specs.declared.layout.entity.TheConstants as entity
use Rattle.rtps_known.specs.declared.untold.Untold.{Untold}
use Rattle.rtps_known.specs.declared.visit.Visit.{Visit}

-- what is known of participants: what acts announce, and when they are there
pub record Attendance : Type 0 where
  pub announcing : List values.ActValue
  pub visits : BTreeMap GuidPrefix Visit

-- the built-in writer with this entity of a participant
abbrev pub writer_of : GuidPrefix → EntityId → Guid
writer_of prefix entity = record { prefix = prefix; entity = entity }

-- what is told of two that may be looked at
pub record MayTell (acts : List tellings.TimedAct) (announcing : List values.ActValue) (naming : Naming) : Type 0 where
  pub two : speech.is_prefix naming.source naming.dest ≡ false
  pub one_domain : silence.two_domains (announcing_spec.host_of announcing naming.source) (announcing_spec.host_of announcing naming.dest) ≡ false
  pub source_once : ¬ lives.HasTwoLives (recorded.acts_of acts) naming.source
  pub dest_once : ¬ lives.HasTwoLives (recorded.acts_of acts) naming.dest

-- what the second was never told of the first, of what was told up to a time
pub record IsUntoldUntil (acts : List tellings.TimedAct) (naming : Naming) (end : ℕ) (untold : Untold) : Type 0 where
  pub from : untold.from ≡ announcing_spec.participant_of naming.source
  pub to : untold.to ≡ announcing_spec.participant_of naming.dest
  pub of_writers : Lacking
  pub of_readers : Lacking
  pub are_writers : lacking.IsLackingOf (recorded.about (writer_of naming.source entity.PUBLICATIONS) acts) naming.dest end of_writers
  pub are_readers : lacking.IsLackingOf (recorded.about (writer_of naming.source entity.SUBSCRIPTIONS) acts) naming.dest end of_readers
  pub writers : untold.writers.items ≡ of_writers.endpoints.items
  pub readers : untold.readers.items ≡ of_readers.endpoints.items
  pub unnamed : untold.unnamed ≡ of_writers.unnamed + of_readers.unnamed

-- that is nothing
abbrev pub is_nothing : Untold → Bool
is_nothing untold = (length untold.writers.items == 0) && ((length untold.readers.items == 0) && (untold.unnamed == 0))

-- the two are there together, up to a time
pub record AreTogether (visits : BTreeMap GuidPrefix Visit) (naming : Naming) (end : ℕ) : Type 0 where
  pub one : Visit
  pub other : Visit
  pub is_one : get bulletins.prefix_cmp visits naming.source ≡ Some one
  pub is_other : get bulletins.prefix_cmp visits naming.dest ≡ Some other
  pub is_end : visits_spec.IsEndBetween one other end

-- of one of the two it is not known when it is there, or nothing was told in time
abbrev pub AreNeverTogether : BTreeMap GuidPrefix Visit → Naming → Type 0
AreNeverTogether visits naming =
    ((get bulletins.prefix_cmp visits naming.source ≡ None) ⊎ (get bulletins.prefix_cmp visits naming.dest ≡ None))
    ⊎ ((one : Visit) × (other : Visit) × (get bulletins.prefix_cmp visits naming.source ≡ Some one) × (get bulletins.prefix_cmp visits naming.dest ≡ Some other) × visits_spec.IsNeverInTime one other)

-- what is told of the two, which is something
pub record IsUntold (acts : List tellings.TimedAct) (visits : BTreeMap GuidPrefix Visit) (naming : Naming) (untold : Untold) : Type 0 where
  pub end : ℕ
  pub together : AreTogether visits naming end
  pub is : IsUntoldUntil acts naming end untold
  pub something : is_nothing untold ≡ false

-- nothing is told of the two
abbrev pub IsAllTold : List tellings.TimedAct → BTreeMap GuidPrefix Visit → Naming → Type 0
IsAllTold acts visits naming =
    AreNeverTogether visits naming ⊎ ((end : ℕ) × (untold : Untold) × AreTogether visits naming end × IsUntoldUntil acts naming end untold × (is_nothing untold ≡ true))

-- what is said of two, which is nothing or one thing
abbrev pub IsSaidOf : List tellings.TimedAct → Attendance → Naming → Option Untold → Type 0
IsSaidOf acts attendance naming None = (¬ MayTell acts attendance.announcing naming) ⊎ IsAllTold acts attendance.visits naming
IsSaidOf acts attendance naming (Some untold) = MayTell acts attendance.announcing naming × IsUntold acts attendance.visits naming untold

-- the one thing, or none
abbrev pub listed : Option Untold → List Untold
listed None = []
listed (Some untold) = untold ∷ []

-- what is said of these, one after another
abbrev pub AreSaidOf : List tellings.TimedAct → Attendance → List Naming → List Untold → Type 0
AreSaidOf acts attendance [] found = found ≡ []
AreSaidOf acts attendance (naming ∷ namings) found =
    (said : Option Untold) × (behind : List Untold) × (found ≡ listed said ++ behind) × IsSaidOf acts attendance naming said × AreSaidOf acts attendance namings behind

-- what is said of all of which one names the other, in the order of both
pub record AreUntoldIn (acts : List tellings.TimedAct) (attendance : Attendance) (found : List Untold) : Type 0 where
  pub namings : List Naming
  pub ordered : IsStrictlySortedBy namings_spec.naming_cmp namings
  pub all : (naming : Naming) → list_any (eq_by_cmp namings_spec.naming_cmp naming) namings ≡ list_any (meetings.joins naming) acts
  pub said : AreSaidOf acts attendance namings found

-- ---- the same of the code

-- these have two lives
abbrev pub AreTwice : List tellings.TimedAct → BTreeSet GuidPrefix → Type 0
AreTwice acts twice = (prefix : GuidPrefix) → IsTrue (contains bulletins.prefix_cmp twice prefix) ↔ lives.HasTwoLives (recorded.acts_of acts) prefix

-- two may be looked at, by whether each has two lives
abbrev pub may_tell : Bool → Bool → Bool → Bool → Bool
may_tell same domains source dest = not same && (not domains && (not source && not dest))
