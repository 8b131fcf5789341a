-- Two lives under one GUID. DDSI-RTPS 2.5, 8.5.3 "The Simple Participant Discovery Protocol" and 8.3.8.11 "InfoTimestamp". own: one number of a writer
-- is one sample, and a stack that repeats it repeats its source time; so two source times of one number are of two processes. It is told of those
-- vendors alone for which that was tried.
use Rattle.std.specs.Prelude.{ℕ, ◌≡◌, ◌==◌, ◌&&◌, ◌||◌, Bool, find, if◌then◌else◌, is_some, IsSome, List, [], ◌∷◌, map, nat_eq, not, Option, Some, None}
use Rattle.std.specs.BTreeMap.{is_at}
use Rattle.std.specs.Cmp.Lexicographic.{pointwise, slice_cmp}
use Rattle.std.specs.List.{filter_map}
use Rattle.std.specs.List.Sorted.{IsStrictlySortedBy}
use Rattle.std.specs.Map.{lookup}
use Rattle.std.specs.Option.{option_map}
use Rattle.std.specs.Ordering.{is_eq, nat_cmp, ordering_then}
use Rattle.std.specs.declared.cmp.Ordering.{Ordering}
use Rattle.rtps_ids.specs.declared.identity.GuidPrefix.{GuidPrefix}
use Rattle.rtps_ids.specs.declared.identity.Stamp.{Stamp}
use Rattle.rtps_ids.specs.declared.identity.Vendor.{Vendor}
use Rattle.rtps_receiver.specs.Speech as speech
use Rattle.rtps_receiver.specs.Values as values
use Rattle.rtps_known.specs.declared.layout.entity.TheConstants as entity
use Rattle.rtps_known.specs.declared.layout.vendor.TheConstants as vendor
use Rattle.rtps_known.specs.declared.life.Birth.{Birth}
use Rattle.rtps_known.specs.declared.life.Life.{Life}
use Rattle.rtps_known.specs.declared.life.Sent.{Sent}

-- it was tried of this vendor
abbrev pub is_tried : Vendor → Bool
is_tried one = pointwise nat_eq one.0 vendor.CYCLONE.0 || pointwise nat_eq one.0 vendor.FAST.0

-- the number of the writer that announces participants, in an act of this body
abbrev pub number_announcing : values.ActBodyValue → Option ℕ
number_announcing (values.ActBodyValue.Data value) = if speech.is_entity value.writer entity.PARTICIPANTS then Some value.number else None
number_announcing _ = None

-- that number of a participant, and its source time, where there are both
abbrev pub birth_by : GuidPrefix → Option ℕ → Option Stamp → Option (Birth × Stamp)
birth_by prefix (Some number) (Some stamp) = Some (record { participant = prefix; number = number }, stamp)
birth_by prefix _ _ = None

-- that of an act, of a vendor for which it was tried
abbrev pub birth_in : values.ActValue → Option (Birth × Stamp)
birth_in act = if is_tried act.vendor then birth_by act.source (number_announcing act.body) act.stamp else None

-- ---- the source times of a number

-- the order of births: by participant, and then by number
abbrev pub birth_cmp : Birth → Birth → Ordering
birth_cmp a b = ordering_then (slice_cmp nat_cmp a.participant.0 b.participant.0) (nat_cmp a.number b.number)

-- two births are of one number
abbrev pub is_birth : Birth → Birth → Bool
is_birth one other = is_eq (birth_cmp one other)

-- the source time of what is told of this number
abbrev pub stamp_by : Birth → Option (Birth × Stamp) → Option Stamp
stamp_by birth (Some told) = if is_birth told.0 birth then Some told.1 else None
stamp_by birth None = None

-- the source time of this number in an act
abbrev pub stamp_of : Birth → values.ActValue → Option Stamp
stamp_of birth act = stamp_by birth (birth_in act)

-- two source times are the same
abbrev pub is_stamp : Stamp → Stamp → Bool
is_stamp one other = (one.seconds == other.seconds) && (one.fraction == other.fraction)

-- the first of source times, and the first other one
abbrev pub sent_by : List Stamp → Option Sent
sent_by [] = None
sent_by (first ∷ stamps) = Some (record { first = first; other = find (λ stamp. not (is_stamp first stamp)) stamps })

-- the source times of a number
abbrev pub stamps_of : Birth → List values.ActValue → List Stamp
stamps_of birth acts = filter_map (stamp_of birth) acts

-- what is kept is the first source time of each number, and the first other one
abbrev pub AreBirthsOf : List values.ActValue → List (Birth × Sent) → Type 0
AreBirthsOf acts kept = (birth : Birth) → lookup (is_at (birth_cmp birth)) kept ≡ sent_by (stamps_of birth acts)

-- ---- lives

-- the source times of a number, where there are two
abbrev pub two_of : Option Sent → Option (Stamp × Stamp)
two_of (Some sent) = option_map (λ other. (sent.first, other)) sent.other
two_of None = None

-- those of a number of a participant
abbrev pub two_times : List values.ActValue → Birth → Option (Stamp × Stamp)
two_times acts birth = two_of (sent_by (stamps_of birth acts))

-- the number that shows a life
abbrev pub birth_of : Life → Birth
birth_of life = record { participant = life.participant; number = life.number }

-- these are the numbers with two source times, in order
pub record AreLivesOf (acts : List values.ActValue) (lives : List Life) : Type 0 where
  pub ordered : IsStrictlySortedBy birth_cmp (map birth_of lives)
  pub times : (birth : Birth) → lookup (is_birth birth) (map (λ life. (birth_of life, life.sent)) lives) ≡ two_times acts birth

-- a participant has two lives: some number of it has two source times
abbrev pub HasTwoLives : List values.ActValue → GuidPrefix → Type 0
HasTwoLives acts prefix = (number : ℕ) × IsSome (two_times acts (record { participant = prefix; number = number }))

-- ---- the same of the code

-- the source times of a number, with one more
abbrev pub sent_with : Option Sent → Stamp → Sent
sent_with None stamp = record { first = stamp; other = None }
sent_with (Some sent) stamp =
    if is_some sent.other || is_stamp sent.first stamp then sent else record { first = sent.first; other = Some stamp }

-- the life that a number shows
abbrev pub life_by : Birth × Sent → Option Life
life_by kept = option_map (λ other. record { participant = kept.0.participant; number = kept.0.number; sent = (kept.1.first, other) }) kept.1.other

-- the lives that numbers show
abbrev pub lives_in : List (Birth × Sent) → List Life
lives_in kept = filter_map life_by kept
