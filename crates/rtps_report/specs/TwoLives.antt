-- Two lives under one GUID, as a report tells them. DDSI-RTPS 2.5, 9.3.2.1 "Time_t". own: one of each participant, by its least number that shows it; and of a
-- recording with times alone, since they are told as seconds since the recording began.
use Rattle.std.specs.Prelude.{ℕ, ◌≡◌, ◌+◌, ◌*◌, ◌/◌, ◌^◌, ◌++◌, Bool, false, if◌then◌else◌, List, [], ◌∷◌, length, map, Option, Some, None}
use Rattle.std.specs.List.{list_any}
use Rattle.rtps_ids.specs.declared.identity.Guid.{Guid}
use Rattle.rtps_ids.specs.declared.identity.GuidPrefix.{GuidPrefix}
use Rattle.rtps_ids.specs.declared.identity.Stamp.{Stamp}
use Rattle.rtps_receiver.specs.Speech as speech
use Rattle.rtps_audit.specs.Placed as placed
use Rattle.rtps_evidence.specs.Times as times_spec
use Rattle.rtps_known.specs.Lives as lives_spec
use Rattle.rtps_known.specs.Recorded as recorded
use Rattle.rtps_known.specs.declared.life.Life.{Life}
use Rattle.rtps_policies.specs.Announcing as announcing
use Rattle.rtps_report.specs.ActsRead as acts_read
use Rattle.rtps_report.specs.declared.two_lives.TwoLives.{TwoLives}

-- a source time in nanoseconds since 1970 began: it has whole seconds, and parts of which a second has 2 ^ 32. What is finer is cut off
abbrev pub nanoseconds_of : Stamp → ℕ
nanoseconds_of stamp = stamp.seconds * 10 ^ 9 + stamp.fraction * 10 ^ 9 / 2 ^ 32

-- the two lives of a participant, by a number that shows them
abbrev pub two_lives_of : Life → TwoLives
two_lives_of life =
    record { participant = announcing.participant_of life.participant; sent = (nanoseconds_of life.sent.0, nanoseconds_of life.sent.1) }

-- it is of the participant before, if there is one
abbrev pub is_of : Option GuidPrefix → Life → Bool
is_of None life = false
is_of (Some prefix) life = speech.is_prefix life.participant prefix

-- of numbers that stand by participant, behind those of this one, the first of each participant
abbrev pub firsts_behind : Option GuidPrefix → List Life → List Life
firsts_behind before [] = []
firsts_behind before (life ∷ lives) =
    (if is_of before life then [] else life ∷ []) ++ firsts_behind (Some life.participant) lives

-- who has two lives in a recording, of which the datagrams came then
pub record AreTwoLivesIn (recording : List (List ℕ)) (times : List (Option ℕ)) (found : List TwoLives) : Type 0 where
  pub lives : List Life
  pub are_lives : lives_spec.AreLivesOf (recorded.acts_of (acts_read.timed_acts recording times)) lives
  pub is_found : found ≡ (if times_spec.are_there times then map two_lives_of (firsts_behind None lives) else [])

-- a participant has two of these lives
abbrev pub lives_twice : List TwoLives → Guid → Bool
lives_twice found participant = list_any (λ one. placed.is_guid one.participant participant) found
