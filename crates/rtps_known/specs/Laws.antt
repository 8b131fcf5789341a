-- What holds of the definitions alone. own: a reader of them asks whether an endpoint that is told as not known is one that was announced, and that nobody
-- acknowledges.
use Rattle.std.specs.Prelude.{ℕ, ◌≡◌, false, true, List}
use Rattle.std.specs.List.{list_any}
use Rattle.rtps_ids.specs.declared.identity.Guid.{Guid}
use Rattle.rtps_ids.specs.declared.identity.GuidPrefix.{GuidPrefix}
use Rattle.rtps_known.specs.Lacking as lacking
use Rattle.rtps_known.specs.Tellings as tellings
use Rattle.rtps_known.specs.declared.telling.Announcement.{Announcement}

-- an announcement of this endpoint, whose number is told in time, and below no base of the participant
pub record IsUnacknowledged (acts : List tellings.TimedAct) (prefix : GuidPrefix) (end : ℕ) (guid : Guid) : Type 0 where
  pub announcement : Announcement
  pub of_endpoint : tellings.is_guid guid announcement.endpoint ≡ true
  pub told : list_any (tellings.tells_until prefix end announcement.number) acts ≡ true
  pub acknowledged_never : list_any (tellings.acknowledges prefix announcement.number) acts ≡ false

-- each endpoint that a participant lacks has one
abbrev pub LackingIsUnacknowledged : Type 0
LackingIsUnacknowledged =
    (acts : List tellings.TimedAct) (prefix : GuidPrefix) (end : ℕ) (guid : Guid) → lacking.lacks_endpoint acts prefix end guid ≡ true → IsUnacknowledged acts prefix end guid
