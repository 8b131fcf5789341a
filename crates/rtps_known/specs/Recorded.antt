-- What is kept of a recording. own: whoever holds the recording tells its acts one by one, in their order, each with the time of its datagram.
use Rattle.std.specs.Prelude.{◌≡◌, Bool, filter, List, [], map, MatchOption}
use Rattle.std.specs.BTreeMap.{BTreeMap, get}
use Rattle.rtps_ids.specs.declared.identity.Guid.{Guid}
use Rattle.rtps_receiver.specs.Values as values
use Rattle.rtps_discovery.specs.GuidOrder as guid_order
use Rattle.rtps_known.specs.Bulletins as bulletins_spec
use Rattle.rtps_known.specs.Lives as lives
use Rattle.rtps_known.specs.Meetings as meetings
use Rattle.rtps_known.specs.Tellings as tellings
use Rattle.rtps_known.specs.declared.bulletin.Bulletin.{Bulletin}
use Rattle.rtps_known.specs.declared.known.Known.{Known}

-- an act is about this built-in writer
abbrev pub is_about : Guid → tellings.TimedAct → Bool
is_about writer timed = tellings.holds (λ subject. tellings.is_guid subject writer) (tellings.subject_of timed.act)

-- the acts about it
abbrev pub about : Guid → List tellings.TimedAct → List tellings.TimedAct
about writer acts = filter (is_about writer) acts

-- the acts without their times
abbrev pub acts_of : List tellings.TimedAct → List values.ActValue
acts_of acts = map (λ timed. timed.act) acts

-- what is kept of each writer is that of the acts about it
abbrev pub AreBulletinsOf : List tellings.TimedAct → BTreeMap Guid Bulletin → Type 0
AreBulletinsOf acts bulletins = (writer : Guid) → MatchOption (get guid_order.guid_cmp bulletins writer) (about writer acts ≡ []) (bulletins_spec.IsBulletinOf (about writer acts))

-- what is kept is that of these acts
pub record IsKnownOf (acts : List tellings.TimedAct) (known : Known) : Type 0 where
  pub bulletins : AreBulletinsOf acts known.bulletins
  pub met : meetings.AreMetBy acts known.met
  pub births : lives.AreBirthsOf (acts_of acts) known.births.entries
