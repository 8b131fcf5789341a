-- What a participant lacks of what a built-in writer of endpoints told it. DDSI-RTPS 2.5, 8.5.4 "The Simple Endpoint Discovery Protocol": its writers
-- are reliable, so a reader acknowledges what it has. own: an endpoint is named where the recording has the DATA that announces it.
use Rattle.std.specs.Prelude.{ℕ, ◌≡◌, ◌&&◌, ◌||◌, Bool, List, nat_eq, nat_le, not}
use Rattle.std.specs.BTreeSet.{contains}
use Rattle.std.specs.List.{list_any}
use Rattle.std.specs.List.Sorted.{IsStrictlySortedBy}
use Rattle.std.specs.Ordering.{nat_cmp}
use Rattle.rtps_coverage.specs.Counts as counts
use Rattle.rtps_coverage.specs.Stretches as stretches
use Rattle.rtps_coverage.specs.declared.stretch.Stretch.{Stretch}
use Rattle.rtps_ids.specs.declared.identity.Guid.{Guid}
use Rattle.rtps_ids.specs.declared.identity.GuidPrefix.{GuidPrefix}
use Rattle.rtps_discovery.specs.GuidOrder as guid_order
use Rattle.rtps_known.specs.Tellings as tellings
use Rattle.rtps_known.specs.declared.bulletin.Bulletin.{Bulletin}
use Rattle.rtps_known.specs.declared.lacking.Lacking.{Lacking}
use Rattle.rtps_known.specs.declared.layout.TheConstants as layout
use Rattle.rtps_known.specs.declared.telling.Announcement.{Announcement}

-- a number says that an endpoint ends
abbrev pub is_ended : List tellings.TimedAct → ℕ → Bool
is_ended acts n = list_any (λ timed. tellings.holds (nat_eq n) (tellings.number_ended timed.act.body)) acts

-- a participant lacks a number of a writer, by the acts about that: it is told of it up to a time, the number ends nothing, and the participant never
-- acknowledges it
abbrev pub lacks : List tellings.TimedAct → GuidPrefix → ℕ → ℕ → Bool
lacks acts prefix end n = list_any (tellings.tells_until prefix end n) acts && (not (is_ended acts n) && not (list_any (tellings.acknowledges prefix n) acts))

-- an announcement is of this endpoint, and of a number that a participant lacks
abbrev pub is_lacking : List tellings.TimedAct → GuidPrefix → ℕ → Guid → Announcement → Bool
is_lacking acts prefix end guid announcement = tellings.is_guid guid announcement.endpoint && lacks acts prefix end announcement.number

-- there is one
abbrev pub lacks_endpoint : List tellings.TimedAct → GuidPrefix → ℕ → Guid → Bool
lacks_endpoint acts prefix end guid = list_any (λ timed. tellings.holds (is_lacking acts prefix end guid) (tellings.announcement_in timed.act)) acts

-- a number announces an endpoint
abbrev pub is_announcing : List tellings.TimedAct → ℕ → Bool
is_announcing acts n = list_any (λ timed. tellings.holds (λ announcement. nat_eq n announcement.number) (tellings.announcement_in timed.act)) acts

-- what a participant lacks: the endpoints, in order, each once, and how many numbers that announce none
pub record IsLackingOf (acts : List tellings.TimedAct) (prefix : GuidPrefix) (end : ℕ) (lacking : Lacking) : Type 0 where
  pub ordered : IsStrictlySortedBy guid_order.guid_cmp lacking.endpoints.items
  pub endpoints : (guid : Guid) → list_any (tellings.is_guid guid) lacking.endpoints.items ≡ lacks_endpoint acts prefix end guid
  pub unnamed : lacking.unnamed ≡ counts.count_in (λ n. lacks acts prefix end n && not (is_announcing acts n)) 1 layout.END

-- ---- the same of the code

-- a number is told, is not below a base, and ends nothing
abbrev pub is_still : List Stretch → Bulletin → ℕ → ℕ → Bool
is_still told bulletin base n = nat_le base n && (stretches.stretches_have told n && not (contains nat_cmp bulletin.ended n))

-- an announcement is of this endpoint, and of such a number
abbrev pub is_listed : List Stretch → Bulletin → ℕ → Guid → Announcement → Bool
is_listed told bulletin base guid announcement = tellings.is_guid guid announcement.endpoint && is_still told bulletin base announcement.number

-- a number announces an endpoint, or says that one ends
abbrev pub is_marked : Bulletin → ℕ → Bool
is_marked bulletin n = list_any (λ announcement. nat_eq n announcement.number) bulletin.announced.keys || list_any (nat_eq n) bulletin.ended.keys
