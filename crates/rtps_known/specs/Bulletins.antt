-- What is kept of the acts about one built-in writer of endpoints. DDSI-RTPS 2.5, 8.5.4 "The Simple Endpoint Discovery Protocol". own: a telling is
-- kept once, with its earliest time, so that what is repeated takes no memory.
use Rattle.std.specs.Prelude.{ℕ, ◌≡◌, ◌&&◌, Bool, nat_le, nat_lt, List, unwrap_or}
use Rattle.std.specs.BTreeMap.{get}
use Rattle.std.specs.List.{list_any}
use Rattle.rtps_ids.specs.declared.identity.GuidPrefix.{GuidPrefix}
use Rattle.std.specs.Cmp.Lexicographic.{slice_cmp}
use Rattle.std.specs.Ordering.{nat_cmp}
use Rattle.std.specs.declared.cmp.Ordering.{Ordering}
use Rattle.rtps_known.specs.Tellings as tellings
use Rattle.rtps_known.specs.declared.bulletin.Bulletin.{Bulletin}
use Rattle.rtps_known.specs.declared.telling.Announcement.{Announcement}
use Rattle.rtps_known.specs.declared.telling.Telling.{Telling}

-- octet by octet
abbrev pub prefix_cmp : GuidPrefix → GuidPrefix → Ordering
prefix_cmp one other = slice_cmp nat_cmp one.0 other.0

-- a telling has a number, for a participant
abbrev pub has_number : GuidPrefix → ℕ → Telling → Bool
has_number prefix n telling = tellings.is_to telling.dest prefix && (nat_le telling.lo n && nat_lt n telling.hi)

-- one that is kept does, up to a time
abbrev pub reaches : GuidPrefix → ℕ → ℕ → Telling × ℕ → Bool
reaches prefix end n kept = has_number prefix n kept.0 && nat_le kept.1 end

-- these are the tellings of acts
abbrev pub AreToldBy : List tellings.TimedAct → List (Telling × ℕ) → Type 0
AreToldBy acts kept = (prefix : GuidPrefix) (end n : ℕ) → list_any (reaches prefix end n) kept ≡ list_any (tellings.tells_until prefix end n) acts

-- these are the numbers that acts end
abbrev pub AreEndedBy : List tellings.TimedAct → List ℕ → Type 0
AreEndedBy acts kept = (test : ℕ → Bool) → list_any test kept ≡ list_any (λ timed. tellings.holds test (tellings.number_ended timed.act.body)) acts

-- these are the endpoints that acts announce
abbrev pub AreAnnouncedBy : List tellings.TimedAct → List Announcement → Type 0
AreAnnouncedBy acts kept = (test : Announcement → Bool) → list_any test kept ≡ list_any (λ timed. tellings.holds test (tellings.announcement_in timed.act)) acts

-- the greatest base that is kept of a participant
abbrev pub base_by : Bulletin → GuidPrefix → ℕ
base_by bulletin prefix = unwrap_or (get prefix_cmp bulletin.bases prefix) 0

-- below it are the numbers that it acknowledges
abbrev pub AreBasesBy : List tellings.TimedAct → (GuidPrefix → ℕ) → Type 0
AreBasesBy acts base = (prefix : GuidPrefix) (n : ℕ) → nat_lt n (base prefix) ≡ list_any (tellings.acknowledges prefix n) acts

-- what is kept of these acts
pub record IsBulletinOf (acts : List tellings.TimedAct) (bulletin : Bulletin) : Type 0 where
  pub told : AreToldBy acts bulletin.told.entries
  pub ended : AreEndedBy acts bulletin.ended.keys
  pub announced : AreAnnouncedBy acts bulletin.announced.keys
  pub bases : AreBasesBy acts (base_by bulletin)
