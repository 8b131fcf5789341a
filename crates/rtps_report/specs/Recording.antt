-- What a recording is. own: what was left out of one is a part of it, since a verdict speaks of what is there.
use Rattle.std.specs.Prelude.{ℕ, ◌+◌, List, Option, None, Some}
use Rattle.rtps_evidence.specs.Times as times
use Rattle.rtps_report.specs.declared.recording.Reasons.{Reasons}

-- the datagrams in the order in which they were sent, when each came, how many frames of a capture gave none, and where any is read for
-- which reasons
pub record RecordingValue : Type 0 where
  pub datagrams : List (List ℕ)
  pub times : times.TimesValue
  pub ignored : Option ℕ
  pub reasons : Option Reasons

-- all frames that gave none
abbrev pub ignored_by : Reasons → ℕ
ignored_by reasons = reasons.pieces + reasons.cut + reasons.other + reasons.links.number

-- the reasons; none of each where they are not known
abbrev pub known : Option Reasons → Reasons
known None = record { pieces = 0; cut = 0; other = 0; links = record { number = 0; first = None } }
known (Some reasons) = reasons
