-- Laws over definitions alone. Those on deliveries hold whatever the number is from which on numbers are asked for.
-- own: what a reader of the definitions would ask of them.
use Rattle.std.specs.Prelude.{ℕ, ℤ, ◌<◌, ◌≤◌, ◌≡◌, ◌↔◌, ◌^◌, pos, List, ◌++◌, length, All, Contains, Option, None}
use Rattle.rtps_ids.specs.declared.identity.Guid.{Guid}
use Rattle.rtps_wire.specs.declared.nack_frag.NackFrag.{NackFrag as NackFragBody}
use Rattle.rtps_receiver.specs.Values as values
use Rattle.rtps_audit.specs.Delivery as delivery
use Rattle.rtps_audit.specs.RunVerdict as run_verdict
use Rattle.rtps_audit.specs.PlainVerdict as plain_verdict
use Rattle.rtps_audit.specs.FullRun as full_run
use Rattle.rtps_audit.specs.Delivered as delivered
use Rattle.rtps_audit.specs.Intake as intake
use Rattle.rtps_audit.specs.Report as report
use Rattle.rtps_audit.specs.Said as said
use Rattle.rtps_audit.specs.Speech as speech
use Rattle.rtps_audit.specs.declared.report.Report.{Report}
use Rattle.rtps_audit.specs.declared.verdict.Verdict.{Verdict}

-- a word that is held was given by an act of a datagram that is sent
abbrev pub HeldWasGiven : ℕ → delivery.Speech → delivery.DeliveryState → Type 0
HeldWasGiven from speech state = (n : ℕ) (word : delivery.Word) → Contains state.held (n, word) → (i : ℕ) × (k : ℕ) × (i < state.sent) × delivery.Gives from speech i k n word

-- each number that an answer in a datagram that is sent claims is held
abbrev pub ClaimedIsHeld : ℕ → delivery.Speech → delivery.DeliveryState → Type 0
ClaimedIsHeld from speech state = (i n : ℕ) → i < state.sent → delivery.Claims from speech i n → delivery.Holds state n

-- whatever events are allowed, one after another, both are so
abbrev pub ReachedStatesAreSound : Type 0
ReachedStatesAreSound = (from : ℕ) (speech : delivery.Speech) (state : delivery.DeliveryState) → delivery.IsReached from speech state → HeldWasGiven from speech state × ClaimedIsHeld from speech state

-- a run exists exactly where each number that an answer claims has a word in an earlier datagram
abbrev pub RunsExistWhereFounded : Type 0
RunsExistWhereFounded = (from : ℕ) (speech : delivery.Speech) → delivery.HasRun from speech ↔ plain_verdict.IsFounded from speech

-- a run exists exactly where the run that takes all it can after each send is allowed. A bound on the numbers that are
-- told makes what it can take finite
abbrev pub FullRunDecides : Type 0
FullRunDecides = (from : ℕ) (speech : delivery.Speech) (bound : ℕ) → full_run.IsBoundedBy from speech bound → delivery.HasRun from speech ↔ full_run.IsFullRunAllowed from speech bound

-- by whatever bound, it is the same run
abbrev pub FullRunIsOne : Type 0
FullRunIsOne = (from : ℕ) (speech : delivery.Speech) (bound other : ℕ) → full_run.IsBoundedBy from speech bound → full_run.IsBoundedBy from speech other → full_run.full_run from speech bound ≡ full_run.full_run from speech other

-- the verdict by runs is the one by conditions on the recording alone
abbrev pub VerdictsAgree : Type 0
VerdictsAgree = (from : ℕ) (speech : delivery.Speech) (verdict : Verdict) → run_verdict.IsVerdictFrom from speech verdict ↔ plain_verdict.IsPlainVerdictFrom from speech verdict

-- where each claimed number has a word in an earlier datagram, no number has two different payloads, and each number that
-- is asked for, up to the last announced one, is claimed, the verdict by runs is complete
abbrev pub PlainMeansComplete : Type 0
PlainMeansComplete =
    (from : ℕ) (speech : delivery.Speech) → plain_verdict.IsFounded from speech → ((n : ℕ) → ¬ plain_verdict.SpeaksTwo from speech n)
    → ((n : ℕ) → delivery.IsAsked from n → n ≤ delivery.last_announced_from from speech → plain_verdict.IsClaimed from speech n)
    → run_verdict.IsVerdictFrom from speech (Verdict.Complete (pos (delivery.last_announced_from from speech)))

-- no recording has two verdicts
abbrev pub HasNoTwoVerdicts : Type 0
HasNoTwoVerdicts = (from : ℕ) (speech : delivery.Speech) (one other : Verdict) → run_verdict.IsVerdictFrom from speech one → run_verdict.IsVerdictFrom from speech other → one ≡ other

-- each recording of words for numbers below some bound has one
abbrev pub EachHasAVerdict : Type 0
EachHasAVerdict = (from : ℕ) (speech : delivery.Speech) (bound : ℕ) → full_run.IsBoundedBy from speech bound → (verdict : Verdict) × run_verdict.IsVerdictFrom from speech verdict

-- two recordings say the same: of each place the words, the claims, and in all the last announced number
pub record SaysTheSame (from : ℕ) (one other : delivery.Speech) : Type 0 where
  pub counted : length one ≡ length other
  pub words : (i n : ℕ) (word : delivery.Word) → ((k : ℕ) × delivery.Gives from one i k n word) ↔ ((k : ℕ) × delivery.Gives from other i k n word)
  pub claims : (j n : ℕ) → delivery.Claims from one j n ↔ delivery.Claims from other j n
  pub announced : delivery.last_announced_from from one ≡ delivery.last_announced_from from other

-- the verdict does not depend on how words are shared out among acts
abbrev pub VerdictsFollowWhatIsSaid : Type 0
VerdictsFollowWhatIsSaid = (from : ℕ) (one other : delivery.Speech) (verdict : Verdict) → SaysTheSame from one other → run_verdict.IsVerdictFrom from one verdict → run_verdict.IsVerdictFrom from other verdict

-- what is recorded are octets
abbrev pub AreOctets : List (List ℕ) → Type 0
AreOctets recording = All (All (λ octet. octet < 256)) recording

-- each word of a recording of octets is for a number that fits (DDSI-RTPS 2.5, 9.3.2 "Mapping of the Types that Appear
-- Within Submessages or Built-in Topic Data": a sequence number has 64 bits, of which one is the sign)
abbrev pub RecordingsAreBounded : Type 0
RecordingsAreBounded =
    (from : ℕ) (writer reader : Guid) (recording : List (List ℕ)) → AreOctets recording → full_run.IsBoundedBy from (speech.speech_of writer reader recording) (2 ^ 63)

-- of any two GUIDs each recording has a verdict
abbrev pub EachRecordingHasAVerdict : Type 0
EachRecordingHasAVerdict = (from : ℕ) (writer reader : Guid) (recording : List (List ℕ)) → (verdict : Verdict) × run_verdict.IsVerdictFrom from (speech.speech_of writer reader recording) verdict

-- and a run exists exactly where the run that takes all it can after each send is one
abbrev pub FullRunDecidesRecordings : Type 0
FullRunDecidesRecordings =
    (from : ℕ) (writer reader : Guid) (recording : List (List ℕ)) → delivery.HasRun from (speech.speech_of writer reader recording) ↔ full_run.IsFullRun from (speech.speech_of writer reader recording)

-- a word that is held stays held, whatever events are allowed after it
abbrev pub HeldStaysHeld : Type 0
HeldStaysHeld =
    (from : ℕ) (speech : delivery.Speech) (old : delivery.DeliveryState) (events : List delivery.Event) (new : delivery.DeliveryState) → delivery.Follows from speech old events new
    → (n : ℕ) (word : delivery.Word) → Contains old.held (n, word) → Contains new.held (n, word)

-- These events are a run, at no time of which the reader has a word for n.
pub record IsRunWithout (from : ℕ) (speech : delivery.Speech) (n : ℕ) (events : List delivery.Event) : Type 0 where
  pub end : delivery.DeliveryState
  pub follows : delivery.Follows from speech delivery.start events end
  pub ends : end.sent ≡ length speech
  pub never : (before behind : List delivery.Event) (state : delivery.DeliveryState) → events ≡ before ++ behind → delivery.Follows from speech delivery.start before state → ¬ delivery.Holds state n

-- The number n is the first that a reader may miss: some run never has a word for it, and every run ends with one for
-- each smaller number that is asked for.
pub record IsFirstMissed (from : ℕ) (speech : delivery.Speech) (n : ℕ) : Type 0 where
  pub asked : delivery.IsAsked from n
  pub announced : n ≤ delivery.last_announced_from from speech
  pub missed : (events : List delivery.Event) × IsRunWithout from speech n events
  pub smaller : (end : delivery.DeliveryState) → delivery.Ends from speech end → (m : ℕ) → delivery.IsAsked from m → m < n → delivery.Holds end m

-- what the verdict open says
abbrev pub OpenIsFirstMissed : Type 0
OpenIsFirstMissed = (from : ℕ) (speech : delivery.Speech) (number : ℤ) → run_verdict.IsVerdictFrom from speech (Verdict.Open number) → run_verdict.OnNatural number (IsFirstMissed from speech)

-- some run ends with two different payloads for n, and none does for a smaller number
pub record IsFirstConflict (from : ℕ) (speech : delivery.Speech) (n : ℕ) : Type 0 where
  pub conflict : run_verdict.EndsInConflict from speech n
  pub smaller : (m : ℕ) → m < n → ¬ run_verdict.EndsInConflict from speech m

-- what the verdict conflict says
abbrev pub ConflictIsFirst : Type 0
ConflictIsFirst = (from : ℕ) (speech : delivery.Speech) (number : ℤ) → run_verdict.IsVerdictFrom from speech (Verdict.Conflict number) → run_verdict.OnNatural number (IsFirstConflict from speech)

-- the verdict by the first datagrams of what a recording says is the verdict on the recording that ends there
abbrev pub FirstDatagramsDecide : Type 0
FirstDatagramsDecide =
    (from : ℕ) (writer reader : Guid) (until : Option ℕ) (recording : List (List ℕ)) (verdict : Verdict)
    → delivered.IsExactVerdictFrom from (speech.speech_by writer reader (said.datagrams_until until (intake.intake_of recording).acts)) verdict ↔ delivered.IsExactVerdictFrom from (speech.speech_of writer reader (said.datagrams_until until recording)) verdict

-- a NACK_FRAG has no word for any number, claims none and announces none, whoever hears it
abbrev pub NackFragsSayNothing : Type 0
NackFragsSayNothing =
    (writer reader : Guid) (act : values.ActValue) (asks : NackFragBody) → act.body ≡ values.ActBodyValue.NackFrag asks
    → ((n : ℕ) → speech.word_for writer reader act n ≡ None) × (speech.base_for writer reader act ≡ None) × (speech.announced_for writer act ≡ None)

-- what is taken in has one report: the same rows, and the same counts. So has a recording
abbrev pub HasOneReport : Type 0
HasOneReport =
    (from : ℕ) (intake : intake.Intake) (one other : Report) → report.IsReportBy from intake one → report.IsReportBy from intake other
    → (one.rows.items ≡ other.rows.items) × (one.counts ≡ other.counts)
