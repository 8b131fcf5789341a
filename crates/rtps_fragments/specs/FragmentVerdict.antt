-- The verdict on a recording by all runs in which the reader takes samples whole or in fragments. own: the standard names no
-- verdict. Line by line it is the verdict by runs without fragments, with what a reader has in place of what it holds.
use Rattle.std.specs.Prelude.{ℕ, ◌<◌, ◌≤◌, ◌+◌, ◌≡◌, ◌≢◌, pos, length}
use Rattle.rtps_wire.specs.Values as values
use Rattle.rtps_audit.specs.Delivery as delivery
use Rattle.rtps_audit.specs.RunVerdict as run_verdict
use Rattle.rtps_audit.specs.declared.verdict.Verdict.{Verdict}
use Rattle.rtps_fragments.specs.FragmentDelivery as fragment_delivery

-- some datagram before place j has the word for n
pub record IsSaidBefore (from : ℕ) (speech : fragment_delivery.FragmentSpeech) (j n : ℕ) (word : delivery.Word) : Type 0 where
  pub place : ℕ
  pub act : ℕ
  pub earlier : place < j
  pub gives : delivery.Gives from (fragment_delivery.said_in speech) place act n word

-- some datagram before place j has the fragment
pub record IsSentBefore (from : ℕ) (speech : fragment_delivery.FragmentSpeech) (j : ℕ) (fragment : fragment_delivery.Fragment) : Type 0 where
  pub place : ℕ
  pub piece : ℕ
  pub earlier : place < j
  pub gives : fragment_delivery.GivesFragment from speech place piece fragment

-- by what the datagrams before place j give, the payload of n is told or can be put together
abbrev pub IsPayloadBefore : ℕ → fragment_delivery.FragmentSpeech → ℕ → ℕ → values.PayloadValue → Type 0
IsPayloadBefore from speech j n payload = fragment_delivery.HasPayloadOf (IsSaidBefore from speech j) (IsSentBefore from speech j) n payload

-- by what they give, there is a word for n
abbrev pub IsWordBefore : ℕ → fragment_delivery.FragmentSpeech → ℕ → ℕ → Type 0
IsWordBefore from speech j n = fragment_delivery.HasWordOf (IsSaidBefore from speech j) (IsSentBefore from speech j) n

-- no list of allowed events sends the datagram at place j
abbrev pub IsFragmentUnsendable : ℕ → fragment_delivery.FragmentSpeech → ℕ → Type 0
IsFragmentUnsendable from speech j = (j < length speech) × ((state : fragment_delivery.FragmentState) → fragment_delivery.IsFragmentReached from speech state → state.sent ≤ j)

-- the answers in the datagram at place j claim n, and by what earlier datagrams give there is no word for it
abbrev pub ClaimsWithoutWord : ℕ → fragment_delivery.FragmentSpeech → ℕ → ℕ → Type 0
ClaimsWithoutWord from speech j n = delivery.Claims from (fragment_delivery.said_in speech) j n × ¬ IsWordBefore from speech j n

-- some run ends with two different payloads for n
abbrev pub EndsWithTwoPayloads : ℕ → fragment_delivery.FragmentSpeech → ℕ → Type 0
EndsWithTwoPayloads from speech n = (end : fragment_delivery.FragmentState) × (x : values.PayloadValue) × (y : values.PayloadValue) × fragment_delivery.FragmentsEnd from speech end × fragment_delivery.HasPayload end n x × fragment_delivery.HasPayload end n y × (x ≢ y)

-- some run ends without a word for n, which is asked for and at most the last announced number
abbrev pub EndsWithoutWord : ℕ → fragment_delivery.FragmentSpeech → ℕ → Type 0
EndsWithoutWord from speech n = delivery.IsAsked from n × (n ≤ delivery.last_announced_from from (fragment_delivery.said_in speech)) × ((end : fragment_delivery.FragmentState) × fragment_delivery.FragmentsEnd from speech end × ¬ fragment_delivery.HasWord end n)

-- what a verdict says of the numbers from `from` on. A datagram counts from 1
abbrev pub IsFragmentVerdictFrom : ℕ → fragment_delivery.FragmentSpeech → Verdict → Type 0
IsFragmentVerdictFrom from speech (Verdict.Unfounded datagram number) =
    ¬ fragment_delivery.HasFragmentRun from speech × ((j : ℕ) × (datagram ≡ j + 1) × run_verdict.IsLeast (IsFragmentUnsendable from speech) j × run_verdict.OnNatural number (run_verdict.IsLeast (ClaimsWithoutWord from speech j)))
IsFragmentVerdictFrom from speech (Verdict.Conflict number) = fragment_delivery.HasFragmentRun from speech × run_verdict.OnNatural number (run_verdict.IsLeast (EndsWithTwoPayloads from speech))
IsFragmentVerdictFrom from speech (Verdict.Open number) =
    fragment_delivery.HasFragmentRun from speech × ((n : ℕ) → ¬ EndsWithTwoPayloads from speech n) × run_verdict.OnNatural number (run_verdict.IsLeast (EndsWithoutWord from speech))
IsFragmentVerdictFrom from speech (Verdict.Complete last) =
    (last ≡ pos (delivery.last_announced_from from (fragment_delivery.said_in speech))) × fragment_delivery.HasFragmentRun from speech × ((n : ℕ) → ¬ EndsWithTwoPayloads from speech n)
    × ((end : fragment_delivery.FragmentState) → fragment_delivery.FragmentsEnd from speech end → (n : ℕ) → delivery.IsAsked from n → n ≤ delivery.last_announced_from from (fragment_delivery.said_in speech) → fragment_delivery.HasWord end n)
