-- How much of a recording the row of a pair is by: from which number on, and up to which datagram. DDSI-RTPS 2.5, 8.5.4 "The Simple
-- Endpoint Discovery Protocol". own: what a writer sent before a reader was there, and what it sends behind its leaving, is not owed.
use Rattle.std.specs.Prelude.{ℕ, Bool, true, false, ◌-◌, ◌+◌, ◌≡◌, ◌≤◌, ◌<◌, ◌==◌, ◌&&◌, ◌||◌, nat_lt, not, if◌then◌else◌, max, min, List, map, Option, Some, None, unwrap_or}
use Rattle.std.specs.List.{before_first, find, list_any}
use Rattle.std.specs.Option.{option_map}
use Rattle.rtps_ids.specs.declared.identity.Guid.{Guid}
use Rattle.rtps_discovery.specs.Directory as directory_spec
use Rattle.rtps_discovery.specs.Endpoint as endpoint
use Rattle.rtps_discovery.specs.Leaving as leaving
use Rattle.rtps_discovery.specs.declared.endpoint.Durability.{Durability}
use Rattle.rtps_discovery.specs.declared.matching.Pair.{Pair}
use Rattle.rtps_audit.specs.Delivery as delivery
use Rattle.rtps_audit.specs.Intake as intake_spec
use Rattle.rtps_audit.specs.Placed as placed
use Rattle.rtps_audit.specs.Said as audit_said
use Rattle.rtps_fragments.specs.Hearing as hearing
use Rattle.rtps_receiver.specs.Said as said
use Rattle.rtps_receiver.specs.Values as values
use Rattle.rtps_audit.specs.declared.answer.Answer.{Answer}
use Rattle.rtps_evidence.specs.Locations as locations
use Rattle.rtps_evidence.specs.Missed as missed
use Rattle.rtps_evidence.specs.Received as received
use Rattle.rtps_evidence.specs.declared.location.Location.{Location}
use Rattle.rtps_evidence.specs.declared.span.Span.{Span}

-- ---- joining. A reader joins where it is announced first, whoever hears that

-- an answer of the reader claims some number of the writer, before a place
abbrev pub claims_before : Location → Pair → placed.PlacedValue → Bool
claims_before place pair placed = locations.is_before place placed && nat_lt 1 (locations.base_said pair.writer pair.reader placed)

-- the same of an answer that is kept
abbrev pub claims_at_before : Location → Answer → Bool
claims_at_before place answer =
    (nat_lt answer.datagram place.datagram || ((answer.datagram == place.datagram) && nat_lt answer.at place.at)) && nat_lt 1 (said.natural answer.base)

-- The reader joins in this recording: it is announced, and claims nothing of the writer before. A reader that does was there before the
-- recording began
abbrev pub is_joined_here : Option Location → Pair → List placed.PlacedValue → Bool
is_joined_here (Some place) pair acts = not (list_any (claims_before place pair) acts)
is_joined_here None pair acts = false

-- the place behind which acts are since the reader joined; None is in front of all
abbrev pub since_of : Span → Option Location
since_of span = if span.is_joined_here then span.joined else None

-- ---- from which number on

-- the durability of a reader that asks for what comes, and for nothing that was written before
abbrev pub is_lowest : Durability → Bool
is_lowest Durability.Volatile = true
is_lowest Durability.TransientLocal = false
is_lowest Durability.Transient = false
is_lowest Durability.Persistent = false

-- the endpoint, if there is one, has it
abbrev pub is_volatile : Option endpoint.EndpointValue → Bool
is_volatile (Some endpoint) = is_lowest endpoint.durability
is_volatile None = false

-- the number that the writer announces by an act before a place, whoever hears it, or 0
abbrev pub number_before : Location → Guid → placed.PlacedValue → ℕ
number_before place writer placed = if locations.is_before place placed then locations.number_said writer placed else 0

-- the greatest of them, or 0
abbrev pub announced_before : Location → Guid → List placed.PlacedValue → ℕ
announced_before place writer acts = delivery.greatest (map (number_before place writer) acts)

-- the reader hears a GAP, behind a place, that tells n gone
abbrev pub gaps_behind : Option Location → Guid → Guid → ℕ → placed.PlacedValue → Bool
gaps_behind place writer reader n placed = locations.is_behind place placed && (locations.is_gap placed.act.body && received.withdraws writer reader n placed)

-- it does in front of all that the writer sends it behind the place: what a writer calls irrelevant before it sent the reader anything was
-- written before they matched
abbrev pub is_gone_first : Location → Pair → List placed.PlacedValue → ℕ → Bool
is_gone_first place pair acts n =
    list_any (gaps_behind (Some place) pair.writer pair.reader n) (before_first (missed.brings_some (Some place) pair.writer pair.reader) acts)

-- one more than the greatest number that has it; 0 where none has it
pub record IsEndOf (has : ℕ → Bool) (end : ℕ) : Type 0 where
  pub below : (n : ℕ) → has n ≡ true → n < end
  pub last : 0 < end → has (end - 1) ≡ true

-- The least number that may be owed to a reader: to a volatile one, only what is announced behind the place where it joins, and is not
-- told gone first. Where numbers are announced up to the last that there is, 2^63 - 1, it is the one behind that
abbrev pub least_owed : ℕ → Bool → ℕ → ℕ → ℕ
least_owed from volatile announced gone_end = if volatile then max from (max (announced + 1) gone_end) else from

-- n is for the reader: it hears a payload of it, or a fragment of one, behind the place where it joins; or it asks for it, wherever
abbrev pub is_for_reader : Location → Pair → List placed.PlacedValue → ℕ → Bool
is_for_reader place pair acts n = list_any (missed.brings_behind (Some place) pair.writer pair.reader n) acts || list_any (missed.asks_for pair.writer pair.reader n) acts

-- the least number from lo on that has it, if there is one
abbrev pub IsLeastFrom : (ℕ → Bool) → ℕ → Option ℕ → Type 0
IsLeastFrom has lo None = (n : ℕ) → lo ≤ n → has n ≡ false
IsLeastFrom has lo (Some number) = (lo ≤ number) × (has number ≡ true) × ((n : ℕ) → lo ≤ n → n < number → has n ≡ false)

-- the lesser of two numbers, where there are two
abbrev pub lesser_of : Option ℕ → Option ℕ → Option ℕ
lesser_of None other = other
lesser_of (Some one) None = Some one
lesser_of (Some one) (Some other) = Some (min one other)

-- there is a number, and it is below this one
abbrev pub is_below : ℕ → Option ℕ → Bool
is_below end None = false
is_below end (Some number) = nat_lt number end

-- a row begins with the least number that is for the reader, from the least one that may be owed on; with that one where none is
pub record IsFirstOwed (owed : ℕ) (place : Location) (pair : Pair) (acts : List placed.PlacedValue) (number : ℕ) : Type 0 where
  pub least : Option ℕ
  pub is_least : IsLeastFrom (is_for_reader place pair acts) owed least
  pub is : number ≡ unwrap_or least owed

-- a reader, all of whose announcements agree, is volatile
pub record IsVolatileIn (intake : intake_spec.Intake) (reader : Guid) (volatile : Bool) : Type 0 where
  pub directory : directory_spec.DirectoryValue
  pub is_map : directory_spec.IsMapOf (intake_spec.acts_together intake.announcing) directory
  pub is : volatile ≡ is_volatile (directory_spec.settled_at directory.endpoints reader)

-- the least number that may be owed to the reader of a pair, which joins at a place
pub record IsOwedFrom (from : ℕ) (place : Location) (pair : Pair) (intake : intake_spec.Intake) (owed : ℕ) : Type 0 where
  pub volatile : Bool
  pub is_volatile : IsVolatileIn intake pair.reader volatile
  pub gone_end : ℕ
  pub is_gone_end : IsEndOf (is_gone_first place pair (placed.placed_in intake.acts)) gone_end
  pub is : owed ≡ least_owed from volatile (announced_before place pair.writer (placed.placed_in intake.acts)) gone_end

-- the number from which on a row is, where the reader joins at a place of this recording
pub record IsFirstIn (from : ℕ) (place : Location) (pair : Pair) (intake : intake_spec.Intake) (number : ℕ) : Type 0 where
  pub owed : ℕ
  pub is_owed : IsOwedFrom from place pair intake owed
  pub is_first : IsFirstOwed owed place pair (placed.placed_in intake.acts) number

-- the number from which on a row is: the one that is chosen, where the reader does not join here
pub record IsFrom (from : ℕ) (joined : Option Location) (pair : Pair) (intake : intake_spec.Intake) (number : ℕ) : Type 0 where
  pub elsewhere : is_joined_here joined pair (placed.placed_in intake.acts) ≡ false → number ≡ from
  pub here : (place : Location) → joined ≡ Some place → is_joined_here joined pair (placed.placed_in intake.acts) ≡ true → IsFirstIn from place pair intake number

-- the writer announces numbers by these acts, and all of them stand before this one
abbrev pub wrote_before : ℕ → Guid → List placed.PlacedValue → Bool
wrote_before from writer acts = nat_lt 0 (delivery.greatest (map (locations.number_said writer) acts)) && nat_lt (delivery.greatest (map (locations.number_said writer) acts)) from

-- ---- up to which datagram

-- an act behind the place where the reader joins says that it leaves
abbrev pub leaves_behind : Location → Guid → placed.PlacedValue → Bool
leaves_behind place reader placed = locations.is_behind (Some place) placed && leaving.leaves reader placed.act

-- the datagram in which a reader that joins at a place leaves; None where it does not
abbrev pub left_in : Option Location → Guid → List placed.PlacedValue → Option ℕ
left_in None reader acts = None
left_in (Some place) reader acts = option_map (λ placed. placed.datagram) (find (leaves_behind place reader) acts)

-- ---- the span of a pair

-- it is the whole recording, by the numbers from `from` on
pub record IsWhole (from : ℕ) (pair : Pair) (intake : intake_spec.Intake) (span : Span) : Type 0 where
  pub joined : span.joined ≡ missed.place_announced pair.reader (placed.placed_in intake.announcing)
  pub here : span.is_joined_here ≡ is_joined_here span.joined pair (placed.placed_in intake.acts)
  pub first : span.from ≡ from
  pub until : span.until ≡ None

-- it is the span of a pair by the numbers from `from` on
pub record IsSpan (from : ℕ) (pair : Pair) (intake : intake_spec.Intake) (span : Span) : Type 0 where
  pub joined : span.joined ≡ missed.place_announced pair.reader (placed.placed_in intake.announcing)
  pub here : span.is_joined_here ≡ is_joined_here span.joined pair (placed.placed_in intake.acts)
  pub first : IsFrom from span.joined pair intake span.from
  pub until : span.until ≡ left_in span.joined pair.reader (placed.placed_in intake.acts)

-- what a row is by: its span, where rows are in spans, or else the whole recording
abbrev pub IsExtent : Bool → ℕ → Pair → intake_spec.Intake → Span → Type 0
IsExtent true from pair intake span = IsSpan from pair intake span
IsExtent false from pair intake span = IsWhole from pair intake span

-- the acts that a row is by: what its reader hears of the datagrams of the span. What is sent behind them tells it nothing
abbrev pub heard_in : Span → Pair → List (List values.ActValue) → List (List values.ActValue)
heard_in span pair acts = hearing.heard_by pair.reader (audit_said.datagrams_until span.until acts)
