-- What a writer says and a reader answers, as entries of a page. DDSI-RTPS 2.5, 8.3.8.1 "AckNack", 8.3.8.2 "Data", 8.3.8.3
-- "DataFrag", 8.3.8.4 "Gap" and 8.3.8.6 "Heartbeat".
-- own: an entry is an array of JSON and no object, since there can be very many. A HEARTBEAT says two things: that the numbers
-- below its first are gone, and the last number. A GAP has an entry for the numbers below its list, and one for each of its list.
-- A DATA_FRAG has one for the fragments that it sends, and behind it one for each sample that is complete by it. Where it tells each
-- reader of the writer's rows that hears it as many samples as one who hears everything, these name whom the DATA_FRAG names; else
-- each names a reader that is told the sample. So a chart shows one dot for it, and knows by the fragments which of them were sent
-- again. An answer takes an entry for its base, and one for each number that it asks for.
use Rattle.std.specs.Prelude.{ℕ, ℤ, pos, Bool, ◌≡◌, ◌<◌, ◌+◌, ◌-◌, ◌/◌, nat_lt, ◌++◌, ◌==◌, ◌||◌, not, if◌then◌else◌, List, [], ◌∷◌, codes, filter, get_or, length, map, max, replicate, take, Option, None, Some, flat_map}
use Rattle.std.specs.List.{list_all, range_with_len}
use Rattle.hex.specs.Hex.{encode_lower}
use Rattle.json.specs.Json.{Json, string}
use Rattle.rtps_ids.specs.NumberSet as number_set
use Rattle.rtps_ids.specs.declared.identity.EntityId.{EntityId}
use Rattle.rtps_ids.specs.declared.identity.Guid.{Guid}
use Rattle.rtps_ids.specs.declared.identity.GuidPrefix.{GuidPrefix}
use Rattle.rtps_receiver.specs.Audience as audience
use Rattle.rtps_receiver.specs.Speech as speech
use Rattle.rtps_receiver.specs.Values as values
use Rattle.rtps_receiver.specs.declared.speech.Audience.{Audience}
use Rattle.rtps_discovery.specs.declared.matching.Pair.{Pair}
use Rattle.rtps_audit.specs.Placed as placed
use Rattle.rtps_evidence.specs.Locations as locations
use Rattle.rtps_evidence.specs.declared.location.Location.{Location}
use Rattle.rtps_fragments.specs.SampleCounts as sample_counts
use Rattle.rtps_json.specs.JsonText as json_text
use Rattle.rtps_page.specs.declared.tellings.Telling.{Telling}
use Rattle.rtps_page.specs.declared.tellings.Tellings.{Tellings}

-- the participant that an act is sent to; nothing where it is sent to everyone
abbrev pub prefix_text : Option GuidPrefix → List ℕ
prefix_text None = []
prefix_text (Some prefix) = encode_lower prefix.0

-- the reader that an act names, behind a dot; nothing where it names every reader
abbrev pub entity_text : EntityId → List ℕ
entity_text entity = if speech.is_entity entity speech.unknown_entity then [] else 46 ∷ encode_lower entity.0

-- whom an act names; nothing where that is no one
unfoldable pub audience_text : Option Audience → List ℕ
audience_text None = []
audience_text (Some audience) = prefix_text audience.dest ++ entity_text audience.reader

-- whom it names as the last item of an entry, where it names someone
abbrev pub named_json : List ℕ → List Json
named_json named = if length named == 0 then [] else string named ∷ []

-- an entry: where its act stands, its kind, its numbers, and whom the act names
abbrev pub entry_json : Location → List ℕ → List ℕ → List ℤ → Json
entry_json place named kind numbers = json_text.array_of (json_text.count_json place.datagram ∷ json_text.count_json place.at ∷ string kind ∷ (map json_text.number_json numbers ++ named_json named))

-- that the numbers from one on and below another are gone; nothing where there are none
abbrev pub gone_json : Location → List ℕ → ℕ → ℕ → List Json
gone_json place named from past = if nat_lt from past then entry_json place named (codes "gone") (pos from ∷ pos (past - 1) ∷ []) ∷ [] else []

-- that one number is gone
abbrev pub one_gone_json : Location → List ℕ → ℕ → Json
one_gone_json place named number = entry_json place named (codes "gone") (pos number ∷ pos number ∷ [])

-- the numbers of a set, in their order
abbrev pub members_of : number_set.NumberSetValue → List ℕ
members_of set = filter (number_set.is_member set) (range_with_len set.base set.count)

-- how many fragments of this size have so many octets; the last one may be shorter
abbrev pub fragments_in : ℕ → ℕ → ℕ
fragments_in size octets = (octets + (max 1 size - 1)) / max 1 size

-- that fragments of a number are sent: the first of them, and how many; nothing where the act sends none
abbrev pub piece_json : Location → List ℕ → ℕ → Option values.SentPartValue → List Json
piece_json place named number None = []
piece_json place named number (Some part) =
    entry_json place named (codes "piece") (pos number ∷ pos part.first ∷ pos (fragments_in part.shape.fragment (length part.octets)) ∷ []) ∷ []

-- the entries of what an act says there
abbrev pub entries_at : Location → List ℕ → values.ActBodyValue → List Json
entries_at place named (values.ActBodyValue.Data value) = entry_json place named (codes "data") (pos value.number ∷ []) ∷ []
entries_at place named (values.ActBodyValue.Heartbeat value) = gone_json place named 1 value.first ++ entry_json place named (codes "announced") (value.last ∷ []) ∷ []
entries_at place named (values.ActBodyValue.Gap value) = gone_json place named value.start value.list.base ++ map (one_gone_json place named) (members_of value.list)
entries_at place named (values.ActBodyValue.DataFrag value) = piece_json place named value.number value.sent
entries_at place named (values.ActBodyValue.AckNack value) = []
entries_at place named (values.ActBodyValue.NackFrag value) = []

-- the entries of an act
abbrev pub entries_of : placed.PlacedValue → List Json
entries_of placed = entries_at (locations.location_of placed) (audience_text (audience.audience_of placed.act)) placed.act.body

-- ---- samples in fragments

-- that a sample of this number is complete
abbrev pub sample_json : Location → List ℕ → ℕ → Json
sample_json place named number = entry_json place named (codes "sample") (pos number ∷ [])

-- a reader, and how many samples an act tells it
pub record Told : Type 0 where
  pub reader : Guid
  pub samples : ℕ

-- the audience that is one reader
abbrev pub only : Guid → Option Audience
only reader = Some (record { dest = Some reader.prefix; reader = reader.entity })

-- the reader does not hear the act, or is told so many samples by it
abbrev pub is_told_alike : values.ActValue → ℕ → Told → Bool
is_told_alike act all told = not (speech.is_heard_by act told.reader) || (told.samples == all)

-- each of these that hears an act is told so many samples by it
abbrev pub are_told_alike : values.ActValue → ℕ → List Told → Bool
are_told_alike act all each = list_all (is_told_alike act all) each

-- the samples of this number that are complete at a place for one reader
abbrev pub samples_to : Location → ℕ → Told → List Json
samples_to place number told = replicate told.samples (sample_json place (audience_text (only told.reader)) number)

-- The samples of this number that an act tells, where it tells one who hears everything so many: where each of these is told as many, for
-- those whom the act names, and else for each of these.
abbrev pub samples_json : placed.PlacedValue → ℕ → List Told → ℕ → List Json
samples_json placed all each number =
    if are_told_alike placed.act all each
    then replicate all (sample_json (locations.location_of placed) (audience_text (audience.audience_of placed.act)) number)
    else flat_map (samples_to (locations.location_of placed) number) each

-- those of the number of a DATA_FRAG; other acts tell none
abbrev pub samples_in : placed.PlacedValue → ℕ → List Told → values.ActBodyValue → List Json
samples_in placed all each (values.ActBodyValue.DataFrag value) = samples_json placed all each value.number
samples_in placed all each (values.ActBodyValue.Data value) = []
samples_in placed all each (values.ActBodyValue.Heartbeat value) = []
samples_in placed all each (values.ActBodyValue.Gap value) = []
samples_in placed all each (values.ActBodyValue.AckNack value) = []
samples_in placed all each (values.ActBodyValue.NackFrag value) = []

-- how many samples an act tells each of these readers, behind others
abbrev pub told_to : List Guid → List placed.PlacedValue → placed.PlacedValue → List Told
told_to readers before placed = map (λ reader. record { reader = reader; samples = sample_counts.samples_at reader before placed }) readers

-- the samples that an act tells these readers, behind others
abbrev pub samples_behind : List Guid → List placed.PlacedValue → placed.PlacedValue → List Json
samples_behind readers before placed = samples_in placed (sample_counts.overheard_at before placed) (told_to readers before placed) placed.act.body

-- ---- what a writer says

-- acts behind others, each with the samples that it tells these readers
abbrev pub entries_behind : List Guid → List placed.PlacedValue → List placed.PlacedValue → List Json
entries_behind readers before [] = []
entries_behind readers before (placed ∷ acts) = (entries_of placed ++ samples_behind readers before placed) ++ entries_behind readers (before ++ placed ∷ []) acts

-- the readers of the pairs of a writer
abbrev pub readers_of : List Pair → Guid → List Guid
readers_of pairs writer = map (λ pair. pair.reader) (filter (λ pair. placed.is_guid pair.writer writer) pairs)

-- The entries of all that this writer says by these acts, to whichever reader. The readers of these pairs are told samples.
abbrev pub entries_by : List Pair → Guid → List placed.PlacedValue → List Json
entries_by pairs writer acts = entries_behind (readers_of pairs writer) [] (filter (placed.is_from writer) acts)

-- ---- what is counted of the acts of a writer

-- what is counted of a reader, as numbers
pub record Counted : Type 0 where
  pub reader : Guid
  pub counts : List ℕ

-- what is counted of a reader
abbrev pub counted_of : Telling → Counted
counted_of telling = record { reader = telling.reader; counts = map sample_counts.number_of telling.counts.items }

-- what is to be counted of a reader by these acts
abbrev pub counts_for : List placed.PlacedValue → Guid → Counted
counts_for acts reader = record { reader = reader; counts = sample_counts.counts_behind (sample_counts.samples_at reader) [] acts }

-- what is counted of a reader, of the act at this place
abbrev pub told_of : ℕ → Telling → Told
told_of at telling = record { reader = telling.reader; samples = get_or (map sample_counts.number_of telling.counts.items) at 0 }

-- the samples that the act at this place tells by what is counted
abbrev pub samples_counted : Tellings → ℕ → placed.PlacedValue → List Json
samples_counted tellings at placed = samples_in placed (get_or (map sample_counts.number_of tellings.all.items) at 0) (map (told_of at) tellings.each.items) placed.act.body

-- It counts what each of these acts tells these readers.
abbrev pub AreTellings : List Guid → List placed.PlacedValue → Tellings → Type 0
AreTellings readers acts tellings =
    (at : ℕ) (placed : placed.PlacedValue) → at < length acts → placed ≡ get_or acts at placed → samples_counted tellings at placed ≡ samples_behind readers (take at acts) placed

-- ---- what a reader answers

-- the answers of a pair's reader to its writer
abbrev pub answers_in : Pair → List placed.PlacedValue → List placed.PlacedValue
answers_in pair acts = filter (λ placed. speech.is_answer placed.act pair.reader pair.writer) acts

-- the numbers of an answer: its base, and those that it asks for
abbrev pub numbers_in : values.ActBodyValue → List ℕ
numbers_in (values.ActBodyValue.AckNack value) = value.set.base ∷ members_of value.set
numbers_in (values.ActBodyValue.Data value) = []
numbers_in (values.ActBodyValue.Heartbeat value) = []
numbers_in (values.ActBodyValue.Gap value) = []
numbers_in (values.ActBodyValue.DataFrag value) = []
numbers_in (values.ActBodyValue.NackFrag value) = []

-- those of all answers, each of which takes an entry
abbrev pub numbers_answered : Pair → List placed.PlacedValue → List ℕ
numbers_answered pair acts = flat_map (λ placed. numbers_in placed.act.body) (answers_in pair acts)

-- its base, and an array of those that it asks for
abbrev pub set_items : values.ActBodyValue → List Json
set_items (values.ActBodyValue.AckNack value) = json_text.number_json (pos value.set.base) ∷ json_text.array_of (map json_text.count_json (members_of value.set)) ∷ []
set_items (values.ActBodyValue.Data value) = []
set_items (values.ActBodyValue.Heartbeat value) = []
set_items (values.ActBodyValue.Gap value) = []
set_items (values.ActBodyValue.DataFrag value) = []
set_items (values.ActBodyValue.NackFrag value) = []

-- an answer: where it stands, its base, and what it asks for
abbrev pub answer_json : placed.PlacedValue → Json
answer_json placed = json_text.array_of (json_text.count_json placed.datagram ∷ json_text.count_json placed.act.at ∷ set_items placed.act.body)
