-- What a recording says of one writer and one reader. DDSI-RTPS 2.5, 8.3.8.1 "AckNack", 8.3.8.2 "Data", 8.3.8.3
-- "DataFrag", 8.3.8.4 "Gap" and 8.3.8.6 "Heartbeat", by the datagrams' acts (8.3.4 "The RTPS Message Receiver").
use Rattle.std.specs.Prelude.{ℕ, ◌&&◌, if◌then◌else◌, List, map, Option, Some, None}
use Rattle.std.specs.List.{filter_map}
use Rattle.std.specs.Option.{option_map}
use Rattle.rtps_ids.specs.declared.identity.Guid.{Guid}
use Rattle.rtps_wire.specs.Reading as reading
use Rattle.rtps_receiver.specs.Acts as acts
use Rattle.rtps_receiver.specs.Said as said
use Rattle.rtps_receiver.specs.Speech as speech
use Rattle.rtps_receiver.specs.Values as values
use Rattle.rtps_audit.specs.Delivery as delivery

-- what is said of a number from 1 on: that it will not come, or its payload
abbrev pub word_in : said.SaidValue → ℕ → Option delivery.Word
word_in value n = if value.gone n then Some delivery.Word.Gone else if said.is_at n value.brought then option_map delivery.Word.Told value.payload else None

-- what an act says of it. A DATA_FRAG says what its sample is, where that was put together
abbrev pub word_of : values.ActBodyValue → ℕ → Option delivery.Word
word_of body n = word_in (said.said body) n

-- for the reader, if it hears the act from the writer
abbrev pub word_for : Guid → Guid → values.ActValue → ℕ → Option delivery.Word
word_for writer reader act n = if speech.is_spoken_by act writer && speech.is_heard_by act reader then word_of act.body n else None

-- the base of an ACKNACK, by which the reader claims each number below it
abbrev pub base_of_body : values.ActBodyValue → Option ℕ
base_of_body (values.ActBodyValue.AckNack value) = Some value.set.base
base_of_body (values.ActBodyValue.Data value) = None
base_of_body (values.ActBodyValue.Heartbeat value) = None
base_of_body (values.ActBodyValue.Gap value) = None
base_of_body (values.ActBodyValue.DataFrag value) = None
base_of_body (values.ActBodyValue.NackFrag value) = None

-- the base of an answer of this reader to this writer
abbrev pub base_for : Guid → Guid → values.ActValue → Option ℕ
base_for writer reader act = if speech.is_answer act reader writer then base_of_body act.body else None

-- the number that the writer announces by an act, whoever hears it
abbrev pub announced_of_body : values.ActBodyValue → Option ℕ
announced_of_body body = (said.said body).announced

-- the number that an act announces, where this writer speaks it
abbrev pub announced_for : Guid → values.ActValue → Option ℕ
announced_for writer act = if speech.is_spoken_by act writer then announced_of_body act.body else None

-- what the acts of one datagram say of the writer and the reader
abbrev pub said_by : Guid → Guid → List values.ActValue → delivery.Datagram
said_by writer reader acts =
    record {
      acts = map (word_for writer reader) acts;
      bases = filter_map (base_for writer reader) acts;
      announced = filter_map (announced_for writer) acts;
    }

-- what a recording says of them by its acts: those of each datagram, in the order of sending
abbrev pub speech_by : Guid → Guid → List (List values.ActValue) → delivery.Speech
speech_by writer reader recording = map (said_by writer reader) recording

-- the acts of datagrams of these octets
abbrev pub acts_by_datagram : List (List ℕ) → List (List values.ActValue)
acts_by_datagram datagrams = map (λ datagram. acts.acts_of (reading.reading_of datagram)) datagrams

-- what a recording says of them, which is the octets of its datagrams in the order of sending
abbrev pub speech_of : Guid → Guid → List (List ℕ) → delivery.Speech
speech_of writer reader recording = speech_by writer reader (acts_by_datagram recording)
