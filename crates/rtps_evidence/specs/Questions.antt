-- Whether a reader was asked since its last answer. DDSI-RTPS 2.5, 8.3.8.6 "Heartbeat": one without the final flag asks for an
-- answer. own: a reader that was not asked is late, and one that was asked and did not answer is gone.
use Rattle.std.specs.Prelude.{ℕ, Bool, false, ◌≡◌, ◌&&◌, not, List, filter, length, Option}
use Rattle.std.specs.List.{find}
use Rattle.std.specs.Option.{option_map}
use Rattle.rtps_ids.specs.declared.identity.Guid.{Guid}
use Rattle.rtps_receiver.specs.Speech as speech
use Rattle.rtps_receiver.specs.Values as values
use Rattle.rtps_audit.specs.Placed as placed
use Rattle.rtps_audit.specs.declared.answer.Answer.{Answer}
use Rattle.rtps_evidence.specs.Locations as locations
use Rattle.rtps_evidence.specs.declared.location.Location.{Location}
use Rattle.rtps_evidence.specs.declared.questions.Questions.{Questions}

-- a HEARTBEAT that asks for an answer
abbrev pub is_question : values.ActBodyValue → Bool
is_question (values.ActBodyValue.Heartbeat value) = not value.is_final
is_question (values.ActBodyValue.Data value) = false
is_question (values.ActBodyValue.AckNack value) = false
is_question (values.ActBodyValue.Gap value) = false
is_question (values.ActBodyValue.DataFrag value) = false
is_question (values.ActBodyValue.NackFrag value) = false

-- the reader hears one from the writer, behind a place
abbrev pub questions_behind : Option Location → Guid → Guid → placed.PlacedValue → Bool
questions_behind place writer reader placed = locations.is_behind place placed && (speech.is_spoken_by placed.act writer && (speech.is_heard_by placed.act reader && is_question placed.act.body))

-- where the reader's last answer to the writer stands, whatever its base
abbrev pub place_answered : Guid → Guid → List placed.PlacedValue → Option Location
place_answered writer reader acts = option_map locations.location_of (locations.find_last (λ placed. speech.is_answer placed.act reader writer) acts)

-- where an answer stands
abbrev pub place_of : Answer → Location
place_of answer = record { datagram = answer.datagram; at = answer.at }

-- how many of these acts ask behind the place of the last answer, and where the first and the last of them stand
pub record AreAsked (place : Option Location) (writer reader : Guid) (acts : List placed.PlacedValue) (questions : Questions) : Type 0 where
  pub since : questions.since ≡ place
  pub count : questions.count ≡ length (filter (questions_behind place writer reader) acts)
  pub first : questions.first ≡ option_map locations.location_of (find (questions_behind place writer reader) acts)
  pub last : questions.last ≡ option_map locations.location_of (locations.find_last (questions_behind place writer reader) acts)

-- how often the reader was asked since its last answer, and where at first and at last
abbrev pub AreQuestions : Guid → Guid → List placed.PlacedValue → Questions → Type 0
AreQuestions writer reader acts questions = AreAsked (place_answered writer reader acts) writer reader acts questions

-- how often
abbrev pub asked_since : Guid → Guid → List placed.PlacedValue → ℕ
asked_since writer reader acts = length (filter (questions_behind (place_answered writer reader acts) writer reader) acts)

-- where at first
abbrev pub first_asked : Guid → Guid → List placed.PlacedValue → Option Location
first_asked writer reader acts = option_map locations.location_of (find (questions_behind (place_answered writer reader acts) writer reader) acts)

-- where at last
abbrev pub last_asked : Guid → Guid → List placed.PlacedValue → Option Location
last_asked writer reader acts = option_map locations.location_of (locations.find_last (questions_behind (place_answered writer reader acts) writer reader) acts)
