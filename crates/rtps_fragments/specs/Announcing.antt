-- What a recording announces by its acts and by the samples of built-in writers. DDSI-RTPS 2.5, 8.5 "Discovery Module", by which anybody
-- may note what a built-in writer announces, and 9.3.1.2 "Mapping of the EntityId_t". own: such a sample announces what a DATA with its
-- payload would, and stands behind the act that completes it.
use Rattle.std.specs.Prelude.{Bool, nat_le, get_or, if◌then◌else◌, List, [], map, Option, Some, None}
use Rattle.rtps_ids.specs.declared.identity.EntityId.{EntityId}
use Rattle.rtps_receiver.specs.Speech as speech
use Rattle.rtps_receiver.specs.Values as values
use Rattle.rtps_fragments.specs.FragmentDelivery as fragment_delivery
use Rattle.rtps_fragments.specs.Samples as samples
use Rattle.rtps_fragments.specs.SampleActs as sample_acts
use Rattle.rtps_fragments.specs.SamplesSent as samples_sent

-- the entity is a built-in one: the two highest bits of the last octet of its id are set (9.3.1.2)
abbrev pub is_built_in : EntityId → Bool
is_built_in entity = nat_le 0xc0 (get_or entity.0 3 0)

-- the samples of a built-in writer that an act tells a reader which hears everything, behind these, each as a DATA for everyone
abbrev pub notes_told : List sample_acts.PieceAct → values.ActValue → Option fragment_delivery.Piece → List values.ActValue
notes_told before act (Some piece) = if is_built_in (speech.entity_from act.body) then map (samples_sent.noted_act act piece.number) (samples.told_by (samples_sent.sent_by (speech.origin_of act) before) piece) else []
notes_told before act None = []

-- acts, each with these samples behind it
abbrev pub acts_and_notes : List sample_acts.PieceAct → List sample_acts.PieceAct → List values.ActValue
acts_and_notes before acts = sample_acts.acts_and notes_told before acts

-- those of each datagram
abbrev pub datagrams_and_notes : List sample_acts.PieceAct → List (List sample_acts.PieceAct) → List (List values.ActValue)
datagrams_and_notes before recording = sample_acts.datagrams_and notes_told before recording

-- the acts of which a directory notes what they announce: those of a recording with the samples of built-in writers among them
abbrev pub announcing_with : List (List sample_acts.PieceAct) → List (List values.ActValue)
announcing_with recording = datagrams_and_notes [] recording
