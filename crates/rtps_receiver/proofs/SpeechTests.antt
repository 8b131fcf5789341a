-- The tests of who speaks, hears and answers say what the relations say.
use Rattle.std.proofs.Common.{◌≡◌, Bool, true, false, ◌||◌, Option, Some, None, refl, ap, inl, inr, ◌⊎◌}
use Rattle.std.specs.Bool.{Decides}
use Rattle.std.proofs.lemmas.Slice.Eq.{bytes_eq-Decides}
use Rattle.std.proofs.lemmas.Bool.Decides.{Decides-and, Decides-like}
use Rattle.rtps_ids.specs.declared.identity.EntityId.{EntityId}
use Rattle.rtps_ids.specs.declared.identity.Guid.{Guid}
use Rattle.rtps_ids.specs.declared.identity.GuidPrefix.{GuidPrefix}
use Rattle.rtps_receiver.specs.Speech as speech
use Rattle.rtps_receiver.specs.Values as values

prefix_decides : (one other : GuidPrefix) → Decides (speech.is_prefix one other) (one ≡ other)
prefix_decides one other = Decides-like _ (λ e. ap (λ (octets : _). let made : GuidPrefix = record { 0 = octets } in made) e) (λ e. ap (λ (p : GuidPrefix). p.0) e) (bytes_eq-Decides one.0 other.0)

entity_decides : (one other : EntityId) → Decides (speech.is_entity one other) (one ≡ other)
entity_decides one other = Decides-like _ (λ e. ap (λ (octets : _). let made : EntityId = record { 0 = octets } in made) e) (λ e. ap (λ (p : EntityId). p.0) e) (bytes_eq-Decides one.0 other.0)

names_decides : (named : Option EntityId) (entity : EntityId) → Decides (speech.names named entity) (named ≡ Some entity)
names_decides (Some named) entity = Decides-like _ (λ e. ap Some e) (λ e. cc) (entity_decides named entity)
names_decides None entity = (λ e. cc, λ e. cc)

for_decides : (dest : Option GuidPrefix) (prefix : GuidPrefix) → Decides (speech.is_for dest prefix) (dest ≡ Some prefix)
for_decides (Some dest) prefix = Decides-like _ (λ e. ap Some e) (λ e. cc) (prefix_decides dest prefix)
for_decides None prefix = (λ e. cc, λ e. cc)

all_decides : (dest : Option GuidPrefix) → Decides (speech.is_for_all dest) (dest ≡ None)
all_decides (Some dest) = (λ e. cc, λ e. cc)
all_decides None = (λ e. refl, λ e. refl)

or_decides : {P Q : Type 0} (a b : Bool) → Decides a P → Decides b Q → Decides (a || b) (P ⊎ Q)
or_decides true b p q = (λ e. inl (p.0 refl), λ e. refl)
or_decides false b p q = (λ e. inr (q.0 e), λ e. elim e [ inl h ↦ absurd (let no = p.1 h in cc) | inr h ↦ q.1 h ])

pair_decides : (body : values.ActBodyValue) (reader writer : EntityId) → Decides (speech.names_pair body reader writer) (speech.NamesPair body reader writer)
pair_decides (values.ActBodyValue.AckNack value) reader writer = Decides-and _ _ (entity_decides value.reader reader) (entity_decides value.writer writer)
pair_decides (values.ActBodyValue.Data value) reader writer = (λ e. cc, λ e. absurd e)
pair_decides (values.ActBodyValue.Heartbeat value) reader writer = (λ e. cc, λ e. absurd e)
pair_decides (values.ActBodyValue.Gap value) reader writer = (λ e. cc, λ e. absurd e)
pair_decides (values.ActBodyValue.DataFrag value) reader writer = (λ e. cc, λ e. absurd e)
pair_decides (values.ActBodyValue.NackFrag value) reader writer = (λ e. cc, λ e. absurd e)

asked_decides : (body : values.ActBodyValue) (reader writer : EntityId) → Decides (speech.asks_pair body reader writer) (speech.AsksPair body reader writer)
asked_decides (values.ActBodyValue.AckNack value) reader writer = Decides-and _ _ (entity_decides value.reader reader) (entity_decides value.writer writer)
asked_decides (values.ActBodyValue.NackFrag value) reader writer = Decides-and _ _ (entity_decides value.reader reader) (entity_decides value.writer writer)
asked_decides (values.ActBodyValue.Data value) reader writer = (λ e. cc, λ e. absurd e)
asked_decides (values.ActBodyValue.Heartbeat value) reader writer = (λ e. cc, λ e. absurd e)
asked_decides (values.ActBodyValue.Gap value) reader writer = (λ e. cc, λ e. absurd e)
asked_decides (values.ActBodyValue.DataFrag value) reader writer = (λ e. cc, λ e. absurd e)

pub spoken_decides : (act : values.ActValue) (writer : Guid) → Decides (speech.is_spoken_by act writer) (speech.IsSpokenBy act writer)
spoken_decides act writer =
    Decides-like _ (λ h. record { source = h.0; entity = h.1 }) (λ h. (h.source, h.entity))
    (Decides-and _ _ (prefix_decides act.source writer.prefix) (names_decides (speech.writer_named act.body) writer.entity))

pub heard_decides : (act : values.ActValue) (reader : Guid) → Decides (speech.is_heard_by act reader) (speech.IsHeardBy act reader)
heard_decides act reader =
    Decides-like _ (λ h. record { dest = h.0; entity = h.1 }) (λ h. (h.dest, h.entity))
    (Decides-and _ _ (or_decides _ _ (all_decides act.dest) (for_decides act.dest reader.prefix))
    (or_decides _ _ (names_decides (speech.reader_named act.body) speech.unknown_entity) (names_decides (speech.reader_named act.body) reader.entity)))

pub answer_decides : (act : values.ActValue) (reader writer : Guid) → Decides (speech.is_answer act reader writer) (speech.IsAnswer act reader writer)
answer_decides act reader writer =
    Decides-like _ (λ h. record { source = h.0; dest = h.1.0; entities = h.1.1 }) (λ h. (h.source, (h.dest, h.entities)))
    (Decides-and _ _ (prefix_decides act.source reader.prefix)
    (Decides-and _ _ (for_decides act.dest writer.prefix) (pair_decides act.body reader.entity writer.entity)))

pub request_decides : (act : values.ActValue) (reader writer : Guid) → Decides (speech.is_request act reader writer) (speech.IsRequest act reader writer)
request_decides act reader writer =
    Decides-like _ (λ h. record { source = h.0; dest = h.1.0; entities = h.1.1 }) (λ h. (h.source, (h.dest, h.entities)))
    (Decides-and _ _ (prefix_decides act.source reader.prefix)
    (Decides-and _ _ (for_decides act.dest writer.prefix) (asked_decides act.body reader.entity writer.entity)))
