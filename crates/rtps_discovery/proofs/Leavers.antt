-- Who can say that a reader leaves.
use Rattle.std.proofs.Common.{◌≡◌, ◌&&◌, ◌||◌, ℕ, Bool, true, false, List, Some, None, refl, sym}
use Rattle.std.specs.Prelude.{if◌then◌else◌}
use Rattle.std.specs.Str.{bytes_eq}
use Rattle.std.proofs.lemmas.Bool.{and_parts}
use Rattle.std.proofs.lemmas.Slice.Eq.{bytes_eq-Decides}
use Rattle.rtps_ids.specs.declared.identity.Guid.{Guid}
use Rattle.rtps_wire.specs.Values as wire_values
use Rattle.rtps_receiver.specs.Speech as speech
use Rattle.rtps_receiver.specs.Values as receiver_values
use Rattle.rtps_discovery.specs.Leaving as leaving
use Rattle.rtps_discovery.specs.Notice as notice
use Rattle.rtps_discovery.specs.declared.endpoint.Side.{Side}
use Rattle.rtps_discovery.specs.declared.layout.entity.TheConstants as entity
use Rattle.rtps_discovery.specs.declared.layout.pid.TheConstants as pid
use Rattle.rtps_discovery.specs.declared.notice.Subject.{Subject}

turned : (one other : List ℕ) → bytes_eq one other ≡ true → bytes_eq other one ≡ true
turned one other e = (bytes_eq-Decides other one).1 (sym ((bytes_eq-Decides one other).0 e))

-- the key is of the reader by one of the two
by_writer : (reader : Guid) (value : wire_values.DataValue) → leaving.has_key_of reader (notice.subject_of value.writer) value ≡ true
    → (speech.is_entity entity.SUBSCRIPTIONS value.writer || speech.is_entity entity.PARTICIPANTS value.writer) ≡ true
by_writer reader value h = by (notice.is_entity entity.PARTICIPANTS.0 value.writer) (notice.is_entity entity.PUBLICATIONS.0 value.writer) (notice.is_entity entity.SUBSCRIPTIONS.0 value.writer)
    (turned value.writer.0 entity.PARTICIPANTS.0) (turned value.writer.0 entity.SUBSCRIPTIONS.0) h
  where
    second : (a b : Bool) → b ≡ true → (a || b) ≡ true
    second true b e = refl
    second false b e = e

    first : (a b : Bool) → a ≡ true → (a || b) ≡ true
    first true b e = refl
    first false b e = cc

    by : (p u s : Bool) → (p ≡ true → speech.is_entity entity.PARTICIPANTS value.writer ≡ true) → (s ≡ true → speech.is_entity entity.SUBSCRIPTIONS value.writer ≡ true)
        → leaving.has_key_of reader (if p then Some Subject.Participant else if u then Some (Subject.Endpoint Side.Writer) else if s then Some (Subject.Endpoint Side.Reader) else None) value ≡ true
        → (speech.is_entity entity.SUBSCRIPTIONS value.writer || speech.is_entity entity.PARTICIPANTS value.writer) ≡ true
    by true u s p_is s_is h = second _ _ (p_is refl)
    by false true s p_is s_is h = cc
    by false false true p_is s_is h = first _ _ (s_is refl)
    by false false false p_is s_is h = cc

pub left_by_one : (reader : Guid) (act : receiver_values.ActValue) → leaving.leaves reader act ≡ true
    → leaving.is_one_of (record { prefix = reader.prefix; entity = entity.SUBSCRIPTIONS }) (record { prefix = reader.prefix; entity = entity.PARTICIPANTS }) (speech.origin_of act) ≡ true
left_by_one reader act h =
    let parts = and_parts (speech.is_prefix act.source reader.prefix) (leaving.says_left reader act.body) h in
    together _ _ _ (turned act.source.0 reader.prefix.0 parts.0) (by_body act.body parts.1)
  where
    together : (a s p : Bool) → a ≡ true → (s || p) ≡ true → ((a && s) || (a && p)) ≡ true
    together true s p e h = h
    together false s p e h = cc

    by_body : (body : receiver_values.ActBodyValue) → leaving.says_left reader body ≡ true → (speech.is_entity entity.SUBSCRIPTIONS (speech.entity_from body) || speech.is_entity entity.PARTICIPANTS (speech.entity_from body)) ≡ true
    by_body (receiver_values.ActBodyValue.Data value) h = by_writer reader value (and_parts (leaving.is_ending (leaving.inline_value pid.STATUS_INFO value.qos)) (leaving.has_key_of reader (notice.subject_of value.writer) value) h).1
    by_body (receiver_values.ActBodyValue.Heartbeat value) h = cc
    by_body (receiver_values.ActBodyValue.AckNack value) h = cc
    by_body (receiver_values.ActBodyValue.Gap value) h = cc
    by_body (receiver_values.ActBodyValue.DataFrag value) h = cc
    by_body (receiver_values.ActBodyValue.NackFrag value) h = cc
