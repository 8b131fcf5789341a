-- An endpoint is read of parameters exactly where they tell each of its fields.
use Rattle.std.proofs.Common.{◌≡◌, ◌↔◌, Bool, true, false, ◌||◌, cond, ℕ, List, [], Option, Some, None, is_none, unwrap_or, Result, Ok, Err, refl, sym, ap, ◌∙◌}
use Rattle.std.specs.Option.{option_and_then}
use Rattle.std.proofs.lemmas.Bool.{false≢true}
use Rattle.rtps_ids.specs.declared.identity.Guid.{Guid}
use Rattle.rtps_discovery.specs.Announcement as announcement
use Rattle.rtps_discovery.specs.Endpoint as endpoint_spec
use Rattle.rtps_discovery.specs.Described as described
use Rattle.rtps_discovery.specs.declared.endpoint.Durability.{Durability}
use Rattle.rtps_discovery.specs.declared.endpoint.Reliability.{Reliability}
use Rattle.rtps_discovery.specs.declared.endpoint.Side.{Side}
use Rattle.rtps_discovery.specs.declared.fault.NoticeFault.{NoticeFault}
use Rattle.rtps_discovery.specs.declared.layout.pid.TheConstants as pid

guard_ok : {X : Type 0} (b : Bool) (f : NoticeFault) (r : Result X NoticeFault) (x : X) → cond b (Err f) r ≡ Ok x → (b ≡ false) × (r ≡ Ok x)
guard_ok true f r x e = cc
guard_ok false f r x e = (refl, e)

is_there : {X : Type 0} (o : Option X) (d : X) → is_none o ≡ false → o ≡ Some (unwrap_or o d)
is_there None d e = absurd (false≢true (sym e))
is_there (Some x) d e = refl

both_false : (a b : Bool) → (a || b) ≡ false → (a ≡ false) × (b ≡ false)
both_false true b e = absurd (false≢true (sym e))
both_false false b e = (refl, e)

not_none : {X Y : Type 0} (f : X → Option Y) (o : Option X) (y : Y) → option_and_then f o ≡ Some y → is_none o ≡ false
not_none f None y e = cc
not_none f (Some x) y e = refl

same_ok : {X : Type 0} (x y : X) (r : Result X NoticeFault) → r ≡ Ok x → r ≡ Ok y → x ≡ y
same_ok x y r p q = cc

-- the same by the fields alone
read_of : Side → Option Guid → Option (List ℕ) → Option (List ℕ) → Option (List ℕ) → Option (List ℕ) → Option Reliability → Option Durability → Result endpoint_spec.EndpointValue NoticeFault
read_of side guid topic type_name topic_text type_text reliability durability =
    cond (is_none guid) (Err NoticeFault.NoGuid) (cond (is_none topic) (Err NoticeFault.NoTopic) (cond (is_none type_name) (Err NoticeFault.NoType) (cond (is_none topic_text || is_none type_text) (Err NoticeFault.BadText)
    (cond (is_none reliability) (Err NoticeFault.BadReliability) (cond (is_none durability) (Err NoticeFault.BadDurability) (Ok (record {
      guid = unwrap_or guid announcement.unknown_guid;
      side = side;
      topic = unwrap_or topic_text [];
      type_name = unwrap_or type_text [];
      reliability = unwrap_or reliability Reliability.BestEffort;
      durability = unwrap_or durability Durability.Volatile;
    })))))))

endpoint_in-read_of : (side : Side) (fields : announcement.Fields) → announcement.endpoint_in side fields ≡ read_of side (announcement.endpoint_guid fields) (announcement.field pid.TOPIC_NAME fields) (announcement.field pid.TYPE_NAME fields) (announcement.topic_of fields) (announcement.type_name_of fields) (announcement.reliability_of side fields) (announcement.durability_of fields)
unfolding announcement.endpoint_in read_of
endpoint_in-read_of side fields = refl

-- what was read
record Read (side : Side) (guid : Option Guid) (topic type_name : Option (List ℕ)) (reliability : Option Reliability) (durability : Option Durability) (endpoint : endpoint_spec.EndpointValue) : Type 0 where
  of_guid : guid ≡ Some endpoint.guid
  of_side : endpoint.side ≡ side
  of_topic : topic ≡ Some endpoint.topic
  of_type : type_name ≡ Some endpoint.type_name
  of_reliability : reliability ≡ Some endpoint.reliability
  of_durability : durability ≡ Some endpoint.durability

read_ok : (side : Side) (guid : Option Guid) (topic type_name topic_text type_text : Option (List ℕ)) (reliability : Option Reliability) (durability : Option Durability) (endpoint : endpoint_spec.EndpointValue)
    → read_of side guid topic type_name topic_text type_text reliability durability ≡ Ok endpoint → Read side guid topic_text type_text reliability durability endpoint
unfolding read_of
read_ok side guid topic type_name topic_text type_text reliability durability endpoint e =
    let a = guard_ok (is_none guid) NoticeFault.NoGuid _ endpoint e in
    let b = guard_ok (is_none topic) NoticeFault.NoTopic _ endpoint a.1 in
    let c = guard_ok (is_none type_name) NoticeFault.NoType _ endpoint b.1 in
    let d = guard_ok (is_none topic_text || is_none type_text) NoticeFault.BadText _ endpoint c.1 in
    let r = guard_ok (is_none reliability) NoticeFault.BadReliability _ endpoint d.1 in
    let u = guard_ok (is_none durability) NoticeFault.BadDurability _ endpoint r.1 in
    let texts = both_false _ _ d.0 in
    let same = same_ok _ endpoint _ refl u.1 in
    record {
      of_guid = is_there guid announcement.unknown_guid a.0 ∙ ap (λ (x : endpoint_spec.EndpointValue). Some x.guid) same;
      of_side = sym (ap (λ (x : endpoint_spec.EndpointValue). x.side) same);
      of_topic = is_there topic_text [] texts.0 ∙ ap (λ (x : endpoint_spec.EndpointValue). Some x.topic) same;
      of_type = is_there type_text [] texts.1 ∙ ap (λ (x : endpoint_spec.EndpointValue). Some x.type_name) same;
      of_reliability = is_there reliability Reliability.BestEffort r.0 ∙ ap (λ (x : endpoint_spec.EndpointValue). Some x.reliability) same;
      of_durability = is_there durability Durability.Volatile u.0 ∙ ap (λ (x : endpoint_spec.EndpointValue). Some x.durability) same;
    }

ok_read : (side : Side) (guid : Option Guid) (topic type_name topic_text type_text : Option (List ℕ)) (reliability : Option Reliability) (durability : Option Durability) (endpoint : endpoint_spec.EndpointValue)
    → is_none topic ≡ false → is_none type_name ≡ false → Read side guid topic_text type_text reliability durability endpoint
    → read_of side guid topic type_name topic_text type_text reliability durability ≡ Ok endpoint
unfolding read_of
ok_read side guid topic type_name topic_text type_text reliability durability endpoint some_topic some_type h =
    rw (h.of_guid, some_topic, some_type, h.of_topic, h.of_type, h.of_reliability, h.of_durability, ← h.of_side) refl

pub endpoint_told : (side : Side) (fields : announcement.Fields) (endpoint : endpoint_spec.EndpointValue) → (announcement.endpoint_in side fields ≡ Ok endpoint) ↔ described.IsDescribedBy side fields endpoint
endpoint_told side fields endpoint = (there, back)
  where
    there : announcement.endpoint_in side fields ≡ Ok endpoint → described.IsDescribedBy side fields endpoint
    there e =
        let h = read_ok side (announcement.endpoint_guid fields) (announcement.field pid.TOPIC_NAME fields) (announcement.field pid.TYPE_NAME fields) (announcement.topic_of fields) (announcement.type_name_of fields) (announcement.reliability_of side fields) (announcement.durability_of fields) endpoint
        (sym (endpoint_in-read_of side fields) ∙ e) in
        record { of_guid = h.of_guid; of_side = h.of_side; of_topic = h.of_topic; of_type = h.of_type; of_reliability = h.of_reliability; of_durability = h.of_durability }

    back : described.IsDescribedBy side fields endpoint → announcement.endpoint_in side fields ≡ Ok endpoint
    back h =
        endpoint_in-read_of side fields ∙ ok_read side (announcement.endpoint_guid fields) (announcement.field pid.TOPIC_NAME fields) (announcement.field pid.TYPE_NAME fields) (announcement.topic_of fields) (announcement.type_name_of fields) (announcement.reliability_of side fields) (announcement.durability_of fields) endpoint
        (not_none _ (announcement.field pid.TOPIC_NAME fields) endpoint.topic h.of_topic) (not_none _ (announcement.field pid.TYPE_NAME fields) endpoint.type_name h.of_type)
        (record { of_guid = h.of_guid; of_side = h.of_side; of_topic = h.of_topic; of_type = h.of_type; of_reliability = h.of_reliability; of_durability = h.of_durability })

guid_ok : (found : Option Guid) (guid : Guid) → (cond (is_none found) (Err NoticeFault.NoGuid) (Ok (unwrap_or found announcement.unknown_guid)) ≡ Ok guid) ↔ (found ≡ Some guid)
guid_ok None guid = (λ e. cc, λ e. cc)
guid_ok (Some other) guid = (λ e. cc, λ e. cc)

pub participant_told : (fields : announcement.Fields) (guid : Guid) → (announcement.participant_in fields ≡ Ok guid) ↔ (announcement.participant_guid fields ≡ Some guid)
unfolding announcement.participant_in
participant_told fields guid = guid_ok (announcement.participant_guid fields) guid
