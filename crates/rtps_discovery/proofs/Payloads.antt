-- The list that stands in a payload, and what is read where one does or does not.
use Rattle.std.proofs.Common.{◌≡◌, ℕ, ◌≤◌, ◌<◌, ◌⊎◌, inl, inr, ◌↔◌, Bool, true, false, List, ◌++◌, length, take, drop, nat_eq, Option, Some, None, Result, Ok, Err, refl, sym, ap, subst, ◌∙◌, arith}
use Rattle.std.specs.Cmp.Lexicographic.{pointwise, bytes_decides}
use Rattle.std.proofs.Math.Seq.{drop-append_seam, take-add, take-append_seam}
use Rattle.std.proofs.lemmas.Bool.{cases_lt}
use Rattle.std.proofs.lemmas.Bool.Decides.{nat_tests}
use Rattle.std.proofs.lemmas.List.{length-append, length-take, take-append-drop}
use Rattle.rtps_ids.specs.declared.identity.Guid.{Guid}
use Rattle.rtps_ids.specs.declared.order.Order.{Order}
use Rattle.rtps_params.specs.Grammar as grammar
use Rattle.rtps_params.specs.Reading as reading
use Rattle.rtps_params.specs.declared.fault.ParamFault.{ParamFault}
use Rattle.rtps_discovery.specs.Announcement as announcement
use Rattle.rtps_discovery.specs.Endpoint as endpoint
use Rattle.rtps_discovery.specs.Payload as payload_spec
use Rattle.rtps_discovery.specs.Described as described
use Rattle.rtps_discovery.specs.declared.endpoint.Side.{Side}
use Rattle.rtps_discovery.specs.declared.fault.NoticeFault.{NoticeFault}
use Rattle.rtps_discovery.specs.declared.layout.representation.TheConstants as representation
use Rattle.rtps_discovery.proofs.Told.{endpoint_told, participant_told}

-- what the crate of lists says of where one ends, and of its pairs
pub record Ends : Type 0 where
  pub list : (order : Order) (octets : List ℕ) (used : ℕ) → (reading.list_end order octets ≡ Ok used) ↔ ((used ≤ length octets) × ((pairs : grammar.Pairs) × grammar.IsList order pairs (take used octets)))
  pub pairs : (order : Order) (pairs : grammar.Pairs) (list rest : List ℕ) → grammar.IsList order pairs list → reading.pairs_of order (list ++ rest) ≡ pairs

list_ends : Ends → (order : Order) (pairs : grammar.Pairs) (list rest : List ℕ) → grammar.IsList order pairs list → reading.list_end order (list ++ rest) ≡ Ok (length list)
list_ends ends order pairs list rest h =
    (ends.list order (list ++ rest) (length list)).1 (omega (arith, length-append list rest), (pairs, subst (grammar.IsList order pairs) (sym (take-append_seam list rest)) h))

-- ---- the order that a representation names
order_named : (order : Order) (front behind : List ℕ) → payload_spec.NamesOrder order front → announcement.order_of (front ++ behind) ≡ Some order
order_named Order.Big front behind h = rw h.whole refl
order_named Order.Little front behind h = rw h.whole refl

id_of : (id : List ℕ) (order : Order) (big little : Bool) → pointwise nat_eq id representation.PL_CDR_BE ≡ big → pointwise nat_eq id representation.PL_CDR_LE ≡ little → announcement.order_of_id id ≡ Some order → id ≡ payload_spec.id_in order
id_of id Order.Big true little b l e = (bytes_decides id representation.PL_CDR_BE).0 b
id_of id Order.Little true little b l e = absurd (let f = rw b at e in cc)
id_of id Order.Big false true b l e = absurd (let f = rw (b, l) at e in cc)
id_of id Order.Little false true b l e = (bytes_decides id representation.PL_CDR_LE).0 l
id_of id order false false b l e = absurd (let f = rw (b, l) at e in cc)

order_names : (order : Order) (payload : List ℕ) → 4 ≤ length payload → announcement.order_of payload ≡ Some order → payload_spec.NamesOrder order (take 4 payload)
order_names order payload room e =
    record {
      options = take 2 (drop 2 payload);
      size = omega (arith, length-take 4 payload);
      whole = take-add 2 2 payload ∙ ap (λ (id : List ℕ). id ++ take 2 (drop 2 payload)) (id_of (take 2 payload) order _ _ refl refl e);
    }

-- ---- the four answers
fields-cut : (payload : List ℕ) → length payload < 4 → announcement.fields_of payload ≡ Err NoticeFault.CutRepresentation
unfolding announcement.fields_of
fields-cut payload short = grind (arith, nat_tests)

fields-unnamed : (payload : List ℕ) → 4 ≤ length payload → announcement.order_of payload ≡ None → announcement.fields_of payload ≡ Err NoticeFault.Representation
unfolding announcement.fields_of
fields-unnamed payload room none = grind (arith, nat_tests)

fields-unlisted : (payload : List ℕ) (order : Order) (cut : ParamFault) → 4 ≤ length payload → announcement.order_of payload ≡ Some order → reading.list_end order (drop 4 payload) ≡ Err cut → announcement.fields_of payload ≡ Err NoticeFault.List
unfolding announcement.fields_of
fields-unlisted payload order cut room named end = grind (arith, nat_tests)

-- what is read of a list in this order
abbrev fields_in : Order → grammar.Pairs → announcement.Fields
fields_in order pairs = record { order = order; pairs = pairs }

fields-listed : (payload : List ℕ) (order : Order) (used : ℕ) → 4 ≤ length payload → announcement.order_of payload ≡ Some order → reading.list_end order (drop 4 payload) ≡ Ok used
    → announcement.fields_of payload ≡ Ok (fields_in order (reading.pairs_of order (drop 4 payload)))
unfolding announcement.fields_of
fields-listed payload order used room named end = grind (arith, nat_tests)

-- ---- from what a payload holds to the answer
behind_front : (front behind : List ℕ) → length front ≡ 4 → drop 4 (front ++ behind) ≡ behind
behind_front front behind size = rw size at (drop-append_seam front behind)

room_for : (front behind : List ℕ) → length front ≡ 4 → 4 ≤ length (front ++ behind)
room_for front behind size = omega (arith, length-append front behind)

fields_where_held : Ends → (payload : List ℕ) (fields : announcement.Fields) → payload_spec.HoldsFields payload fields → announcement.fields_of payload ≡ Ok fields
fields_where_held ends payload fields h =
    let behind : List ℕ = h.list ++ h.rest in
    let there : drop 4 payload ≡ behind = ap (drop 4) h.whole ∙ behind_front h.front behind h.names_order.size in
    let room : 4 ≤ length payload = rw h.whole (room_for h.front behind h.names_order.size) in
    let named : announcement.order_of payload ≡ Some fields.order = ap announcement.order_of h.whole ∙ order_named fields.order h.front behind h.names_order in
    let end : reading.list_end fields.order (drop 4 payload) ≡ Ok (length h.list) = ap (reading.list_end fields.order) there ∙ list_ends ends fields.order fields.pairs h.list h.rest h.is_list in
    fields-listed payload fields.order (length h.list) room named end
    ∙ ap (λ (pairs : grammar.Pairs). Ok (fields_in fields.order pairs)) (ap (reading.pairs_of fields.order) there ∙ ends.pairs fields.order fields.pairs h.list h.rest h.is_list)

unnamed : (order : Option Order) (payload : List ℕ) → announcement.order_of payload ≡ order → payload_spec.NamesNone payload → order ≡ None
unnamed None payload e h = refl
unnamed (Some order) payload e h =
    let room : 4 ≤ length payload = rw h.whole (room_for h.front h.behind h.size) in
    let same : take 4 payload ≡ h.front = ap (take 4) h.whole ∙ (rw h.size at (take-append_seam h.front h.behind)) in
    absurd (h.names_none order (subst (payload_spec.NamesOrder order) same (order_names order payload room e)))

list_begins : Ends → (order : Order) (octets : List ℕ) (used : ℕ) → reading.list_end order octets ≡ Ok used → grammar.BeginsWithList order octets
list_begins ends order octets used end =
    let found = (ends.list order octets used).0 end in
    record { pairs = found.1.0; list = take used octets; rest = drop used octets; whole = sym (take-append-drop used octets); is_list = found.1.1 }

unlisted : Ends → (payload : List ℕ) (h : payload_spec.ListsNothing payload) (end : Result ℕ ParamFault) → reading.list_end h.order (drop 4 payload) ≡ end → announcement.fields_of payload ≡ Err NoticeFault.List
unlisted ends payload h (Ok used) e =
    let there : drop 4 payload ≡ h.behind = ap (drop 4) h.whole ∙ behind_front h.front h.behind h.names_order.size in
    absurd (h.no_list (list_begins ends h.order h.behind used (ap (reading.list_end h.order) (sym there) ∙ e)))
unlisted ends payload h (Err cut) e =
    fields-unlisted payload h.order cut (rw h.whole (room_for h.front h.behind h.names_order.size)) (ap announcement.order_of h.whole ∙ order_named h.order h.front h.behind h.names_order) e

pub fault_where_none : Ends → (payload : List ℕ) (fault : NoticeFault) → payload_spec.LacksList fault payload → announcement.fields_of payload ≡ Err fault
fault_where_none ends payload NoticeFault.CutRepresentation h = fields-cut payload h
fault_where_none ends payload NoticeFault.Representation h =
    fields-unnamed payload (rw h.whole (room_for h.front h.behind h.size)) (unnamed (announcement.order_of payload) payload refl h)
fault_where_none ends payload NoticeFault.List h = unlisted ends payload h _ refl
fault_where_none ends payload NoticeFault.NoGuid h = absurd h
fault_where_none ends payload NoticeFault.NoTopic h = absurd h
fault_where_none ends payload NoticeFault.NoType h = absurd h
fault_where_none ends payload NoticeFault.BadText h = absurd h
fault_where_none ends payload NoticeFault.BadReliability h = absurd h
fault_where_none ends payload NoticeFault.BadDurability h = absurd h

-- ---- each payload holds a list or lacks one
abbrev Held : List ℕ → Type 0
Held payload = ((fields : announcement.Fields) × payload_spec.HoldsFields payload fields) ⊎ ((fault : NoticeFault) × payload_spec.LacksList fault payload)

held_by_end : Ends → (payload : List ℕ) (order : Order) (end : Result ℕ ParamFault) → 4 ≤ length payload → announcement.order_of payload ≡ Some order → reading.list_end order (drop 4 payload) ≡ end → Held payload
held_by_end ends payload order (Ok used) room named e =
    let found = list_begins ends order (drop 4 payload) used e in
    inl (
      fields_in order found.pairs,
      record {
        front = take 4 payload;
        list = found.list;
        rest = found.rest;
        whole = sym (take-append-drop 4 payload) ∙ ap (λ (behind : List ℕ). take 4 payload ++ behind) found.whole;
        names_order = order_names order payload room named;
        is_list = found.is_list;
      },
    )
held_by_end ends payload order (Err cut) room named e =
    inr (
      NoticeFault.List,
      record {
        order = order;
        front = take 4 payload;
        behind = drop 4 payload;
        whole = sym (take-append-drop 4 payload);
        names_order = order_names order payload room named;
        no_list = λ begins. let ok = ap (reading.list_end order) begins.whole ∙ list_ends ends order begins.pairs begins.list begins.rest begins.is_list in cc;
      },
    )

held_by_order : Ends → (payload : List ℕ) (order : Option Order) → 4 ≤ length payload → announcement.order_of payload ≡ order → Held payload
held_by_order ends payload (Some order) room e = held_by_end ends payload order _ room e refl
held_by_order ends payload None room e =
    inr (
      NoticeFault.Representation,
      record {
        front = take 4 payload;
        behind = drop 4 payload;
        whole = sym (take-append-drop 4 payload);
        size = omega (arith, length-take 4 payload);
        names_none = λ order names. let named = ap announcement.order_of (sym (take-append-drop 4 payload)) ∙ order_named order (take 4 payload) (drop 4 payload) names in cc;
      },
    )

held : Ends → (payload : List ℕ) → Held payload
held ends payload =
    elim (cases_lt (length payload) 4) [
      | inl short ↦ inr (NoticeFault.CutRepresentation, short)
      | inr room ↦ held_by_order ends payload _ room refl
    ]

-- ---- from the answer to what a payload holds
read_held : Ends → (payload : List ℕ) (fields : announcement.Fields) → Held payload → announcement.fields_of payload ≡ Ok fields → payload_spec.HoldsFields payload fields
read_held ends payload fields (inl h) e = let same : h.0 ≡ fields = (let other = fields_where_held ends payload h.0 h.1 in cc) in subst (payload_spec.HoldsFields payload) same h.1
read_held ends payload fields (inr h) e = absurd (let other = fault_where_none ends payload h.0 h.1 in cc)

fault_lacks : Ends → (payload : List ℕ) (fault : NoticeFault) → Held payload → announcement.fields_of payload ≡ Err fault → payload_spec.LacksList fault payload
fault_lacks ends payload fault (inl h) e = absurd (let other = fields_where_held ends payload h.0 h.1 in cc)
fault_lacks ends payload fault (inr h) e = let same : h.0 ≡ fault = (let other = fault_where_none ends payload h.0 h.1 in cc) in subst (λ f. payload_spec.LacksList f payload) same h.1

pub fields_held : Ends → (payload : List ℕ) (fields : announcement.Fields) → (announcement.fields_of payload ≡ Ok fields) ↔ payload_spec.HoldsFields payload fields
fields_held ends payload fields = (read_held ends payload fields (held ends payload), fields_where_held ends payload fields)

pub faults_held : Ends → (payload : List ℕ) (fault : NoticeFault) → (announcement.fields_of payload ≡ Err fault) ↔ payload_spec.LacksList fault payload
faults_held ends payload fault = (fault_lacks ends payload fault (held ends payload), fault_where_none ends payload fault)

-- ---- participants and endpoints
said_of : {X Y : Type 0} (read : Result X NoticeFault) (says : X → Result Y NoticeFault) (y : Y) → announcement.or_fault read says ≡ Ok y → (x : X) × (read ≡ Ok x) × (says x ≡ Ok y)
said_of (Ok x) says y e = (x, refl, e)
said_of (Err fault) says y e = absurd (let wrong = e in cc)

pub participant_held : Ends → (payload : List ℕ) (guid : Guid) → (announcement.participant_of payload ≡ Ok guid) ↔ ((fields : announcement.Fields) × payload_spec.HoldsFields payload fields × (announcement.participant_guid fields ≡ Some guid))
participant_held ends payload guid = (
  λ e. (let said = said_of (announcement.fields_of payload) announcement.participant_in guid e in (said.0, (fields_held ends payload said.0).0 said.1, (participant_told said.0 guid).0 said.2)),
  λ h. ap (λ (read : Result announcement.Fields NoticeFault). announcement.or_fault read announcement.participant_in) (fields_where_held ends payload h.0 h.1) ∙ (participant_told h.0 guid).1 h.2,
)

pub endpoint_held : Ends → (side : Side) (payload : List ℕ) (endpoint : endpoint.EndpointValue) → (announcement.endpoint_of side payload ≡ Ok endpoint) ↔ ((fields : announcement.Fields) × payload_spec.HoldsFields payload fields × described.IsDescribedBy side fields endpoint)
endpoint_held ends side payload endpoint = (
  λ e. (let said = said_of (announcement.fields_of payload) (announcement.endpoint_in side) endpoint e in (said.0, (fields_held ends payload said.0).0 said.1, (endpoint_told side said.0 endpoint).0 said.2)),
  λ h. ap (λ (read : Result announcement.Fields NoticeFault). announcement.or_fault read (announcement.endpoint_in side)) (fields_where_held ends payload h.0 h.1) ∙ (endpoint_told side h.0 endpoint).1 h.2,
)

pub neither_held : Ends → (payload : List ℕ) (fault : NoticeFault) → payload_spec.LacksList fault payload → (announcement.participant_of payload ≡ Err fault) × ((side : Side) → announcement.endpoint_of side payload ≡ Err fault)
neither_held ends payload fault h =
    let none = fault_where_none ends payload fault h in
    (ap (λ (read : Result announcement.Fields NoticeFault). announcement.or_fault read announcement.participant_in) none, λ side. ap (λ (read : Result announcement.Fields NoticeFault). announcement.or_fault read (announcement.endpoint_in side)) none)
