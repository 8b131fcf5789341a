-- How a payload is read, by the parameter list in it (DDSI-RTPS 2.5, 10 "Serialized Payload Representation"), and which
-- acts do not change the map. own: only what is announced matters, and not which act announces it: an announcement is
-- sent again to each participant that joins, and can be recorded more than once.
use Rattle.std.specs.Prelude.{ℕ, ◌≡◌, ◌↔◌, List, [], ◌∷◌, ◌++◌, Some, Ok, Err}
use Rattle.rtps_ids.specs.declared.identity.Guid.{Guid}
use Rattle.rtps_receiver.specs.Values as values
use Rattle.rtps_discovery.specs.Announcement as announcement
use Rattle.rtps_discovery.specs.Directory as directory
use Rattle.rtps_discovery.specs.Endpoint as endpoint
use Rattle.rtps_discovery.specs.Notice as notice
use Rattle.rtps_discovery.specs.Payload as payload_spec
use Rattle.rtps_discovery.specs.Described as described
use Rattle.rtps_discovery.specs.declared.endpoint.Side.{Side}
use Rattle.rtps_discovery.specs.declared.fault.NoticeFault.{NoticeFault}

-- the map of some acts is also that of these and one that repeats one of them, and the other way round
abbrev pub RepetitionsChangeNothing : Type 0
RepetitionsChangeNothing =
    (before : List values.ActValue) (act : values.ActValue) (map : directory.DirectoryValue) → notice.RepeatsOneOf before act → directory.IsMapOf before map ↔ directory.IsMapOf (before ++ act ∷ []) map

-- the parameters that are read of a payload are those of the list that it holds
abbrev pub FieldsAreOfTheList : Type 0
FieldsAreOfTheList = (payload : List ℕ) (fields : announcement.Fields) → (announcement.fields_of payload ≡ Ok fields) ↔ payload_spec.HoldsFields payload fields

-- no parameters are read if the payload holds no list, and the fault says why
abbrev pub FaultsAreOfNoList : Type 0
FaultsAreOfNoList = (payload : List ℕ) (fault : NoticeFault) → (announcement.fields_of payload ≡ Err fault) ↔ payload_spec.LacksList fault payload

-- a participant is read if and only if the list of the payload gives its GUID
abbrev pub ListsTellParticipants : Type 0
ListsTellParticipants =
    (payload : List ℕ) (guid : Guid) → (announcement.participant_of payload ≡ Ok guid) ↔ ((fields : announcement.Fields) × payload_spec.HoldsFields payload fields × (announcement.participant_guid fields ≡ Some guid))

-- an endpoint is read if and only if the list of the payload gives each of its fields
abbrev pub ListsTellEndpoints : Type 0
ListsTellEndpoints =
    (side : Side) (payload : List ℕ) (endpoint : endpoint.EndpointValue)
    → (announcement.endpoint_of side payload ≡ Ok endpoint) ↔ ((fields : announcement.Fields) × payload_spec.HoldsFields payload fields × described.IsDescribedBy side fields endpoint)

-- if a payload holds no list, that is the only fault
abbrev pub NoListIsTheFault : Type 0
NoListIsTheFault =
    (payload : List ℕ) (fault : NoticeFault) → payload_spec.LacksList fault payload → (announcement.participant_of payload ≡ Err fault) × ((side : Side) → announcement.endpoint_of side payload ≡ Err fault)
