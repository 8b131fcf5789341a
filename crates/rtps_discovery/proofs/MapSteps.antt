-- The map of a list of acts and one more.
use Rattle.std.proofs.Common.{◌≡◌, ℕ, List, [], ◌∷◌, ◌++◌, Option, Some, None, option_to_list, Result, Ok, Err, ap, subst, sym, ◌∙◌, refl, append-nil}
use Rattle.std.specs.List.{filter_map}
use Rattle.std.proofs.lemmas.List.Elements.{filter_map-append}
use Rattle.rtps_ids.specs.declared.identity.Guid.{Guid}
use Rattle.rtps_receiver.specs.Values as values
use Rattle.rtps_discovery.specs.Announcement as announcement
use Rattle.rtps_discovery.specs.Directory as directory
use Rattle.rtps_discovery.specs.Endpoint as endpoint
use Rattle.rtps_discovery.specs.Notice as notice_spec
use Rattle.rtps_discovery.specs.declared.endpoint.Side.{Side}
use Rattle.rtps_discovery.specs.declared.fault.NoticeFault.{NoticeFault}
use Rattle.rtps_discovery.specs.declared.notice.Subject.{Subject}

-- what one act adds to those that were chosen
filter_map-push : {X Y : Type 0} (f : X → Option Y) (xs : List X) (x : X) (said : Option Y) → f x ≡ said → filter_map f (xs ++ x ∷ []) ≡ filter_map f xs ++ option_to_list said
filter_map-push f xs x None e = filter_map-append f xs (x ∷ []) ∙ rw e refl
filter_map-push f xs x (Some y) e = filter_map-append f xs (x ∷ []) ∙ rw e refl

participants_among-push : (acts : List values.ActValue) (act : values.ActValue) → notice_spec.participants_among (acts ++ act ∷ []) ≡ notice_spec.participants_among acts ++ option_to_list (notice_spec.participant_in (notice_spec.announcement_of act))
unfolding notice_spec.participants_among
participants_among-push acts act = filter_map-push (λ act. notice_spec.participant_in (notice_spec.announcement_of act)) acts act _ refl

endpoints_among-push : (acts : List values.ActValue) (act : values.ActValue) → notice_spec.endpoints_among (acts ++ act ∷ []) ≡ notice_spec.endpoints_among acts ++ option_to_list (notice_spec.endpoint_in (notice_spec.announcement_of act))
unfolding notice_spec.endpoints_among
endpoints_among-push acts act = filter_map-push (λ act. notice_spec.endpoint_in (notice_spec.announcement_of act)) acts act _ refl

-- what an announcement makes of a directory
abbrev pub Adds : {X Y : Type 0} → (List X → Y → Type 0) → X → Y → Y → Type 0
Adds {X} Are added old new = (announced : List X) → Are announced old → Are (announced ++ added ∷ []) new

abbrev pub Becomes : Option (Result notice_spec.Announced NoticeFault) → directory.DirectoryValue → directory.DirectoryValue → Type 0
Becomes (Some (Ok (notice_spec.Announced.Participant guid))) old new = Adds directory.AreParticipants guid old.participants new.participants × (new.endpoints ≡ old.endpoints)
Becomes (Some (Ok (notice_spec.Announced.Endpoint endpoint))) old new = Adds directory.AreEntries endpoint old.endpoints new.endpoints × (new.participants ≡ old.participants)
Becomes (Some (Err fault)) old new = new ≡ old
Becomes None old new = new ≡ old

-- the announcements after a step
abbrev pub IsMapFrom : List Guid → List endpoint.EndpointValue → directory.DirectoryValue → Type 0
IsMapFrom guids endpoints map = directory.AreParticipants guids map.participants × directory.AreEntries endpoints map.endpoints

becomes_map : (guids : List Guid) (endpoints : List endpoint.EndpointValue) (said : Option (Result notice_spec.Announced NoticeFault)) (old new : directory.DirectoryValue)
    → Becomes said old new → IsMapFrom guids endpoints old → IsMapFrom (guids ++ option_to_list (notice_spec.participant_in said)) (endpoints ++ option_to_list (notice_spec.endpoint_in said)) new
becomes_map guids endpoints (Some (Ok (notice_spec.Announced.Participant guid))) old new h were =
    (h.0 guids were.0, rw (append-nil endpoints, h.1) were.1)
becomes_map guids endpoints (Some (Ok (notice_spec.Announced.Endpoint endpoint))) old new h were =
    (rw (append-nil guids, h.1) were.0, h.0 endpoints were.1)
becomes_map guids endpoints (Some (Err fault)) old new h were = rw (append-nil guids, append-nil endpoints, h) were
becomes_map guids endpoints None old new h were = rw (append-nil guids, append-nil endpoints, h) were

pub map_step : (acts : List values.ActValue) (act : values.ActValue) (said : Option (Result notice_spec.Announced NoticeFault)) (old new : directory.DirectoryValue)
    → notice_spec.announcement_of act ≡ said → Becomes said old new → directory.IsMapOf acts old → directory.IsMapOf (acts ++ act ∷ []) new
map_step acts act said old new e h were =
    let next = becomes_map (notice_spec.participants_among acts) (notice_spec.endpoints_among acts) (notice_spec.announcement_of act) old new (subst (λ x. Becomes x old new) (sym e) h) (were.participants, were.endpoints) in
    record {
      participants = rw (participants_among-push acts act) next.0;
      endpoints = rw (endpoints_among-push acts act) next.1;
    }

-- what an act announces, by what was read of it
pub announces_nothing : (act : values.ActValue) → None ≡ notice_spec.notice_in act.body → notice_spec.announcement_of act ≡ None
announces_nothing act notice = rw (← notice) refl

pub announces_participant : (act : values.ActValue) (payload : List ℕ) (read : Result Guid NoticeFault) → Some (Subject.Participant, payload) ≡ notice_spec.notice_in act.body
    → announcement.participant_of payload ≡ read → notice_spec.announcement_of act ≡ Some (announcement.or_fault read (λ guid. Ok (notice_spec.Announced.Participant guid)))
announces_participant act payload read notice e = rw (← notice) (ap (λ x. Some (announcement.or_fault x (λ guid. Ok (notice_spec.Announced.Participant guid)))) e)

pub announces_endpoint : (act : values.ActValue) (side : Side) (payload : List ℕ) (read : Result endpoint.EndpointValue NoticeFault) → Some (Subject.Endpoint side, payload) ≡ notice_spec.notice_in act.body
    → announcement.endpoint_of side payload ≡ read → notice_spec.announcement_of act ≡ Some (announcement.or_fault read (λ endpoint. Ok (notice_spec.Announced.Endpoint endpoint)))
announces_endpoint act side payload read notice e = rw (← notice) (ap (λ x. Some (announcement.or_fault x (λ endpoint. Ok (notice_spec.Announced.Endpoint endpoint)))) e)
