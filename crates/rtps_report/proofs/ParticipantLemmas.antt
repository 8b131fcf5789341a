-- Where a participant is announced first, with one act more.
use Rattle.std.proofs.Common.{◌≡◌, ◌∙◌, ℕ, ◌+◌, ◌<◌, Bool, true, false, cond, List, [], ◌∷◌, ◌++◌, Option, Some, None, ap, ap₂, get_or, length, map, refl, subst, sym, take}
use Rattle.std.specs.BTreeMap.{BTreeMap, Updates, get}
use Rattle.std.specs.List.{find, list_all}
use Rattle.std.specs.Option.{is_some, option_map, option_or}
use Rattle.std.specs.Ordering.{is_eq}
use Rattle.std.proofs.lemmas.Bool.{false≢true}
use Rattle.std.proofs.lemmas.List.{map_more}
use Rattle.std.proofs.lemmas.List.Folds.{find-append}
use Rattle.rtps_ids.specs.declared.identity.Guid.{Guid}
use Rattle.rtps_discovery.specs.GuidOrder as guid_order
use Rattle.rtps_discovery.specs.Notice as notice
use Rattle.rtps_discovery.proofs.Offered.{guids_total}
use Rattle.rtps_audit.specs.Placed as placed_spec
use Rattle.rtps_audit.specs.declared.placed.Placed.{Placed}
use Rattle.rtps_audit.proofs.Offered.{entry_written, equal_of, found_alike, is_eq-guid_cmp}
use Rattle.rtps_evidence.specs.Locations as locations
use Rattle.rtps_evidence.specs.declared.location.Location.{Location}
use Rattle.rtps_policies.specs.Told as told
use Rattle.rtps_policies.specs.declared.host.Address.{Address}
use Rattle.rtps_report.specs.Participants as participants_spec
use Rattle.rtps_report.specs.declared.participant.Participant.{Participant}

nothing_more : {X : Type 0} (one : Option X) → one ≡ option_or one None
nothing_more None = refl
nothing_more (Some x) = refl

-- a GUID that has a place keeps it
pub place_there : (old : BTreeMap Guid Location) (guid other : Guid) (place : Location) → is_some (get guid_order.guid_cmp old guid) ≡ true
    → get guid_order.guid_cmp old other ≡ option_or (get guid_order.guid_cmp old other) (cond (is_eq (guid_order.guid_cmp other guid)) (Some place) None)
place_there old guid other place there = by (is_eq (guid_order.guid_cmp other guid)) refl
  where
    some : (found : Option Location) → is_some found ≡ true → found ≡ option_or found (Some place)
    some (Some x) is = refl
    some None is = absurd (false≢true is)

    by : (b : Bool) → is_eq (guid_order.guid_cmp other guid) ≡ b → get guid_order.guid_cmp old other ≡ option_or (get guid_order.guid_cmp old other) (cond b (Some place) None)
    by true e = some (get guid_order.guid_cmp old other) (ap is_some (found_alike guids_total other guid (equal_of (guid_order.guid_cmp other guid) e) old.entries) ∙ there)
    by false e = nothing_more (get guid_order.guid_cmp old other)

-- a GUID that has none takes it
pub place_taken : (old new : BTreeMap Guid Location) (guid other : Guid) (place : Location) → is_some (get guid_order.guid_cmp old guid) ≡ false → Updates guid_order.guid_cmp old new guid (Some place)
    → get guid_order.guid_cmp new other ≡ option_or (get guid_order.guid_cmp old other) (cond (is_eq (guid_order.guid_cmp other guid)) (Some place) None)
place_taken old new guid other place absent updates = entry_written guids_total old new guid other place updates ∙ by (is_eq (guid_order.guid_cmp other guid)) refl
  where
    none : (found : Option Location) → is_some found ≡ false → Some place ≡ option_or found (Some place)
    none None is = refl
    none (Some x) is = absurd (false≢true (sym is))

    by : (b : Bool) → is_eq (guid_order.guid_cmp other guid) ≡ b → cond b (Some place) (get guid_order.guid_cmp old other) ≡ option_or (get guid_order.guid_cmp old other) (cond b (Some place) None)
    by true e = none (get guid_order.guid_cmp old other) (ap is_some (found_alike guids_total other guid (equal_of (guid_order.guid_cmp other guid) e) old.entries) ∙ absent)
    by false e = nothing_more (get guid_order.guid_cmp old other)

-- ---- one act

place_more : (guid : Guid) (acts : List placed_spec.PlacedValue) (placed : placed_spec.PlacedValue)
    → participants_spec.place_of guid (acts ++ placed ∷ []) ≡ option_or (participants_spec.place_of guid acts) (cond (participants_spec.announces guid placed) (Some (locations.location_of placed)) None)
place_more guid acts placed =
    ap (option_map locations.location_of) (find-append (participants_spec.announces guid) acts (placed ∷ [])) ∙ by (find (participants_spec.announces guid) acts) (participants_spec.announces guid placed)
  where
    by : (found : Option placed_spec.PlacedValue) (b : Bool)
        → option_map locations.location_of (option_or found (cond b (Some placed) None)) ≡ option_or (option_map locations.location_of found) (cond b (Some (locations.location_of placed)) None)
    by None true = refl
    by None false = refl
    by (Some first) b = refl

-- an act announces a participant, whose place is kept where it has none
pub joined_more : (acts : List placed_spec.PlacedValue) (placed : placed_spec.PlacedValue) (old new : BTreeMap Guid Location) (announced : Guid) → Some announced ≡ notice.participant_in (notice.announcement_of placed.act)
    → participants_spec.AreJoined acts old → told.KeepsFirst old.entries new.entries announced (locations.location_of placed) → participants_spec.AreJoined (acts ++ placed ∷ []) new
joined_more acts placed old new announced is were kept guid =
    kept guid
    ∙ ap₂ (λ (found : Option Location) (b : Bool). option_or found (cond b (Some (locations.location_of placed)) None)) (were guid) (is_eq-guid_cmp guid announced ∙ ap (participants_spec.is_that guid) is)
    ∙ sym (place_more guid acts placed)

-- an act announces none
pub joined_same : (acts : List placed_spec.PlacedValue) (placed : placed_spec.PlacedValue) (old : BTreeMap Guid Location) → None ≡ notice.participant_in (notice.announcement_of placed.act) → participants_spec.AreJoined acts old → participants_spec.AreJoined (acts ++ placed ∷ []) old
joined_same acts placed old is were guid =
    were guid ∙ nothing_more (participants_spec.place_of guid acts)
    ∙ ap (λ (b : Bool). option_or (participants_spec.place_of guid acts) (cond b (Some (locations.location_of placed)) None)) (ap (participants_spec.is_that guid) is) ∙ sym (place_more guid acts placed)

-- the acts so far, with one more
pub joined_so_far : (acts : List Placed) (place : ℕ) (placed : Placed) (new : BTreeMap Guid Location) → place < length acts → placed ≡ get_or acts place placed
    → participants_spec.AreJoined (map placed_spec.placed_value (take place acts) ++ placed_spec.placed_value placed ∷ []) new → participants_spec.AreJoined (map placed_spec.placed_value (take (place + 1) acts)) new
joined_so_far acts place placed new within is joined =
    subst (λ (all : List placed_spec.PlacedValue). participants_spec.AreJoined all new)
    (ap (λ (one : Placed). map placed_spec.placed_value (take place acts) ++ placed_spec.placed_value one ∷ []) is ∙ sym (map_more placed_spec.placed_value acts place placed within)) joined

-- ---- hosts

pub by_first : (participants : List Participant) (first : Participant) (others : List Participant) (address : Address) → participants ≡ first ∷ others → first.host.address ≡ Some address
    → participants_spec.are_on_one_host participants ≡ list_all (participants_spec.has_address address) others
by_first participants first others address is known = ap participants_spec.are_on_one_host is ∙ ap (λ own. participants_spec.share_address own others) known
