-- An endpoint that is lacking has an announcement that nobody acknowledges.
use Rattle.std.proofs.Common.{◌≡◌, ℕ, Bool, true, false, ◌||◌, ◌&&◌, List, [], ◌∷◌, Option, Some, None, not, refl}
use Rattle.std.specs.List.{list_any}
use Rattle.std.proofs.lemmas.Bool.{false≢true}
use Rattle.rtps_ids.specs.declared.identity.Guid.{Guid}
use Rattle.rtps_ids.specs.declared.identity.GuidPrefix.{GuidPrefix}
use Rattle.rtps_known.specs.Lacking as lacking
use Rattle.rtps_known.specs.Laws as laws
use Rattle.rtps_known.specs.Tellings as tellings
use Rattle.rtps_known.specs.declared.telling.Announcement.{Announcement}

both : (a b : Bool) → (a && b) ≡ true → (a ≡ true) × (b ≡ true)
both true b h = (refl, h)
both false b h = absurd (false≢true h)

never : (b : Bool) → not b ≡ true → b ≡ false
never true h = absurd (false≢true h)
never false h = refl

-- some act has what passes a test
found : (test : Announcement → Bool) (acts : List tellings.TimedAct) → list_any (λ timed. tellings.holds test (tellings.announcement_in timed.act)) acts ≡ true → (one : Announcement) × (test one ≡ true)
found test [] any = absurd (false≢true any)
found test (timed ∷ acts) any = by (tellings.announcement_in timed.act) any (found test acts)
  where
    at : (one : Announcement) (passes : Bool) → test one ≡ passes → (passes || list_any (λ timed. tellings.holds test (tellings.announcement_in timed.act)) acts) ≡ true
        → (list_any (λ timed. tellings.holds test (tellings.announcement_in timed.act)) acts ≡ true → (other : Announcement) × (test other ≡ true)) → (other : Announcement) × (test other ≡ true)
    at one true e any rest = (one, e)
    at one false e any rest = rest any

    by : (said : Option Announcement) → (tellings.holds test said || list_any (λ timed. tellings.holds test (tellings.announcement_in timed.act)) acts) ≡ true
        → (list_any (λ timed. tellings.holds test (tellings.announcement_in timed.act)) acts ≡ true → (one : Announcement) × (test one ≡ true)) → (one : Announcement) × (test one ≡ true)
    by None any rest = rest any
    by (Some one) any rest = at one (test one) refl any rest

pub unacknowledged : (acts : List tellings.TimedAct) (prefix : GuidPrefix) (end : ℕ) (guid : Guid) → lacking.lacks_endpoint acts prefix end guid ≡ true → laws.IsUnacknowledged acts prefix end guid
unacknowledged acts prefix end guid has =
    let one = found (lacking.is_lacking acts prefix end guid) acts has in
    let n = one.0.number in
    let parts = both (tellings.is_guid guid one.0.endpoint) (list_any (tellings.tells_until prefix end n) acts && (not (lacking.is_ended acts n) && not (list_any (tellings.acknowledges prefix n) acts))) one.1 in
    let told = both (list_any (tellings.tells_until prefix end n) acts) (not (lacking.is_ended acts n) && not (list_any (tellings.acknowledges prefix n) acts)) parts.1 in
    let rest = both (not (lacking.is_ended acts n)) (not (list_any (tellings.acknowledges prefix n) acts)) told.1 in
    record { announcement = one.0; of_endpoint = parts.0; told = told.0; acknowledged_never = never (list_any (tellings.acknowledges prefix n) acts) rest.1 }
