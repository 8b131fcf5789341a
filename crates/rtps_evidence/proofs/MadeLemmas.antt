-- What is made of an act, from its parts.
use Rattle.std.proofs.Common.{◌≡◌, ℕ, ℤ, pos, Option, ap, ◌∙◌}
use Rattle.rtps_ids.specs.declared.identity.Guid.{Guid}
use Rattle.rtps_wire.specs.Values as values
use Rattle.rtps_audit.specs.Placed as placed
use Rattle.rtps_evidence.specs.Locations as locations
use Rattle.rtps_evidence.specs.declared.last_announcement.Announcement.{Announcement}
use Rattle.rtps_evidence.specs.declared.location.Kind.{Kind}
use Rattle.rtps_evidence.specs.declared.location.Location.{Location}

announcement : ℤ → Kind → Location → Announcement
announcement number kind place = record { number = number; kind = kind; place = place }

pub announcement_made : (n : ℕ) (number : ℤ) (kind : Kind) (place : Location) (placed : placed.PlacedValue) → number ≡ pos n → kind ≡ locations.kind_of placed.act.body → place ≡ locations.location_of placed → (let made : Announcement = record { number = number; kind = kind; place = place } in made) ≡ locations.announcement_at n placed
unfolding announcement
announcement_made n number kind place placed a b c = ap (λ z. announcement z kind place) a ∙ ap (λ k. announcement (pos n) k place) b ∙ ap (announcement (pos n) (locations.kind_of placed.act.body)) c

sent : Option values.PayloadValue → Location → locations.SentValue
sent payload place = record { payload = payload; place = place }

pub sent_made : (writer reader : Guid) (n : ℕ) (payload : Option values.PayloadValue) (place : Location) (placed : placed.PlacedValue) → payload ≡ locations.payload_for writer reader n placed → place ≡ locations.location_of placed → (let made : locations.SentValue = record { payload = payload; place = place } in made) ≡ locations.sent_at writer reader n placed
unfolding sent
sent_made writer reader n payload place placed a b = ap (λ o. sent o place) a ∙ ap (sent (locations.payload_for writer reader n placed)) b
