-- A writer of another kind than those that announce.
use Rattle.std.proofs.Common.{◌≡◌, ◌≢◌, ℕ, Bool, true, false, List, None, get_or, nat_eq, ap, refl, ◌∙◌}
use Rattle.std.specs.Cmp.Lexicographic.{pointwise, bytes_decides}
use Rattle.rtps_ids.specs.declared.identity.EntityId.{EntityId}
use Rattle.rtps_discovery.specs.Notice as notice
use Rattle.rtps_discovery.specs.declared.layout.entity.TheConstants as entity

not_of_kind : (octets : List ℕ) (writer : EntityId) (test : Bool) → pointwise nat_eq writer.0 octets ≡ test → get_or octets 3 0 ≡ entity.KIND → get_or writer.0 3 0 ≢ entity.KIND → notice.is_entity octets writer ≡ false
not_of_kind octets writer true e kind other = absurd (other (ap (λ (octets : List ℕ). get_or octets 3 0) ((bytes_decides writer.0 octets).0 e) ∙ kind))
not_of_kind octets writer false e kind other = e

pub of_another_kind : (writer : EntityId) → get_or writer.0 3 0 ≢ entity.KIND → notice.subject_of writer ≡ None
of_another_kind writer other =
    let none : (octets : List ℕ) → get_or octets 3 0 ≡ entity.KIND → notice.is_entity octets writer ≡ false = λ octets kind. not_of_kind octets writer _ refl kind other in
    rw (none entity.PARTICIPANTS.0 refl, none entity.PUBLICATIONS.0 refl, none entity.SUBSCRIPTIONS.0 refl) refl
