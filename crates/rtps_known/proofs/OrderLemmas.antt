-- What compares alike is one.
use Rattle.std.proofs.Common.{◌≡◌, ◌∙◌, ℕ, true, List, Option, Some, None, ap, refl}
use Rattle.std.specs.Cmp.Lexicographic.{slice_cmp}
use Rattle.std.specs.Option.{option_cmp}
use Rattle.std.specs.Ordering.{nat_cmp, ordering_then}
use Rattle.std.specs.declared.cmp.Ordering.{Ordering}
use Rattle.std.proofs.lemmas.Map.Lookups.{CmpEqualImpliesEq, exact_bytes, exact_pairs, exact_unsigned}
use Rattle.std.proofs.lemmas.Map.Text.{is_eq-slice_cmp}
use Rattle.std.proofs.lemmas.Map.Views.{tells_apart}
use Rattle.rtps_ids.specs.declared.identity.Guid.{Guid}
use Rattle.rtps_ids.specs.declared.identity.GuidPrefix.{GuidPrefix}
use Rattle.rtps_receiver.specs.Speech as speech
use Rattle.rtps_discovery.specs.GuidOrder as guid_order
use Rattle.rtps_known.specs.Bulletins as bulletins
use Rattle.rtps_known.specs.Lives as lives
use Rattle.rtps_known.specs.Spreads as spreads
use Rattle.rtps_known.specs.declared.life.Birth.{Birth}
use Rattle.rtps_known.specs.declared.sending.Sending.{Sending}
use Rattle.rtps_known.specs.declared.telling.Announcement.{Announcement}
use Rattle.rtps_known.specs.declared.telling.Telling.{Telling}

prefix_of : List ℕ → GuidPrefix
prefix_of octets = record { 0 = octets }

pub exact_prefixes : CmpEqualImpliesEq bulletins.prefix_cmp
unfolding prefix_of
exact_prefixes a b h = ap prefix_of (exact_bytes a.0 b.0 h)

pub one_prefix : (one other : GuidPrefix) → speech.is_prefix one other ≡ true → one ≡ other
one_prefix one other e = tells_apart exact_prefixes one other (is_eq-slice_cmp one.0 other.0 ∙ e)

guid_of_parts : List ℕ × List ℕ → Guid
guid_of_parts parts = record { prefix = record { 0 = parts.0 }; entity = record { 0 = parts.1 } }

pub exact_guids : CmpEqualImpliesEq guid_order.guid_cmp
unfolding guid_of_parts
exact_guids a b h =
    ap guid_of_parts (exact_pairs (slice_cmp nat_cmp) (slice_cmp nat_cmp) exact_bytes exact_bytes (a.prefix.0, a.entity.0) (b.prefix.0, b.entity.0) h)

exact_options : {K : Type 0} (cmp : K → K → Ordering) → CmpEqualImpliesEq cmp → CmpEqualImpliesEq (option_cmp cmp)
exact_options cmp exact None None h = refl
exact_options cmp exact None (Some y) h = absurd (let bad = h in cc)
exact_options cmp exact (Some x) None h = absurd (let bad = h in cc)
exact_options cmp exact (Some x) (Some y) h = ap Some (exact x y h)

-- the order of tellings: by destination, and then by their numbers
abbrev pub telling_cmp : Telling → Telling → Ordering
telling_cmp a b = ordering_then (option_cmp bulletins.prefix_cmp a.dest b.dest) (ordering_then (nat_cmp a.lo b.lo) (nat_cmp a.hi b.hi))

bounds_cmp : ℕ × ℕ → ℕ × ℕ → Ordering
bounds_cmp a b = ordering_then (nat_cmp a.0 b.0) (nat_cmp a.1 b.1)

telling_of_parts : Option GuidPrefix × (ℕ × ℕ) → Telling
telling_of_parts parts = record { dest = parts.0; lo = parts.1.0; hi = parts.1.1 }

pub exact_tellings : CmpEqualImpliesEq telling_cmp
unfolding telling_of_parts bounds_cmp
exact_tellings a b h =
    ap telling_of_parts
    (exact_pairs (option_cmp bulletins.prefix_cmp) bounds_cmp (exact_options bulletins.prefix_cmp exact_prefixes) (exact_pairs nat_cmp nat_cmp exact_unsigned exact_unsigned) (a.dest, (a.lo, a.hi)) (b.dest, (b.lo, b.hi)) h)

-- the order of announcements: by number, and then by endpoint
abbrev pub announcement_cmp : Announcement → Announcement → Ordering
announcement_cmp a b = ordering_then (nat_cmp a.number b.number) (guid_order.guid_cmp a.endpoint b.endpoint)

announcement_of_parts : ℕ × Guid → Announcement
announcement_of_parts parts = record { number = parts.0; endpoint = parts.1 }

pub exact_announcements : CmpEqualImpliesEq announcement_cmp
unfolding announcement_of_parts
exact_announcements a b h = ap announcement_of_parts (exact_pairs nat_cmp guid_order.guid_cmp exact_unsigned exact_guids (a.number, a.endpoint) (b.number, b.endpoint) h)

birth_of_parts : List ℕ × ℕ → Birth
birth_of_parts parts = record { participant = record { 0 = parts.0 }; number = parts.1 }

pub exact_births : CmpEqualImpliesEq lives.birth_cmp
unfolding birth_of_parts
exact_births a b h = ap birth_of_parts (exact_pairs (slice_cmp nat_cmp) nat_cmp exact_bytes exact_unsigned (a.participant.0, a.number) (b.participant.0, b.number) h)

sending_of_parts : ℕ × Option GuidPrefix → Sending
sending_of_parts parts = record { number = parts.0; dest = parts.1 }

pub exact_sendings : CmpEqualImpliesEq spreads.sending_cmp
unfolding sending_of_parts
exact_sendings a b h =
    ap sending_of_parts (exact_pairs nat_cmp (option_cmp bulletins.prefix_cmp) exact_unsigned (exact_options bulletins.prefix_cmp exact_prefixes) (a.number, a.dest) (b.number, b.dest) h)
