-- Why a recording says nothing of a writer and a reader, and who talks one way. DDSI-RTPS 2.5, 8.5.3.2
-- "SPDPdiscoveredParticipantData", for domains, and 8.3.8.8 "InfoDestination". own: what is not announced does not differ.
use Rattle.std.specs.Prelude.{ℕ, ◌==◌, ◌&&◌, Bool, false, if◌then◌else◌, List, Option, Some, nat_eq, nat_lt, not}
use Rattle.std.specs.Cmp.Lexicographic.{pointwise}
use Rattle.rtps_receiver.specs.Speech as speech
use Rattle.rtps_receiver.specs.Values as values
use Rattle.rtps_discovery.specs.declared.matching.Pair.{Pair}
use Rattle.rtps_policies.specs.Announcing as announcing
use Rattle.rtps_policies.specs.Namings as namings_spec
use Rattle.rtps_policies.specs.declared.announced.Announced.{Announced}
use Rattle.rtps_policies.specs.declared.host.Address.{Address}
use Rattle.rtps_policies.specs.declared.host.Host.{Host}
use Rattle.rtps_policies.specs.declared.naming.Naming.{Naming}
use Rattle.rtps_policies.specs.declared.naming.Namings.{Namings}
use Rattle.rtps_policies.specs.declared.silence.Silence.{Silence}

-- what a recording says of its participants: the acts of which it is read what they announce, and all acts of each datagram
pub record Traffic : Type 0 where
  pub announcing : List values.ActValue
  pub datagrams : List (List values.ActValue)

-- two addresses are the same
abbrev pub is_same_address : Address → Address → Bool
is_same_address (Address.V4 one) (Address.V4 other) = pointwise nat_eq one other
is_same_address (Address.V6 one) (Address.V6 other) = pointwise nat_eq one other
is_same_address _ _ = false

-- two values are announced and differ
abbrev pub differ : {X : Type 0} → (X → X → Bool) → Option X → Option X → Bool
differ same (Some one) (Some other) = not (same one other)
differ same _ _ = false

-- two hosts are in domains that differ
abbrev pub two_domains : Host → Host → Bool
two_domains one other = differ nat_eq one.domain other.domain

-- two hosts have addresses that differ
abbrev pub two_addresses : Host → Host → Bool
two_addresses one other = differ is_same_address one.address other.address

-- the other way round
abbrev pub reversed : Naming → Naming
reversed naming = record { source = naming.dest; dest = naming.source }

-- one participant names another, which never names it, and they are on two hosts but not in two domains
abbrev pub one_way_by : ℕ → ℕ → Host → Host → Bool
one_way_by named answered one other = nat_lt 0 named && ((answered == 0) && (two_addresses one other && not (two_domains one other)))

-- of two participants the first names the second and never the other way round
abbrev pub is_one_way : Traffic → Naming → Bool
is_one_way traffic naming =
    one_way_by (namings_spec.named_in traffic.datagrams naming) (namings_spec.named_in traffic.datagrams (reversed naming)) (announcing.host_of traffic.announcing naming.source) (announcing.host_of traffic.announcing naming.dest)

-- from the writer's participant to the reader's
abbrev pub towards_reader : Pair → Naming
towards_reader pair = record { source = pair.writer.prefix; dest = pair.reader.prefix }

-- the first reason of these that fits
abbrev pub first_reason : Bool → Bool → Bool → Silence
first_reason one_participant in_two_domains one_way = if one_participant then Silence.OneParticipant else if in_two_domains then Silence.TwoDomains else if one_way then Silence.OneWay else Silence.Silent

-- why a recording says nothing of a pair
abbrev pub silence_of : Traffic → Pair → Silence
silence_of traffic pair =
    first_reason (speech.is_prefix pair.writer.prefix pair.reader.prefix)
    (two_domains (announcing.host_of traffic.announcing pair.writer.prefix) (announcing.host_of traffic.announcing pair.reader.prefix))
    (is_one_way traffic (towards_reader pair))

-- ---- the same by what is kept

-- of two participants the first names the second and never the other way round, by what is kept
abbrev pub talks_one_way : Announced → Namings → Naming → Bool
talks_one_way announced namings naming =
    one_way_by (namings_spec.named_by namings naming) (namings_spec.named_by namings (reversed naming)) (announcing.hosts_in announced naming.source) (announcing.hosts_in announced naming.dest)

-- why a recording says nothing of a pair, by what is kept
abbrev pub silence_by : Announced → Namings → Pair → Silence
silence_by announced namings pair =
    first_reason (speech.is_prefix pair.writer.prefix pair.reader.prefix) (two_domains (announcing.hosts_in announced pair.writer.prefix) (announcing.hosts_in announced pair.reader.prefix))
    (talks_one_way announced namings (towards_reader pair))
