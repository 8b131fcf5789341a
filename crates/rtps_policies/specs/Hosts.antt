-- Where a participant is, and its lease, by the parameters that announce it. DDSI-RTPS 2.5, 8.5.3.2 "SPDPdiscoveredParticipantData", 9.6.3, and
-- 9.3.2 ("Locator_t": kind, port, and an address of sixteen octets, of which the last four are one of IPv4). own: the domain and the kind of a
-- locator are read without a sign, since no domain, and no kind that is read, is below 0. own: Fast DDS has kinds of its own, from 16 on, for the memory
-- that processes of one host share.
use Rattle.std.specs.Prelude.{ℕ, ◌==◌, ◌&&◌, ◌||◌, ◌^◌, Bool, true, false, if◌then◌else◌, List, Option, Some, None, drop, find, length, nat_le, nat_lt, not, option_and_then, take, unwrap_or}
use Rattle.std.specs.List.{filter_map, list_any}
use Rattle.std.specs.Option.{option_or}
use Rattle.rtps_ids.specs.Octets as octets
use Rattle.rtps_ids.specs.declared.order.Order.{Order}
use Rattle.rtps_params.specs.Grammar as grammar
use Rattle.rtps_params.specs.Values as values
use Rattle.rtps_discovery.specs.Announcement as announcement
use Rattle.rtps_policies.specs.Domains as domains
use Rattle.rtps_policies.specs.Durations as durations
use Rattle.rtps_policies.specs.Vendors as vendors
use Rattle.rtps_policies.specs.declared.host.Address.{Address}
use Rattle.rtps_policies.specs.declared.host.Host.{Host}
use Rattle.rtps_policies.specs.declared.layout.lease.TheConstants as lease
use Rattle.rtps_policies.specs.declared.layout.locator.TheConstants as locator
use Rattle.rtps_policies.specs.declared.layout.pid.TheConstants as pid_layout

-- the address of a kind of locator
abbrev pub address_of_kind : ℕ → List ℕ → Option Address
address_of_kind kind value =
    if kind == locator.UDP_V4 then Some (Address.V4 (take 4 (drop locator.V4_ADDRESS value)))
    else if kind == locator.UDP_V6 then Some (Address.V6 (take 16 (drop locator.ADDRESS value)))
    else None

-- the address in a locator
abbrev pub address_of : Order → List ℕ → Option Address
address_of order value =
    if nat_lt (length value) locator.SIZE then None else option_and_then (λ kind. address_of_kind kind value) (values.u32_of order value)

-- the address that a parameter announces
abbrev pub address_by : Order → ℕ × List ℕ → Option Address
address_by order pair = if pair.0 == pid_layout.DEFAULT_UNICAST_LOCATOR then address_of order pair.1 else None

-- an address of IPv4
abbrev pub is_v4 : Address → Bool
is_v4 (Address.V4 octets) = true
is_v4 (Address.V6 octets) = false

-- the first of IPv4, or else the first (own: an address that people know, where there are several)
abbrev pub best_of : List Address → Option Address
best_of addresses = option_or (find is_v4 addresses) (find (λ address. not (is_v4 address)) addresses)

-- the addresses that parameters announce, in order
abbrev pub addresses_in : Order → grammar.Pairs → List Address
addresses_in order pairs = filter_map (address_by order) pairs

-- the address that a participant announces
abbrev pub address_in : announcement.Fields → Option Address
address_in fields = best_of (addresses_in fields.order fields.pairs)

-- the lease that a participant announces (8.5.3.2 "leaseDuration"), in nanoseconds. own: one below 0 is as if none is announced
abbrev pub lease_in : announcement.Fields → ℕ
lease_in fields =
    unwrap_or (option_and_then durations.nanoseconds_in (option_and_then (λ value. durations.duration_at fields.order value 0) (announcement.field pid_layout.PARTICIPANT_LEASE_DURATION fields))) lease.DEFAULT

-- a kind of locator is one of memory: 16 or above, and not below 0
abbrev pub is_kind_of_memory : ℕ → Bool
is_kind_of_memory kind = nat_le locator.MEMORY kind && nat_lt kind (2 ^ 31)

-- a locator is one of memory
abbrev pub is_memory : Order → List ℕ → Bool
is_memory order value = nat_le locator.SIZE (length value) && is_kind_of_memory (octets.number_of order 4 value)

-- a parameter announces a unicast locator, for discovery or for all else
abbrev pub is_unicast : ℕ → Bool
is_unicast pid = (pid == pid_layout.DEFAULT_UNICAST_LOCATOR) || (pid == pid_layout.METATRAFFIC_UNICAST_LOCATOR)

-- it announces one of memory
abbrev pub announces_memory : Order → ℕ × List ℕ → Bool
announces_memory order pair = is_unicast pair.0 && is_memory order pair.1

-- a participant is of Fast DDS, and announces that it shares memory
abbrev pub shares_memory_in : announcement.Fields → Bool
shares_memory_in fields = vendors.is_of_fast fields && list_any (announces_memory fields.order) fields.pairs

-- what a participant announces of where it is, and of its lease
abbrev pub host_in : announcement.Fields → Host
host_in fields =
    record { domain = domains.domain_in fields; address = address_in fields; lease = lease_in fields; shares_memory = shares_memory_in fields }
