-- The domain of a participant, by the parameters that announce it. DDSI-RTPS 2.5, 8.5.3.2 "SPDPdiscoveredParticipantData" (domainId, vendorId, and the
-- locators for discovery), 9.3.2 ("Locator_t": kind, port, address), and 9.6 (default ports: those for discovery begin at 7400, with 250 for each domain).
-- own: where no domain is announced, ports tell it. All participants of a domain listen to the multicast port with which its ports begin. Fast DDS has its
-- unicast port among those of its domain, too; others take any port that is free. Of parameters of one id the first one counts, and one that cannot be read
-- is as if absent.
use Rattle.std.specs.Prelude.{ℕ, ◌≡◌, ◌≤◌, ◌<◌, ◌+◌, ◌-◌, ◌*◌, ◌/◌, ◌%◌, ◌==◌, if◌then◌else◌, List, Option, Some, None, drop, length, nat_lt, option_and_then}
use Rattle.std.specs.Option.{option_or}
use Rattle.rtps_ids.specs.declared.order.Order.{Order}
use Rattle.rtps_params.specs.Values as values
use Rattle.rtps_discovery.specs.Announcement as announcement
use Rattle.rtps_policies.specs.Vendors as vendors
use Rattle.rtps_policies.specs.declared.layout.discovery_port.TheConstants as discovery_port
use Rattle.rtps_policies.specs.declared.layout.locator.TheConstants as locator
use Rattle.rtps_policies.specs.declared.layout.pid.TheConstants as pid

-- ---- ports

-- the ports of a domain begin with this one
abbrev pub IsFirstPortOf : ℕ → ℕ → Type 0
IsFirstPortOf domain port = port ≡ discovery_port.BASE + discovery_port.GAIN * domain

-- a port is among those of a domain
abbrev pub IsPortOf : ℕ → ℕ → Type 0
IsPortOf domain port = (discovery_port.BASE + discovery_port.GAIN * domain ≤ port) × (port < discovery_port.BASE + discovery_port.GAIN * (domain + 1))

-- the domain whose ports begin with this one, if there is one
abbrev pub domain_from : ℕ → Option ℕ
domain_from port = if nat_lt port discovery_port.BASE then None else if ((port - discovery_port.BASE) % discovery_port.GAIN) == 0 then Some ((port - discovery_port.BASE) / discovery_port.GAIN) else None

-- the domain that has a port, if there is one
abbrev pub domain_with : ℕ → Option ℕ
domain_with port = if nat_lt port discovery_port.BASE then None else Some ((port - discovery_port.BASE) / discovery_port.GAIN)

-- ---- what is announced

-- the port in a locator, of whatever kind
abbrev pub port_of : Order → List ℕ → Option ℕ
port_of order value = if nat_lt (length value) locator.SIZE then None else values.u32_of order (drop locator.PORT value)

-- that of the first parameter of this id
abbrev pub port_in : ℕ → announcement.Fields → Option ℕ
port_in pid fields = option_and_then (port_of fields.order) (announcement.field pid fields)

-- the domain that is announced
abbrev pub announced_domain : announcement.Fields → Option ℕ
announced_domain fields = option_and_then (values.u32_of fields.order) (announcement.field pid.DOMAIN_ID fields)

-- the domain that the multicast port tells
abbrev pub multicast_domain : announcement.Fields → Option ℕ
multicast_domain fields = option_and_then domain_from (port_in pid.METATRAFFIC_MULTICAST_LOCATOR fields)

-- the domain that the unicast port tells, of Fast DDS
abbrev pub unicast_domain : announcement.Fields → Option ℕ
unicast_domain fields = if vendors.is_of_fast fields then option_and_then domain_with (port_in pid.METATRAFFIC_UNICAST_LOCATOR fields) else None

-- the domain of a participant: the first of these that there is
abbrev pub domain_in : announcement.Fields → Option ℕ
domain_in fields = option_or (announced_domain fields) (option_or (multicast_domain fields) (unicast_domain fields))
